-- Sums over a list that stands in a store: laws.
use Prim.Native.Nat.{ℕ, ◌+◌, ◌-◌, ◌<◌, ◌≤◌}
use mathlib.Core.Path.{◌≡◌}
use mathlib.Core.List.{List, sum}
use lib.ListN.{length, get_or, drop, drop_of_length-le}
use lib.Seq.{drop-cons}
use native.Mathlib.Nat.{add-zero, zero-add, add_assoc, sub-zero}
use native.Mathlib.Numerals.{add-one}
use Rattle.number.specs.Lists.{leading}
use Rattle.number.proofs.laws.Lists.{length-leading, get_d-leading}
use Rattle.scope.specs.Kinds.{from, up_to}
use Rattle.timetable.proofs.laws.Bits.{from_more, from-done}
use Rattle.deviation.specs.Sums.{total}

-- the turns of a sum over the first n members of a store, of which k were passed
module _ (f : ℕ → ℕ) (l : List ℕ) (n k s whole : ℕ) (so_far : s + total f (drop k (leading n l)) ≡ whole) where
  pub sum_more : (x : ℕ) → k < n → x ≡ f (get_or l k 0) → s + x + total f (drop (k + 1) (leading n l)) ≡ whole
  unfolding sum
  sum_more x h e =
      let r : k < length (leading n l) = rw length-leading h in
      rw (e, add_assoc, add-one k) (rw (drop-cons (leading n l) k 0 r, get_d-leading n l k h) at so_far)

  pub sum_end : n ≤ k → s ≡ whole
  unfolding sum
  sum_end h =
      let r : length (leading n l) ≤ k = rw length-leading h in
      rw (drop_of_length-le (leading n l) r, add-zero) at so_far

-- the turns of a sum over the places 1 to n, of which i were passed
pub places-start : (f : ℕ → ℕ) (n : ℕ) → 0 + total f (from 1 (n - 0)) ≡ total f (up_to n)
places-start f n = rw (sub-zero, zero-add)

module _ (f : ℕ → ℕ) (n i s whole : ℕ) (so_far : s + total f (from (i + 1) (n - i)) ≡ whole) where
  pub places_more : (x : ℕ) → i < n → x ≡ f (i + 1) → s + x + total f (from (i + 1 + 1) (n - (i + 1))) ≡ whole
  unfolding sum
  places_more x h e = rw (e, add_assoc) (rw (from_more i n h) at so_far)

  pub places_end : n ≤ i → s ≡ whole
  unfolding sum
  places_end h = rw (from-done i n h, add-zero) at so_far
