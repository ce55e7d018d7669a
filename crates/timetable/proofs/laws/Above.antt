-- The first byte above 1.
use Prim.Native.Nat.{ℕ, suc, ◌+◌, ◌≤◌, ◌<◌}
use mathlib.Core.Path.{◌≡◌, refl, sym, ◌∙◌}
use mathlib.Core.List.{List, [], ◌∷◌}
use mathlib.Core.Option.{Option, none, some}
use lib.ListN.{length, get_or, drop, drop_of_length-le}
use lib.Seq.{drop-cons}
use native.Mathlib.Omega.{arith}
use native.Mathlib.Numerals.{add-one}
use borrow.Author.Tests.{le-leb, lt-leb}
use Rattle.scope.specs.Score.{first_above}

-- where no byte is above 1 there is none
pub none_above : (k : ℕ) (b : List ℕ) → ((i : ℕ) → i < length b → get_or b i 0 ≤ 1) → first_above k b ≡ none
unfolding first_above
none_above k [] h = refl
none_above k (x ∷ b) h = rw (le-leb x 1 (h 0 (omega arith))) (none_above (suc k) b (λ i l. h (suc i) (omega arith)))

-- the turns of a search that has found none before i: a byte passed, a byte found, and the end
module _ (b : List ℕ) (i : ℕ) (whole : Option ℕ) (so_far : whole ≡ first_above i (drop i b)) where
  pub above_more : i < length b → get_or b i 0 ≤ 1 → whole ≡ first_above (i + 1) (drop (i + 1) b)
  unfolding first_above
  above_more h l = so_far ∙ rw (drop-cons b i 0 h, le-leb (get_or b i 0) 1 l, add-one i)

  pub above_found : i < length b → 1 < get_or b i 0 → some i ≡ whole
  unfolding first_above
  above_found h l = sym (so_far ∙ rw (drop-cons b i 0 h, lt-leb (get_or b i 0) 1 l))

  pub above_end : length b ≤ i → none ≡ whole
  unfolding first_above
  above_end h = sym (so_far ∙ rw (drop_of_length-le b h))

pub ruleset above = (above_more, above_found, above_end)
