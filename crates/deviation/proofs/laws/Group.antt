-- Counts over the times of a group: laws.
use Prim.Native.Nat.{ℕ, ◌+◌, ◌-◌, ◌<◌, ◌≤◌}
use mathlib.Core.Path.{◌≡◌}
use mathlib.Core.Bool.{cond}
use mathlib.Core.List.{List, ◌∷◌}
use lib.ListN.{length, get_or, drop, drop_of_length-le}
use lib.Seq.{drop-cons}
use lib.Dec.{eqb}
use native.Mathlib.Omega.{arith}
use native.Mathlib.Nat.{add-zero, add_assoc}
use native.Mathlib.Numerals.{add-one}
use Rattle.scope.specs.Score.{trues}
use Rattle.parsing.specs.Numbers.{Ascending}
use Rattle.timetable.specs.Bits.{marks}
use Rattle.timetable.proofs.laws.Bits.{bit-next}
use Rattle.timetable.proofs.laws.Uses.{member-in}
use Rattle.deviation.specs.Group.{Inside}

pub ascending-inside : (b : List ℕ) (base n : ℕ) (row : List ℕ) → base + n ≤ length b → Ascending n 0 row → Inside b base row
ascending-inside b base n row h a =
    record { low = λ k l. (member-in n a k l).0; high = λ k l. let m = member-in n a k l in omega arith }

-- the turns of a count over a row of n members, of which k were passed; the next is the time t
module _ {b row : List ℕ} {base k n t : ℕ} (size : n ≡ length row) (inside : Inside b base row) (h : k < n) (et : t ≡ get_or row k 0) where
  pub time_low : 1 ≤ t
  time_low = rw et (inside.low k (omega arith))

  pub time_there : base + (t - 1) < length b
  time_there = omega (arith, time_low, inside.high k (omega arith))

  pub marks_next : marks b base (drop k row) ≡ eqb (get_or b (base + (t - 1)) 0) 1 ∷ marks b base (drop (k + 1) row)
  marks_next =
      let l : k < length row = omega arith in
      let e : base + t ≡ base + (t - 1 + 1) = omega (arith, time_low) in
      rw (drop-cons row k 0 l, ← et, e, bit-next b base (t - 1), add-one k)

  pub ones_more : (count x whole : ℕ) → count + trues (marks b base (drop k row)) ≡ whole → x ≡ cond (eqb (get_or b (base + (t - 1)) 0) 1) 1 0
      → count + x + trues (marks b base (drop (k + 1) row)) ≡ whole
  unfolding trues
  ones_more count x whole so_far e = rw (e, add_assoc) (rw marks_next at so_far)

-- the end
module _ (b row : List ℕ) (base k n : ℕ) (size : n ≡ length row) (end : n ≤ k) where
  pub ones_end : (count whole : ℕ) → count + trues (marks b base (drop k row)) ≡ whole → count ≡ whole
  unfolding trues
  ones_end count whole so_far = let l : length row ≤ k = omega arith in rw (drop_of_length-le row l, add-zero) at so_far
