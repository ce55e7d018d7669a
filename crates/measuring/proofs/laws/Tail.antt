-- The size of the tail, from the weights of the soft units in their order.
use mathlib.Core.Path.{◌≡◌, sym}
use mathlib.Core.List.{List, [], ◌∷◌, ◌++◌, append-nil}
use Prim.Native.Nat.{ℕ, zero, suc, ◌+◌, ◌≤◌}
use native.Mathlib.Omega.{arith}
use lib.ListN.{replicate}
use borrow.Author.Tests.{ne_eqb}
use Rattle.scope.specs.Formula.{tail}
use Rattle.sizing.specs.declared.Size.{Size}
use Rattle.sizing.specs.Sums.{none, sum, multiple}
use Rattle.sizing.proofs.laws.Sums.{equal, none-sum, sum-none, sum-assoc}
use Rattle.sizing.specs.Gates.{hard_unit}
use Rattle.sizing.specs.Rows.{first_row, later_row, equal_rows}
use Rattle.sizing.specs.Tail.{tail_add}
use Rattle.measuring.proofs.laws.Measure.{size_of, size-nil, size-append}
use Rattle.measuring.proofs.laws.Gates.{hard-unit}
use Rattle.measuring.proofs.laws.Rows.{later_rows, counter_size, Proper, weights, counter-size, later-equal}

-- the tail over literals with these weights: a counter, and a unit
unfoldable pub tail_size : ℕ → List ℕ → Size
tail_size cols [] = none
tail_size cols (w ∷ ws) = sum (counter_size cols (w ∷ ws)) hard_unit

-- the tail's items
pub tail-size : (B : ℕ) (us : List (ℕ × ℕ)) (v : ℕ) → 1 ≤ v → Proper us
    → size_of (tail B us v) ≡ tail_size (B + 1) (weights us)
unfolding tail tail_size
tail-size B [] v h p = size-nil
tail-size B (u ∷ us) v h p = rw (size-append, counter-size (B + 1) (u ∷ us) v h p, hard-unit, size-nil, sum-none)

-- rows one after the other
later-append : (cols : ℕ) (ws vs : List ℕ) → later_rows cols (ws ++ vs) ≡ sum (later_rows cols ws) (later_rows cols vs)
unfolding later_rows
later-append cols [] vs = sym (none-sum (later_rows cols vs))
later-append cols (w ∷ ws) vs = rw (later-append cols ws vs, sum-assoc)

-- with a soft unit the tail has variables
tail-some : (cols : ℕ) (w : ℕ) (ws : List ℕ) → 1 ≤ cols → 1 ≤ (tail_size cols (w ∷ ws)).variables
unfolding tail_size counter_size first_row sum
tail-some cols w ws h = omega arith

sum-swap : (f l u m : Size) → sum (sum (sum f l) u) m ≡ sum (sum f (sum l m)) u
unfolding sum
sum-swap f l u m = equal (omega arith)

-- it is the tail over the weights so far and those n
pub tail-add : (cols : ℕ) (ws : List ℕ) (n w : ℕ) → 1 ≤ cols
    → tail_add cols (tail_size cols ws) n w ≡ tail_size cols (ws ++ replicate n w)
unfolding tail_add
tail-add cols ws zero w h = rw append-nil
tail-add cols [] (suc n) w h = unfold tail_size none counter_size equal_rows in rw (later-equal cols n w)
tail-add cols (v ∷ ws) (suc n) w h =
    let e = ne_eqb (tail_size cols (v ∷ ws)).variables 0 (λ z. omega (arith, tail-some cols v ws h)) in
    rw e
    (unfold tail_size counter_size in
    rw (later-append cols ws (replicate (suc n) w), later-equal cols (suc n) w)
    (sum-swap (first_row cols v) (later_rows cols ws) hard_unit (multiple (suc n) (later_row cols w))))
