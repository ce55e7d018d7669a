-- The items of a counted list by its bounds, and how many variables they have: laws.
use mathlib.Core.Path.{◌≡◌, refl}
use mathlib.Core.List.{List}
use Prim.Native.Nat.{ℕ, zero, suc, ◌+◌, ◌*◌, min}
use native.Mathlib.Omega.{arith}
use lib.ListN.{length}
use Rattle.scope.specs.Kinds.{Rule}
use Rattle.scope.specs.Cnf.{gates}
use Rattle.scope.specs.Formula.{columns, count_into}
use Rattle.counts.specs.CountLines.{rule_of}
use Rattle.counts.proofs.laws.CountLines.{count-gates as gates-counted}
use Rattle.constraint.specs.declared.kinds.Bounds.{Bounds}
use Rattle.sink.specs.Run.{Ran}
use Rattle.sink.specs.Lines.{Line, lines}
use Rattle.sink.specs.World.{World}
use Rattle.items.specs.Written.{Wrote}
use Rattle.items.specs.Counted.{lowered, counted, shorts}

-- a counted list's variables: those of its counter, and kind 6's
pub count-gates : (J w : ℕ) (r : Rule) (xs : List ℕ) (v : ℕ)
    → gates (count_into J w r xs v) ≡ length xs * J + shorts r.zero_free r.lo
count-gates = gates-counted

-- by the writer's numbers: hi lowered, and the columns
module _ (w : ℕ) (b : Bounds) (xs : List ℕ) (v hi cols : ℕ) (eh : hi ≡ min b.hi (length xs)) (ec : cols ≡ columns w hi (length xs)) where
  pub counted_gates : gates (counted w b xs v) ≡ length xs * cols + shorts b.free b.lo
  unfolding counted
  counted_gates = rw (ec, eh) (count-gates (columns w (min b.hi (length xs)) (length xs)) w (rule_of (lowered b (length xs))) xs v)

  pub counted_wrote : {f : Line → World → World} {x x' : World} {next : ℕ}
      → Ran f (lines v (count_into cols w (rule_of (record { lo = b.lo; hi = hi; free = b.free })) xs v)) x x'
      → next ≡ v + length xs * cols + shorts b.free b.lo
      → Wrote f v (counted w b xs v) x x' next
  unfolding counted
  counted_wrote r e = record { ran = rw (ec, eh) at r; next = omega (arith, counted_gates) }

-- the columns of a hard list and of a soft one
pub columns-hard : (w hi n : ℕ) → w ≡ 0 → columns w hi n ≡ min n (hi + 1)
columns-hard w hi n e = rw e

pub columns-soft : (w hi n : ℕ) → (w ≡ 0 → ⊥) → columns w hi n ≡ n
columns-soft zero hi n h = absurd (h refl)
columns-soft (suc w) hi n h = refl
