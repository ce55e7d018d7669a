use mathlib.Core.Path.{◌≡◌, refl, sym, ◌∙◌}
use mathlib.Core.Bool.{true, false}
use Prim.Native.Nat.{ℕ}
use Rattle.laws.specs.Booleans.{never_true}
use Rattle.sink.specs.AllTrue.{evaluating}
use Rattle.sink.specs.Lend.{part_base}
use Rattle.sink.specs.declared.Mode.{Mode}
use Rattle.sink.specs.declared.Mode.TheVariants.{Measure, Text, SoftText, Words, Evaluate, Tail}
use Rattle.sink.proofs.part_base.Goals as goal

-- the base, by whether a mode judges a model
at-start : (m : Mode) (a : ℕ) → evaluating m ≡ true → 0 ≡ part_base m a
at-start Measure a e = never_true e
at-start Text a e = never_true e
at-start SoftText a e = never_true e
at-start Words a e = never_true e
at-start Evaluate a e = refl
at-start Tail a e = never_true e

at_position : (m : Mode) (a : ℕ) → evaluating m ≡ false → a ≡ part_base m a
at_position Measure a e = refl
at_position Text a e = refl
at_position SoftText a e = refl
at_position Words a e = refl
at_position Evaluate a e = never_true (sym e)
at_position Tail a e = refl

pub returns-then-evaluates : goal.returns-then-evaluates
returns-then-evaluates c = let a = c.args in at-start a.job.mode a.s.at (sym c.evaluates.ensures ∙ c.if-evaluates.true)

pub returns : goal.returns
returns c = let a = c.args in at_position a.job.mode a.s.at (sym c.evaluates.ensures ∙ c.if-evaluates.false)
