-- What a run over a formula's lines leaves of a text with its position, mode by mode: laws.
use mathlib.Core.Path.{◌≡◌, refl, ap, ◌∙◌}
use mathlib.Core.List.{[], ◌∷◌}
use Prim.Native.Nat.{ℕ, ◌+◌, ◌≤◌}
use lib.ListN.{length}
use Rattle.scope.specs.Instance.{Instance}
use Rattle.scope.specs.Formula.{primary, formula, hard_of, soft_of}
use Rattle.sink.specs.Run.{Out, put, further, Ran}
use Rattle.sink.specs.Meaning.{hard_text}
use Rattle.sink.proofs.laws.Meaning.{soft_text, text_lines, soft_text_lines, measure_lines}
use Rattle.sink.specs.declared.Mode.{Mode}
use Rattle.sink.specs.declared.Mode.TheVariants.{Measure, Text, SoftText}
use Rattle.clauses.specs.Writable.{formula_lines}
use Rattle.clauses.proofs.laws.Position.{run-placed}
use Rattle.text.specs.Lines.{job_of, of_text, out_of, LinesRan}

module _ {top : ℕ} {i : Instance} {o o' : Out} where
  -- the hard lines are put, or the soft lines are
  pub hard_ran : LinesRan Text top i o o' → Ran put (hard_text top (hard_of i)) o o'
  unfolding formula_lines hard_of
  hard_ran l =
      record { eq = l.eq ∙ ap out_of (text_lines (job_of Text top) (0 ∷ []) (primary i + 1) (formula i) (of_text o) refl) }

  pub soft_ran : LinesRan SoftText top i o o' → Ran put (soft_text (soft_of i)) o o'
  unfolding formula_lines soft_of
  soft_ran l =
      record { eq = l.eq ∙ ap out_of (soft_text_lines (job_of SoftText top) (0 ∷ []) (primary i + 1) (formula i) (of_text o) refl) }

  -- in each mode the position stays at most 2 ^ 63 - 1
  pub lines_placed : {m : Mode} → LinesRan m top i o o' → o.at ≤ 9223372036854775807 → o'.at ≤ 9223372036854775807
  lines_placed {m} l h = rw l.eq (run-placed (job_of m top) (0 ∷ []) (formula_lines i) (of_text o) h)

  -- the position is moved on by the length of all lines
  pub lines_measured : LinesRan Measure top i o o' → o.at ≤ 9223372036854775807
      → o'.at ≡ further o.at (length (hard_text top (hard_of i)) + length (soft_text (soft_of i)))
  unfolding formula_lines hard_of soft_of
  lines_measured l h =
      ap (λ (o : Out). o.at)
      (l.eq ∙ ap out_of (measure_lines (job_of Measure top) (0 ∷ []) (primary i + 1) (formula i) (of_text o) refl h))
