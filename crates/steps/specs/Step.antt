-- What is read at an offset of a proof's bytes, and the marks afterwards, for any bytes, offsets and marks.
use Rattle.std.specs.Prelude.{cond, List, ℕ, ◌+◌, leb, eqb, get_or, Option, Some, None}
use Rattle.scope.specs.Parsed.{Parsed, got, refused}
use Rattle.scope.specs.Number.{number}
use Rattle.passing.specs.Passed.{passed_at}
use Rattle.spelling.specs.Spelt.{literals_at}
use Rattle.steps.specs.declared.step.Step.{Step}
use Rattle.steps.specs.declared.step.Step.TheVariants.{Adds, Deletes}

-- a step that is read, none where it is misformed
pub record StepAt : Type 0 where
  pub read : Option Step
  pub marks : List ℕ

abbrev pub step_is : Option Step → List ℕ → StepAt
step_is r ms = record { read = r; marks = ms }

abbrev pub by_hints : ℕ → ℕ → ℕ → ℕ → List ℕ → Option ℕ → StepAt
by_hints id lits size hints ms None = step_is None ms
by_hints id lits size hints ms (Some next) = step_is (Some (Adds (record { id = id; literals = lits; size = size; hints = hints }))) ms

abbrev pub by_literals : List ℕ → ℕ → ℕ → Option (ℕ × ℕ) → List ℕ → StepAt
by_literals s id lits None ms = step_is None ms
by_literals s id lits (Some (size, hints)) ms = by_hints id lits size hints ms (passed_at s hints)

abbrev pub by_id : List ℕ → ℕ → ℕ → List ℕ → Parsed ℕ → StepAt
by_id s highest last ms (refused k v) = step_is None ms
by_id s highest last ms (got id lits) =
    cond (leb id highest) (step_is None ms)
    (by_literals s id lits (literals_at s lits last ms).found (literals_at s lits last ms).marks)

-- the rest of a step that adds a clause, whose id stands at an offset
unfoldable pub add_at : List ℕ → ℕ → ℕ → ℕ → List ℕ → StepAt
add_at s at highest last ms = by_id s highest last ms (number s at)

abbrev pub by_ids : ℕ → List ℕ → Option ℕ → StepAt
by_ids from ms None = step_is None ms
by_ids from ms (Some next) = step_is (Some (Deletes from)) ms

-- the step at an offset: above the highest id, and of variables up to the last
unfoldable pub step_at : List ℕ → ℕ → ℕ → ℕ → List ℕ → StepAt
step_at s at highest last ms =
    cond (eqb (get_or s at 0) 97) (add_at s (at + 1) highest last ms)
    (cond (eqb (get_or s at 0) 100) (by_ids (at + 1) ms (passed_at s (at + 1))) (step_is None ms))
