-- What a run over a formula's lines leaves of a text with its position, mode by mode.
use Rattle.std.specs.Prelude.{◌≡◌, [], ◌∷◌, ℕ}
use Rattle.scope.specs.Instance.{Instance}
use Rattle.sink.specs.Run.{run, Out, out}
use Rattle.sink.specs.World.{World, step}
use Rattle.sink.specs.declared.Job.{Job}
use Rattle.sink.specs.declared.Mode.{Mode}
use Rattle.clauses.specs.Writable.{formula_lines}

-- a run that has a text alone
abbrev pub job_of : Mode → ℕ → Job
job_of m top = record { mode = m; top = top; cols = 0 }

abbrev pub of_text : Out → World
of_text o = record { at = o.at; text = o.buf; words = 0 ∷ []; bad = 0; lost = 0; prev = 0; row = 0 }

abbrev pub out_of : World → Out
out_of w = out w.at w.text

pub record LinesRan (m : Mode) (top : ℕ) (i : Instance) (o o' : Out) : Type 0 where
  pub eq : o' ≡ out_of (run (step (job_of m top) (0 ∷ [])) (formula_lines i) (of_text o))
