-- Clauses that are all true in a model: in the mode Evaluate a run counts them, and nothing else changes.
use Rattle.std.specs.Prelude.{Bool, true, false, ℕ, zero, suc}
use Rattle.sink.specs.Run.{further}
use Rattle.sink.specs.declared.Mode.{Mode}
use Rattle.sink.specs.declared.Mode.TheVariants.{Measure, Text, SoftText, Words, Evaluate, Tail}

-- whether a mode judges a model
abbrev pub evaluating : Mode → Bool
evaluating Measure = false
evaluating Text = false
evaluating SoftText = false
evaluating Words = false
evaluating Evaluate = true
evaluating Tail = false

-- a position after n clauses more
abbrev pub counted : ℕ → ℕ → ℕ
counted zero a = a
counted (suc n) a = further a (suc n)
