-- Modes that pass over hard clauses: a run over clauses changes nothing.
use Rattle.std.specs.Prelude.{Bool, true, false}
use Rattle.sink.specs.declared.Mode.{Mode}
use Rattle.sink.specs.declared.Mode.TheVariants.{Measure, Text, SoftText, Words, Evaluate, Tail}

abbrev pub skipping : Mode → Bool
skipping Measure = false
skipping Text = false
skipping SoftText = true
skipping Words = false
skipping Evaluate = false
skipping Tail = true
