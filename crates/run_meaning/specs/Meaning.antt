-- What a check answers: the plain run's answer for the formula that stands in the stores.
use Rattle.std.specs.Prelude.{ℕ}
use Rattle.scope.specs.Formula.{words}
use Rattle.scope.specs.PlainRun.{Limits}

abbrev pub limits : ℕ → ℕ → ℕ → Limits
limits last words rows = record { last_variable = last; words_lent = words; rows_lent = rows }
