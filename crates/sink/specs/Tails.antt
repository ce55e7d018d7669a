-- What a run in the mode Tail comes to: the clauses of the tail's counter, as words.
use mathlib.Core.List.{List, flat_map}
use Rattle.std.specs.Prelude.{ℕ, zero, suc, ◌+◌}
use Rattle.scope.specs.Formula.{counter, negated}
use Rattle.sink.specs.Lines.{gates_clauses}
use Rattle.sink.specs.Block.{mark}
use Rattle.sink.specs.World.{row_over}

-- the words of the tail's counter for soft units, from the row at prev and the variable v on
abbrev pub tail_words : ℕ → ℕ → ℕ → List (ℕ × ℕ) → List ℕ
tail_words cols prev v us = flat_map mark (gates_clauses v (counter (row_over prev) (negated us) cols v))

-- the first variable of the last row, after n rows from the variable v on, over the row at prev
unfoldable pub last_first : ℕ → ℕ → ℕ → ℕ → ℕ
last_first cols prev v zero = prev
last_first cols prev v (suc n) = last_first cols v (v + cols) n
