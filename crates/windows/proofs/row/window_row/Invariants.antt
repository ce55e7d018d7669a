-- `windows::row::window_row` meets its contract. The loop's invariant: the times that were shown so far stand in the row.
use Rattle.windows.proofs.laws.Row.{Shown}
use Rattle.windows.proofs.row.window_row.Given as goal

abbrev pub invariant-loop-k : goal.invariant-loop-k
invariant-loop-k l = Shown l.from l.to l.day l.row l.n l.k
