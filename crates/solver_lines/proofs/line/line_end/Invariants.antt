-- `line::line_end` meets its contract: the line that `at` is in ends where the one from the first offset does.
use Prim.Native.Nat.{◌≤◌}
use mathlib.Core.Path.{◌≡◌}
use lib.ListN.{length}
use Rattle.solver_lines.specs.Reading.{end_of}
use Rattle.solver_lines.proofs.line.line_end.Given as goal

abbrev pub invariant-loop-at : goal.invariant-loop-at
invariant-loop-at l = (end_of l.text l.from ≡ end_of l.text l.at) × (length l.text ≤ l.from → l.at ≡ l.from)
