-- `lines::read_lines` meets its contract: what is noted so far, and then what the lines from `at` on give, is what all give.
use Prim.Native.Nat.{◌-◌}
use mathlib.Core.Path.{◌≡◌}
use mathlib.Core.Bool.{false}
use lib.ListN.{length}
use Rattle.solver_lines.specs.Noting.{noting, text_tokens}
use Rattle.solver_lines.proofs.laws.Pieces.{lines_left}
use Rattle.solver_lines.proofs.lines.read_lines.Given as goal

abbrev pub invariant-loop-at : goal.invariant-loop-at
invariant-loop-at l = (length l.store ≡ length l.initial.store) × (noting l.most l.initial.store false (text_tokens l.text) ≡ noting l.most l.store l.closed (lines_left l.text l.at))

abbrev pub decreases-loop-at : goal.decreases-loop-at
decreases-loop-at l = length l.text - l.at
