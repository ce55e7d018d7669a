-- `words::read_words` meets its contract: what is noted so far, and then what the words from `at` on give, is what all give.
use Prim.Native.Nat.{◌-◌}
use mathlib.Core.Path.{◌≡◌}
use lib.ListN.{length}
use Rattle.solver_lines.specs.Noting.{noting}
use Rattle.solver_lines.specs.Reading.{end_of, tokens_from}
use Rattle.solver_lines.proofs.words.read_words.Given as goal

abbrev pub invariant-loop-at : goal.invariant-loop-at
invariant-loop-at l = (length l.store ≡ length l.initial.store) × (noting l.most l.initial.store l.closed_before (tokens_from l.text l.from) ≡ noting l.most l.store l.closed (tokens_from l.text l.at)) × (end_of l.text l.from ≡ end_of l.text l.at)

abbrev pub decreases-loop-at : goal.decreases-loop-at
decreases-loop-at l = length l.text - l.at
