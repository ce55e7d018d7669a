use mathlib.Core.Path.{◌≡◌}
use Prim.Native.Nat.{◌*◌}
use lib.ListN.{take}
use Rattle.node_clauses.specs.Pairs.{pair_words}
use Rattle.node_clauses.proofs.nodes.pair_words.Given as goal

abbrev pub invariant-loop-i : goal.invariant-loop-i
invariant-loop-i l = take (2 * l.i) l.block ≡ pair_words l.last (take l.i l.lits)
