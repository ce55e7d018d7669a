use Prim.Native.Nat.{ℕ, ◌<◌}
use lib.ListN.{get_or}
use Rattle.node_text.proofs.all_short.Given as goal

abbrev pub invariant-loop-l : goal.invariant-loop-l
invariant-loop-l l = ((k : ℕ) → k < l.l-index → get_or l.lits k 0 < 20000000)
