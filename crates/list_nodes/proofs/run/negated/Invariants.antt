-- `list_nodes::run::negated` meets its contract. The loop's invariant: the words are those that stay, then the negated literals of the variables passed.
use Rattle.literals.specs.Words.{Holds}
use Rattle.literals.specs.Outputs.{every}
use Rattle.scope.specs.Cnf.{opp}
use lib.ListN.{length, take}
use mathlib.Core.List.{◌++◌, map}
use mathlib.Core.Path.{◌≡◌}
use Prim.Native.Nat.{◌+◌}
use Rattle.list_nodes.proofs.run.negated.Given as goal

abbrev pub invariant-loop-k : goal.invariant-loop-k
invariant-loop-k l = (length l.out ≡ length l.initial.out) × Holds l.out (l.at + l.k) (take l.at l.initial.out ++ map opp (every 1 l.first l.k))
