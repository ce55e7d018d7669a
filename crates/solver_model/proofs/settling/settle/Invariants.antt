-- `settling::settle` meets its contract: the bytes before i are settled, and none of their variables is the one looked for.
use Prim.Native.Nat.{◌+◌}
use mathlib.Core.Path.{◌≡◌}
use mathlib.Core.List.{◌++◌}
use lib.ListN.{take, drop}
use Rattle.solver_model.specs.Settled.{unsettled, settled_to}
use Rattle.solver_model.proofs.settling.settle.Given as goal

abbrev pub invariant-loop-i : goal.invariant-loop-i
invariant-loop-i l = (unsettled 1 l.initial.store ≡ unsettled (l.i + 1) (drop l.i l.store)) × (settled_to l.initial.store ≡ take l.i l.store ++ settled_to (drop l.i l.store))
