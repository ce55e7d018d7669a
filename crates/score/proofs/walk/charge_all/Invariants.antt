-- `score::walk::charge_all` meets its contract. The state of the walk after i constraints; a constraint of an accepted file is never refused.
use Prim.Native.Nat.{◌*◌}
use Rattle.deviation.specs.Charge.{charge_of}
use Rattle.score.proofs.laws.Amounts.{Charged}
use Rattle.score.proofs.walk.charge_all.Given as goal

abbrev pub invariant-loop-i : goal.invariant-loop-i
invariant-loop-i l = Charged l.file l.head (charge_of (l.head.events * l.head.times) l.head.times l.bytes l.uses l.used l.groups) l.list l.next l.hard.0 l.soft.0 l._i
