-- `instance::walk::constraints_end` meets its contract. The loop's invariant: the constraints still to be read end where all do.
use Rattle.std.proofs.Common.{◌≡◌, ◌-◌, get_or}
use Rattle.scope.specs.Parsed.{repeat}
use Rattle.constraint_end.specs.Ends.{ends}
use Rattle.constraint_end.specs.Ready.{Ready, checked_by}
use Rattle.instance.proofs.walk.constraints_end.Given as goal

abbrev pub invariant-loop-i : goal.invariant-loop-i
invariant-loop-i l = Ready l.loads l.groups l.list l.head
    × (ends (repeat l.head.constraints (checked_by (λ r. get_or l.loads r 0) l.groups l.head l.s) l.head.start)
    ≡ ends (repeat (l.head.constraints - l._i) (checked_by (λ r. get_or l.loads r 0) l.groups l.head l.s) l.next))
