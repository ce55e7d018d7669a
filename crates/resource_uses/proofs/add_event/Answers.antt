use mathlib.Core.List.{[]}
use Rattle.resource_uses.proofs.laws.Uses.{event-none, next_addable, adding}
use Rattle.resource_uses.proofs.add_event.Goals as goal

pub loop-k-init : goal.loop-k-init
loop-k-init c = event-none _ _ _ _ []

pub overflow_sub-r : goal.overflow_sub-r
overflow_sub-r c = search adding

pub add_taken-requires : goal.add_taken-requires
add_taken-requires c = let l = c.loop-k in
    next_addable c.requires c.row_len-k-end.ensures l.invariant c.loop-k-test.true c.row_member-r.ensures

pub loop-k-preserved : goal.loop-k-preserved
loop-k-preserved c = search (adding, c.row_len-k-end.ensures)
