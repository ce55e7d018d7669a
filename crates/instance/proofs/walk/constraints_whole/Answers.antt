-- `instance::walk::constraints_whole` meets its contract: loads counted, constraints walked, then the test for the end.
use Rattle.std.proofs.Common.{refl}
use Rattle.number.proofs.laws.Sequence.{handed-on}
use Rattle.instance.proofs.laws.Checked.{counted_refused, counted_left, counted_end}
use Rattle.constraint_end.proofs.laws.Ready.{zeros}
use Rattle.instance.proofs.walk.constraints_whole.Goals as goal

pub count_members-requires : goal.count_members-requires
count_members-requires c = let p = c.requires in record { n_bound = p.numbers.2; rows_in = p.events; counts_len = refl; by_index = λ x. zeros 256 x }

pub returns-in_err-end : goal.returns-in_err-end
returns-in_err-end c = let a = c.args in
    rw (handed-on _ _ c.from_residual.ensures)
    (counted_refused _ a.resources.now a.groups.now a.head a.s.now c.count_members.ensures _ c.in_err-end.ensures)

pub returns-then-end-s : goal.returns-then-end-s
returns-then-end-s c = let a = c.args in
    counted_left _ a.resources.now a.groups.now a.head a.s.now c.count_members.ensures c.in_ok-end.ensures c.if-end-s.true

pub returns : goal.returns
returns c = let a = c.args in
    counted_end _ a.resources.now a.groups.now a.head a.s.now c.count_members.ensures c.in_ok-end.ensures c.if-end-s.false
