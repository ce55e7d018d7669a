use mathlib.Core.Path.{sym}
use native.Mathlib.Omega.{arith}
use lib.ListN.{length-set}
use Rattle.scope.specs.Number.{listed}
use Rattle.number.proofs.laws.Sequence.{handed-on, limited-value, reference-value}
use Rattle.number.proofs.laws.Lists.{list-start, list_refused, list_more, list_end, leading-take}
use Rattle.fields.proofs.list.list_at.Goals as goal

pub returns-in_err-count : goal.returns-in_err-count
unfolding listed
returns-in_err-count c = rw (handed-on _ _ c.from_residual.ensures, ← c.in_err-count.ensures)

pub loop-i-init : goal.loop-i-init
loop-i-init c = let l = limited-value _ _ _ _ c.in_ok-count.ensures in (
  omega arith,
  omega arith,
  list-start 0 c.args.list.now _ _ _ _ _ (sym c.in_ok-count.ensures),
)

pub returns-in_err-v : goal.returns-in_err-v
returns-in_err-v c = let l = c.loop-i in
    rw (handed-on _ _ c.from_residual-in_err-v.ensures)
    (list_refused 0 l.list _ _ _ _ _ _ _ _ l.invariant.2 c.loop-i-test.true c.in_err-v.ensures)

pub overflow_cast-list : goal.overflow_cast-list
overflow_cast-list c = let r = reference-value _ _ _ _ c.in_ok-v.ensures in
    omega arith

pub loop-i-preserved : goal.loop-i-preserved
loop-i-preserved c = let l = c.loop-i in (
  omega arith,
  simp length-set l.invariant.1,
  list_more 0 l.list _ _ _ _ _ _ _ _ _ _ l.invariant.2 c.loop-i-test.true (omega arith) (omega arith)
      c.in_ok-v.ensures,
)

pub returns : goal.returns
returns c = let l = c.loop-i in
    rw (leading-take c.in_ok-count.count l.list (omega arith)) (sym (list_end 0 l.list _ _ _ _ _ _ _ l.invariant.2 (omega arith) c.loop-i-test.false))
