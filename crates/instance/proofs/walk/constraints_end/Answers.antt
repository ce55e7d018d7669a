use Rattle.std.proofs.Common.{◌≡◌, ◌-◌, refl, sym, ◌∙◌, arith}
use Rattle.number.proofs.laws.Sequence.{handed-on}
use Rattle.constraint_end.proofs.laws.Ends.{ends_more, ends_refused, ends-end}
use Rattle.constraint_end.proofs.laws.Ready.{ready-kept}
use Rattle.instance.proofs.walk.constraints_end.Goals as goal

pub loop-i-init : goal.loop-i-init
loop-i-init c = let n = c.args.head.constraints in
    let k : n - 0 ≡ n = omega arith in
    (c.requires, rw k refl)

pub checked_at-requires : goal.checked_at-requires
checked_at-requires c = c.loop-i.invariant.0

pub returns-in_err-next : goal.returns-in_err-next
returns-in_err-next c = rw (handed-on _ _ c.from_residual.ensures)
    (sym (c.loop-i.invariant.1 ∙ ends_refused _ _ _ _ c.loop-i-test.true (sym c.in_err-next.ensures)))

pub loop-i-preserved : goal.loop-i-preserved
loop-i-preserved c = let l = c.loop-i in
    (ready-kept l.invariant.0 c.checked_at.auto.list, l.invariant.1 ∙ ends_more _ _ _ _ c.loop-i-test.true (sym c.in_ok-next.ensures))

pub returns : goal.returns
returns c = sym (c.loop-i.invariant.1 ∙ ends-end _ _ _ _ c.loop-i-test.false)
