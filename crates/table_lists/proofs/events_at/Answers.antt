use Rattle.std.proofs.Common.{◌≡◌, ◌+◌, ◌*◌, ◌-◌, ◌≤◌, ◌<◌, length, sym, ◌∙◌, arith}
use lib.ListN.{length-set, length-take, length-drop}
use Rattle.scope.specs.Parsed.{repeat}
use Rattle.parsing.proofs.laws.Parsing.{before-nil, repeat_more, repeat_refused, repeat-end}
use Rattle.number.proofs.laws.Sequence.{handed-on}
use Rattle.tables.specs.Rows.{events_of}
use Rattle.tables.proofs.laws.Reading.{event-got}
use Rattle.table_lists.proofs.laws.Writing.{events-more}
use Rattle.table_lists.proofs.events_at.Goals as goal

pub loop-e-init : goal.loop-e-init
unfolding events_of
loop-e-init c = let a = c.args in
    let k : a.count - 0 ≡ a.count = omega arith in
    (omega arith, omega arith, rw k (sym (before-nil (repeat _ _ _))))

pub returns : goal.returns
returns c = let l = c.loop-e in
    let e : l.e ≡ c.args.count = omega arith in
    rw e at (sym (l.invariant.2 ∙ repeat-end _ _ _ _ _ c.loop-e-test.false))

pub returns-in_err-duration : goal.returns-in_err-duration
returns-in_err-duration c = rw (handed-on _ _ c.from_residual.ensures)
    (sym
    (c.loop-e.invariant.2
    ∙ repeat_refused _ _ _ _ _ c.loop-e-test.true (sym c.in_err-duration.ensures)))

pub overflow_cast-durations : goal.overflow_cast-durations
overflow_cast-durations c = let v = event-got _ _ _ _ (sym c.in_ok-duration.ensures) in
    omega (arith, v.event.high)

pub loop-e-preserved : goal.loop-e-preserved
loop-e-preserved c = let f = c.event_at in
    let l = c.loop-e in
    let row = f.new.row in
    let h : l.e * 126 + 126 ≤ length l.table = omega arith in
    let i : l.e < length l.durations = omega arith in
    let k : length row ≡ 126 = simp (length-take, length-drop) at f.auto.row ∙ omega arith in (
      simp length-set l.invariant.0,
      omega arith,
      rw (events-more l.durations l.table row l.e _ i h k)
          (l.invariant.2 ∙ repeat_more _ _ _ _ _ c.loop-e-test.true (sym c.in_ok-duration.ensures)),
    )
