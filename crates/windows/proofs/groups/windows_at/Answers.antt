use Rattle.std.proofs.Common.{◌≡◌, ◌+◌, ◌*◌, ◌≤◌, length, refl, sym, ap, ◌∙◌, arith}
use lib.ListN.{length-take, length-drop}
use Rattle.scope.specs.Parsed.{got}
use Rattle.number.proofs.laws.Sequence.{handed-on}
use Rattle.parsing.proofs.laws.Parsing.{repeat_more, repeat_refused, repeat-end}
use Rattle.parsing.proofs.laws.Calendar.{limited_in-got}
use Rattle.windows.specs.Times.{days_in}
use Rattle.windows.proofs.laws.Windows.{window_value, window_refused, window-day, day_long, day_shows, windows-start, windows-none, window_more}
use Rattle.windows.proofs.groups.windows_at.Goals as goal

pub returns-in_err-count : goal.returns-in_err-count
returns-in_err-count c = rw (handed-on _ _ c.from_residual.ensures) (sym (windows-none _ _ _ _ (sym c.in_err-count.ensures)))

pub loop-w-init : goal.loop-w-init
loop-w-init c = let e = sym c.in_ok-count.ensures in
    let first = c.args.first in
    let k : first + 0 ≡ first = omega arith in
    ((limited_in-got _ _ _ _ _ e).high, refl, rw k (windows-start _ _ _ _ e))

pub returns-in_err-d : goal.returns-in_err-d
returns-in_err-d c = rw (handed-on _ _ c.from_residual-in_err-d.ensures)
    (sym (c.loop-w.invariant.2 ∙ repeat_refused _ _ _ _ _ c.loop-w-test.true (window_refused _ _ _ c.in_err-d.ensures)))

pub overflow_sub-day : goal.overflow_sub-day
overflow_sub-day c = let d = window-day _ _ c.in_ok-d.ensures in omega (arith, d.low)

pub bounds-days-d : goal.bounds-days-d
bounds-days-d c = let d = window-day _ _ c.in_ok-d.ensures in omega (arith, d.low, d.high)

pub returns : goal.returns
returns c = let l = c.loop-w in
    let e : l.w ≡ c.in_ok-count.count = omega arith in
    rw e at (sym (l.invariant.2 ∙ repeat-end _ _ _ _ _ c.loop-w-test.false))

pub window_row-requires-clause-day_len : goal.window_row-requires-clause-day_len
window_row-requires-clause-day_len c = let d = window-day _ _ c.in_ok-d.ensures in
    day_long _ c.requires.calendared _ c.calendar_of-days.ensures _ d _

pub loop-w-preserved : goal.loop-w-preserved
loop-w-preserved c = let l = c.loop-w in
    let f = c.window_row in
    let a = c.args in
    let p = c.requires in
    let row = f.new.row in
    let x = c.in_ok-d in
    let d = window-day _ _ x.ensures in
    let shows = f.ensures ∙ day_shows a.s.now p.calendared _ c.calendar_of-days.ensures x.d d _ x.from x.to in
    let here = window_value (days_in a.s.now) a.s.now l.next x.ensures ∙ ap (λ g. got g x.after) (sym shows) in
    let h : (a.first + l.w) * 126 + 126 ≤ length l.table = omega (arith, l.invariant.0, l.invariant.1, p.first_bound, p.in_bounds) in
    let k : length row ≡ 126 = simp (length-take, length-drop) at f.auto.row ∙ omega arith in (
      l.invariant.0,
      omega arith,
      l.invariant.2 ∙ (repeat_more _ _ _ _ _ c.loop-w-test.true here ∙ window_more l.table row a.first l.w _ h k),
    )
