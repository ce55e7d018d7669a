-- `windows::groups::all_groups_at` meets its contract: the groups, and the windows behind them where there is a calendar.
use Rattle.std.proofs.Common.{sym, ◌∙◌}
use Rattle.number.proofs.laws.Sequence.{handed-on}
use Rattle.tables.proofs.laws.Room.{room-windows, room-kept}
use Rattle.windows.proofs.laws.Times.{times_high, times_calendared, times_dated, times_plain}
use Rattle.windows.proofs.laws.Windows.{few-groups, groups_refused, groups_plain, groups_dated}
use Rattle.windows.proofs.groups.all_groups_at.Goals as goal

pub groups_at-requires-clause-times_bound : goal.groups_at-requires-clause-times_bound
groups_at-requires-clause-times_bound c = times_high c.args.s.now c.requires.times_read

pub returns-in_err-count : goal.returns-in_err-count
returns-in_err-count c = rw (handed-on _ _ c.from_residual.ensures)
    (sym (groups_refused _ _ _ (rw c.requires.times_read.so_many (sym c.in_err-count.ensures))))

pub windows_at-requires : goal.windows_at-requires
windows_at-requires c = let p = c.requires in
    let s = c.args.s.now in
    let f = c.groups_at in
    let d = sym c.dated.ensures ∙ c.if-dated.true in record { calendared = times_calendared s p.times_read d; first_bound = few-groups _ s _ f.new.table (sym c.in_ok-count.ensures); in_bounds = room-windows s d (room-kept s f.auto.table p.s_in_bounds) }

pub returns-then-dated : goal.returns-then-dated
returns-then-dated c = let p = c.requires in
    let s = c.args.s.now in
    let d = sym c.dated.ensures ∙ c.if-dated.true in
    c.windows_at.ensures ∙ sym (groups_dated _ s _ (rw p.times_read.so_many (sym c.in_ok-count.ensures)) (times_dated s p.times_read d))

pub returns : goal.returns
returns c = let p = c.requires in
    let s = c.args.s.now in
    let d = sym c.dated.ensures ∙ c.if-dated.false in
    sym (groups_plain _ s _ (rw p.times_read.so_many (sym c.in_ok-count.ensures)) (times_plain s p.times_read d))
