-- `tables::room::with_groups` meets its contract: the table that it chooses has the rows that the file may need.
use Rattle.std.proofs.Common.{refl}
use Rattle.tables.proofs.laws.Room.{room-dated, room-plain}
use Rattle.tables.proofs.room.with_groups.Goals as goal

pub returns-then-dated : goal.returns-then-dated
returns-then-dated g c = (
  c.window_rows.result,
  _,
  room-dated c.args.file.now c.dated.ensures c.if-dated.true c.window_rows.ensures,
  record { shown = _; shows = refl; left = _; met = c.step.ensures; leaves = refl },
)

pub returns : goal.returns
returns g c = (
  c.group_rows.result,
  _,
  room-plain c.args.file.now c.dated.ensures c.if-dated.false c.group_rows.ensures,
  record { shown = _; shows = refl; left = _; met = c.step-2.ensures; leaves = refl },
)
