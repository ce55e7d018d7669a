-- `prepare::fill_hard` meets its contract: the table that it chooses has the rows that the file may need.
use borrow.Author.Rules.{rules}
use Rattle.tables.proofs.laws.Room.{room-dated, room-plain}
use Rattle.claims.proofs.prepare.fill_hard.Goals as goal

pub fill_hard_in-requires : goal.fill_hard_in-requires
fill_hard_in-requires c = room-dated c.args.file.now c.dated.ensures c.if-dated.true c.window_rows-groups.ensures

pub fill_hard_in-requires-2 : goal.fill_hard_in-requires-2
fill_hard_in-requires-2 c = room-plain c.args.file.now c.dated.ensures c.if-dated.false c.group_rows-groups.ensures
