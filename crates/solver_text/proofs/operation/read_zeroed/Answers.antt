-- `operation::read_zeroed` meets its contract: the table that it chooses has the rows that the file may need.
use borrow.Author.Rules.{rules}
use Rattle.tables.proofs.laws.Room.{room-dated, room-plain}
use Rattle.solver_text.proofs.operation.read_zeroed.Goals as goal

pub read_zeroed_in-requires : goal.read_zeroed_in-requires
read_zeroed_in-requires c = record { file_in_bounds = room-dated c.args.file.now c.dated.ensures c.if-dated.true c.window_rows-groups.ensures; store_value = c.requires }
