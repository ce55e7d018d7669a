-- `operation::read_zeroed_in` meets its contract: the stores are long enough, and a file that is sized is read on.
use borrow.Author.Rules.{rules}
use Rattle.std.proofs.lemmas.Result.{err_from_is_err_and}
use Rattle.tables.proofs.laws.Room.{room-kept}
use Rattle.solver_text.proofs.laws.Read.{read-refused}
use Rattle.solver_text.proofs.operation.read_zeroed_in.Goals as goal

pub read_sized-requires : goal.read_sized-requires
read_sized-requires c =
    let g = room-kept c.args.file.now c.measure.auto.groups c.requires.file_in_bounds in
    (c.in_ok-head.ensures, search rules, c.requires.store_value)

pub returns-in_err-head : goal.returns-in_err-head
returns-in_err-head c =
    let p = err_from_is_err_and c.from_residual.result c.from_residual.ensures.1 in
    rw (p.1, p.2) (read-refused _ _ _ c.in_err-head.ensures)
