-- `operations::evaluate_in` meets its contract: the stores are long enough, and a file that is sized is evaluated.
use borrow.Author.Rules.{rules}
use Rattle.std.proofs.lemmas.Result.{err_from_is_err_and}
use Rattle.tables.proofs.laws.Room.{room-kept}
use Rattle.model.proofs.laws.Answers.{evaluation-refused}
use Rattle.model.proofs.operations.evaluate_in.Goals as goal

pub evaluate_read-requires : goal.evaluate_read-requires
evaluate_read-requires c =
    let g = room-kept c.args.file.now c.measure.auto.groups c.requires in
    (c.in_ok-head.ensures, search rules)

pub returns-in_err-head : goal.returns-in_err-head
returns-in_err-head c = let p = err_from_is_err_and c.from_residual.result c.from_residual.ensures.1 in rw (p.1, p.2) (evaluation-refused _ c.in_err-head.ensures)
