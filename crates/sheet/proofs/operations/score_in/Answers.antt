-- `sheet::operations::score_in` meets its contract. The stores are long enough; a file that is read is accepted or refused.
use Rattle.tables.proofs.laws.Room.{room-kept}
use Rattle.instance.proofs.laws.Laws.{accepted}
use Rattle.sheet.proofs.laws.Answers.{score_file}
use Rattle.std.proofs.lemmas.Result.{err_from_is_err_and}
use borrow.Author.Rules.{rules}
use Rattle.sheet.proofs.operations.score_in.Goals as goal

pub returns-in_err-head : goal.returns-in_err-head
returns-in_err-head c =
    let p = err_from_is_err_and c.from_residual.result c.from_residual.ensures.1 in
    rw (p.1, p.2) (score_file _ _ c.in_err-head.ensures _)

pub score_read-requires : goal.score_read-requires
score_read-requires c = let r = c.read in
    let g = room-kept c.args.file.now r.auto.groups c.requires in
    (accepted _ r.new.durations r.new.resources r.new.groups _ c.in_ok-head.ensures, search rules)
