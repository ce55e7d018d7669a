-- `sheet::operations::same_sheet_in` meets its contract. The stores are long enough; a file that is read is accepted or refused.
use Rattle.instance.proofs.laws.Laws.{accepted}
use Rattle.sheet.proofs.laws.Answers.{sheet_file}
use Rattle.std.proofs.lemmas.Result.{err_from_is_err_and}
use borrow.Author.Rules.{rules}
use Rattle.sheet.proofs.operations.same_sheet_in.Goals as goal

pub same_read-requires : goal.same_read-requires
same_read-requires c = let r = c.read in
    ((accepted _ r.new.durations r.new.resources r.new.groups _ c.in_ok-head.ensures).sizes, search rules)

pub returns : goal.returns
returns c = let r = c.read in
    c.same_read.ensures _ _ _ (accepted _ r.new.durations r.new.resources r.new.groups _ c.in_ok-head.ensures)

pub returns-in_err-head : goal.returns-in_err-head
returns-in_err-head c =
    let p = err_from_is_err_and c.from_residual.result c.from_residual.ensures.1 in
    rw (p.1, p.2) (sheet_file _ _ c.in_err-head.ensures _ _)
