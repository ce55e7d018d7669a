-- `write::text_in` meets its contract: each case of `measure` is a case of the answer.
use lib.ListN.{length}
use Rattle.std.proofs.lemmas.Result.{err_from_is_err_and}
use Rattle.tables.proofs.laws.Room.{room-kept}
use Rattle.text.proofs.laws.Written.{text_fitted, text_refused}
use borrow.Author.Rules.{rules}
use Rattle.text.proofs.write.text_in.Goals as goal

pub fit_text-requires : goal.fit_text-requires
fit_text-requires c = let g = room-kept c.args.file.now c.measure.auto.groups c.requires in
    record { sized = c.in_ok-head.ensures; stores = search rules }

pub returns : goal.returns
returns c = rw (text_fitted c.in_ok-head.ensures (length c.args.out.now)) at c.fit_text.ensures

pub returns-in_err-head : goal.returns-in_err-head
returns-in_err-head c = let p = err_from_is_err_and c.from_residual.result c.from_residual.ensures.1 in
    rw (p.1, p.2) (text_refused _ c.in_err-head.ensures _ _)
