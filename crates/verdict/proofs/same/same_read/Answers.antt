-- `verdict::same::same_read` meets its contract. The verdict of the first, of the second, then their Y bytes.
use Rattle.std.proofs.lemmas.Result.{err_from_is_err_and}
use Rattle.verdict.proofs.laws.Answers.{timetables-halve, sheet_first, sheet_second, sheet_answered}
use Rattle.verdict.proofs.same.same_read.Goals as goal

pub returns-in_err-verdict_of : goal.returns-in_err-verdict_of
returns-in_err-verdict_of c =
    let p = err_from_is_err_and c.from_residual.result c.from_residual.ensures.1 in
    λ s te tg a. rw (p.1, p.2) (sheet_first a _ c.verdict_of.ensures c.in_err-verdict_of.was)

pub returns-in_err-verdict_of-2 : goal.returns-in_err-verdict_of-2
returns-in_err-verdict_of-2 c =
    let r = c.from_residual-in_err-verdict_of-2 in
    let p = err_from_is_err_and r.result r.ensures.1 in
    λ s te tg a. rw (p.1, p.2) (sheet_second a _ c.verdict_of.ensures c.in_ok-verdict_of.was c.verdict_of-2.ensures c.in_err-verdict_of-2.was)

pub slice_bounds-eq-end-2 : goal.slice_bounds-eq-end-2
slice_bounds-eq-end-2 c = (timetables-halve c.verdict_of.ensures c.in_ok-verdict_of.was c.verdict_of-2.ensures c.in_ok-verdict_of-2.was).second

pub returns : goal.returns
returns c = λ s te tg a. sheet_answered a _ c.verdict_of.ensures c.in_ok-verdict_of.was c.verdict_of-2.ensures c.in_ok-verdict_of-2.was c.eq.ensures
