-- `operations::evaluate_read` meets its contract: 10 and 11, then 13.
use Rattle.std.proofs.lemmas.Result.{err_from_is_err_and}
use Rattle.model.proofs.laws.Answers.{evaluation_form, evaluation_judged}
use Rattle.model.proofs.operations.evaluate_read.Goals as goal

pub returns : goal.returns
returns c = evaluation_judged c.requires.0 c.form_of.ensures c.in_ok-form_of.was c.truth_of-s.ensures c.part_size-part.ensures c.judge.ensures

pub returns-in_err-form_of : goal.returns-in_err-form_of
returns-in_err-form_of c = let p = err_from_is_err_and c.from_residual.result c.from_residual.ensures.1 in rw (p.1, p.2) (evaluation_form c.requires.0 c.form_of.ensures c.in_err-form_of.was)
