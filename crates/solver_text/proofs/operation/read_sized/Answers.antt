-- `operation::read_sized` meets its contract: what is filled into the store is evaluated there.
use Rattle.std.proofs.lemmas.Result.{err_from_is_err_and}
use Rattle.solver_text.proofs.laws.Read.{front_fits, read_given, read_evaluated}
use Rattle.solver_text.proofs.operation.read_sized.Goals as goal

pub slice_bounds-model-end : goal.slice_bounds-model-end
slice_bounds-model-end c = front_fits c.in_ok-fill.ensures c.fill.auto.store

pub returns : goal.returns
returns c = read_evaluated c.requires.0 c.in_ok-fill.ensures c.fill.auto.store c.evaluate_read.ensures

pub returns-in_err-fill : goal.returns-in_err-fill
returns-in_err-fill c =
    let p = err_from_is_err_and c.from_residual.result c.from_residual.ensures.1 in
    rw (p.1, p.2) (read_given c.requires.0 c.in_err-fill.ensures)
