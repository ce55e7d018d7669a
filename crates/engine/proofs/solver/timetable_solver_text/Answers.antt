-- `solver::timetable_solver_text` meets its contract: the operation, and what its answer leaves.
use Rattle.engine.proofs.laws.SolverText.{solver_text_told}
use Rattle.engine.proofs.solver.timetable_solver_text.Goals as goal

pub returns : goal.returns
returns c = solver_text_told _ _ _ _ _ c.solver_text-answer.ensures c.leave_evaluation.ensures
