-- `filling::gather` meets its contract: a fault, or what is noted is settled.
use Rattle.solver_model.proofs.laws.Filled.{gather_fault, gather_settled}
use Rattle.solver_model.proofs.filling.gather.Goals as goal

pub returns-in-Ok : goal.returns-in-Ok
returns-in-Ok c = rw c.judge.ensures (gather_settled _ c.requires.0 _ _ _ (rw c.in-Ok.is at c.read_lines.ensures) c.settle.ensures)

pub returns-in-Err : goal.returns-in-Err
returns-in-Err c = gather_fault _ c.requires.0 _ (rw c.in-Err.is at c.read_lines.ensures)
