-- Demand 1 of the C functions: "each byte lent to us .. holds after the call what document 01 says it holds; no input makes the
-- engine trap or run on, and each refusal .. carries its number and place, so the caller needs to have tested nothing".
--
-- Each function meets its contract, which asks nothing of the caller and is one equation: the number returned, what stands at
-- *value, every other output and every store after the call are what operation_calls/specs/Operations says of the operation's answer by
-- the definitions, for every input and whatever stood in outputs and stores. Inputs are lent as `&` and keep every byte.
use Rattle.engine.proofs.timetable_read.Statement as read
use Rattle.engine.proofs.timetable_read.Met as read-met
use Rattle.engine.proofs.timetable_sizes.Statement as sizes
use Rattle.engine.proofs.timetable_sizes.Met as sizes-met
use Rattle.engine.proofs.timetable_score.Statement as score
use Rattle.engine.proofs.timetable_score.Met as score-met
use Rattle.engine.proofs.timetable_same_sheet.Statement as same-sheet
use Rattle.engine.proofs.timetable_same_sheet.Met as same-sheet-met
use Rattle.engine.proofs.timetable_text_size.Statement as text-size
use Rattle.engine.proofs.timetable_text_size.Met as text-size-met
use Rattle.engine.proofs.timetable_text.Statement as text
use Rattle.engine.proofs.timetable_text.Met as text-met
use Rattle.engine.proofs.timetable_decode.Statement as decode
use Rattle.engine.proofs.timetable_decode.Met as decode-met
use Rattle.engine.proofs.solver.timetable_solver_text.Statement as solver-text
use Rattle.engine.proofs.solver.timetable_solver_text.Met as solver-text-met
use Rattle.engine.proofs.timetable_check.Statement as check
use Rattle.engine.proofs.timetable_check.Met as check-met
use Rattle.engine.proofs.check_hard.timetable_check_hard.Statement as check-hard
use Rattle.engine.proofs.check_hard.timetable_check_hard.Met as check-hard-met
use Rattle.engine.proofs.best_model.timetable_best.Statement as best
use Rattle.engine.proofs.best_model.timetable_best.Met as best-met
use Rattle.engine.proofs.idle.timetable_idle_step.Statement as idle-step
use Rattle.engine.proofs.idle.timetable_idle_step.Met as idle-step-met

-- the twelve equations, one for each function
pub record Demand1 (M : Type 1) : Type 2 where
  pub timetable_read : read.statement M
  pub timetable_sizes : sizes.statement M
  pub timetable_score : score.statement M
  pub timetable_same_sheet : same-sheet.statement M
  pub timetable_text_size : text-size.statement M
  pub timetable_text : text.statement M
  pub timetable_decode : decode.statement M
  pub timetable-solver-text : solver-text.statement M
  pub timetable_check : check.statement M
  pub timetable-check-hard : check-hard.statement M
  pub timetable-best : best.statement M
  pub timetable-idle-step : idle-step.statement M

pub demand1 : {M : Type 1} → Demand1 M
demand1 =
    record {
      timetable_read = read-met.met;
      timetable_sizes = sizes-met.met;
      timetable_score = score-met.met;
      timetable_same_sheet = same-sheet-met.met;
      timetable_text_size = text-size-met.met;
      timetable_text = text-met.met;
      timetable_decode = decode-met.met;
      timetable-solver-text = solver-text-met.met;
      timetable_check = check-met.met;
      timetable-check-hard = check-hard-met.met;
      timetable-best = best-met.met;
      timetable-idle-step = idle-step-met.met;
    }
