-- What the C functions answer for a file with windows: the same as for the file with its groups spelled out. `engine` proves what a
-- call leaves from the operation's answer.
use Prim.Native.Nat.{ℕ, ◌≤◌}
use mathlib.Core.Path.{◌≡◌}
use mathlib.Core.List.{List}
use lib.ListN.{length}
use Rattle.scope.specs.Parsed.{got}
use Rattle.scope.specs.Instance.{Instance}
use Rattle.scope.specs.SpelledOut.{spelled_out}
use Rattle.scope.specs.Demands.{Accepted, Alike}
use Rattle.scope.specs.Operations.{read_of, score_of, same_sheet_of, sizes_of, text_size_of}
use Rattle.scope.specs.declared.Infeasibility.{Infeasibility}
use Rattle.scope.specs.declared.Objective.{Objective}
use Rattle.scope.specs.declared.InstanceSize.{InstanceSize}
use Rattle.scope.specs.declared.FormulaSize.{FormulaSize}
use Rattle.spelled_out.proofs.laws.Demand.{demand_calendar}
use Rattle.calls.specs.Call.{leaves}
use Rattle.calls.specs.Outputs.{leaves_sameness}
use Rattle.operation_calls.specs.Operations.{text_call, decode_call, solver_text_call, Stores, check_call, check_hard_call, best_call}

module _
    (file : List ℕ)
    (i : Instance)
    (s : List ℕ)
    (end : ℕ)
    (a : Accepted file i)
    (e : spelled_out file ≡ got s end)
    (few : length i.groups ≤ 1024) where
  alike : Alike file s
  alike = demand_calendar.alike file i s end a e few

  -- what a call leaves of an answer, whatever stood in its outputs before
  pub read_alike : (v : ℕ) (before : InstanceSize) → leaves (read_of file) v before ≡ leaves (read_of s) v before
  read_alike v before = rw alike.read

  pub score_alike : (table : List ℕ) (v : ℕ) (before : Infeasibility × Objective)
      → leaves (score_of file table) v before ≡ leaves (score_of s table) v before
  score_alike table v before = rw (alike.score table)

  pub sheet_alike : (first second : List ℕ) → leaves_sameness (same_sheet_of file first second) ≡ leaves_sameness (same_sheet_of s first second)
  sheet_alike first second = rw (alike.sheet first second)

  pub sizes_alike : (bound v : ℕ) (before : FormulaSize) → leaves (sizes_of file bound) v before ≡ leaves (sizes_of s bound) v before
  sizes_alike bound v before = rw (alike.sizes bound)

  pub text_size_alike : (v before : ℕ) → leaves (text_size_of file) v before ≡ leaves (text_size_of s) v before
  text_size_alike v before = rw alike.text-size

  pub text_alike : (out : List ℕ) → text_call file out ≡ text_call s out
  text_alike out = rw (alike.text (length out))

  pub decode_alike : (model : List ℕ) (objective : ℕ) → decode_call file model objective ≡ decode_call s model objective
  decode_alike model objective = rw (alike.decode model)

  pub solver_text_alike : (output model store : List ℕ) (objective : ℕ)
      → solver_text_call file output model store objective ≡ solver_text_call s output model store objective
  solver_text_alike output model store objective = rw (alike.solver-text output (length model) (length store))

  pub check_alike : (bound : ℕ) (proof : List ℕ) (stores : Stores) → check_call file bound proof stores ≡ check_call s bound proof stores
  check_alike bound proof stores = rw (alike.check bound proof _)

  pub check_hard_alike : (proof : List ℕ) (stores : Stores) → check_hard_call file proof stores ≡ check_hard_call s proof stores
  check_hard_alike proof stores = rw (alike.check-hard proof _)

  pub best_alike : (model proof : List ℕ) (objective : ℕ) (stores : Stores)
      → best_call file model proof objective stores ≡ best_call s model proof objective stores
  best_alike model proof objective stores = rw (alike.best model proof _)
