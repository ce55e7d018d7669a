-- The outputs of a call as the answer's own structs, and what a comparison leaves.
use Rattle.std.specs.Prelude.{Bool, cond, ℕ}
use Rattle.scope.specs.Parsed.{Answer}
use Rattle.scope.specs.declared.InstanceSize.{InstanceSize}
use Rattle.scope.specs.declared.FormulaSize.{FormulaSize}
use Rattle.scope.specs.declared.Infeasibility.{Infeasibility}
use Rattle.scope.specs.declared.Objective.{Objective}
use Rattle.calls.specs.Call.{Call, called}

abbrev pub instance_size : (times events resources groups constraints : ℕ) → InstanceSize
instance_size times events resources groups constraints =
    record { times = times; events = events; resources = resources; groups = groups; constraints = constraints }

abbrev pub formula_size : (variables clauses words : ℕ) → FormulaSize
formula_size variables clauses words = record { variables = variables; clauses = clauses; words = words }

abbrev pub amounts : (infeasibility objective : ℕ) → Infeasibility × Objective
amounts infeasibility objective = (record { 0 = infeasibility }, record { 0 = objective })

-- *value is 1 if they are the same sheet, and 0 if not
abbrev pub leaves_sameness : Answer Bool → Call Unit
leaves_sameness a = called a (λ same. (cond same 1 0, tt)) tt
