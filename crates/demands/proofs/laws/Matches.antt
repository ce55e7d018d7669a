-- Demand 2 of timetable_decode.
use Prim.Native.Nat.{ℕ, ◌≤◌}
use mathlib.Core.List.{List}
use Rattle.scope.specs.Instance.{Instance}
use Rattle.scope.specs.Formula.{variables, most_variables}
use Rattle.scope.specs.Demands.{Accepted}
use Rattle.demands.proofs.laws.Calls.{DecodeMatches, zero-exactly, keeps, one_model}

pub demand2_of_decode : (file : List ℕ) (i : Instance) → Accepted file i → variables i ≤ most_variables → DecodeMatches file i
demand2_of_decode file i a l =
    record {
      models = zero-exactly file i a l;
      timetables = λ before m k w d. keeps file m before d;
      one_each = λ before t cost k. one_model file i a l t cost k before;
    }
