-- Demand 3's last sentence of the operation: what its answer says of timetables.
use mathlib.Core.Path.{◌≡◌, sym, ap, ◌∙◌}
use mathlib.Core.List.{List}
use Prim.Native.Nat.{ℕ}
use Rattle.scope.specs.Instance.{Instance}
use Rattle.scope.specs.Operations.{Lent, best_of}
use Rattle.scope.specs.Demands.{Accepted, IsBest}
use Rattle.scope.specs.Answers.{means}
use Rattle.scope.specs.declared.Objective.{Objective}
use Rattle.scope.specs.declared.refusal.Refusal.{Refusal}
use Rattle.std.specs.Prelude.{Result, Ok}
use Rattle.theory.proofs.laws.Demands.{demand_best}

-- where `best` answers a cost w, the model's part keeps every hard constraint at w, and every timetable that does costs at least w
pub best-of-all : (file : List ℕ) (i : Instance) (m proof : List ℕ) (l : Lent) (r : Result (Objective × ℕ) Refusal) → Accepted file i
    → means r ≡ best_of file m proof l → (w : Objective) (n : ℕ) → r ≡ Ok (w, n) → IsBest file i m w
best-of-all file i m proof l r a c w n e = demand_best file i m proof l w n a (sym c ∙ ap means e)
