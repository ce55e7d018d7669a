-- Demand 3 of the operation: what each of its answers says of timetables, for every file, claim, proof and lent stores.
use mathlib.Core.Path.{◌≡◌, sym, ap, ◌∙◌}
use mathlib.Core.Logic.{◌↔◌}
use mathlib.Core.List.{List}
use Prim.Native.Nat.{ℕ, ◌-◌, ◌≤◌, ◌<◌}
use Rattle.std.specs.Prelude.{Result, Ok, Err}
use Rattle.scope.specs.Parsed.{answered}
use Rattle.scope.specs.Instance.{Instance}
use Rattle.scope.specs.Operations.{decode_of, Lent}
use Rattle.scope.specs.Refutation.{NoTimetable, NoneAtAll}
use Rattle.scope.specs.Demands.{Accepted, KeepsHard}
use Rattle.scope.specs.Answers.{means, decode_means}
use Rattle.scope.specs.declared.Objective.{Objective}
use Rattle.scope.specs.declared.refusal.Refusal.{Refusal}
use Rattle.laws.specs.Booleans.{impossible}
use Rattle.theory.proofs.laws.Demands.{demand3, demand_hard}
use Rattle.claims.specs.declared.claim.Claim.{Claim}
use Rattle.claims.specs.Prepared.{asked}

-- r is what `check` answers: its contract
pub record Checks (file : List ℕ) (c : Claim) (proof : List ℕ) (l : Lent) (r : Result ℕ Refusal) : Type 0 where
  pub answer : means r ≡ asked file c l proof

-- an answer means "no timetable" if it is that answer
means-no-timetable : (r : Result ℕ Refusal) (n : ℕ) → means r ≡ answered n → r ≡ Ok n
means-no-timetable (Ok k) n e = let q : k ≡ n = cc in rw q
means-no-timetable (Err f) n e = impossible (cc)

module _ (file : List ℕ) (i : Instance) (proof : List ℕ) (l : Lent) (r : Result ℕ Refusal) (a : Accepted file i) where
  module _ (B : ℕ) (c : Checks file (Claim.Bound B) proof l r) where
    -- "the checker never answers 'no timetable' .. while some timetable keeps every hard constraint at cost B or less"
    pub never : (n : ℕ) → r ≡ Ok n → (t : List ℕ) (cost : Objective) → KeepsHard file t cost → B < cost.0
    never n e = demand3.never file i B proof l n a (sym c.answer ∙ ap means e)

    -- "that answer comes exactly when all of this is so"
    pub exactly : (n : ℕ) → (r ≡ Ok n) ↔ NoTimetable i B proof l n
    exactly n =
        let d = demand3.exactly file i B proof l n a in
        (λ e. d.0 (sym c.answer ∙ ap means e), λ k. means-no-timetable r n (c.answer ∙ d.1 k))

  -- without the tail: never while some timetable keeps every hard constraint, whatever it costs; and exactly when
  module _ (c : Checks file Claim.AnyCost proof l r) where
    pub hard_never : (n : ℕ) → r ≡ Ok n → (t : List ℕ) (cost : Objective) → KeepsHard file t cost → ⊥
    hard_never n e = demand_hard.never file i proof l n a (sym c.answer ∙ ap means e)

    pub hard_exactly : (n : ℕ) → (r ≡ Ok n) ↔ NoneAtAll i proof l n
    hard_exactly n =
        let d = demand_hard.exactly file i proof l n a in
        (λ e. d.0 (sym c.answer ∙ ap means e), λ k. means-no-timetable r n (c.answer ∙ d.1 k))

-- "if a decoded model costs w, from 1 to 4,096, and 'no timetable' is answered for the same instance at bound w − 1, every
-- other timetable that keeps its hard constraints costs at least w"
pub best : (file : List ℕ) (i : Instance) (m part : List ℕ) (w : Objective) (proof : List ℕ) (l : Lent) (r : Result ℕ Refusal) (n : ℕ)
    → Accepted file i → decode_means part (Ok w) ≡ decode_of file m → 1 ≤ w.0 → w.0 ≤ 4096
    → Checks file (Claim.Bound (w.0 - 1)) proof l r → r ≡ Ok n → (t : List ℕ) (cost : Objective)
    → KeepsHard file t cost → w.0 ≤ cost.0
best file i m part w proof l r n a d low high c e =
    demand3.best file i m part w proof l n a (sym d) low high (sym c.answer ∙ ap means e)
