-- What the C functions beyond document 01 say of timetables: the check without the tail, and the best model.
use Prim.Native.Nat.{ℕ, ◌≤◌}
use mathlib.Core.Path.{◌≡◌, refl, ap, ◌∙◌}
use mathlib.Core.List.{List}
use Rattle.scope.specs.Parsed.{Answer, answered, refusal, then}
use Rattle.scope.specs.Instance.{Instance, parse}
use Rattle.scope.specs.Operations.{decode_of, check_hard_of, nothing_below, best_of}
use Rattle.scope.specs.Demands.{Accepted, KeepsHard, IsBest}
use Rattle.scope.specs.declared.Objective.{Objective}
use Rattle.laws.specs.Booleans.{impossible}
use Rattle.theory.proofs.laws.Demands.{demand_best}
use Rattle.operation_calls.specs.Operations.{Stores, lent_by, zeroed, check_hard_call, best_call}
use Rattle.refusal_numbers.proofs.laws.Numbers.{zero-accepted, check-hard-numbers, best-numbers}
use Rattle.demands.proofs.laws.Calls.{Read, was_read}

module _ (file proof : List ℕ) (s : Stores) where
  pub hard_read : {n : ℕ} → check_hard_of file proof (lent_by s) ≡ answered n → Read file
  unfolding check_hard_of
  hard_read h = was_read file (parse file) _ refl h

  -- timetable_check_hard returns 0, with n in *value
  pub record RefutedHard (n : ℕ) : Type 0 where
    pub number : (check_hard_call file proof s).number ≡ 0
    pub value : (check_hard_call file proof s).value ≡ n

  pub hard_answers : {n : ℕ} → RefutedHard n → check_hard_of file proof (lent_by s) ≡ answered n
  hard_answers r =
      let a = zero-accepted (λ (steps : ℕ). (steps, zeroed s)) (zeroed s) refl (check-hard-numbers file proof (lent_by s)) r.number in
      a.eq ∙ ap answered (rw a.eq at r.value)

module _ (file m proof : List ℕ) (before : ℕ) (s : Stores) where
  best_read : {w : Objective} {n : ℕ} → best_of file m proof (lent_by s) ≡ answered (w, n) → Read file
  unfolding best_of decode_of
  best_read {w} {n} h = was_read file (parse file) _ refl (decoded (decode_of file m) refl h).1
    where
      decoded : (a : Answer (List ℕ × Objective)) → decode_of file m ≡ a
          → then {B = Objective × ℕ} a (λ d. then (nothing_below file d.1.0 proof (lent_by s)) (λ steps. answered (d.1, steps))) ≡ answered (w, n)
          → (x : List ℕ × Objective) × (decode_of file m ≡ answered x)
      decoded (answered x) e h = (x, e)
      decoded (refusal k v) e h = impossible (cc h)

  -- timetable_best returns 0, with n in *value and w in *objective
  pub record ShownBest (w n : ℕ) : Type 0 where
    pub number : (best_call file m proof before s).number ≡ 0
    pub value : (best_call file m proof before s).value ≡ n
    pub objective : (best_call file m proof before s).outputs.0 ≡ w

  best_answers : {w n : ℕ} → ShownBest w n → best_of file m proof (lent_by s) ≡ answered (record { 0 = w }, n)
  best_answers {w} {n} b =
      let a = zero-accepted (λ (x : Objective × ℕ). (x.1, (x.0.0, zeroed s))) (before, zeroed s) refl (best-numbers file m proof (lent_by s)) b.number in
      let costs : ℕ → Answer (Objective × ℕ) = λ x. answered (record { 0 = x }, a.result.1) in
      let counts : ℕ → Answer (Objective × ℕ) = λ k. answered (record { 0 = w }, k) in
      let p : a.result.0.0 ≡ w = rw a.eq at b.objective in
      let q : a.result.1 ≡ n = rw a.eq at b.value in
      a.eq ∙ ap costs p ∙ ap counts q

  -- then the model's part keeps every hard constraint at the cost w, and every timetable that does costs at least w
  pub shown_best : {w n : ℕ} → ShownBest w n → (i : Instance) → Accepted file i → IsBest file i m (record { 0 = w })
  shown_best b i a = demand_best file i m proof (lent_by s) _ _ a (best_answers b)

  pub least : {w n : ℕ} → ShownBest w n → (t : List ℕ) (u : Objective) → KeepsHard file t u → w ≤ u.0
  least b t u k =
      let a = best_read (best_answers b) in
      (shown_best b a.instance a.accepted).least t u k
