-- An evaluation, the claim that is made of it and what a check makes of that claim together are what the operation is to answer.
use mathlib.Core.Path.{◌≡◌, refl, sym, ap, ◌∙◌}
use mathlib.Core.Bool.{false}
use mathlib.Core.List.{List}
use Prim.Native.Nat.{ℕ, zero, suc, ◌-◌}
use native.Mathlib.Omega.{arith}
use lib.Dec.{leb}
use borrow.Author.Tests.{lt-leb}
use Rattle.scope.specs.Parsed.{Answer, answered, then}
use Rattle.scope.specs.Operations.{Lent, nothing_below, best_of}
use Rattle.scope.specs.Answers.{means}
use Rattle.scope.specs.declared.Objective.{Objective}
use Rattle.scope.specs.declared.refusal.Refusal.{Refusal}
use Rattle.std.specs.Prelude.{Result, Ok, Err}
use Rattle.evaluation.specs.Evaluated.{Evaluation}
use Rattle.model.specs.Answers.{EvaluatedAs}
use Rattle.claims.specs.declared.claim.Claim.{Claim}
use Rattle.claims.specs.Prepared.{asked}
use Rattle.cost_bound.specs.Claimed.{claim_for, shown_for, judged}

-- the cost beside the number of steps
abbrev beside : Objective → Answer ℕ → Answer (Objective × ℕ)
beside w a = then a (λ steps. answered (w, steps))

shown-means : (w : Objective) (c : Result ℕ Refusal) → means (shown_for w c) ≡ beside w (means c)
shown-means w (Ok n) = refl
shown-means w (Err f) = refl

-- a cost that is decoded, at 0 and above it
module _ (file : List ℕ) (proof : List ℕ) (l : Lent) (c : Result ℕ Refusal) where
  cost_judged : (n : ℕ) (v : ℕ) → means c ≡ asked file (claim_for (Ok (n, record { 0 = v }))) l proof
      → means (judged (Ok (n, record { 0 = v })) c) ≡ beside (record { 0 = v }) (nothing_below file v proof l)
  cost_judged n zero e = refl
  cost_judged n (suc B) e =
      let f : leb (suc B) 0 ≡ false = lt-leb (suc B) 0 (omega arith) in
      let p : suc B - 1 ≡ B = omega arith in
      rw f (shown-means (record { 0 = suc B }) c ∙ ap (beside (record { 0 = suc B })) (rw (f, p) at e))

  -- the evaluation and the check together answer what they are to
  pub best_judged : (m : List ℕ) (e : Evaluation) → EvaluatedAs file m e → means c ≡ asked file (claim_for e) l proof
      → means (judged e c) ≡ best_of file m proof l
  unfolding best_of
  best_judged m (Ok h) a k = cost_judged h.0 h.1.0 k ∙ rw (sym a.answer)
  best_judged m (Err f) a k = rw (sym a.answer)

  -- step by step
  pub best_answered : {m : List ℕ} {e : Evaluation} {d : Claim} {r : Result (Objective × ℕ) Refusal} → EvaluatedAs file m e → d ≡ claim_for e
      → means c ≡ asked file d l proof → r ≡ judged e c → means r ≡ best_of file m proof l
  best_answered {m} {e} a q k j = rw j (best_judged m e a (rw q at k))
