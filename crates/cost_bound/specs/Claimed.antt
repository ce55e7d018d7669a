-- What is claimed of an evaluated model, and what a check makes of it.
use Rattle.std.specs.Prelude.{cond, ℕ, ◌-◌, leb, Result, Ok, Err}
use Rattle.scope.specs.declared.Objective.{Objective}
use Rattle.scope.specs.declared.refusal.Refusal.{Refusal}
use Rattle.evaluation.specs.Evaluated.{Evaluation}
use Rattle.claims.specs.declared.claim.Claim.{Claim}

-- above every bound that is allowed
abbrev pub no_bound : ℕ
no_bound = 18446744073709551615

abbrev pub claim_for : Evaluation → Claim
claim_for (Ok h) = Claim.Bound (cond (leb h.1.0 0) no_bound (h.1.0 - 1))
claim_for (Err f) = Claim.Bound no_bound

abbrev pub shown_for : Objective → Result ℕ Refusal → Result (Objective × ℕ) Refusal
shown_for w (Ok n) = Ok (w, n)
shown_for w (Err f) = Err f

abbrev pub judged : Evaluation → Result ℕ Refusal → Result (Objective × ℕ) Refusal
judged (Ok h) c = cond (leb h.1.0 0) (Ok (h.1, 0)) (shown_for h.1 c)
judged (Err f) c = Err f
