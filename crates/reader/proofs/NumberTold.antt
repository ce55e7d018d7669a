-- What a call of the number reader tells.
use Rattle.std.proofs.Common.{◌≡◌, ℕ, List, Result, Ok, Err, sym, ap, ◌∙◌}
use Rattle.scope.specs.Parsed.{got, refused}
use Rattle.scope.specs.Number.{number}
use Rattle.scope.specs.Reason.{number_of}
use Rattle.scope.specs.Answers.{said}
use Rattle.scope.specs.declared.refusal.Refusal.{Refusal}

pub value-at : (s : List ℕ) (at : ℕ) (x : Result (ℕ × ℕ) Refusal) {v next : ℕ} → said x ≡ number s at → x ≡ Ok (v, next)
    → number s at ≡ got v next
value-at s at x e h = sym e ∙ ap said h

pub no-value-at : (s : List ℕ) (at : ℕ) (x : Result (ℕ × ℕ) Refusal) {f : Refusal} → said x ≡ number s at → x ≡ Err f
    → number s at ≡ refused (number_of f.reason) f.value
no-value-at s at x e h = sym e ∙ ap said h
