-- What is ready before the first step of a proof: the formula that the claim is about, in the words, or a refusal, 1 to 9 or 19.
use mathlib.Core.List.{List, ◌++◌, flat_map}
use Rattle.std.specs.Prelude.{ℕ, drop}
use Rattle.scope.specs.Parsed.{Answer, answered, refusal, with, provided}
use Rattle.scope.specs.Instance.{parse}
use Rattle.scope.specs.Formula.{words, variables, hard_of, bounded_variables, bounded_hard}
use Rattle.scope.specs.Operations.{Lent, of_size, of_bound, formula_fits, check_of, check_hard_of}
use Rattle.scope.specs.declared.refusal.Reason.{Reason}
use Rattle.scope.specs.declared.refusal.Refusal.{Refusal}
use Rattle.scope.specs.declared.FormulaSize.{FormulaSize}
use Rattle.building.specs.Marked.{mark}
use Rattle.claims.specs.declared.claim.Claim.{Claim}
use Rattle.claims.specs.declared.prepare.Ready.{Ready}
pub use Rattle.lent.specs.Room.{lent, size_fits}

-- what is answered for a claim and a proof
abbrev pub asked : List ℕ → Claim → Lent → List ℕ → Answer ℕ
asked file (Claim.Bound B) l proof = check_of file B proof l
asked file Claim.AnyCost l proof = check_hard_of file proof l

-- clauses with variables up to the last, or 9 where a lent store is too short for them
abbrev pub fitting : ℕ → List (List ℕ) → Lent → Answer (ℕ × List (List ℕ))
fitting last f l = provided (formula_fits last f l) 9 0 (answered (last, f))

-- the last variable and the clauses of the formula that a claim is about, or a refusal, 1 to 9 or 19
unfoldable pub formula_for : List ℕ → Claim → Lent → Answer (ℕ × List (List ℕ))
formula_for file (Claim.Bound B) l = with (parse file) (λ i. of_bound i B (fitting (bounded_variables i B) (bounded_hard i B) l))
formula_for file Claim.AnyCost l = with (parse file) (λ i. of_size i (fitting (variables i) (hard_of i) l))

-- what is told of a formula of a size
abbrev pub sized_as : FormulaSize → Ready
sized_as z = record { used = z.words; last = z.variables }

-- what is told of it: how many words it has, and its last variable; or the refusal
abbrev pub ready_of : Answer (ℕ × List (List ℕ)) → Answer Ready
ready_of (answered f) = answered (record { used = words f.1; last = f.0 })
ready_of (refusal k v) = refusal k v

-- what it leaves in the words ws: its clauses from the start on, the last word of each marked; after a refusal they are as before
abbrev pub words_with : Answer (ℕ × List (List ℕ)) → List ℕ → List ℕ
words_with (answered f) ws = flat_map mark f.1 ++ drop (words f.1) ws
words_with (refusal k v) ws = ws

abbrev pub too_short : Refusal
too_short = record { reason = Reason.TooShort; value = 0 }
