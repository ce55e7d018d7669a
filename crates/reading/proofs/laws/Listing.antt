-- Laws of the numbers that stand up to a 0 in the bytes of a proof.
use mathlib.Core.Path.{◌≡◌, refl, sym, ap, ◌∙◌}
use mathlib.Core.Bool.{Bool, true, false}
use mathlib.Core.List.{List, [], ◌∷◌}
use Prim.Native.Nat.{ℕ, zero, suc}
use native.Mathlib.Omega.{arith}
use lib.Dec.{ltb}
use lib.ListN.{length, drop}
use borrow.Author.Tests.{ltb-true, ltb-false}
use Rattle.scope.specs.Parsed.{got, refused}
use Rattle.scope.specs.Number.{number}
use Rattle.theory.proofs.laws.StepTokens as steps
use Rattle.theory.proofs.laws.StepTokens.{Tokens, num, tokens, up_to0, numbers, before}
use Rattle.laws.specs.Booleans.{impossible}
use Rattle.theory.proofs.laws.Tokens.{tokens-got, tokens-bad, tokens-stop}
use Rattle.reading.proofs.laws.Reading.{tokens_at, numbers_at, Listed}

numbers_more : (n : ℕ) (ts : Tokens) → (n ≡ 0 → ⊥) → numbers (num n ts) ≡ before n (numbers ts)
unfolding numbers
numbers_more zero ts h = absurd (h refl)
numbers_more (suc n) ts h = refl

numbers-none : (n : ℕ) (ts : Tokens) → n ≡ 0 → numbers (num n ts) ≡ up_to0 [] ts
unfolding numbers
numbers-none zero ts h = refl
numbers-none (suc n) ts h = absurd (omega arith)

-- by the number at an offset: none, a 0, another
pub list-cut : (s : List ℕ) (at k o : ℕ) → number s at ≡ refused k o → numbers_at s at ≡ steps.cut
unfolding numbers
list-cut s at k o e = go (ltb at (length s)) refl
  where
    go : (t : Bool) → ltb at (length s) ≡ t → numbers (tokens (drop at s)) ≡ steps.cut
    go true t = ap numbers (tokens-bad s at k o e (ltb-true at (length s) t))
    go false t = ap numbers (tokens-stop s at (ltb-false at (length s) t))

module _ (s : List ℕ) (at n next : ℕ) (e : number s at ≡ got n next) where
  pub list_more : (n ≡ 0 → ⊥) → numbers_at s at ≡ before n (numbers_at s next)
  list_more h = ap numbers (tokens-got s at n next e).first ∙ numbers_more n (tokens_at s next) h

  pub list_end : n ≡ 0 → Listed s at [] next
  list_end h =
      let t = tokens-got s at n next e in
      record { listed = ap numbers t.first ∙ numbers-none n (tokens_at s next) h; ahead = t.forward; inside = t.inside }

  pub listed_more : (n ≡ 0 → ⊥) → {ns : List ℕ} {end : ℕ} → Listed s next ns end → Listed s at (n ∷ ns) end
  listed_more h l =
      let t = tokens-got s at n next e in
      record { listed = list_more h ∙ ap (before n) l.listed; ahead = omega (arith, t.forward, l.ahead); inside = l.inside }

-- what a first number and those after it are
pub consed : {n : ℕ} (x : steps.Numbers) {ls : List ℕ} {ts : Tokens} → before n x ≡ up_to0 ls ts
    → (ns : List ℕ) × (x ≡ up_to0 ns ts) × (ls ≡ n ∷ ns)
consed (up_to0 ns us) e = (ns, (cc), (cc))
consed steps.cut e = impossible (cc)

-- the ids that are left where an id was read before next
pub data Ahead (s : List ℕ) (next id : ℕ) (after : Tokens) : List ℕ → Type 0 where
  last_id : id ≡ 0 → tokens_at s next ≡ after → Ahead s next id after []
  more_ids : (id ≡ 0 → ⊥) → (left : List ℕ) → numbers_at s next ≡ up_to0 left after → Ahead s next id after (id ∷ left)

pub ids-ahead : (s : List ℕ) (at id next : ℕ) (left : List ℕ) (after : Tokens) → number s at ≡ got id next
    → numbers_at s at ≡ up_to0 left after
    → Ahead s next id after left
ids-ahead s at zero next left after e h =
    let l = (list_end s at zero next e refl).listed in
    let z : [] ≡ left = cc in
    let t : tokens_at s next ≡ after = cc in
    rw (← z) (last_id refl t)
ids-ahead s at (suc id) next left after e h =
    let c = consed (numbers_at s next) (sym (list_more s at (suc id) next e (λ z. omega arith)) ∙ h) in
    rw c.2 (more_ids (λ z. omega arith) c.0 c.1)
