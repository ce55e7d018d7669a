-- What is noted in the store and what the definitions gather: the same literals, or the same fault.
use Prim.Native.Nat.{ℕ, ◌/◌, ◌≤◌}
use mathlib.Core.Path.{◌≡◌, refl}
use mathlib.Core.Bool.{Bool, true, false}
use mathlib.Core.List.{List, [], ◌∷◌}
use Rattle.laws.specs.Booleans.{impossible}
use Rattle.scope.specs.Parsed.{Answer, answered, refusal}
use Rattle.scope.specs.SolverText.{Token, word, fault, Word, literal, closing, malformed, word_of, cons_literal, by_word, gathered}
use Rattle.solver_words.proofs.laws.Literals.{word-range}
use Rattle.solver_lines.specs.Noting.{Left, left, stopped, noted_literal, noted_word, noting}

-- literals of variables 1 to n
pub data Ranged (n : ℕ) : List ℕ → Type 0 where
  nothing : Ranged n []
  more : {l : ℕ} {ls : List ℕ} → 1 ≤ l / 2 → l / 2 ≤ n → Ranged n ls → Ranged n (l ∷ ls)

-- some literals noted, one after the other
unfoldable pub noted_all : List ℕ → List ℕ → List ℕ
noted_all st [] = st
noted_all st (l ∷ ls) = noted_all (noted_literal st l) ls

-- what is gathered and what is left, from a store
pub data Agrees (n : ℕ) (st : List ℕ) : Answer (List ℕ) → Left → Type 0 where
  both : (ls st' : List ℕ) (c : Bool) → Ranged n ls → st' ≡ noted_all st ls → Agrees n st (answered ls) (left st' c)
  neither : (at : ℕ) → Agrees n st (refusal 20 at) (stopped at)

-- a literal first
agrees-literal : {n : ℕ} {st : List ℕ} (l : ℕ) → (1 ≤ l / 2) × (l / 2 ≤ n) → {a : Answer (List ℕ)} {x : Left} → Agrees n (noted_literal st l) a x
    → Agrees n st (cons_literal l a) x
unfolding noted_all
agrees-literal l r (both ls st' c h e) = both (l ∷ ls) st' c (more r.0 r.1 h) e
agrees-literal l r (neither at) = neither at

pub agree : (n : ℕ) (st : List ℕ) (closed : Bool) (ts : List Token) → Agrees n st (gathered n closed ts) (noting n st closed ts)
unfolding gathered noting noted_all
agree n st closed [] = both [] st closed nothing refl
agree n st closed (fault at ∷ ts) = neither at
agree n st true (word p ∷ ts) = neither p.at
agree n st false (word p ∷ ts) = go (word_of n p.bytes) refl (λ st' c. agree n st' c ts)
  where
    go : (w : Word) → word_of n p.bytes ≡ w → ((st' : List ℕ) (c : Bool) → Agrees n st' (gathered n c ts) (noting n st' c ts))
        → Agrees n st (by_word w p.at (gathered n false ts) (gathered n true ts)) (noted_word w p.at st (λ st' c. noting n st' c ts))
    go (literal l) e ih = agrees-literal l (word-range n p.bytes e) (ih (noted_literal st l) false)
    go closing e ih = ih st true
    go malformed e ih = neither p.at

-- a fault is the same fault
pub agrees-fault : {n : ℕ} {st : List ℕ} {a : Answer (List ℕ)} {x : Left} {at : ℕ} → Agrees n st a x → stopped at ≡ x → a ≡ refusal 20 at
agrees-fault (both ls st' c h e) q = impossible (cc)
agrees-fault (neither v) q = cc

-- the literals of a store that is left
pub record Noted (n : ℕ) (st : List ℕ) (a : Answer (List ℕ)) (st' : List ℕ) : Type 0 where
  pub literals : List ℕ
  pub ranged : Ranged n literals
  pub gathers : a ≡ answered literals
  pub notes : st' ≡ noted_all st literals

pub agrees-noted : {n : ℕ} {st st' : List ℕ} {a : Answer (List ℕ)} {x : Left} {c : Bool} → Agrees n st a x → left st' c ≡ x → Noted n st a st'
agrees-noted (both ls st'' c h e) q = record { literals = ls; ranged = h; gathers = refl; notes = cc }
agrees-noted (neither v) q = impossible (cc)
