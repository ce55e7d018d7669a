-- The steps of a bound proof: how they stand in bytes, when they are well formed, and when a clause follows by its hints.
use Rattle.std.specs.Prelude.{Bool, true, not, cond, ◌&&◌, List, [], ◌∷◌, map, ℕ, zero, suc, ◌/◌, length, leb, ltb, eqb}
use Rattle.std.proofs.Math.Option.{Option, none, some}
use Rattle.scope.specs.Parsed.{Parsed, got, refused, and_then, cons}
use Rattle.scope.specs.Number.{number}
use Rattle.scope.specs.Kinds.{member, outside}
use Rattle.scope.specs.Cnf.{opp}

-- a step: a clause with its id and hints, or ids to delete
pub data Step : Type 0 where
  add : (id : ℕ) (lits hints : List ℕ) → Step
  delete : (ids : List ℕ) → Step

-- the numbers from an offset up to a 0; k bounds their number
unfoldable pub numbers : ℕ → List ℕ → ℕ → Parsed (List ℕ)
numbers zero s at = refused 1 at
numbers (suc k) s at = and_then (number s at) (λ v next. cond (eqb v 0) (got [] next) (cons v (numbers k s next)))

-- each number takes a byte at least, so there are no more numbers than bytes
abbrev pub up_to0 : List ℕ → ℕ → Parsed (List ℕ)
up_to0 s at = numbers (length s) s at

abbrev pub add_at : List ℕ → ℕ → Parsed Step
add_at s at =
    and_then (number s at) (λ id i. and_then (up_to0 s i) (λ ls j. and_then (up_to0 s j) (λ hs end. got (add id ls hs) end)))

abbrev pub delete_at : List ℕ → ℕ → Parsed Step
delete_at s at = and_then (up_to0 s at) (λ ids end. got (delete ids) end)

-- "byte 97 (a), an id .., literals, 0, hint ids, 0; or byte 100 (d), ids to delete, 0"
unfoldable pub step_at : List ℕ → ℕ → Parsed Step
step_at s at = and_then (number s at) (λ k i. cond (eqb k 97) (add_at s i) (cond (eqb k 100) (delete_at s i) (refused 1 at)))

-- "(1 is no literal); no variable twice, none above the formula's last"
unfoldable pub literals_ok : ℕ → List ℕ → Bool
literals_ok last [] = true
literals_ok last (l ∷ ls) =
    leb 2 l && leb (l / 2) last && not (member (l / 2) (map (λ k. k / 2) ls)) && literals_ok last ls

-- not misformed by 14: an id above every earlier id, and good literals
unfoldable pub well_formed : ℕ → ℕ → Step → Bool
well_formed last highest (add id ls hs) = ltb highest id && literals_ok last ls
well_formed last highest (delete ids) = true

-- the live clauses by id
abbrev pub Live : Type 0
Live = ℕ → Option (List ℕ)

-- a value at each number, with another at one of them
abbrev pub put {ℓ} : {A : Type ℓ} → (ℕ → A) → ℕ → A → ℕ → A
put f i x j = cond (eqb j i) x (f j)

-- f of a value that is there, else b
abbrev pub either : {A B : Type 0} → Option A → B → (A → B) → B
either none b f = b
either (some a) b f = f a

-- what the hints of a step show: the clause follows; a hint is not live (15); a hint, or their ending, breaks the rule (16)
pub data Shown : Type 0 where
  follows : Shown
  not_live : Shown
  breaks : Shown

-- By the literals of a hint that are not false, and the hints after it, where the literals φ are set false; to set a literal
-- true is to set its opposite false
abbrev pub by_rest : List ℕ → List ℕ → List ℕ → (List ℕ → Shown) → Shown
by_rest φ [] [] go = follows
by_rest φ [] (h ∷ hs) go = breaks
by_rest φ (l ∷ []) hs go = cond (member (opp l) φ) breaks (go (opp l ∷ φ))
by_rest φ (l ∷ k ∷ ls) hs go = breaks

-- "each hint in turn is a live clause with exactly one open literal, no true one, which is then set true; the last hint, and
-- no earlier one, has all literals false"; outside φ c are the literals of c that are not false
unfoldable pub hints_show : Live → List ℕ → List ℕ → Shown
hints_show L φ [] = breaks
hints_show L φ (h ∷ hs) = either (L h) not_live (λ c. by_rest φ (outside φ c) hs (λ φ'. hints_show L φ' hs))

-- "A step d makes each of its ids dead in turn": none where one is not live
unfoldable pub deleted : Live → List ℕ → Option Live
deleted L [] = some L
deleted L (d ∷ ds) = either (L d) none (λ c. deleted (put L d none) ds)
