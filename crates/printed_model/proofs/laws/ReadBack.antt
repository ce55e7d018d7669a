-- The literals of a model give each variable once, and each byte by the literal of its variable.
use mathlib.Core.Path.{◌≡◌, refl, sym, ap, ap₂, subst, ◌∙◌}
use mathlib.Core.Bool.{Bool, true, false, cond, or-false}
use mathlib.Core.List.{List, [], ◌∷◌, map}
use mathlib.Core.Logic.{⊎_elim}
use mathlib.Core.Option.{none}
use Prim.Native.Nat.{ℕ, zero, suc, ◌+◌, ◌*◌, ◌/◌, ◌≤◌, ◌<◌}
use native.Mathlib.Nat.{add-zero, eq-or-lt_of_le}
use native.Mathlib.Omega.{arith}
use lib.Dec.{eqb}
use lib.ListN.{length, get_or}
use borrow.Author.Tests.{eqb-true, eqb-false, eq-eqb, ne_eqb}
use Rattle.laws.specs.Lists.{All}
use Rattle.scope.specs.Cnf.{pos, neg}
use Rattle.scope.specs.Kinds.{from, member}
use Rattle.scope.specs.Formula.{most_variables}
use Rattle.scope.specs.SolverText.{times_given, not_once, model_given, literals_from}
use Rattle.printed_model.proofs.laws.Numerals.{Within}

-- the literal of variable v for a byte, by whether that is 1
abbrev given : ℕ → Bool → ℕ
given v t = cond t (pos v) (neg v)

given-variable : (v : ℕ) (t : Bool) → given v t / 2 ≡ v
given-variable v true = omega arith
given-variable v false = omega arith

pub literals-within : (n v : ℕ) (m : List ℕ) → 1 ≤ v → v + length m ≤ suc n → All (Within n) (literals_from v m)
unfolding literals_from
literals-within n v [] l h = tt
literals-within n v (b ∷ bs) l h =
    let e = given-variable v (eqb b 1) in
    ((omega arith, omega arith), literals-within n (suc v) bs (omega arith) (omega arith))

-- how often a variable is given
given-before : (w v : ℕ) (m : List ℕ) → w < v → times_given w (literals_from v m) ≡ 0
unfolding times_given literals_from
given-before w v [] l = refl
given-before w v (b ∷ bs) l =
    rw (given-variable v (eqb b 1), ne_eqb v w (λ e. omega arith), given-before w (suc v) bs (omega arith))

pub given_once : (w v : ℕ) (m : List ℕ) → v ≤ w → w < v + length m → times_given w (literals_from v m) ≡ 1
unfolding times_given literals_from
given_once w v [] l h = let f : ⊥ = omega arith in absurd f
given_once w v (b ∷ bs) l h =
    rw (given-variable v (eqb b 1))
    (⊎_elim
    (λ (e : v ≡ w). rw (eq-eqb v w e, given-before w (suc v) bs (omega arith)))
    (λ (k : v < w). rw (ne_eqb v w (λ e. omega arith), given_once w (suc v) bs k (omega arith)))
    (eq-or-lt_of_le l))

pub none-not-once : (ls vs : List ℕ) → All (λ v. times_given v ls ≡ 1) vs → not_once ls vs ≡ none
unfolding not_once
none-not-once ls [] h = refl
none-not-once ls (v ∷ vs) h = rw (h.0, none-not-once ls vs h.1)

-- whether a variable's literal without a minus is given: where its byte is 1
eqb-given : (w v : ℕ) (t : Bool) → (w ≡ v → ⊥) → eqb (pos w) (given v t) ≡ false
eqb-given w v true h = ne_eqb (2 * w) (2 * v) (λ e. h (omega arith))
eqb-given w v false h = ne_eqb (2 * w) (2 * v + 1) (λ e. omega arith)

eqb-given-same : (v : ℕ) (t : Bool) → eqb (pos v) (given v t) ≡ t
eqb-given-same v true = eq-eqb (2 * v) (2 * v) refl
eqb-given-same v false = ne_eqb (2 * v) (2 * v + 1) (λ e. omega arith)

member-before : (w v : ℕ) (m : List ℕ) → w < v → member (pos w) (literals_from v m) ≡ false
unfolding member literals_from
member-before w v [] l = refl
member-before w v (b ∷ bs) l = rw (eqb-given w v (eqb b 1) (λ e. omega arith), member-before w (suc v) bs (omega arith))

member-at : (v k : ℕ) (m : List ℕ) → member (pos (v + k)) (literals_from v m) ≡ eqb (get_or m k 0) 1
unfolding member literals_from
member-at v k [] = refl
member-at v zero (b ∷ bs) =
    subst (λ (u : ℕ). member (pos u) (literals_from v (b ∷ bs)) ≡ eqb b 1) (sym (add-zero v))
    (rw (eqb-given-same v (eqb b 1), member-before v (suc v) bs (omega arith)) (or-false (eqb b 1)))
member-at v (suc k) (b ∷ bs) =
    let e : v + suc k ≡ suc v + k = omega arith in
    rw (eqb-given (v + suc k) v (eqb b 1) (λ q. omega arith))
    (subst (λ (u : ℕ). member (pos u) (literals_from (suc v) bs) ≡ eqb (get_or bs k 0) 1) (sym e) (member-at (suc v) k bs))

-- numbers from v on, each taken to the byte of its place
map-places : (f : ℕ → ℕ) (v : ℕ) (m : List ℕ) → ((k : ℕ) → f (v + k) ≡ get_or m k 0) → map f (from v (length m)) ≡ m
unfolding from
map-places f v [] h = refl
map-places f v (b ∷ bs) h =
    ap₂ (λ x xs. x ∷ xs) (ap f (sym (add-zero v)) ∙ h 0)
    (map-places f (suc v) bs (λ k. ap f (omega arith) ∙ h (suc k)))

byte-back : (b : ℕ) → b ≤ 1 → cond (eqb b 1) 1 0 ≡ b
byte-back b h = go (eqb b 1) refl
  where
    go : (t : Bool) → eqb b 1 ≡ t → cond t 1 0 ≡ b
    go true e = sym (eqb-true b 1 e)
    go false e = omega (arith, eqb-false b 1 e)

module _ (m : List ℕ) (few : length m ≤ most_variables) (bytes : (k : ℕ) → get_or m k 0 ≤ 1) where
  pub model_back : model_given (length m) (literals_from 1 m) ≡ m
  model_back =
      map-places (λ v. cond (member (pos v) (literals_from 1 m)) 1 0) 1 m
      (λ k. ap (λ t. cond t 1 0) (member-at 1 k m) ∙ byte-back (get_or m k 0) (omega (arith, bytes k)))
