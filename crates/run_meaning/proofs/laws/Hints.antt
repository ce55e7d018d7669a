-- The variables that the hints of a step touch, and the literals of its clause.
use mathlib.Core.Path.{◌≡◌, refl, sym, ◌∙◌}
use mathlib.Core.Bool.{Bool, true, false, ◌&&◌, ◌||◌}
use mathlib.Core.List.{List, [], ◌∷◌, ◌++◌}
use mathlib.Core.Option.{Option, none, some}
use Prim.Native.Nat.{ℕ, ◌/◌}
use lib.Dec.{leb, eqb}
use borrow.Author.Tests.{leb-true, eq-eqb, ne_eqb, eqb-false}
use Rattle.scope.specs.Steps.{Live}
use Rattle.theory.specs.Marked.{Marks, falsified, one_open, standing}
use Rattle.theory.proofs.laws.Marked.{make_false, all_false, literals_ok}
use Rattle.standing.proofs.laws.Clauses.{in_clause}
use Rattle.holding.specs.Holding.{All, Good}
use Rattle.holding.proofs.laws.Holding.{open_in}
use Rattle.laws.specs.Booleans.{and-true, or-false}

-- a variable stands in the clause of an id, in those of some ids
abbrev pub in_hint : Option (List ℕ) → ℕ → Bool
in_hint none v = false
in_hint (some c) v = in_clause c v

unfoldable pub in_hints : Live → List ℕ → ℕ → Bool
in_hints L [] v = false
in_hints L (h ∷ hs) v = in_hint (L h) v || in_hints L hs v

-- a clause is live, those of some ids are
abbrev pub IsLive : Option (List ℕ) → Type 0
IsLive none = ⊥
IsLive (some c) = Unit {0}

abbrev pub AllLive : Live → List ℕ → Type 0
AllLive L [] = Unit {0}
AllLive L (h ∷ hs) = IsLive (L h) × AllLive L hs

-- the variable of a clause's open literal stands in the clause
or-true : (a : Bool) → (a || true) ≡ true
or-true true = refl
or-true false = refl

all_in : (d c : List ℕ) → ((v : ℕ) → in_clause c v ≡ true → in_clause d v ≡ true) → All (λ l. in_clause d (l / 2) ≡ true) c
unfolding in_clause
all_in d [] h = tt
all_in d (l ∷ ls) h = (h (l / 2) (rw (eq-eqb (l / 2) (l / 2) refl)), all_in d ls (λ v e. h v (rw e (or-true (eqb (l / 2) v)))))

pub open-inside : (m : Marks) (c : List ℕ) {l : ℕ} → standing m falsified c ≡ one_open l → in_clause c (l / 2) ≡ true
open-inside m c e = open_in (λ l. in_clause c (l / 2) ≡ true) m c (all_in c c (λ v e. e)) e

-- a variable outside a clause is as it was
pub outside-false : (ls : List ℕ) (m : Marks) (v : ℕ) → in_clause ls v ≡ false → all_false m ls v ≡ m v
unfolding in_clause all_false
outside-false [] m v e = refl
outside-false (l ∷ ls) m v e =
    let p = or-false (eqb (l / 2) v) (in_clause ls v) e in
    outside-false ls (make_false m l) v p.1 ∙ rw (ne_eqb v (l / 2) (λ z. eqb-false (l / 2) v p.0 (sym z)))

-- the literals of a well-formed clause
pub literals-good : (last : ℕ) (m : Marks) (ls : List ℕ) → literals_ok last m ls ≡ true → All (Good last) ls
unfolding literals_ok
literals-good last m [] e = tt
literals-good last m (l ∷ ls) e =
    let p = and-true (leb 2 l && leb (l / 2) last && eqb (m (l / 2)) 0) (literals_ok last (make_false m l) ls) e in
    let q = and-true (leb 2 l && leb (l / 2) last) (eqb (m (l / 2)) 0) p.0 in
    let r = and-true (leb 2 l) (leb (l / 2) last) q.0 in
    (record { two = leb-true 2 l r.0; most = leb-true (l / 2) last r.1 }, literals-good last (make_false m l) ls p.1)

-- live clauses that agree where the first are live
module _ (L L' : Live) (same : (h : ℕ) → IsLive (L h) → L' h ≡ L h) where
  pub hints_same : (hs : List ℕ) (v : ℕ) → AllLive L hs → in_hints L' hs v ≡ in_hints L hs v
  unfolding in_hints
  hints_same [] v a = refl
  hints_same (h ∷ hs) v a = rw (same h a.0, hints_same hs v a.1)

  pub live_same : (hs : List ℕ) → AllLive L hs → AllLive L' hs
  live_same [] a = tt
  live_same (h ∷ hs) a = (rw (same h a.0) a.0, live_same hs a.1)

-- a variable in two lists of literals, in one literal
pub in-append : (c d : List ℕ) (v : ℕ) → in_clause (c ++ d) v ≡ (in_clause c v || in_clause d v)
unfolding in_clause
in-append [] d v = refl
in-append (l ∷ ls) d v = rw (in-append ls d v) (go (eqb (l / 2) v))
  where
    go : (t : Bool) → (t || (in_clause ls v || in_clause d v)) ≡ ((t || in_clause ls v) || in_clause d v)
    go true = refl
    go false = refl

pub last-in : (l v : ℕ) → in_clause (l ∷ []) v ≡ false → l / 2 ≡ v → ⊥
unfolding in_clause
last-in l v f e = eqb-false (l / 2) v (or-false (eqb (l / 2) v) false f).0 e
