-- A clause follows by its hints with marks exactly where it does with a list of the literals that are set false.
use mathlib.Core.Path.{◌≡◌, refl, sym, ap, ◌∙◌}
use mathlib.Core.Bool.{Bool, true, false, cond, ◌||◌}
use mathlib.Core.List.{List, [], ◌∷◌, ◌++◌, append-nil}
use mathlib.Core.List.Memᴰ
use mathlib.Core.Option.{Option, none, some}
use Prim.Native.Nat.{ℕ, ◌+◌, ◌-◌, ◌/◌, ◌%◌, ◌≤◌}
use native.Mathlib.Omega.{arith}
use lib.Dec.{eqb}
use borrow.Author.Tests.{eq-eqb, ne_eqb, eqb-true, eqb-false}
use Rattle.scope.specs.Cnf.{opp}
use Rattle.scope.specs.Kinds.{member, outside}
use Rattle.scope.specs.Steps.{Live, either, Shown, not_live, breaks, by_rest, hints_show}
use Rattle.scope.specs.Refutation.{Literals, no_literal, literal}
use Rattle.laws.specs.Booleans.{never_true}
use Rattle.theory.specs.Marked.{Marks, Standing, falsified, one_open, other, also_literal, standing}
use Rattle.theory.proofs.laws.Marked.{all_open, make_true, make_false, all_false}
use Rattle.theory.proofs.laws.Marked.{by_standing, hint_of, by_hint, if_last, hints_show as marked_show}
use Rattle.theory.proofs.laws.Hinted.{opp-opp, one_left}
use Rattle.theory.proofs.laws.SameForm.{AllOpen, open-before}

-- the opposite literal has the same variable and the other last bit.
opp-variable : (l : ℕ) → opp l / 2 ≡ l / 2
opp-variable l = omega arith

opp-bit : (l : ℕ) → opp l % 2 ≡ 1 - l % 2
opp-bit l = omega arith

-- the marks of some literals that are set false
record Marking (m : Marks) (φ : List ℕ) : Type 0 where
  small : (v : ℕ) → m v ≤ 2
  set_false : (l : ℕ) → member l φ ≡ eqb (m (l / 2)) (2 - l % 2)

-- how a literal stands by both: open, true, false
data How (m : Marks) (φ : List ℕ) (l : ℕ) : Type 0 where
  is_open_lem : eqb (m (l / 2)) 0 ≡ true → member l φ ≡ false → member (opp l) φ ≡ false → How m φ l
  is_true : eqb (m (l / 2)) 0 ≡ false → eqb (m (l / 2)) (1 + l % 2) ≡ true → member l φ ≡ false → member (opp l) φ ≡ true
      → How m φ l
  is_false : eqb (m (l / 2)) 0 ≡ false → eqb (m (l / 2)) (1 + l % 2) ≡ false → member l φ ≡ true → How m φ l

-- how a clause stands, by its literals that are not false; so where a literal k before them is open
abbrev stood : List ℕ → List ℕ → Standing
stood φ [] = falsified
stood φ (l ∷ []) = cond (member (opp l) φ) other (one_open l)
stood φ (l ∷ k ∷ ls) = other

abbrev stood_after : ℕ → List ℕ → Standing
stood_after k [] = one_open k
stood_after k (l ∷ ls) = other

open-first : (φ : List ℕ) (l : ℕ) (r : List ℕ) → member (opp l) φ ≡ false → stood_after l r ≡ stood φ (l ∷ r)
open-first φ l [] e = rw e
open-first φ l (k ∷ r) e = refl

true-first : (φ : List ℕ) (l : ℕ) (r : List ℕ) → member (opp l) φ ≡ true → other ≡ stood φ (l ∷ r)
true-first φ l [] e = rw e
true-first φ l (k ∷ r) e = refl

-- a clause that stands otherwise stays so
other-stays : (m : Marks) (c : List ℕ) → standing m other c ≡ other
unfolding standing
other-stays m [] = refl
other-stays m (l ∷ ls) =
    ap (λ s. standing m s ls) (go (eqb (m (l / 2)) 0) (eqb (m (l / 2)) (1 + l % 2))) ∙ other-stays m ls
  where
    go : (a b : Bool) → cond a other (cond b other other) ≡ other
    go true b = refl
    go false true = refl
    go false false = refl

module _ {m : Marks} {φ : List ℕ} (d : Marking m φ) where
  set_true : (l : ℕ) → member (opp l) φ ≡ eqb (m (l / 2)) (1 + l % 2)
  set_true l =
      let e : 2 - opp l % 2 ≡ 1 + l % 2 = omega (arith, opp-bit l) in
      d.set_false (opp l) ∙ rw (opp-variable l, e)

  how : (l : ℕ) → How m φ l
  how l = go (eqb (m (l / 2)) 0) refl (eqb (m (l / 2)) (1 + l % 2)) refl
    where
      go : (x : Bool) → eqb (m (l / 2)) 0 ≡ x → (y : Bool) → eqb (m (l / 2)) (1 + l % 2) ≡ y → How m φ l
      go true e y f =
          let z : m (l / 2) ≡ 0 = eqb-true (m (l / 2)) 0 e in
          is_open_lem e (d.set_false l ∙ ne_eqb (m (l / 2)) (2 - l % 2) (λ q. omega arith))
          (set_true l ∙ ne_eqb (m (l / 2)) (1 + l % 2) (λ q. omega arith))
      go false e true f =
          let z : m (l / 2) ≡ 1 + l % 2 = eqb-true (m (l / 2)) (1 + l % 2) f in
          is_true e f (d.set_false l ∙ ne_eqb (m (l / 2)) (2 - l % 2) (λ q. omega arith)) (set_true l ∙ f)
      go false e false f =
          let a = eqb-false (m (l / 2)) 0 e in
          let b = eqb-false (m (l / 2)) (1 + l % 2) f in
          let n : m (l / 2) ≤ 2 = d.small (l / 2) in
          is_false e f (d.set_false l ∙ eq-eqb (m (l / 2)) (2 - l % 2) (omega arith))

  -- a clause stands by the marks as its literals that are not false say
  standing_one : (c : List ℕ) (k : ℕ) → standing m (one_open k) c ≡ stood_after k (outside φ c)
  unfolding standing outside
  standing_one [] k = refl
  standing_one (l ∷ ls) k = go (how l) (standing_one ls k)
    where
      go : How m φ l → standing m (one_open k) ls ≡ stood_after k (outside φ ls)
          → standing m (also_literal (one_open k) (m (l / 2)) l) ls ≡ stood_after k (cond (member l φ) (outside φ ls) (l ∷ outside φ ls))
      go (is_open_lem a b c) ih = rw (a, b) (other-stays m ls)
      go (is_true a b c e) ih = rw (a, b, c) (other-stays m ls)
      go (is_false a b c) ih = rw (a, b, c) ih

  standing_all : (c : List ℕ) → standing m falsified c ≡ stood φ (outside φ c)
  unfolding standing outside
  standing_all [] = refl
  standing_all (l ∷ ls) = go (how l) (standing_all ls)
    where
      go : How m φ l → standing m falsified ls ≡ stood φ (outside φ ls)
          → standing m (also_literal falsified (m (l / 2)) l) ls ≡ stood φ (cond (member l φ) (outside φ ls) (l ∷ outside φ ls))
      go (is_open_lem a b c) ih = rw (a, b) (standing_one ls l ∙ open-first φ l (outside φ ls) c)
      go (is_true a b c e) ih = rw (a, b, c) (other-stays m ls ∙ true-first φ l (outside φ ls) e)
      go (is_false a b c) ih = rw (a, b, c) ih

  -- with an open literal set true
  marking_true : (k : ℕ) → m (k / 2) ≡ 0 → Marking (make_true m k) (opp k ∷ φ)
  unfolding member
  marking_true k z = record { small = low; set_false = λ l. at l (eqb (l / 2) (k / 2)) refl }
    where
      low : (v : ℕ) → make_true m k v ≤ 2
      low v = go (eqb v (k / 2))
        where
          go : (b : Bool) → cond b (1 + k % 2) (m v) ≤ 2
          go true = omega arith
          go false = d.small v

      -- of its own variable
      own : (l : ℕ) → l / 2 ≡ k / 2 → (b : Bool) → eqb l (opp k) ≡ b → (b || false) ≡ eqb (1 + k % 2) (2 - l % 2)
      own l q true e =
          let t : l ≡ opp k = eqb-true l (opp k) e in
          sym (eq-eqb (1 + k % 2) (2 - l % 2) (omega arith))
      own l q false e =
          let t = eqb-false l (opp k) e in
          sym (ne_eqb (1 + k % 2) (2 - l % 2) (λ h. t (omega arith)))

      at : (l : ℕ) (b : Bool) → eqb (l / 2) (k / 2) ≡ b
          → (eqb l (opp k) || member l φ) ≡ eqb (cond b (1 + k % 2) (m (l / 2))) (2 - l % 2)
      at l true t =
          let q : l / 2 ≡ k / 2 = eqb-true (l / 2) (k / 2) t in
          let y : m (l / 2) ≡ 0 = ap m q ∙ z in
          let e : member l φ ≡ false = d.set_false l ∙ ne_eqb (m (l / 2)) (2 - l % 2) (λ h. omega arith) in
          rw e (own l q (eqb l (opp k)) refl)
      at l false t =
          let n = eqb-false (l / 2) (k / 2) t in
          rw (ne_eqb l (opp k) (λ e. n (ap (λ j. j / 2) e ∙ opp-variable k))) (d.set_false l)

-- and with one set false, which is to set its opposite true
false_true : (m : Marks) (l : ℕ) → make_false m l ≡ make_true m (opp l)
false_true m l =
    let e : 1 + opp l % 2 ≡ 2 - l % 2 = omega (arith, opp-bit l) in
    rw (opp-variable l, e)

marking-false : {m : Marks} {φ : List ℕ} → Marking m φ → (l : ℕ) → m (l / 2) ≡ 0 → Marking (make_false m l) (l ∷ φ)
marking-false {m} {φ} d l z =
    let e : m (opp l / 2) ≡ 0 = ap m (opp-variable l) ∙ z in
    let k : Marking (make_true m (opp l)) (opp (opp l) ∷ φ) = marking_true d (opp l) e in
    rw (false_true m l) (rw (opp-opp l) at k)

-- what is set false matters, not in which order
member-middle : (l y : ℕ) (xs ys : List ℕ) → member l (xs ++ y ∷ ys) ≡ member l (y ∷ (xs ++ ys))
unfolding member
member-middle l y [] ys = refl
member-middle l y (x ∷ xs) ys =
    ap (◌||◌ (eqb l x)) (member-middle l y xs ys) ∙ swap (eqb l x) (eqb l y) (member l (xs ++ ys))
  where
    swap : (a b c : Bool) → (a || (b || c)) ≡ (b || (a || c))
    swap true true c = refl
    swap true false c = refl
    swap false true c = refl
    swap false false c = refl

-- the literals of a clause set false, each of another variable
marking-clause : {last : ℕ} {m : Marks} {φ c : List ℕ} → Marking m φ → Literals last c → AllOpen m c
    → Marking (all_false m c) (c ++ φ)
unfolding all_false
marking-clause d no_literal h = d
marking-clause {m = m} {φ = φ} d (literal {l} {ls} a b f k) h =
    let e = marking-false d l (h l (Memᴰ.head refl)) in
    let r = marking-clause {m = make_false m l} {φ = l ∷ φ} e k (open-before m l ls (λ j i. h j (Memᴰ.tail i)) f) in
    record { small = r.small; set_false = λ j. sym (member-middle j l ls φ) ∙ r.set_false j }

none-marked : Marking all_open []
unfolding member
none-marked = record { small = λ v. omega arith; set_false = λ l. sym (ne_eqb 0 (2 - l % 2) (λ e. omega arith)) }

marking-new : {last : ℕ} {c : List ℕ} → Literals last c → Marking (all_false all_open c) c
marking-new {c = c} k = rw (append-nil c) at (marking-clause none-marked k (λ j i. refl))

-- an open literal has no mark
open-mark : {m : Marks} {φ : List ℕ} → Marking m φ → (l : ℕ) → member l φ ≡ false → member (opp l) φ ≡ false → m (l / 2) ≡ 0
open-mark {m} {φ} d l e f = go (how d l)
  where
    go : How m φ l → m (l / 2) ≡ 0
    go (is_open_lem a b c) = eqb-true (m (l / 2)) 0 a
    go (is_true a b c t) = never_true (sym f ∙ t)
    go (is_false a b t) = never_true (sym e ∙ t)

-- what the hints show by the list and by its marks
by-rest : (φ r hs : List ℕ) (f : List ℕ → Shown) (g : ℕ → Shown)
    → ((l : ℕ) → r ≡ l ∷ [] → member (opp l) φ ≡ false → f (opp l ∷ φ) ≡ g l)
    → by_rest φ r hs f ≡ by_hint (by_standing (stood φ r)) g (if_last hs)
by-rest φ [] [] f g h = refl
by-rest φ [] (k ∷ hs) f g h = refl
by-rest φ (l ∷ []) hs f g h = go (member (opp l) φ) refl
  where
    go : (b : Bool) → member (opp l) φ ≡ b
        → cond b breaks (f (opp l ∷ φ)) ≡ by_hint (by_standing (cond b other (one_open l))) g (if_last hs)
    go true e = refl
    go false e = h l refl e
by-rest φ (l ∷ k ∷ ls) hs f g h = refl

hints-marked : {m : Marks} {φ : List ℕ} (L : Live) → Marking m φ → (hs : List ℕ) → hints_show L φ hs ≡ marked_show L m hs
unfolding hints_show marked_show
hints-marked L d [] = refl
hints-marked {m} {φ} L d (h ∷ hs) = go (λ l z. hints-marked {m = make_true m l} {φ = opp l ∷ φ} L (marking_true d l z) hs) (L h)
  where
    Ih : Type 0
    Ih = (l : ℕ) → m (l / 2) ≡ 0 → hints_show L (opp l ∷ φ) hs ≡ marked_show L (make_true m l) hs

    go : Ih → (o : Option (List ℕ)) → either o not_live (λ c. by_rest φ (outside φ c) hs (λ φ'. hints_show L φ' hs))
        ≡ by_hint (hint_of o m) (λ l. marked_show L (make_true m l) hs) (if_last hs)
    go ih none = refl
    go ih (some c) =
        by-rest φ (outside φ c) hs (λ φ'. hints_show L φ' hs) (λ l. marked_show L (make_true m l) hs)
        (λ l q f. ih l (open-mark d l (one_left φ c l q).left f))
        ∙ rw (standing_all d c)

-- a well-formed clause follows by the marks exactly where it does
pub hints_same : {last : ℕ} (L : Live) (c hs : List ℕ) → Literals last c
    → hints_show L c hs ≡ marked_show L (all_false all_open c) hs
hints_same L c hs k = hints-marked L (marking-new k) hs
