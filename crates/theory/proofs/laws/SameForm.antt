-- A step is well formed by marks exactly where it is.
use mathlib.Core.Path.{◌≡◌, refl, ap, ◌∙◌}
use mathlib.Core.Logic.{⊎_elim}
use mathlib.Core.Bool.{Bool, true, false, cond, ◌&&◌}
use mathlib.Core.List.{List, [], ◌∷◌}
use mathlib.Core.List.Memᴰ
use mathlib.Core.List.{Memᴰ}
use Prim.Native.Nat.{ℕ, ◌-◌, ◌/◌, ◌%◌}
use native.Mathlib.Omega.{arith}
use lib.Dec.{leb, eqb}
use borrow.Author.Tests.{le-leb, leb-true, eq-eqb, ne_eqb, eqb-true, eqb-false}
use Rattle.scope.specs.Steps.{Step, add, delete, literals_ok, well_formed}
use Rattle.scope.specs.Refutation.{Fresh, Literals, no_literal, literal}
use Rattle.laws.specs.Booleans.{bool-ext, and-true}
use Rattle.theory.specs.Marked.{Marks}
use Rattle.theory.proofs.laws.Marked.{all_open, make_false, literals_ok as marked_ok, well_formed as marked_formed}
use Rattle.theory.proofs.laws.Formed.{literals-formed, formed-literals}

-- the variables of some literals are open
abbrev pub AllOpen : Marks → List ℕ → Type 0
AllOpen m ls = (k : ℕ) → Memᴰ k ls → m (k / 2) ≡ 0

-- they are so where one literal l is set false exactly where they were so before and l is fresh
open_after : (m : Marks) (l : ℕ) (ls : List ℕ) → AllOpen (make_false m l) ls → AllOpen m ls × Fresh l ls
open_after m l ls h = (λ k i. (go k (h k i)).0, λ k i. (go k (h k i)).1)
  where
    go : (k : ℕ) → cond (eqb (k / 2) (l / 2)) (2 - l % 2) (m (k / 2)) ≡ 0 → (m (k / 2) ≡ 0) × (k / 2 ≡ l / 2 → ⊥)
    go k = test (eqb (k / 2) (l / 2)) refl
      where
        test : (b : Bool) → eqb (k / 2) (l / 2) ≡ b → cond b (2 - l % 2) (m (k / 2)) ≡ 0 → (m (k / 2) ≡ 0) × (k / 2 ≡ l / 2 → ⊥)
        test true t e = absurd (omega arith)
        test false t e = (e, eqb-false (k / 2) (l / 2) t)

pub open-before : (m : Marks) (l : ℕ) (ls : List ℕ) → AllOpen m ls → Fresh l ls → AllOpen (make_false m l) ls
open-before m l ls h f k i = rw (ne_eqb (k / 2) (l / 2) (f k i)) (h k i)

-- the literals of a clause whose variables are all open, both ways
literals-open : (last : ℕ) (m : Marks) (ls : List ℕ) → marked_ok last m ls ≡ true → Literals last ls × AllOpen m ls
unfolding marked_ok
literals-open last m [] e = (no_literal, λ k i. absurd (Memᴰ.not-nil i))
literals-open last m (l ∷ ls) e =
    let a = leb 2 l in
    let b = leb (l / 2) last in
    let c = eqb (m (l / 2)) 0 in
    let p = and-true (a && b && c) (marked_ok last (make_false m l) ls) e in
    let q = and-true (a && b) c p.0 in
    let r = and-true a b q.0 in
    let ih = literals-open last (make_false m l) ls p.1 in
    let o = open_after m l ls ih.1 in
    let z : m (l / 2) ≡ 0 = eqb-true (m (l / 2)) 0 q.1 in (
      literal (leb-true 2 l r.0) (leb-true (l / 2) last r.1) o.1 ih.0,
      λ k i. ⊎_elim (λ e. ap (λ j. m (j / 2)) e ∙ z) (o.0 k) (Memᴰ.cases_cons i),
    )

open-literals : (last : ℕ) (m : Marks) (ls : List ℕ) → Literals last ls → AllOpen m ls → marked_ok last m ls ≡ true
unfolding marked_ok
open-literals last m [] no_literal h = refl
open-literals last m (l ∷ ls) (literal a b f k) h =
    rw (
      le-leb 2 l a,
      le-leb (l / 2) last b,
      eq-eqb (m (l / 2)) 0 (h l (Memᴰ.head refl)),
      open-literals last (make_false m l) ls k (open-before m l ls (λ j i. h j (Memᴰ.tail i)) f),
    )

literals_same : (last : ℕ) (ls : List ℕ) → literals_ok last ls ≡ marked_ok last all_open ls
literals_same last ls =
    bool-ext (literals_ok last ls) (marked_ok last all_open ls) (
      λ e. open-literals last all_open ls (literals-formed last ls e) (λ k i. refl),
      λ e. formed-literals (literals-open last all_open ls e).0,
    )

-- a step is well formed by the marks exactly where it is
pub formed-same : (last highest : ℕ) (s : Step) → well_formed last highest s ≡ marked_formed last highest s
unfolding well_formed marked_formed
formed-same last highest (add id ls hs) = rw (literals_same last ls)
formed-same last highest (delete ids) = refl
