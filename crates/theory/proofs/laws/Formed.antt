-- A step is well formed exactly where the words of document 01 say so.
use mathlib.Core.Path.{◌≡◌, refl, sym, ap, ◌∙◌}
use mathlib.Core.Logic.{◌↔◌}
use mathlib.Core.Bool.{Bool, true, false, not, ◌&&◌, ◌||◌}
use mathlib.Core.List.{List, [], ◌∷◌, map}
use mathlib.Core.List.{Memᴰ}
use Prim.Native.Nat.{ℕ, ◌/◌}
use lib.Dec.{leb, ltb, eqb}
use borrow.Author.Tests.{le-leb, lt-ltb, eq-eqb, ne_eqb, leb-true, ltb-true}
use Rattle.scope.specs.Kinds.{member}
use Rattle.scope.specs.Steps.{Step, add, delete, literals_ok, well_formed}
use Rattle.laws.specs.Booleans.{never_true, and-true}
use Rattle.scope.specs.Refutation.{Literals, no_literal, literal, WellFormed, add_form, delete_form}

-- a variable is among those of some literals exactly where one of them has it
member-variable : (v k : ℕ) (ls : List ℕ) → Memᴰ k ls → k / 2 ≡ v → member v (map (λ k. k / 2) ls) ≡ true
unfolding member
member-variable v k [] i h = elim i [ ]
member-variable v k (l ∷ ls) (Memᴰ.head e) h = rw (eq-eqb v (l / 2) (sym h ∙ ap (λ j. j / 2) e))
member-variable v k (l ∷ ls) (Memᴰ.tail i) h = or_also (eqb v (l / 2)) (member-variable v k ls i h)
  where
    or_also : {b : Bool} (a : Bool) → b ≡ true → (a || b) ≡ true
    or_also true e = refl
    or_also false e = e

fresh-variable : (v : ℕ) (ls : List ℕ) → ((k : ℕ) → Memᴰ k ls → k / 2 ≡ v → ⊥) → member v (map (λ k. k / 2) ls) ≡ false
unfolding member
fresh-variable v [] h = refl
fresh-variable v (l ∷ ls) h =
    rw (ne_eqb v (l / 2) (λ e. h l (Memᴰ.head refl) (sym e))) (fresh-variable v ls (λ k i. h k (Memᴰ.tail i)))

not-true : (b : Bool) → not b ≡ true → b ≡ false
not-true true e = never_true e
not-true false e = refl

-- the literals of a clause in document 01's words, both ways
pub literals-formed : (last : ℕ) (ls : List ℕ) → literals_ok last ls ≡ true → Literals last ls
unfolding literals_ok
literals-formed last [] e = no_literal
literals-formed last (l ∷ ls) e =
    let a = leb 2 l in
    let b = leb (l / 2) last in
    let c = member (l / 2) (map (λ k. k / 2) ls) in
    let p = and-true (a && b && not c) (literals_ok last ls) e in
    let q = and-true (a && b) (not c) p.0 in
    let r = and-true a b q.0 in
    let n = not-true c q.1 in
    literal (leb-true 2 l r.0) (leb-true (l / 2) last r.1)
    (λ k i e. never_true (sym n ∙ member-variable (l / 2) k ls i e)) (literals-formed last ls p.1)

pub formed-literals : {last : ℕ} {ls : List ℕ} → Literals last ls → literals_ok last ls ≡ true
unfolding literals_ok
formed-literals no_literal = refl
formed-literals {last} (literal {l} {ls} a b f k) =
    rw (le-leb 2 l a, le-leb (l / 2) last b, fresh-variable (l / 2) ls f, formed-literals k)

-- a step is well formed exactly where it is in words
pub formed-exact : (last highest : ℕ) (s : Step) → (well_formed last highest s ≡ true) ↔ WellFormed last highest s
unfolding well_formed
formed-exact last highest (add id ls hs) = (to, from)
  where
    to : (ltb highest id && literals_ok last ls) ≡ true → WellFormed last highest (add id ls hs)
    to e =
        let p = and-true (ltb highest id) (literals_ok last ls) e in
        add_form (ltb-true highest id p.0) (literals-formed last ls p.1)

    from : WellFormed last highest (add id ls hs) → (ltb highest id && literals_ok last ls) ≡ true
    from (add_form h k) = rw (lt-ltb highest id h, formed-literals k)
formed-exact last highest (delete ids) = (λ e. delete_form, λ k. refl)
