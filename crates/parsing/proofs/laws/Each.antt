-- What holds of each member of a list, and of each thing that was read: laws.
use Prim.Native.Nat.{ℕ, zero, suc, ◌<◌}
use mathlib.Core.Path.{◌≡◌}
use mathlib.Core.List.{List, [], ◌∷◌, ◌++◌}
use lib.ListN.{length, get_or, drop}
use native.Mathlib.Nat.{not-suc-le-zero, le_of_suc-le-suc}
use Rattle.scope.specs.Parsed.{Parsed, got, cons, repeat}
use Rattle.parsing.proofs.laws.Parsing.{and_then-got, cons-got}
use Rattle.parsing.specs.Each.{Each, each_none, each_more}

pub each-head : {A : Type 0} {P : A → Type 0} {x : A} {xs : List A} → Each P (x ∷ xs) → P x
each-head (each_more p ps) = p

-- of each of a list's first part, and of the last member
pub each-front : {A : Type 0} {P : A → Type 0} (xs ys : List A) → Each P (xs ++ ys) → Each P xs
each-front [] ys e = each_none
each-front (x ∷ xs) ys (each_more p e) = each_more p (each-front xs ys e)

pub each_last : {A : Type 0} {P : A → Type 0} (xs : List A) {y : A} → Each P (xs ++ (y ∷ [])) → P y
each_last [] (each_more p e) = p
each_last (x ∷ xs) (each_more p e) = each_last xs e

-- of the member at an index
pub each_at : {A : Type 0} {P : A → Type 0} {xs : List A} (i : ℕ) (d : A) → Each P xs → i < length xs → P (get_or xs i d)
each_at i d each_none h = elim (not-suc-le-zero h) [ ]
each_at zero d (each_more p ps) h = p
each_at (suc i) d (each_more p ps) h = each_at i d ps (le_of_suc-le-suc h)

-- of what is left after i members
pub each-drop : {A : Type 0} {P : A → Type 0} {xs : List A} (i : ℕ) → Each P xs → Each P (drop i xs)
each-drop zero e = e
each-drop (suc i) each_none = each_none
each-drop (suc i) (each_more p ps) = each-drop i ps

-- one property from another
pub each_map : {A : Type 0} {P Q : A → Type 0} {xs : List A} → ((x : A) → P x → Q x) → Each P xs → Each Q xs
each_map f each_none = each_none
each_map f (each_more p ps) = each_more (f _ p) (each_map f ps)

-- of each thing that a repeated reading got
pub repeat-each : {A : Type 0} (P : A → Type 0) (n : ℕ) (f : ℕ → Parsed A) (at : ℕ) {xs : List A} {end : ℕ}
    → ((at : ℕ) (a : A) (next : ℕ) → f at ≡ got a next → P a)
    → repeat n f at ≡ got xs end
    → Each P xs
unfolding repeat
repeat-each P zero f at {xs} h e = let k : xs ≡ [] = cc in rw k each_none
repeat-each P (suc n) f at {xs} h e =
    let p = and_then-got (f at) (λ a next. cons a (repeat n f next)) e in
    let q = cons-got p.value (repeat n f p.next) p.rest in
    rw q.whole (each_more (h at p.value p.next p.first) (repeat-each P n f p.next h q.rest))
