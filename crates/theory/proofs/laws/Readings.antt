-- What is known of a reading that gave a value: how a fact of its parts becomes a fact of the whole.
use mathlib.Core.Path.{◌≡◌, refl, sym, subst}
use mathlib.Core.Bool.{Bool, true, false, cond}
use mathlib.Core.List.{List, ◌∷◌}
use Prim.Native.Nat.{ℕ, zero, suc}
use lib.ListN.{length}
use Rattle.laws.specs.Lists.{All}
use Rattle.scope.specs.Parsed.{Parsed, got, and_then, unless, cons, repeat}
use Rattle.parsing.proofs.laws.Parsing.{got-value, and_then-got, unless-got, cons-got}

-- P holds of the value, if one is read
pub record Gives {A : Type 0} (P : A → Type 0) (p : Parsed A) : Type 0 where
  pub known : (a : A) (next : ℕ) → p ≡ got a next → P a

-- the laws of facts: a value, one reading after another, a test, a list, a choice
pub gives-value : {A : Type 0} {P : A → Type 0} {a : A} {next : ℕ} → P a → Gives P (got a next)
gives-value {P = P} h = record { known = λ b next e. subst P (got-value e) h }

pub gives-and_then : {A B : Type 0} {P : A → Type 0} {Q : B → Type 0} {p : Parsed A} {f : A → ℕ → Parsed B} → Gives P p
    → ((a : A) (next : ℕ) → P a → Gives Q (f a next)) → Gives Q (and_then p f)
gives-and_then {p = p} {f = f} h k =
    record { known = λ b end e. let t = and_then-got p f e in (k t.value t.next (h.known t.value t.next t.first)).known b end t.rest }

pub gives-unless : {A : Type 0} {P : A → Type 0} (test : Bool) (n v : ℕ) {p : Parsed A} → (test ≡ true → Gives P p)
    → Gives P (unless test n v p)
gives-unless test n v {p = p} h =
    record { known = λ a end e. let t = unless-got test n v p e in (h t.test).known a end t.rest }

pub gives_cons : {A : Type 0} {P Q : List A → Type 0} (a : A) {p : Parsed (List A)} → Gives Q p
    → ((xs : List A) → Q xs → P (a ∷ xs)) → Gives P (cons a p)
gives_cons {P = P} a {p = p} h k =
    record { known = λ xs end e. let t = cons-got a p e in subst P (sym t.whole) (k t.tail (h.known t.tail end t.rest)) }

pub gives-either : {A : Type 0} {P : A → Type 0} (test : Bool) {p q : Parsed A} → Gives P p → Gives P q → Gives P (cond test p q)
gives-either true a b = a
gives-either false a b = b

-- n things, and P holds of each
pub record Many {A : Type 0} (P : A → Type 0) (n : ℕ) (xs : List A) : Type 0 where
  pub count : length xs ≡ n
  pub each : All P xs

pub gives-repeat : {A : Type 0} {P : A → Type 0} {f : ℕ → Parsed A} → ((at : ℕ) → Gives P (f at)) → (n at : ℕ)
    → Gives (Many P n) (repeat n f at)
unfolding repeat
gives-repeat h zero at = gives-value (record { count = refl; each = tt })
gives-repeat h (suc n) at =
    gives-and_then (h at)
    (λ a next p. gives_cons a (gives-repeat h n next) (λ xs m. record { count = rw m.count; each = (p, m.each) }))
