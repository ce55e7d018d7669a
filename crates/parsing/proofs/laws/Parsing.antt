-- Laws of reading one thing after another: what follows from a reading that got something, and the turns of a loop that reads: laws.
use Prim.Native.Nat.{ℕ, zero, suc, ◌+◌, ◌-◌, ◌≤◌, ◌<◌}
use mathlib.Core.Path.{◌≡◌, refl, sym, ap}
use mathlib.Core.List.{List, [], ◌∷◌, ◌++◌, append_assoc, append-nil}
use mathlib.Core.Bool.{Bool, true, false, cond}
use lib.ListN.{length}
use native.Mathlib.Omega.{arith}
use Rattle.scope.specs.Parsed.{Parsed, got, refused, and_then, unless, cons, repeat}

-- a refusal is no value
pub refused-got : {A : Type 0} (Q : Type 0) {k v : ℕ} {a : A} {end : ℕ} → refused k v ≡ got a end → Q
refused-got Q e = let z : ◌≡◌ {A = ℕ} 0 1 = cc in let f : ⊥ = omega arith in elim f [ ]

-- what was got after another reading: that reading got something, and the rest got this
pub record Then {A B : Type 0} (p : Parsed A) (f : A → ℕ → Parsed B) (b : B) (end : ℕ) : Type 0 where
  pub value : A
  pub next : ℕ
  pub first : p ≡ got value next
  pub rest : f value next ≡ got b end

pub and_then-got : {A B : Type 0} (p : Parsed A) (f : A → ℕ → Parsed B) {b : B} {end : ℕ} → and_then p f ≡ got b end → Then p f b end
and_then-got (got a next) f e = record { value = a; next = next; first = refl; rest = e }
and_then-got (refused k v) f {b} {end} e = refused-got (Then (refused k v) f b end) e

-- what was got after a test: the test held
pub record Held {A : Type 0} (t : Bool) (p : Parsed A) (a : A) (end : ℕ) : Type 0 where
  pub test : t ≡ true
  pub rest : p ≡ got a end

pub unless-got : {A : Type 0} (t : Bool) (k v : ℕ) (p : Parsed A) {a : A} {end : ℕ} → unless t k v p ≡ got a end → Held t p a end
unless-got true k v p e = record { test = refl; rest = e }
unless-got false k v p {a} {end} e = refused-got (Held false p a end) e

-- a list that was got after its first member
pub record Consed {A : Type 0} (a : A) (p : Parsed (List A)) (xs : List A) (end : ℕ) : Type 0 where
  pub tail : List A
  pub rest : p ≡ got tail end
  pub whole : xs ≡ a ∷ tail

pub cons-got : {A : Type 0} (a : A) (p : Parsed (List A)) {xs : List A} {end : ℕ} → cons a p ≡ got xs end → Consed a p xs end
cons-got a (got ys end) e = record { tail = ys; rest = cc; whole = cc }
cons-got a (refused k v) {xs} {end} e = refused-got (Consed a (refused k v) xs end) e

-- one value, one end
pub got-value : {A : Type 0} {a b : A} {m n : ℕ} → got a m ≡ got b n → a ≡ b
got-value e = cc

-- by the way that a test took
pub cond-case : {B : Type 0} (Q : Type 0) (t : Bool) {p q r : B} → (p ≡ r → Q) → (q ≡ r → Q) → cond t p q ≡ r → Q
cond-case Q true l r e = l e
cond-case Q false l r e = r e

-- what was read, before what is left to read
unfoldable pub before : {A : Type 0} → List A → Parsed (List A) → Parsed (List A)
before xs (got ys end) = got (xs ++ ys) end
before xs (refused k v) = refused k v

pub before-cons : {A : Type 0} (xs : List A) (a : A) (p : Parsed (List A)) → before xs (cons a p) ≡ before (xs ++ (a ∷ [])) p
unfolding before
before-cons xs a (got ys end) = rw append_assoc
before-cons xs a (refused k v) = refl

pub before-nil : {A : Type 0} (p : Parsed (List A)) → before [] p ≡ p
unfolding before
before-nil (got ys end) = refl
before-nil (refused k v) = refl

pub before-end : {A : Type 0} (xs : List A) (end : ℕ) → before xs (got [] end) ≡ got xs end
unfolding before
before-end xs end = rw append-nil

-- a turn of reading the same thing again
module _ {A : Type 0} (xs : List A) (i count : ℕ) (f : ℕ → Parsed A) (at : ℕ) (h : i < count) where
  pub repeat_more : {a : A} {next : ℕ}
      → f at ≡ got a next
      → before xs (repeat (count - i) f at) ≡ before (xs ++ (a ∷ [])) (repeat (count - (i + 1)) f next)
  unfolding repeat
  repeat_more {a} {next} e =
      let k : count - i ≡ suc (count - (i + 1)) = omega arith in
      rw (k, e) (before-cons xs a (repeat (count - (i + 1)) f next))

  pub repeat_refused : {k v : ℕ} → f at ≡ refused k v → before xs (repeat (count - i) f at) ≡ refused k v
  unfolding repeat before
  repeat_refused e = let k : count - i ≡ suc (count - (i + 1)) = omega arith in rw (k, e)

pub repeat-end : {A : Type 0} (xs : List A) (i count : ℕ) (f : ℕ → Parsed A) (at : ℕ)
    → count ≤ i
    → before xs (repeat (count - i) f at) ≡ got xs at
unfolding repeat
repeat-end xs i count f at h = let k : count - i ≡ 0 = omega arith in rw k (before-end xs at)

-- a reading that was repeated got as many things
pub repeat-length : {A : Type 0} (n : ℕ) (f : ℕ → Parsed A) (at : ℕ) {xs : List A} {end : ℕ} → repeat n f at ≡ got xs end → length xs ≡ n
unfolding repeat
repeat-length zero f at {xs} {end} e = let h : xs ≡ [] = cc in rw h
repeat-length (suc n) f at {xs} {end} e =
    let p = and_then-got (f at) (λ a next. cons a (repeat n f next)) e in
    let q = cons-got p.value (repeat n f p.next) p.rest in
    rw q.whole (ap suc (repeat-length n f p.next q.rest))

-- readings that agree at each offset agree when they are repeated
after_same : {A B : Type 0} (p : Parsed A) (f g : A → ℕ → Parsed B) → ((a : A) (next : ℕ) → f a next ≡ g a next) → and_then p f ≡ and_then p g
after_same (got a next) f g h = h a next
after_same (refused k v) f g h = refl

pub repeat-same : {A : Type 0} (n : ℕ) (f g : ℕ → Parsed A) (at : ℕ) → ((at : ℕ) → f at ≡ g at) → repeat n f at ≡ repeat n g at
unfolding repeat
repeat-same zero f g at h = refl
repeat-same (suc n) f g at h =
    rw (h at)
    (after_same (g at) (λ a next. cons a (repeat n f next)) (λ a next. cons a (repeat n g next))
    (λ a next. ap (cons a) (repeat-same n f g next h)))

-- and a reading that gets all that another got, gets all that the other repeated got
pub repeat-also : {A : Type 0} (n : ℕ) (f g : ℕ → Parsed A) (at : ℕ) {xs : List A} {end : ℕ}
    → ((at : ℕ) (a : A) (next : ℕ) → f at ≡ got a next → g at ≡ got a next)
    → repeat n f at ≡ got xs end
    → repeat n g at ≡ got xs end
unfolding repeat
repeat-also zero f g at h e = e
repeat-also (suc n) f g at {xs} {end} h e =
    let p = and_then-got (f at) (λ a next. cons a (repeat n f next)) e in
    let q = cons-got p.value (repeat n f p.next) p.rest in
    rw (h at p.value p.next p.first, repeat-also n f g p.next h q.rest)
    (sym (ap (λ (ys : List _). got ys end) q.whole))
