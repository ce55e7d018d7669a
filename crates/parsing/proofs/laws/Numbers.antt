-- What is known of numbers, references and lists that were read: their sizes, and where they end: laws.
use Prim.Native.Nat.{ℕ, zero, suc, ◌+◌, ◌-◌, ◌≤◌, ◌<◌}
use mathlib.Core.Path.{◌≡◌, refl, ap}
use mathlib.Core.List.{List, [], ◌∷◌}
use mathlib.Core.Bool.{Bool, true, false, cond}
use lib.Dec.{ltb, leb, eqb}
use lib.ListN.{length, drop, length-drop}
use native.Mathlib.Omega.{arith}
use borrow.Author.Tests.{ltb-true, leb-true}
use Rattle.scope.specs.Parsed.{Parsed, got, unless, cons, repeat}
use Rattle.scope.specs.Number.{Front, broken, whole, group, front, within, most, number_from, number, limited, reference, references, listed}
use Rattle.parsing.proofs.laws.Parsing.{and_then-got, unless-got, cons-got, refused-got, cond-case}
use Rattle.parsing.specs.Numbers.{Ascending, none, more}

-- a broken number is no whole one
broken-whole : (Q : Type 0) {v n : ℕ} → broken ≡ whole v n → Q
broken-whole Q e = let z : ◌≡◌ {A = ℕ} 0 1 = cc in let f : ⊥ = omega arith in elim f [ ]

-- a number at the front of some bytes takes at least one of them, and no more than there are
record Taken (n room : ℕ) : Type 0 where
  some : 0 < n
  fits : n ≤ room

group-taken : (b : ℕ) (f : Front) (room : ℕ) {v n : ℕ}
    → ((w m : ℕ) → f ≡ whole w m → Taken m room)
    → group b f ≡ whole v n
    → Taken n (suc room)
unfolding group
group-taken b broken room {v} {n} h e = broken-whole (Taken n (suc room)) e
group-taken b (whole w m) room {v} {n} h e =
    cond-case (Taken n (suc room)) (eqb w 0) (broken-whole (Taken n (suc room)))
    (λ e. let t = h w m refl in let k : suc m ≡ n = cc in record { some = omega arith; fits = omega (arith, t.fits) })
    e

front-taken : (bs : List ℕ) {v n : ℕ} → front bs ≡ whole v n → Taken n (length bs)
unfolding front
front-taken [] {v} {n} e = broken-whole (Taken n 0) e
front-taken (b ∷ bs) {v} {n} e =
    cond-case (Taken n (length (b ∷ bs))) (ltb b 128)
    (λ e. let k : 1 ≡ n = cc in record { some = omega arith; fits = omega arith })
    (group-taken b (front bs) (length bs) (λ w m e. front-taken bs e))
    e

-- a number that was read at an offset: it is at most 4,294,967,295, and its end is ahead, within the bytes
pub record NumberAt (s : List ℕ) (at value next : ℕ) : Type 0 where
  pub small : value ≤ most
  pub ahead : at < next
  pub inside : next ≤ length s

from-got : (s : List ℕ) (at : ℕ) (f : Front) {v next : ℕ}
    → ((w n : ℕ) → f ≡ whole w n → Taken n (length (drop at s)))
    → number_from at (within f) ≡ got v next
    → NumberAt s at v next
unfolding within
from-got s at broken {v} {next} h e = refused-got (NumberAt s at v next) e
from-got s at (whole w n) {v} {next} h e = by (leb w most) refl e
  where
    by : (t : Bool) → leb w most ≡ t → number_from at (cond t (whole w n) broken) ≡ got v next → NumberAt s at v next
    by false t e = refused-got (NumberAt s at v next) e
    by true t e =
        let a = h w n refl in
        let room : n ≤ length s - at = simp length-drop at a.fits in
        let same : w ≡ v = cc in
        let end : at + n ≡ next = cc in
        record { small = omega (arith, leb-true w most t); ahead = omega (arith, a.some); inside = omega (arith, a.some) }

pub number-got : (s : List ℕ) (at : ℕ) {v next : ℕ} → number s at ≡ got v next → NumberAt s at v next
unfolding number
number-got s at e = from-got s at (front (drop at s)) (λ w n e. front-taken (drop at s) e) e

-- a number within its limits
pub record LimitedAt (lo hi : ℕ) (s : List ℕ) (at value next : ℕ) : Type 0 where
  pub low : lo ≤ value
  pub high : value ≤ hi
  pub ahead : at < next
  pub inside : next ≤ length s

pub limited-got : (lo hi : ℕ) (s : List ℕ) (at : ℕ) {v next : ℕ} → limited lo hi s at ≡ got v next → LimitedAt lo hi s at v next
unfolding limited
limited-got lo hi s at {v} {next} e =
    let p = and_then-got (number s at) (λ v next. unless (leb lo v) 2 at (unless (leb v hi) 2 at (got v next))) e in
    let q = unless-got (leb lo p.value) 2 at (unless (leb p.value hi) 2 at (got p.value p.next)) p.rest in
    let r = unless-got (leb p.value hi) 2 at (got p.value p.next) q.rest in
    let same : p.value ≡ v = cc r.rest in
    let end : p.next ≡ next = cc r.rest in
    let n = number-got s at p.first in
    let low = leb-true lo p.value q.test in
    let high = leb-true p.value hi r.test in
    record { low = omega arith; high = omega arith; ahead = omega arith; inside = omega arith }

-- a reference to one of n things, above the one before it
pub record ReferenceAt (before n : ℕ) (s : List ℕ) (at value next : ℕ) : Type 0 where
  pub above : before < value
  pub exists : value ≤ n
  pub ahead : at < next
  pub inside : next ≤ length s

pub reference-got : (before n : ℕ) (s : List ℕ) (at : ℕ) {v next : ℕ} → reference before n s at ≡ got v next → ReferenceAt before n s at v next
unfolding reference
reference-got before n s at {v} {next} e =
    let p = and_then-got (number s at) (λ v next. unless (ltb before v) 3 at (unless (leb v n) 3 at (got v next))) e in
    let q = unless-got (ltb before p.value) 3 at (unless (leb p.value n) 3 at (got p.value p.next)) p.rest in
    let r = unless-got (leb p.value n) 3 at (got p.value p.next) q.rest in
    let same : p.value ≡ v = cc r.rest in
    let end : p.next ≡ next = cc r.rest in
    let m = number-got s at p.first in
    let above = ltb-true before p.value q.test in
    let exists = leb-true p.value n r.test in
    record { above = omega arith; exists = omega arith; ahead = omega arith; inside = omega arith }

-- such a list has no more members than there are numbers
pub ascending-length : (n before : ℕ) (l : List ℕ) → Ascending n before l → before ≤ n → before + length l ≤ n
ascending-length n before [] none h = omega arith
ascending-length n before (x ∷ xs) (more a b r) h = omega (arith, ascending-length n x xs r b)

-- so many references: they ascend, and their end is no further back
pub record ReferencesAt (k before n : ℕ) (s : List ℕ) (at : ℕ) (xs : List ℕ) (end : ℕ) : Type 0 where
  pub ascending : Ascending n before xs
  pub count : length xs ≡ k
  pub ahead : at ≤ end
  pub inside : at ≤ length s → end ≤ length s

pub references-got : (k before n : ℕ) (s : List ℕ) (at : ℕ) {xs : List ℕ} {end : ℕ}
    → references k before n s at ≡ got xs end
    → ReferencesAt k before n s at xs end
unfolding references
references-got zero before n s at {xs} {end} e =
    let h : xs ≡ [] = cc in
    let i : at ≡ end = cc in
    record { ascending = rw h none; count = rw h refl; ahead = omega arith; inside = λ l. omega arith }
references-got (suc k) before n s at {xs} {end} e =
    let p = and_then-got (reference before n s at) (λ v next. cons v (references k v n s next)) e in
    let q = cons-got p.value (references k p.value n s p.next) p.rest in
    let r = reference-got before n s at p.first in
    let t = references-got k p.value n s p.next q.rest in
    record {
      ascending = rw q.whole (more r.above r.exists t.ascending);
      count = rw q.whole (ap suc t.count);
      ahead = omega arith;
      inside = λ l. t.inside r.inside;
    }

-- a list of references to n things
pub record ListedAt (n : ℕ) (s : List ℕ) (at : ℕ) (xs : List ℕ) (end : ℕ) : Type 0 where
  pub ascending : Ascending n 0 xs
  pub count : length xs ≤ n
  pub ahead : at < end
  pub inside : end ≤ length s

pub listed-got : (n : ℕ) (s : List ℕ) (at : ℕ) {xs : List ℕ} {end : ℕ} → listed n s at ≡ got xs end → ListedAt n s at xs end
unfolding listed
listed-got n s at e =
    let p = and_then-got (limited 0 n s at) (λ count next. references count 0 n s next) e in
    let l = limited-got 0 n s at p.first in
    let r = references-got p.value 0 n s p.next p.rest in
    record { ascending = r.ascending; count = omega arith; ahead = omega arith; inside = r.inside l.inside }

-- what is read again and again, each time further on within the bytes, ends no further back and within them
pub record RepeatAt (s : List ℕ) (at end : ℕ) : Type 0 where
  pub ahead : at ≤ end
  pub inside : at ≤ length s → end ≤ length s

pub repeat-got : {A : Type 0} (s : List ℕ) (n : ℕ) (f : ℕ → Parsed A) (at : ℕ) {xs : List A} {end : ℕ}
    → ((at : ℕ) (a : A) (next : ℕ) → f at ≡ got a next → (at ≤ next) × (next ≤ length s))
    → repeat n f at ≡ got xs end
    → RepeatAt s at end
unfolding repeat
repeat-got s zero f at {xs} {end} h e = let i : at ≡ end = cc in record { ahead = omega arith; inside = λ l. omega arith }
repeat-got s (suc n) f at {xs} {end} h e =
    let p = and_then-got (f at) (λ a next. cons a (repeat n f next)) e in
    let q = cons-got p.value (repeat n f p.next) p.rest in
    let a = h at p.value p.next p.first in
    let r = repeat-got s n f p.next h q.rest in
    record { ahead = omega arith; inside = λ l. r.inside a.1 }
