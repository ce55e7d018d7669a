-- Where a list that was read ends, for a reader that keeps none of its members: laws.
use Prim.Native.Nat.{ℕ, suc, ◌+◌, ◌-◌, ◌≤◌, ◌<◌}
use mathlib.Core.Path.{◌≡◌, refl, sym, ap, ◌∙◌}
use Rattle.std.proofs.Common.{Result, Ok, Err}
use mathlib.Core.List.{List, []}
use lib.Dec.{leb}
use lib.ListN.{length}
use native.Mathlib.Omega.{arith}
use Rattle.scope.specs.Parsed.{Parsed, got, refused, and_then, unless, cons, repeat}
use borrow.Author.Tests.{leb-true, lt-leb, le-leb}
use Rattle.scope.specs.declared.refusal.Refusal.{Refusal}
use Rattle.parsing.specs.Parsing.{list_of}
use Rattle.parsing.proofs.laws.Parsing.{refused-got, and_then-got, unless-got, repeat-same}
use Rattle.constraint_end.specs.Ends.{ends, said_end, whole_at}

ends-cons : {A : Type 0} (a : A) (p : Parsed (List A)) → ends (cons a p) ≡ ends p
ends-cons a (got xs end) = refl
ends-cons a (refused k v) = refl

-- one more that ends somewhere, or is refused
ends-rest : {A : Type 0} (p : Parsed A) (g : ℕ → Parsed (List A)) {v next : ℕ} → ends p ≡ got v next → ends (and_then p (λ a next. cons a (g next))) ≡ ends (g next)
ends-rest (got a end) g {v} {next} e = let k : end ≡ next = cc in rw k (ends-cons a (g next))
ends-rest (refused k w) g {v} {next} e = refused-got (refused k w ≡ ends (g next)) e

pub ends-of-refused : {A : Type 0} (p : Parsed A) {k v : ℕ} → ends p ≡ refused k v → p ≡ refused k v
ends-of-refused (got xs e) {k} {v} h = refused-got (got xs e ≡ refused k v) (sym h)
ends-of-refused (refused k v) h = cc

ends-stop : {A B : Type 0} (p : Parsed A) (g : A → ℕ → Parsed B) {k v : ℕ} → ends p ≡ refused k v → ends (and_then p g) ≡ refused k v
ends-stop p g e = rw (ends-of-refused p e)

-- a turn of reading the same thing again
module _ {A : Type 0} (i count : ℕ) (f : ℕ → Parsed A) (at : ℕ) (h : i < count) where
  pub ends_more : {v next : ℕ} → ends (f at) ≡ got v next → ends (repeat (count - i) f at) ≡ ends (repeat (count - (i + 1)) f next)
  unfolding repeat
  ends_more e =
      let k : count - i ≡ suc (count - (i + 1)) = omega arith in
      rw k (ends-rest (f at) (repeat (count - (i + 1)) f) e)

  pub ends_refused : {k v : ℕ} → ends (f at) ≡ refused k v → ends (repeat (count - i) f at) ≡ refused k v
  unfolding repeat
  ends_refused e =
      let k : count - i ≡ suc (count - (i + 1)) = omega arith in
      rw k (ends-stop (f at) (λ a next. cons a (repeat (count - (i + 1)) f next)) e)

pub ends-end : {A : Type 0} (i count : ℕ) (f : ℕ → Parsed A) (at : ℕ) → count ≤ i → ends (repeat (count - i) f at) ≡ got 0 at
unfolding repeat
ends-end i count f at h = let k : count - i ≡ 0 = omega arith in rw k

-- what ends somewhere was read
pub ends-got : {A : Type 0} (p : Parsed (List A)) {n end : ℕ} → ends p ≡ got n end → p ≡ got (list_of p) end
ends-got (got xs e) {n} {end} h = let k : e ≡ end = cc in rw k
ends-got (refused k v) {n} {end} h = refused-got (refused k v ≡ got [] end) h

-- a list that reached the end of the bytes
pub record WholeAt {A : Type 0} (s : List ℕ) (n : ℕ) (f : ℕ → Parsed A) (at : ℕ) (xs : List A) (end : ℕ) : Type 0 where
  pub list : repeat n f at ≡ got xs end
  pub past : length s ≤ end

pub whole-got : {A : Type 0} (s : List ℕ) (n : ℕ) (f : ℕ → Parsed A) (at : ℕ) {xs : List A} {end : ℕ}
    → whole_at s n f at ≡ got xs end
    → WholeAt s n f at xs end
unfolding whole_at
whole-got s n f at {xs} {end} e =
    let p = and_then-got (repeat n f at) (λ xs end. unless (leb (length s) end) 6 end (got xs end)) e in
    let q = unless-got (leb (length s) p.next) 6 p.next (got p.value p.next) p.rest in
    let l = leb-true (length s) p.next q.test in
    let k : p.next ≡ end = cc q.rest in
    record { list = p.first ∙ q.rest; past = omega arith }

-- the end of the walk f gives the end of the whole g, where the two agree; x is what the walk answered
module _ {A : Type 0} (s : List ℕ) (n : ℕ) (f g : ℕ → Parsed A) (at : ℕ) (x : Result ℕ Refusal) (e : said_end x ≡ ends (repeat n f at)) (same : (at : ℕ) → f at ≡ g at) where
  agree : ends (repeat n g at) ≡ said_end x
  agree = sym (e ∙ ap ends (repeat-same n f g at same))

  pub whole_refused : {r : Refusal} → x ≡ Err r → said_end x ≡ ends (whole_at s n g at)
  unfolding whole_at
  whole_refused h = rw (h, ends-of-refused (repeat n g at) (agree ∙ ap said_end h))

  pub whole_left : {end : ℕ} → x ≡ Ok end → end < length s → refused 6 end ≡ ends (whole_at s n g at)
  unfolding whole_at
  whole_left {end} h l = rw (ends-got (repeat n g at) (agree ∙ ap said_end h), lt-leb (length s) end l)

  pub whole_end : {end : ℕ} → x ≡ Ok end → length s ≤ end → got 0 end ≡ ends (whole_at s n g at)
  unfolding whole_at
  whole_end {end} h l = rw (ends-got (repeat n g at) (agree ∙ ap said_end h), le-leb (length s) end l)

-- readings that agree reach the end alike
pub whole_same : {A : Type 0} (s : List ℕ) (n : ℕ) (f g : ℕ → Parsed A) (at : ℕ) → ((at : ℕ) → f at ≡ g at) → whole_at s n f at ≡ whole_at s n g at
unfolding whole_at
whole_same s n f g at h = rw (repeat-same n f g at h)
