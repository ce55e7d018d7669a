-- What a reading got at an offset, it gets wherever the bytes that it took stand: one reading after another, and numbers.
use Prim.Native.Nat.{ℕ, zero, suc, ◌+◌, ◌-◌, ◌*◌, ◌%◌, ◌≤◌}
use mathlib.Core.Path.{◌≡◌, refl, ap, ◌∙◌}
use mathlib.Core.Bool.{Bool, true, false, cond}
use mathlib.Core.List.{List, [], ◌∷◌, ◌++◌}
use native.Mathlib.Omega.{arith}
use lib.Dec.{leb, ltb, eqb}
use lib.ListN.{length, take, drop, length-drop}
use lib.Seq.{length-take-le, take-add, drop-drop}
use borrow.Author.Tests.{leb-true}
use Rattle.laws.specs.Booleans.{impossible}
use Rattle.scope.specs.Parsed.{Parsed, got, and_then, unless, cons, repeat}
use Rattle.scope.specs.Number.{Front, broken, whole, group, front, within, most, number_from, number, limited, reference}
use Rattle.scope.specs.SpelledOut.{bytes_from}
use Rattle.parsing.proofs.laws.Parsing.{refused-got, and_then-got, unless-got, cons-got}
use Rattle.parsing.proofs.laws.Numbers.{limited-got, reference-got}
use Rattle.spelled_out.proofs.laws.Reads.{Reads, reads-got, reads-and_then, reads-cons, reads-number, reads-limited, reads-reference}

-- the bytes that a reading took lie in the file, and it reads them anywhere
pub record Span {A : Type 0} (f : List ℕ → ℕ → Parsed A) (s : List ℕ) (at : ℕ) (v : A) (next : ℕ) : Type 0 where
  pub ahead : at ≤ next
  pub inside : next ≤ length s
  pub reads : Reads f (bytes_from at next s) v

-- of whatever a reading gets
pub record Local {A : Type 0} (f : List ℕ → ℕ → Parsed A) : Type 0 where
  pub span : (s : List ℕ) (at : ℕ) {v : A} {next : ℕ} → at ≤ length s → f s at ≡ got v next → Span f s at v next

-- the bytes up to an offset, and those from there on
pub bytes-join : (a b c : ℕ) (s : List ℕ) → a ≤ b → b ≤ c → bytes_from a b s ++ bytes_from b c s ≡ bytes_from a c s
bytes-join a b c s h k =
    let whole : c - a ≡ (b - a) + (c - b) = omega arith in
    let mid : a + (b - a) ≡ b = omega arith in
    rw (whole, take-add (b - a) (c - b) (drop a s), drop-drop (b - a) a s, mid)

-- the laws: a value, one reading after another, a list, the same reading again and again
pub local-got : {A : Type 0} (v : A) → Local (λ s at. got v at)
local-got {A} v = record { span = one }
  where
    one : (s : List ℕ) (at : ℕ) {w : A} {next : ℕ} → at ≤ length s → got v at ≡ got w next → Span (λ s at. got v at) s at w next
    one s at {w} {next} l e =
        let same : v ≡ w = cc in
        let end : at ≡ next = cc in
        let none : next - at ≡ 0 = omega arith in
        record { ahead = omega arith; inside = omega arith; reads = rw (none, ← same) (reads-got v) }

pub local-and_then : {A B : Type 0} (f : List ℕ → ℕ → Parsed A) (g : A → List ℕ → ℕ → Parsed B) → Local f → ((a : A) → Local (g a))
    → Local (λ s at. and_then (f s at) (λ a next. g a s next))
local-and_then f g h k =
    record {
      span = λ s at {v} {next} l e.
          let p = and_then-got (f s at) (λ a next. g a s next) e in
          let first = h.span s at l p.first in
          let second = (k p.value).span s p.next first.inside p.rest in
          record {
            ahead = omega (arith, first.ahead, second.ahead);
            inside = second.inside;
            reads = rw (bytes-join at p.next next s first.ahead second.ahead) at (reads-and_then f g first.reads second.reads);
          };
    }

pub local-cons : {A : Type 0} (a : A) (f : List ℕ → ℕ → Parsed (List A)) → Local f → Local (λ s at. cons a (f s at))
local-cons a f h =
    record {
      span = λ s at {v} {next} l e.
          let p = cons-got a (f s at) e in
          let t = h.span s at l p.rest in
          record { ahead = t.ahead; inside = t.inside; reads = rw p.whole (reads-cons a f t.reads) };
    }

pub local-repeat : {A : Type 0} (n : ℕ) (f : List ℕ → ℕ → Parsed A) → Local f → Local (λ s at. repeat n (f s) at)
unfolding repeat
local-repeat zero f h = local-got []
local-repeat (suc n) f h =
    local-and_then f (λ a s next. cons a (repeat n (f s) next)) h (λ a. local-cons a (λ s at. repeat n (f s) at) (local-repeat n f h))

-- a number at the front of some bytes depends only on those that it takes
record FrontOf (bs : List ℕ) (v n : ℕ) : Type 0 where
  fits : n ≤ length bs
  same : (q : List ℕ) → front (take n bs ++ q) ≡ whole v n

-- a byte with its top bit set stands before a whole number
record Grouped (b : ℕ) (f : Front) (v n : ℕ) : Type 0 where
  value : ℕ
  bytes : ℕ
  rest : f ≡ whole value bytes
  count : n ≡ suc bytes
  made : group b (whole value bytes) ≡ whole v n

grouped : (b : ℕ) (f : Front) {v n : ℕ} → group b f ≡ whole v n → Grouped b f v n
unfolding group
grouped b broken e = impossible (cc e)
grouped b (whole w m) {v} {n} e = by (eqb w 0) e
  where
    by : (t : Bool) → cond t broken (whole (b % 128 + 128 * w) (suc m)) ≡ whole v n → Grouped b (whole w m) v n
    by true d = impossible (cc d)
    by false d = record { value = w; bytes = m; rest = refl; count = cc d; made = e }

front_of : (bs : List ℕ) {v n : ℕ} → front bs ≡ whole v n → FrontOf bs v n
unfolding front
front_of [] e = impossible (cc e)
front_of (b ∷ bs) {v} {n} e = by (ltb b 128) refl (λ w m e. front_of bs e) e
  where
    by : (t : Bool) → ltb b 128 ≡ t → ((w m : ℕ) → front bs ≡ whole w m → FrontOf bs w m)
        → cond t (whole b 1) (group b (front bs)) ≡ whole v n → FrontOf (b ∷ bs) v n
    by true t ih e =
        let one : n ≡ 1 = cc in
        record { fits = omega arith; same = λ q. rw (one, t) (rw one at e) }
    by false t ih e =
        let g = grouped b (front bs) e in
        let f = ih g.value g.bytes g.rest in
        record { fits = omega (arith, g.count, f.fits); same = λ q. rw (g.count, t, f.same q) (g.made ∙ ap (whole v) g.count) }

-- so a number is read anywhere by its bytes
local-number : Local number
unfolding number within
local-number = record { span = λ s at {v} {next} l e. one s at v next l (front (drop at s)) refl e }
  where
    one : (s : List ℕ) (at v next : ℕ) → at ≤ length s → (f : Front) → front (drop at s) ≡ f → number_from at (within f) ≡ got v next
        → Span number s at v next
    one s at v next l broken d e = refused-got (Span number s at v next) e
    one s at v next l (whole w n) d e = by (leb w most) refl e
      where
        by : (t : Bool) → leb w most ≡ t → number_from at (cond t (whole w n) broken) ≡ got v next → Span number s at v next
        by false t e = refused-got (Span number s at v next) e
        by true t e =
            let same : w ≡ v = cc in
            let end : at + n ≡ next = cc in
            let f = front_of (drop at s) d in
            let count : next - at ≡ n = omega arith in
            let fits : n ≤ length s - at = rw length-drop at f.fits in
            let taken = length-take-le n (drop at s) f.fits in
            record {
              ahead = omega arith;
              inside = omega arith;
              reads = rw (count, ← same) (reads-number (take n (drop at s)) w (leb-true w most t) (λ q. rw taken (f.same q)));
            }

-- a number within its limits, and a reference, are numbers
limited-number : (lo hi : ℕ) (s : List ℕ) (at : ℕ) {v next : ℕ} → limited lo hi s at ≡ got v next → number s at ≡ got v next
unfolding limited
limited-number lo hi s at e =
    let p = and_then-got (number s at) (λ v next. unless (leb lo v) 2 at (unless (leb v hi) 2 at (got v next))) e in
    let q = unless-got (leb lo p.value) 2 at (unless (leb p.value hi) 2 at (got p.value p.next)) p.rest in
    p.first ∙ (unless-got (leb p.value hi) 2 at (got p.value p.next) q.rest).rest

pub local-limited : (lo hi : ℕ) → Local (limited lo hi)
local-limited lo hi =
    record {
      span = λ s at {v} {next} l e.
          let t = local-number.span s at l (limited-number lo hi s at e) in
          let r = limited-got lo hi s at e in
          record { ahead = t.ahead; inside = t.inside; reads = reads-limited lo hi r.low r.high t.reads };
    }

reference-number : (before n : ℕ) (s : List ℕ) (at : ℕ) {v next : ℕ} → reference before n s at ≡ got v next → number s at ≡ got v next
unfolding reference
reference-number before n s at e =
    let p = and_then-got (number s at) (λ v next. unless (ltb before v) 3 at (unless (leb v n) 3 at (got v next))) e in
    let q = unless-got (ltb before p.value) 3 at (unless (leb p.value n) 3 at (got p.value p.next)) p.rest in
    p.first ∙ (unless-got (leb p.value n) 3 at (got p.value p.next) q.rest).rest

pub local-reference : (before n : ℕ) → Local (reference before n)
local-reference before n =
    record {
      span = λ s at {v} {next} l e.
          let t = local-number.span s at l (reference-number before n s at e) in
          let r = reference-got before n s at e in
          record { ahead = t.ahead; inside = t.inside; reads = reads-reference before n r.above r.exists t.reads };
    }
