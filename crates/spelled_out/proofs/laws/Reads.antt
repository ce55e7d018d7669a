-- Bytes that are read as a value wherever they stand: one reading after another, and the same reading again and again.
use Prim.Native.Nat.{ℕ, zero, suc, ◌+◌, ◌≤◌, ◌<◌}
use mathlib.Core.Path.{◌≡◌, sym, ap, ◌∙◌}
use mathlib.Core.List.{List, [], ◌∷◌, ◌++◌, append_assoc}
use native.Mathlib.Nat.{add-zero, zero-add, suc-add}
use native.Mathlib.Omega.{arith}
use lib.ListN.{length, drop, length-append}
use lib.Seq.{drop-drop, drop-append_seam}
use borrow.Author.Tests.{le-leb, lt-ltb}
use Rattle.scope.specs.Parsed.{Parsed, got, and_then, cons, repeat}
use Rattle.scope.specs.Number.{whole, front, within, most, number, limited, reference}
use Rattle.parsing.proofs.laws.Parsing.{and_then-got, cons-got}

-- the bytes w are read as v, whatever stands before and after them
pub record Reads {A : Type 0} (f : List ℕ → ℕ → Parsed A) (w : List ℕ) (v : A) : Type 0 where
  pub here : (s : List ℕ) (at : ℕ) (q : List ℕ) → drop at s ≡ w ++ q → f s at ≡ got v (at + length w)

-- past some bytes stands what follows them
pub drop_past : (s : List ℕ) (at : ℕ) (w q : List ℕ) → drop at s ≡ w ++ q → drop (at + length w) s ≡ q
drop_past s at w q e = sym (drop-drop (length w) at s) ∙ (rw e (drop-append_seam w q))

-- no bytes, read as a value that is there
pub reads-got : {A : Type 0} (v : A) → Reads (λ s at. got v at) [] v
reads-got v = record { here = λ s at q e. rw add-zero }

-- one reading after another
pub reads-and_then : {A B : Type 0} (f : List ℕ → ℕ → Parsed A) (g : A → List ℕ → ℕ → Parsed B) {w u : List ℕ} {v : A} {x : B}
    → Reads f w v → Reads (g v) u x → Reads (λ s at. and_then (f s at) (λ a next. g a s next)) (w ++ u) x
reads-and_then {A} {B} f g {w} {u} {v} {x} h k = record { here = both }
  where
    both : (s : List ℕ) (at : ℕ) (q : List ℕ) → drop at s ≡ (w ++ u) ++ q
        → and_then (f s at) (λ a next. g a s next) ≡ got x (at + length (w ++ u))
    both s at q e =
        let start : drop at s ≡ w ++ (u ++ q) = e ∙ append_assoc w u q in
        rw (h.here s at (u ++ q) start, k.here s (at + length w) q (drop_past s at w (u ++ q) start))
        (ap (got x) (omega (arith, length-append w u)))

-- what is read after a value that is there
pub reads-cons : {A : Type 0} (a : A) (f : List ℕ → ℕ → Parsed (List A)) {w : List ℕ} {xs : List A}
    → Reads f w xs → Reads (λ s at. cons a (f s at)) w (a ∷ xs)
reads-cons a f h = record { here = λ s at q e. rw (h.here s at q e) }

-- no reading, one and then others, and so many after so many
pub reads_none : {A : Type 0} (f : List ℕ → ℕ → Parsed A) → Reads (λ s at. repeat 0 (f s) at) [] []
unfolding repeat
reads_none f = reads-got []

pub reads_more : {A : Type 0} (f : List ℕ → ℕ → Parsed A) (n : ℕ) {w u : List ℕ} {x : A} {xs : List A}
    → Reads f w x → Reads (λ s at. repeat n (f s) at) u xs → Reads (λ s at. repeat (suc n) (f s) at) (w ++ u) (x ∷ xs)
unfolding repeat
reads_more f n {x = x} h k =
    reads-and_then f (λ a s next. cons a (repeat n (f s) next)) h (reads-cons x (λ s at. repeat n (f s) at) k)

repeat-append : {A : Type 0} (n m : ℕ) (f : ℕ → Parsed A) (at : ℕ) {xs ys : List A} {mid end : ℕ}
    → repeat n f at ≡ got xs mid → repeat m f mid ≡ got ys end → repeat (n + m) f at ≡ got (xs ++ ys) end
unfolding repeat
repeat-append zero m f at {xs} {ys} {mid} {end} d e =
    let none : xs ≡ [] = cc in
    let same : at ≡ mid = cc in
    rw (zero-add, none, same) e
repeat-append (suc n) m f at {xs} {ys} {mid} {end} d e =
    let p = and_then-got (f at) (λ a next. cons a (repeat n f next)) d in
    let q = cons-got p.value (repeat n f p.next) p.rest in
    rw (suc-add, p.first, repeat-append n m f p.next q.rest e)
    (sym (ap (λ (zs : List _). got (zs ++ ys) end) q.whole))

pub reads-append : {A : Type 0} (f : List ℕ → ℕ → Parsed A) (n m : ℕ) {w u : List ℕ} {xs ys : List A}
    → Reads (λ s at. repeat n (f s) at) w xs → Reads (λ s at. repeat m (f s) at) u ys
    → Reads (λ s at. repeat (n + m) (f s) at) (w ++ u) (xs ++ ys)
reads-append {A} f n m {w} {u} {xs} {ys} h k = record { here = both }
  where
    both : (s : List ℕ) (at : ℕ) (q : List ℕ) → drop at s ≡ (w ++ u) ++ q
        → repeat (n + m) (f s) at ≡ got (xs ++ ys) (at + length (w ++ u))
    both s at q e =
        let start : drop at s ≡ w ++ (u ++ q) = e ∙ append_assoc w u q in
        let first = h.here s at (u ++ q) start in
        let second = k.here s (at + length w) q (drop_past s at w (u ++ q) start) in
        repeat-append n m (f s) at first second ∙ ap (got (xs ++ ys)) (omega (arith, length-append w u))

-- a number, by what the front of the bytes holds
pub reads-number : (w : List ℕ) (v : ℕ) → v ≤ most → ((q : List ℕ) → front (w ++ q) ≡ whole v (length w)) → Reads number w v
unfolding number within
reads-number w v l h = record { here = λ s at q e. rw (e, h q, le-leb v most l) }

-- a number within its limits, and a reference above another
pub reads-limited : (lo hi : ℕ) {w : List ℕ} {v : ℕ} → lo ≤ v → v ≤ hi → Reads number w v → Reads (limited lo hi) w v
unfolding limited
reads-limited lo hi {v = v} l k h = record { here = λ s at q e. rw (h.here s at q e, le-leb lo v l, le-leb v hi k) }

pub reads-reference : (before n : ℕ) {w : List ℕ} {v : ℕ} → before < v → v ≤ n → Reads number w v → Reads (reference before n) w v
unfolding reference
reads-reference before n {v = v} l k h = record { here = λ s at q e. rw (h.here s at q e, lt-ltb before v l, le-leb v n k) }
