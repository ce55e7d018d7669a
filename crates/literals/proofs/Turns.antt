-- Turns of the loops: one member more of the list that the words are made of.
use Prim.Native.Nat.{ℕ, zero, suc, ◌+◌, ◌*◌, ◌≤◌, ◌<◌}
use mathlib.Core.Path.{◌≡◌, sym, ap, ◌∙◌}
use mathlib.Core.List.{List, [], ◌∷◌, ◌++◌, map, flat_map, map-append, append_assoc, append-nil}
use native.Mathlib.Omega.{arith}
use native.Mathlib.Numerals.{add-one}
use native.Mathlib.Nat.{add-zero}
use lib.ListN.{length, get_or, take, set, length-append}
use lib.Seq.{take-suc, take_all, length-take-le}
use Rattle.scope.specs.Kinds.{from}
use Rattle.literals.specs.Outputs.{every}
use Rattle.literals.proofs.laws.Outputs.{every-both}
use Rattle.literals.specs.Words.{Holds}
use Rattle.literals.proofs.laws.Words.{holds-none, holds_as, holds_more}

map_more : (f : ℕ → ℕ) (l : List ℕ) (k : ℕ) → k < length l → map f (take (k + 1) l) ≡ map f (take k l) ++ (f (get_or l k 0) ∷ [])
map_more f l k h = rw (add-one k, take-suc l k 0 h) (map-append f (take k l) (get_or l k 0 ∷ []))

-- the first n words are some that stay, and then what the first k members of a list become
pub record Mapped (f : ℕ → ℕ) (before l words : List ℕ) (n k : ℕ) : Type 0 where
  pub holds : Holds words n (before ++ map f (take k l))

pub mapped-none : (f : ℕ → ℕ) (l words : List ℕ) (n : ℕ) → n ≤ length words → Mapped f (take n words) l words (n + 0) 0
mapped-none f l words n h =
    record {
      holds =
          record {
            count = simp (length-append, length-take-le n words h);
            front = rw (add-zero n) (sym (append-nil (take n words)));
          };
    }

module _ {f : ℕ → ℕ} {before l words : List ℕ} {n k : ℕ} (h : Mapped f before l words n k) where
  pub mapped_more : {x : ℕ} (m : ℕ)
      → x ≡ f (get_or l k 0)
      → k < length l
      → n < length words
      → m ≡ n + 1
      → Mapped f before l (set words n x) m (k + 1)
  mapped_more {x} m v i j e =
      rw e
      (record {
        holds = holds_as (append_assoc before (map f (take k l)) (x ∷ []) ∙ rw (v, map_more f l k i)) (holds_more h.holds x j);
      })

  pub mapped_all : (m : ℕ) → length l ≤ k → m ≡ n → Holds words m (before ++ map f l)
  mapped_all m i e = rw e (rw (take_all k l i) at h.holds)

-- the first n words are the lists that the first k members of a list become, one after the other
pub record Flattened (f : ℕ → List ℕ) (l words : List ℕ) (n k : ℕ) : Type 0 where
  pub holds : Holds words n (flat_map f (take k l))

pub flattened-none : (f : ℕ → List ℕ) (l words : List ℕ) → Flattened f l words 0 0
unfolding flat_map
flattened-none f l words = record { holds = holds-none words }

pub flattened_all : {f : ℕ → List ℕ} {l words : List ℕ} {n k : ℕ} → Flattened f l words n k → length l ≤ k → Holds words n (flat_map f l)
flattened_all {l = l} {k = k} h i = rw (take_all k l i) at h.holds

flat_append : (f : ℕ → List ℕ) (xs : List ℕ) (x : ℕ) → flat_map f (xs ++ (x ∷ [])) ≡ flat_map f xs ++ f x
unfolding flat_map
flat_append f [] x = append-nil (f x)
flat_append f (y ∷ xs) x = rw (flat_append f xs x) (sym (append_assoc (f y) (flat_map f xs) (f x)))

module _ {f : ℕ → List ℕ} {l words : List ℕ} {n k : ℕ} (h : Flattened f l words n k) (ys : List ℕ) {after : List ℕ} {m : ℕ} (q : Holds after m (take n words ++ ys)) where
  pub flattened_more : ys ≡ f (get_or l k 0) → k < length l → Flattened f l after m (k + 1)
  flattened_more e i =
      record {
        holds = holds_as (rw (h.holds.front, e, add-one k, take-suc l k 0 i) (sym (flat_append f (take k l) (get_or l k 0)))) q;
      }

  pub flattened_size : m ≡ n + length ys
  flattened_size = q.count ∙ rw (h.holds.front, length-append, ← h.holds.count)

-- the next time
from_more : (n k : ℕ) → from n (suc k) ≡ from n k ++ ((n + k) ∷ [])
unfolding from
from_more n zero = rw (add-zero n)
from_more n (suc k) = let e : suc n + k ≡ n + suc k = omega arith in ap (λ (l : List ℕ). n ∷ l) (rw e at (from_more (suc n) k))

pub times_more : (t : ℕ) → from 1 (t + 1) ≡ from 1 t ++ ((t + 1) ∷ [])
times_more t = let e : 1 + t ≡ suc t = omega arith in rw (add-one t) (rw e at (from_more 1 t))

pub next-time : (f : ℕ → ℕ) (words : List ℕ) (n t x : ℕ)
    → Holds words n (map f (from 1 n))
    → n ≡ t
    → n < length words
    → x ≡ f (t + 1)
    → Holds (set words n x) (n + 1) (map f (from 1 (n + 1)))
next-time f words n t x h e l v =
    holds_as (rw (v, ← e, times_more n) (sym (map-append f (from 1 n) ((n + 1) ∷ [])))) (holds_more h x l)

-- the next of gates' outputs, after words that stay
pub next-output : (before : List ℕ) (step first k n v : ℕ) (words : List ℕ)
    → Holds words n (before ++ every step first k)
    → n < length words
    → v ≡ first + step * k
    → (m : ℕ)
    → m ≡ n + 1
    → Holds (set words n (2 * v)) m (before ++ every step first (k + 1))
unfolding every
next-output before step first k n v words h l e m q =
    rw q (holds_as (append_assoc before (every step first k) ((2 * v) ∷ []) ∙ rw e (ap (◌++◌ before) (sym (every-both step first k 1)))) (holds_more h (2 * v) l))

-- words that stay, and nothing after them
pub holds-before : (words : List ℕ) (n : ℕ) → n ≤ length words → Holds words (n + 0) (take n words ++ [])
holds-before words n h =
    record {
      count = simp (length-append, length-take-le n words h);
      front = rw (add-zero n) (sym (append-nil (take n words)));
    }
