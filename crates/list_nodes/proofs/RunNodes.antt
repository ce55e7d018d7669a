-- Nodes over a run of variables, after words that stay.
use Prim.Native.Nat.{ℕ, ◌+◌, ◌*◌, ◌≤◌, ◌<◌}
use mathlib.Core.Path.{◌≡◌, refl, sym, ap, ◌∙◌}
use mathlib.Core.List.{List, [], ◌∷◌, ◌++◌, map, map-append, append_assoc, append-nil}
use native.Mathlib.Omega.{arith}
use lib.ListN.{length, take, set, length-set, length-append, length-map}
use Rattle.scope.specs.Cnf.{pos, neg, opp, or, and}
use Rattle.literals.specs.Words.{Holds}
use Rattle.literals.proofs.laws.Words.{holds_as, holds_more}
use Rattle.literals.specs.Outputs.{every}
use Rattle.literals.proofs.laws.Outputs.{every-both}
use Rattle.literals.specs.NodeWords.{node_words}
use Rattle.literals.proofs.laws.NodeWords.{or-words, and-words}
use Rattle.list_nodes.proofs.laws.Runs.{length-every}
use Rattle.list_nodes.proofs.Nodes.{holds_then, holds_kept, holds_put, holds-place, or_stored}

-- the negated literals of a run: none, and one more
pub negated-none : (first : ℕ) (out : List ℕ) (at : ℕ) → at ≤ length out → Holds out at (take at out ++ map opp (every 1 first 0))
unfolding every
negated-none first out at h = holds_as (sym (append-nil (take at out))) (holds_kept out at h)

pub negated-more : (before : List ℕ) (first k : ℕ) {out : List ℕ} {n : ℕ}
    → Holds out n (before ++ map opp (every 1 first k))
    → n < length out
    → (x : ℕ)
    → x ≡ first + k
    → Holds (set out n (2 * x + 1)) (n + 1) (before ++ map opp (every 1 first (k + 1)))
unfolding every
negated-more before first k h l x e =
    let xs = every 1 first k in
    let f : opp (pos (first + 1 * k)) ≡ 2 * x + 1 = omega arith in
    let s : map opp (every 1 first (k + 1)) ≡ map opp xs ++ ((2 * x + 1) ∷ []) =
    rw (every-both 1 first k 1, map-append opp xs (pos (first + 1 * k) ∷ []), f) in
    holds_as (append_assoc before (map opp xs) ((2 * x + 1) ∷ []) ∙ ap (◌++◌ before) (sym s)) (holds_more h (2 * x + 1) l)

-- the literals of a run end after it
pub run-place : (first n : ℕ) (out : List ℕ) (at : ℕ) → at ≤ length out → {after : List ℕ} {last : ℕ}
    → Holds after last (take at out ++ every 1 first n)
    → last ≡ at + n
run-place first n out at l h = holds-place out at (every 1 first n) l h ∙ rw (length-every 1 first n)

-- a head word, and a head word and another, before a run
module _ (out : List ℕ) (at : ℕ) {after : List ℕ} {last : ℕ} (ys : List ℕ) where
  after_head : (h : ℕ) → Holds after last (take (at + 1) (set out at h) ++ ys) → at < length out
      → Holds after last ((take at out ++ (h ∷ [])) ++ ys)
  after_head h q l = holds_then ys (holds_put (holds_kept out at (omega arith)) at h (at + 1) refl l refl) q

  after_two : (h x : ℕ) → Holds after last (take (at + 2) (set (set out at h) (at + 1) x) ++ ys) → at + 1 < length out
      → Holds after last (((take at out ++ (h ∷ [])) ++ (x ∷ [])) ++ ys)
  after_two h x q l =
      let a = holds_put (holds_kept out at (omega arith)) at h (at + 1) refl (omega arith) refl in
      holds_then ys (holds_put a (at + 1) x (at + 2) refl (simp length-set (omega arith)) (omega arith)) q

module _ (first n : ℕ) (out : List ℕ) (at : ℕ) {after : List ℕ} {last : ℕ} where
  pub all_stored : (o : ℕ) → Holds after last (take (at + 1) (set out at n) ++ map opp (every 1 first n))
      → at < length out
      → last < length after
      → Holds (set after last (2 * o + 2147483648)) (last + 1) (take at out ++ node_words (and (every 1 first n)) o)
  all_stored o q l k =
      holds_as (rw (and-words (every 1 first n) o, length-every 1 first n) (simp append_assoc))
      (holds_more (after_head out at (map opp (every 1 first n)) n q l) (2 * o + 2147483648) k)

  pub some_stored : (o : ℕ) → Holds after last (take (at + 1) (set out at n) ++ every 1 first n)
      → at < length out
      → last < length after
      → Holds (set after last (2 * o + 1 + 2147483648)) (last + 1) (take at out ++ node_words (or (every 1 first n)) o)
  some_stored o q l k = or_stored out at n (every 1 first n) l (sym (length-every 1 first n)) q k o (2 * o + 1 + 2147483648) refl

  pub with_stored : (x o : ℕ) → Holds after last (take (at + 2) (set (set out at (n + 1)) (at + 1) (2 * x + 1)) ++ map opp (every 1 first n))
      → at + 1 < length out
      → last < length after
      → Holds (set after last (2 * o + 2147483648)) (last + 1) (take at out ++ node_words (and (pos x ∷ every 1 first n)) o)
  with_stored x o q l k =
      let e : length (pos x ∷ every 1 first n) ≡ n + 1 = omega (arith, length-every 1 first n) in
      let f : opp (pos x) ≡ 2 * x + 1 = omega arith in
      holds_as (rw (and-words (pos x ∷ every 1 first n) o, e, f) (simp append_assoc))
      (holds_more (after_two out at (map opp (every 1 first n)) (n + 1) (2 * x + 1) q l) (2 * o + 2147483648) k)

  pub until_stored : (x o : ℕ) → Holds after last (take (at + 2) (set (set out at (n + 2)) (at + 1) (2 * x + 1)) ++ map opp (every 1 first n))
      → at + 1 < length out
      → last + 1 < length after
      → Holds (set (set after last (2 * (first + n))) (last + 1) (2 * o + 2147483648)) (last + 2)
      (take at out ++ node_words (and (pos x ∷ every 1 first n ++ neg (first + n) ∷ [])) o)
  until_stored x o q l k =
      let xs = every 1 first n in
      let ls = pos x ∷ xs ++ (neg (first + n) ∷ []) in
      let e : length ls ≡ n + 2 = simp length-append (omega (arith, length-every 1 first n)) in
      let f : opp (pos x) ≡ 2 * x + 1 = omega arith in
      let g : opp (neg (first + n)) ≡ 2 * (first + n) = omega arith in
      let a = holds_more (after_two out at (map opp xs) (n + 2) (2 * x + 1) q l) (2 * (first + n)) (omega arith) in
      let b = holds_put a (last + 1) (2 * o + 2147483648) (last + 2) refl (simp length-set (omega arith)) (omega arith) in
      let m : map opp ls ≡ ((2 * x + 1) ∷ map opp xs) ++ ((2 * (first + n)) ∷ []) =
      map-append opp (pos x ∷ xs) (neg (first + n) ∷ []) ∙ rw (f, g) in
      let w : List ℕ = (2 * o + 2147483648) ∷ [] in
      let s : node_words (and ls) o ≡ (n + 2) ∷ (((2 * x + 1) ∷ map opp xs) ++ ((2 * (first + n)) ∷ [])) ++ w =
      and-words ls o ∙ ap (λ (h : ℕ). h ∷ map opp ls ++ w) e ∙ ap (λ (l : List ℕ). (n + 2) ∷ l ++ w) m in
      holds_as (rw s (simp append_assoc)) b

  pub none_stored : (m : ℕ) → Holds after last (take (at + 1) (set out at (n + 1)) ++ map opp (every 1 first n))
      → at < length out
      → last + 1 < length after
      → Holds (set (set after last (2 * m)) (last + 1) (2 * (m + 1) + 1 + 2147483648)) (last + 2)
      (take at out ++ node_words (or (map opp (every 1 first n) ++ pos m ∷ [])) (m + 1))
  none_stored m q l k =
      let xs = map opp (every 1 first n) in
      let ls = xs ++ (pos m ∷ []) in
      let e : length ls ≡ n + 1 = simp length-append (omega (arith, length-map (every 1 first n) opp, length-every 1 first n)) in
      let a = holds_more (after_head out at xs (n + 1) q l) (2 * m) (omega arith) in
      let b = holds_put a (last + 1) (2 * (m + 1) + 1 + 2147483648) (last + 2) refl (simp length-set (omega arith)) (omega arith) in
      holds_as (rw (or-words ls (m + 1), e) (simp append_assoc)) b
