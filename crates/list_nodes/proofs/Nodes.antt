-- Nodes after words that stay.
use Prim.Native.Nat.{ℕ, ◌+◌, ◌-◌, ◌*◌, ◌≤◌, ◌<◌}
use mathlib.Core.Path.{◌≡◌, refl, sym, ap, ◌∙◌}
use mathlib.Core.List.{List, [], ◌∷◌, ◌++◌, append_assoc, append-nil}
use native.Mathlib.Omega.{arith}
use native.Mathlib.Numerals.{add-one}
use lib.ListN.{length, get_or, take, drop, set, length-set, length-append, length-drop, drop_of_length-le}
use lib.Seq.{take-suc, take-suc-set, length-take-le, drop-append-le}
use Rattle.scope.specs.Cnf.{pos, neg, opp, or, and}
use Rattle.literals.specs.Words.{Holds}
use Rattle.literals.proofs.laws.Words.{holds_as, holds_more}
use Rattle.literals.specs.NodeWords.{node_words}
use Rattle.literals.proofs.laws.NodeWords.{or-words, and-words}

-- a list and then more
pub holds_then : {words after xs : List ℕ} {n m : ℕ} (ys : List ℕ) → Holds words n xs → Holds after m (take n words ++ ys) → Holds after m (xs ++ ys)
holds_then ys h q = holds_as (ap (λ (l : List ℕ). l ++ ys) h.front) q

-- words that stay
pub holds_kept : (words : List ℕ) (n : ℕ) → n ≤ length words → Holds words n (take n words)
holds_kept words n h = record { count = sym (length-take-le n words h); front = refl }

-- a word more, at its place
pub holds_put : {words xs : List ℕ} {n : ℕ} → Holds words n xs → (m x k : ℕ) → m ≡ n → m < length words → k ≡ n + 1
    → Holds (set words m x) k (xs ++ (x ∷ []))
holds_put h m x k e l q = rw (q, e) (holds_more h x (omega arith))

-- an OR: its head word, its inputs ys, and the word w
pub or_stored : (out : List ℕ) (at n : ℕ) (ys : List ℕ) → at < length out → n ≡ length ys → {after : List ℕ} {last : ℕ}
    → Holds after last (take (at + 1) (set out at n) ++ ys)
    → last < length after
    → (o w : ℕ)
    → w ≡ neg o + 2147483648
    → Holds (set after last w) (last + 1) (take at out ++ node_words (or ys) o)
or_stored out at n ys l e h k o w q =
    let f : take (at + 1) (set out at n) ≡ take at out ++ (length ys ∷ []) = rw (add-one at, take-suc-set out at n l, e) in
    holds_as (rw (f, q, or-words ys o) (simp append_assoc)) (holds_more h w k)

-- where the words after those that stay end
pub holds-place : (out : List ℕ) (at : ℕ) (ys : List ℕ) → at ≤ length out → {after : List ℕ} {last : ℕ}
    → Holds after last (take at out ++ ys)
    → last ≡ at + length ys
holds-place out at ys l h = h.count ∙ length-append (take at out) ys ∙ rw (length-take-le at out l)

-- where the inputs end
pub or-place : (out : List ℕ) (at n : ℕ) (ys : List ℕ) → at < length out → {after : List ℕ} {last : ℕ}
    → Holds after last (take (at + 1) (set out at n) ++ ys)
    → last ≡ at + 1 + length ys
or-place out at n ys l h = holds-place (set out at n) (at + 1) ys (rw length-set (omega arith)) h

-- an idle time's AND
pub idling-stored : (out : List ℕ) (at x v : ℕ) → at + 5 ≤ length out
    → Holds
    (set (set (set (set (set out at 3) (at + 1) x) (at + 2) (2 * v + 1)) (at + 3) (2 * (v + 1) + 1)) (at + 4) (2 * (v + 2) + 2147483648))
    (at + 5)
    (take at out ++ node_words (and (opp x ∷ pos v ∷ pos (v + 1) ∷ [])) (v + 2))
idling-stored out at x v l =
    let a = holds_put (holds_kept out at (omega arith)) at 3 (at + 1) refl (omega arith) refl in
    let b = holds_put a (at + 1) x (at + 2) refl (simp length-set (omega arith)) (omega arith) in
    let c = holds_put b (at + 2) (2 * v + 1) (at + 3) refl (simp length-set (omega arith)) (omega arith) in
    let d = holds_put c (at + 3) (2 * (v + 1) + 1) (at + 4) refl (simp length-set (omega arith)) (omega arith) in
    let e = holds_put d (at + 4) (2 * (v + 2) + 2147483648) (at + 5) refl (simp length-set (omega arith)) (omega arith) in
    let p : opp (opp x) ≡ x = omega arith in
    let q : opp (pos v) ≡ 2 * v + 1 = omega arith in
    let r : opp (pos (v + 1)) ≡ 2 * (v + 1) + 1 = omega arith in
    holds_as (rw (and-words (opp x ∷ pos v ∷ pos (v + 1) ∷ []) (v + 2), p, q, r) (simp append_assoc)) e

-- two variables and a marked literal
pub two-stored : (out : List ℕ) (at x y l : ℕ) → at + 4 ≤ length out
    → Holds (set (set (set (set out at 2) (at + 1) (2 * x)) (at + 2) (2 * y)) (at + 3) (l + 2147483648)) (at + 4)
    (take at out ++ (2 ∷ pos x ∷ pos y ∷ (l + 2147483648) ∷ []))
two-stored out at x y l h =
    let a = holds_put (holds_kept out at (omega arith)) at 2 (at + 1) refl (omega arith) refl in
    let b = holds_put a (at + 1) (2 * x) (at + 2) refl (simp length-set (omega arith)) (omega arith) in
    let c = holds_put b (at + 2) (2 * y) (at + 3) refl (simp length-set (omega arith)) (omega arith) in
    let d = holds_put c (at + 3) (l + 2147483648) (at + 4) refl (simp length-set (omega arith)) (omega arith) in
    holds_as (simp append_assoc) d

-- an OR of two variables, and an AND of two negated ones
module _ (before : List ℕ) (x y o : ℕ) where
  pub either_words : before ++ (2 ∷ pos x ∷ pos y ∷ (2 * o + 1 + 2147483648) ∷ []) ≡ before ++ node_words (or (pos x ∷ pos y ∷ [])) o
  either_words = rw (or-words (pos x ∷ pos y ∷ []) o)

  pub neither_words : before ++ (2 ∷ pos x ∷ pos y ∷ (2 * o + 2147483648) ∷ []) ≡ before ++ node_words (and (neg x ∷ neg y ∷ [])) o
  neither_words =
      let p : opp (neg x) ≡ pos x = omega arith in
      let q : opp (neg y) ≡ pos y = omega arith in
      rw (and-words (neg x ∷ neg y ∷ []) o, p, q)

pub part_length_lem : (row : List ℕ) (from to : ℕ) → to ≤ length row → length (drop from (take to row)) ≡ to - from
part_length_lem row from to h = length-drop from (take to row) ∙ rw (length-take-le to row h)

pub copied_none : (row : List ℕ) (from : ℕ) (out : List ℕ) (at : ℕ) → at ≤ length out → from ≤ length row → Holds out at (take at out ++ drop from (take from row))
copied_none row from out at h l =
    let e : drop from (take from row) ≡ [] = drop_of_length-le (take from row) {i = from} (omega (arith, length-take-le from row l)) in
    holds_as (sym (rw e (append-nil (take at out)))) (holds_kept out at h)

pub copied_more : (row before : List ℕ) (from k : ℕ) {out : List ℕ} {n : ℕ}
    → Holds out n (before ++ drop from (take k row))
    → from ≤ k
    → k < length row
    → n < length out
    → Holds (set out n (get_or row k 0)) (n + 1) (before ++ drop from (take (k + 1) row))
copied_more row before from k h f l j =
    let e : drop from (take (k + 1) row) ≡ drop from (take k row) ++ (get_or row k 0 ∷ []) =
    rw (add-one k, take-suc row k 0 l) (drop-append-le from (take k row) (get_or row k 0 ∷ []) (omega (arith, length-take-le k row (omega arith)))) in
    holds_as (append_assoc before (drop from (take k row)) (get_or row k 0 ∷ []) ∙ ap (◌++◌ before) (sym e)) (holds_more h (get_or row k 0) j)
