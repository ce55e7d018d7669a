-- Clauses among the words, and the marks of their variables: laws.
use mathlib.Core.Path.{◌≡◌, refl, sym, ap, ◌∙◌}
use mathlib.Core.Bool.{Bool, true, false, cond, ◌||◌}
use mathlib.Core.List.{List, [], ◌∷◌}
use Prim.Native.Nat.{ℕ, zero, suc, ◌+◌, ◌/◌, ◌≤◌, ◌<◌, min}
use native.Mathlib.Omega.{arith}
use native.Mathlib.Numerals.{add-one}
use lib.Dec.{eqb, leb}
use lib.ListN.{length, get_or, take, drop, length-take, drop_of_length-le}
use lib.Seq.{slice, slice-cons, take_all, take-length}
use borrow.Author.Tests.{leb-true, leb-false}
use Rattle.theory.specs.Marked as steps
use Rattle.theory.specs.Marked.{Marks, also_literal, standing}
use Rattle.marks.specs.Marks.{marks_of, put_mark}
use Rattle.marks.proofs.laws.Marks.{mark-opened}
use Rattle.standing.specs.Clauses.{part, wiped}

-- a variable stands in a clause
unfoldable pub in_clause : List ℕ → ℕ → Bool
in_clause [] v = false
in_clause (l ∷ ls) v = eqb (l / 2) v || in_clause ls v

-- the marks of the variables that p names are open, the others as they were
pub record Wiped (p : ℕ → Bool) (ms ms' : List ℕ) : Type 0 where
  pub opened : (v : ℕ) → marks_of ms' v ≡ cond (p v) 0 (marks_of ms v)

pub drop-take : (ws : List ℕ) (first len : ℕ) → drop first (take (first + len) ws) ≡ take len (drop first ws)
drop-take ws zero len = let e : 0 + len ≡ len = omega arith in rw e
drop-take [] (suc first) len = let e : suc first + len ≡ suc (first + len) = omega arith in rw e (sym (nil len))
  where
    nil : (n : ℕ) → ◌≡◌ {A = List ℕ} (take n []) []
    nil zero = refl
    nil (suc n) = refl
drop-take (w ∷ ws) (suc first) len = let e : suc first + len ≡ suc (first + len) = omega arith in rw e (drop-take ws first len)

pub take_min : (n : ℕ) (ws : List ℕ) → take (min (length ws) n) ws ≡ take n ws
take_min n ws = go (leb n (length ws)) refl
  where
    go : (t : Bool) → leb n (length ws) ≡ t → take (min (length ws) n) ws ≡ take n ws
    go true t = let e : min (length ws) n ≡ n = omega (arith, leb-true n (length ws) t) in rw e
    go false t =
        let h = leb-false n (length ws) t in
        let e : min (length ws) n ≡ length ws = omega arith in
        rw (e, take-length ws, take_all n ws (omega arith))

pub drop_min : (n : ℕ) (ws : List ℕ) → drop (min (length ws) n) ws ≡ drop n ws
drop_min n ws = go (leb n (length ws)) refl
  where
    go : (t : Bool) → leb n (length ws) ≡ t → drop (min (length ws) n) ws ≡ drop n ws
    go true t = let e : min (length ws) n ≡ n = omega (arith, leb-true n (length ws) t) in rw e
    go false t =
        let h = leb-false n (length ws) t in
        drop_of_length-le ws {i = min (length ws) n} (omega arith) ∙ sym (drop_of_length-le ws {i = n} (omega arith))

-- a clause, from its first word to its end
pub part_slice : (ws : List ℕ) (first len end : ℕ) → end ≡ min (length ws) (first + len) → slice first end ws ≡ part first len ws
part_slice ws first len end e = rw (e, take_min (first + len) ws) (drop-take ws first len)

-- a turn over a clause's literals, and its end
module _ (ws : List ℕ) (i end : ℕ) (h : i < end) (k : end ≤ length ws) where
  pub standing_next : (m : Marks) (s s' : steps.Standing) → s' ≡ also_literal s (m (get_or ws i 0 / 2)) (get_or ws i 0)
      → standing m s' (slice (i + 1) end ws) ≡ standing m s (slice i end ws)
  unfolding standing
  standing_next m s s' e = rw (slice-cons i end ws 0 h k, add-one, e)

  pub wiped_next : (ms : List ℕ) → wiped (put_mark ms (get_or ws i 0 / 2) 0) (slice (i + 1) end ws) ≡ wiped ms (slice i end ws)
  unfolding wiped
  wiped_next ms = rw (slice-cons i end ws 0 h k, add-one)

pub slice-past : (ws : List ℕ) (i end : ℕ) → end ≤ i → slice i end ws ≡ []
slice-past ws i end h = drop_of_length-le (take end ws) {i = i} (rw length-take (omega arith))

pub standing-end : (m : Marks) (s : steps.Standing) (ws : List ℕ) (i end : ℕ) → end ≤ i → standing m s (slice i end ws) ≡ s
unfolding standing
standing-end m s ws i end h = rw (slice-past ws i end h)

pub wiped-end : (ws : List ℕ) (i end : ℕ) → end ≤ i → (ms : List ℕ) → wiped ms (slice i end ws) ≡ ms
unfolding wiped
wiped-end ws i end h ms = rw (slice-past ws i end h)

-- what is open afterwards
pub wiped-opens : (c ms : List ℕ) → Wiped (in_clause c) ms (wiped ms c)
unfolding wiped in_clause
wiped-opens [] ms = record { opened = λ v. refl }
wiped-opens (l ∷ ls) ms = record { opened = λ v. go v ((wiped-opens ls (put_mark ms (l / 2) 0)).opened v) }
  where
    both : (a b : Bool) (x : ℕ) → cond b 0 (cond a 0 x) ≡ cond (a || b) 0 x
    both true true x = refl
    both true false x = refl
    both false b x = refl

    go : (v : ℕ) → marks_of (wiped (put_mark ms (l / 2) 0) ls) v ≡ cond (in_clause ls v) 0 (marks_of (put_mark ms (l / 2) 0) v)
        → marks_of (wiped (put_mark ms (l / 2) 0) ls) v ≡ cond (eqb (l / 2) v || in_clause ls v) 0 (marks_of ms v)
    go v x = x ∙ ap (cond (in_clause ls v) 0) (mark-opened ms (l / 2) v) ∙ both (eqb (l / 2) v) (in_clause ls v) (marks_of ms v)
