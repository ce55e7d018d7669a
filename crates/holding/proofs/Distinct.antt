-- A clause that names no variable twice has no more literals than there are variables.
use mathlib.Core.Path.{◌≡◌, refl}
use mathlib.Core.Bool.{Bool, true, false, cond, ◌&&◌}
use mathlib.Core.List.{List, [], ◌∷◌}
use Prim.Native.Nat.{ℕ, zero, suc, ◌+◌, ◌-◌, ◌/◌, ◌%◌, ◌≤◌, ◌<◌}
use native.Mathlib.Omega.{arith}
use lib.Dec.{leb, eqb}
use lib.ListN.{length}
use borrow.Author.Tests.{ne_eqb, eqb-true, eqb-false, leb-true}
use Rattle.laws.specs.Booleans.{and-true}
use Rattle.scope.specs.Steps.{put}
use Rattle.theory.specs.Marked.{Marks}
use Rattle.theory.proofs.laws.Marked.{all_open, make_false, literals_ok}

-- one where a mark is open
abbrev is_open : ℕ → ℕ
is_open x = cond (eqb x 0) 1 0

-- how many of the variables up to n are open
unfoldable opens : Marks → ℕ → ℕ
opens m zero = 0
opens m (suc n) = is_open (m (suc n)) + opens m n

opens-most : (m : Marks) (n : ℕ) → opens m n ≤ n
unfolding opens
opens-most m zero = omega arith
opens-most m (suc n) = go (eqb (m (suc n)) 0) (opens-most m n)
  where
    go : (t : Bool) → opens m n ≤ n → cond t 1 0 + opens m n ≤ suc n
    go true h = omega arith
    go false h = omega arith

-- a variable above those that are counted
opens-above : (m : Marks) (v x n : ℕ) → n < v → opens (put m v x) n ≡ opens m n
unfolding opens
opens-above m v x zero h = refl
opens-above m v x (suc n) h = rw (ne_eqb (suc n) v (λ e. omega arith), opens-above m v x n (omega arith))

-- an open variable among them gets a mark
opens-put : (m : Marks) (v x n : ℕ) → 1 ≤ v → v ≤ n → m v ≡ 0 → (x ≡ 0 → ⊥) → suc (opens (put m v x) n) ≡ opens m n
unfolding opens
opens-put m v x zero a b o k = absurd (omega arith)
opens-put m v x (suc n) a b o k = go (λ l. opens-put m v x n a l o k) (eqb (suc n) v) refl
  where
    go : (v ≤ n → suc (opens (put m v x) n) ≡ opens m n) → (t : Bool) → eqb (suc n) v ≡ t
        → suc (is_open (cond t x (m (suc n))) + opens (put m v x) n) ≡ is_open (m (suc n)) + opens m n
    go ih true e =
        let same : suc n ≡ v = eqb-true (suc n) v e in
        rw (same, ne_eqb x 0 k, o, opens-above m v x n (omega arith)) (omega arith)
    go ih false e =
        let other = eqb-false (suc n) v e in
        omega (arith, ih (omega arith))

few-open : (last : ℕ) (m : Marks) (ls : List ℕ) → literals_ok last m ls ≡ true → length ls ≤ opens m last
unfolding literals_ok
few-open last m [] e = omega arith
few-open last m (l ∷ ls) e =
    let p = and-true (leb 2 l && leb (l / 2) last && eqb (m (l / 2)) 0) (literals_ok last (make_false m l) ls) e in
    let q = and-true (leb 2 l && leb (l / 2) last) (eqb (m (l / 2)) 0) p.0 in
    let r = and-true (leb 2 l) (leb (l / 2) last) q.0 in
    let two = leb-true 2 l r.0 in
    let most = leb-true (l / 2) last r.1 in
    let step = opens-put m (l / 2) (2 - l % 2) last (omega arith) most (eqb-true (m (l / 2)) 0 q.1) (λ z. omega arith) in
    omega (arith, few-open last (make_false m l) ls p.1, step)

pub literals-few : (last : ℕ) (ls : List ℕ) → literals_ok last all_open ls ≡ true → length ls ≤ last
literals-few last ls e = omega (arith, few-open last all_open ls e, opens-most all_open last)
