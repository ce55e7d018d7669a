-- The size of a list of items, by the definitions of the formula. It is the same wherever the variables of the items begin,
-- and sizes of lists that stand one after the other add up.
use mathlib.Core.Path.{◌≡◌, refl, sym, ap, ◌∙◌}
use mathlib.Core.Bool.{Bool, true, false, cond}
use mathlib.Core.List.{List, [], ◌∷◌, ◌++◌, map}
use Prim.Native.Nat.{ℕ, suc, ◌+◌, ◌*◌, ◌≤◌}
use native.Mathlib.Omega.{arith}
use lib.ListN.{length, length-append, length-map}
use lib.Dec.{eqb}
use borrow.Author.Tests.{ne_eqb}
use Rattle.scope.specs.Cnf.{pos, neg, opp, has_true, without_false, tidy, Gate, or, and, cell, pairs, gate_clauses, Item, gate, hard, soft, hard_clauses, gates, soft_units}
use Rattle.scope.specs.Formula.{words}
use Rattle.scope.specs.Text.{sum_weights}
use Rattle.theory.proofs.laws.Words.{words_append, pairs-words}
use Rattle.sizing.specs.declared.Size.{Size}
use Rattle.sizing.specs.Sums.{none, sum}
use Rattle.sizing.proofs.laws.Sums.{equal, none-sum, sum-assoc}
use Rattle.sizing.specs.Gates.{soft_size}

-- the size of some clauses
unfoldable pub clauses_size : List (List ℕ) → Size
clauses_size cs = record { variables = 0; clauses = length cs; words = words cs; units = 0; weight = 0 }

-- the size of some items whose first gate's output is the variable n
unfoldable pub size_at : ℕ → List Item → Size
size_at n is =
    record {
      variables = gates is;
      clauses = length (hard_clauses n is);
      words = words (hard_clauses n is);
      units = length (soft_units is);
      weight = sum_weights (soft_units is);
    }

-- the size of some items, from the variable 1 on
unfoldable pub size_of : List Item → Size
size_of is = size_at 1 is

-- the size of a gate
unfoldable pub gate_size : Gate → Size
gate_size g =
    record { variables = 1; clauses = length (gate_clauses g 1); words = words (gate_clauses g 1); units = 0; weight = 0 }

-- clauses one after the other
pub clauses_append : (cs ds : List (List ℕ)) → clauses_size (cs ++ ds) ≡ sum (clauses_size cs) (clauses_size ds)
unfolding clauses_size sum
clauses_append cs ds = rw (length-append, words_append)

-- a literal from 2 on is no constant
pub eqb-0 : (l : ℕ) → 2 ≤ l → eqb l 0 ≡ false
eqb-0 l h = ne_eqb l 0 (λ e. omega arith)

pub eqb-1 : (l : ℕ) → 2 ≤ l → eqb l 1 ≡ false
eqb-1 l h = ne_eqb l 1 (λ e. omega arith)

-- and stays at a clause's end
has_true-last : (c : List ℕ) (l : ℕ) → 2 ≤ l → has_true (c ++ l ∷ []) ≡ has_true c
unfolding has_true
has_true-last [] l h = rw (eqb-1 l h)
has_true-last (k ∷ c) l h = rw (has_true-last c l h)

without_false-last : (c : List ℕ) (l : ℕ) → 2 ≤ l → length (without_false (c ++ l ∷ [])) ≡ suc (length (without_false c))
unfolding without_false
without_false-last [] l h = rw (eqb-0 l h)
without_false-last (k ∷ c) l h = go (eqb k 0) (without_false-last c l h)
  where
    go : (b : Bool) → length (without_false (c ++ l ∷ [])) ≡ suc (length (without_false c))
        → length (cond b (without_false (c ++ l ∷ [])) (k ∷ without_false (c ++ l ∷ [])))
        ≡ suc (length (cond b (without_false c) (k ∷ without_false c)))
    go true e = e
    go false e = ap suc e

-- a clause comes to as much whatever literal stands at its end
tidy-last : (c : List ℕ) (l m : ℕ) → 2 ≤ l → 2 ≤ m
    → clauses_size (tidy (c ++ l ∷ [])) ≡ clauses_size (tidy (c ++ m ∷ []))
unfolding tidy clauses_size words
tidy-last c l m h k = rw (has_true-last c l h, has_true-last c m k) (go (has_true c))
  where
    go : (b : Bool)
        → clauses_size (cond b [] (without_false (c ++ l ∷ []) ∷ [])) ≡ clauses_size (cond b [] (without_false (c ++ m ∷ []) ∷ []))
    go true = refl
    go false = rw (without_false-last c l h, without_false-last c m k)

-- the pairs of an OR or an AND
pairs-length : (ls : List ℕ) (p : ℕ) → length (pairs ls p) ≡ length ls
unfolding pairs
pairs-length [] p = refl
pairs-length (l ∷ ls) p = ap suc (pairs-length ls p)

-- the clauses of an OR or an AND of n literals
abbrev joined_size : ℕ → Size
joined_size n = record { variables = 0; clauses = n + 1; words = 3 * n + 1; units = 0; weight = 0 }

joined-clauses : (xs ys : List ℕ) (p q n : ℕ) → length xs ≡ n → length ys ≡ n
    → clauses_size (pairs xs p ++ (ys ++ q ∷ []) ∷ []) ≡ joined_size n
unfolding clauses_size words
joined-clauses xs ys p q n e f = rw (length-append, words_append, length-append, pairs-length, pairs-words, e, f) (equal (omega arith))

pub or_clauses : (ls : List ℕ) (o : ℕ) → clauses_size (gate_clauses (or ls) o) ≡ joined_size (length ls)
unfolding gate_clauses
or_clauses ls o = joined-clauses (map opp ls) ls (pos o) (neg o) (length ls) (length-map ls opp) refl

pub and_clauses : (ls : List ℕ) (o : ℕ) → clauses_size (gate_clauses (and ls) o) ≡ joined_size (length ls)
unfolding gate_clauses
and_clauses ls o = joined-clauses ls (map opp ls) (neg o) (pos o) (length ls) refl (length-map ls opp)

-- a gate's clauses come to as much whatever its output
gate-any : (g : Gate) (o : ℕ) → 1 ≤ o → clauses_size (gate_clauses g o) ≡ clauses_size (gate_clauses g 1)
unfolding gate_clauses
gate-any (or ls) o h = or_clauses ls o ∙ sym (or_clauses ls 1)
gate-any (and ls) o h = and_clauses ls o ∙ sym (and_clauses ls 1)
gate-any (cell x a b) o h =
    let p : 2 ≤ pos o = omega arith in
    let n : 2 ≤ neg o = omega arith in
    let first = tidy-last (opp a ∷ []) (pos o) 2 p (omega arith) in
    let second = tidy-last (opp x ∷ opp b ∷ []) (pos o) 2 p (omega arith) in
    let third = tidy-last (x ∷ a ∷ []) (neg o) 3 n (omega arith) in
    let fourth = tidy-last (b ∷ a ∷ []) (neg o) 3 n (omega arith) in
    simp (clauses_append, first, second, third, fourth)

-- the hard clauses of items come to as much from any variable on
hard-any : (is : List Item) (n m : ℕ) → 1 ≤ n → 1 ≤ m → clauses_size (hard_clauses n is) ≡ clauses_size (hard_clauses m is)
unfolding hard_clauses
hard-any [] n m h k = refl
hard-any (gate g ∷ is) n m h k =
    let e = hard-any is (suc n) (suc m) (omega arith) (omega arith) in
    let left = clauses_append (gate_clauses g n) (hard_clauses (suc n) is) in
    let right = clauses_append (gate_clauses g m) (hard_clauses (suc m) is) in
    rw (left, right, gate-any g n h, gate-any g m k, e)
hard-any (hard c ∷ is) n m h k =
    rw (clauses_append (c ∷ []) (hard_clauses n is), clauses_append (c ∷ []) (hard_clauses m is), hard-any is n m h k)
hard-any (soft w l ∷ is) n m h k = hard-any is n m h k

-- the size of some items from any variable on
pub size-any : (is : List Item) (n : ℕ) → 1 ≤ n → size_at n is ≡ size_of is
unfolding size_at size_of clauses_size
size-any is n h =
    let e = hard-any is n 1 h (omega arith) in
    equal
    (record { variables = refl; clauses = ap (λ s. s.clauses) e; words = ap (λ s. s.words) e; units = refl; weight = refl })

-- the size of no items
pub size-nil : size_of [] ≡ none
unfolding size_of size_at hard_clauses soft_units words sum_weights none
size-nil = refl

-- the size of items with a gate, a hard clause or a soft unit more
pub size-gate : (g : Gate) (is : List Item) → size_of (gate g ∷ is) ≡ sum (gate_size g) (size_of is)
unfolding size_of size_at gate_size sum hard_clauses soft_units
size-gate g is =
    let e = size-any is 2 (omega arith) in
    let c : length (hard_clauses 2 is) ≡ length (hard_clauses 1 is) = ap (λ s. s.clauses) e in
    let w : words (hard_clauses 2 is) ≡ words (hard_clauses 1 is) = ap (λ s. s.words) e in
    rw (length-append, words_append, c, w) (equal (omega arith))

pub size-hard : (c : List ℕ) (is : List Item) → size_of (hard c ∷ is) ≡ sum (clauses_size (c ∷ [])) (size_of is)
unfolding size_of size_at clauses_size sum hard_clauses soft_units words
size-hard c is = equal (omega arith)

pub size-soft : (w l : ℕ) (is : List Item) → size_of (soft w l ∷ is) ≡ sum (soft_size w) (size_of is)
unfolding size_of size_at soft_size sum hard_clauses soft_units sum_weights
size-soft w l is = equal (omega arith)

-- sizes of items that stand one after the other add up
pub size-append : (is js : List Item) → size_of (is ++ js) ≡ sum (size_of is) (size_of js)
size-append [] js = rw (size-nil, none-sum)
size-append (gate g ∷ is) js = simp (size-gate, size-append is js, sum-assoc)
size-append (hard c ∷ is) js = simp (size-hard, size-append is js, sum-assoc)
size-append (soft w l ∷ is) js = simp (size-soft, size-append is js, sum-assoc)
