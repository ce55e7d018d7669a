-- No hard clause of a formula is empty.
use mathlib.Core.Bool.{Bool, true, false, cond}
use mathlib.Core.List.{List, [], ◌∷◌, ◌++◌, map, flat_map}
use Prim.Native.Nat.{ℕ, zero, suc, ◌+◌, ◌-◌, ◌*◌, ◌≤◌}
use native.Mathlib.Omega.{arith}
use lib.Dec.{eqb, leb, ltb}
use lib.ListN.{length}
use borrow.Author.Tests.{ne_eqb}
use Rattle.laws.specs.Lists.{All, All-append}
use Rattle.scope.specs.Kinds.{Atom, Rule, from, up_to}
use Rattle.scope.specs.Instance.{Instance}
use Rattle.scope.specs.Cnf.{pos, neg, opp, has_true, without_false, tidy, pairs, Gate, or, and, cell, gate_clauses, Item, gate, hard, soft, hard_clauses, gates}
use Rattle.scope.specs.Score.{event_count}
use Rattle.scope.specs.Formula.{no_row, counter, last_row, ones, columns, unit, low_units, high_units, short_units, bound_items, count_into, count_items, ref_literal, node_gate, rule_items, rules_items, num, y_before, start_items, starts, uses, all_rules, primary, formula, variables, hard_of, soft_of, negated, tail, bounded, bounded_hard}
use Rattle.theory.proofs.laws.Variables.{atoms_end, formula_parts}

abbrev pub NonEmpty : List ℕ → Type 0
NonEmpty [] = ⊥
NonEmpty (l ∷ ls) = Unit {0}

nonempty-last : (ls : List ℕ) (l : ℕ) (more : List ℕ) → NonEmpty (ls ++ l ∷ more)
nonempty-last [] l more = tt
nonempty-last (x ∷ ls) l more = tt

-- a literal that is no constant is never left out
without_false-last : (ls : List ℕ) (l : ℕ) → 2 ≤ l → NonEmpty (without_false (ls ++ l ∷ []))
unfolding without_false
without_false-last [] l h = rw (ne_eqb l 0 (λ e. omega arith)) tt
without_false-last (x ∷ ls) l h = go (eqb x 0) (without_false-last ls l h)
  where
    go : (b : Bool) → NonEmpty (without_false (ls ++ l ∷ []))
        → NonEmpty (cond b (without_false (ls ++ l ∷ [])) (x ∷ without_false (ls ++ l ∷ [])))
    go true ih = ih
    go false ih = tt

tidy-last : (ls : List ℕ) (l : ℕ) → 2 ≤ l → All NonEmpty (tidy (ls ++ l ∷ []))
unfolding tidy
tidy-last ls l h = go (has_true (ls ++ l ∷ []))
  where
    go : (b : Bool) → All NonEmpty (cond b [] (without_false (ls ++ l ∷ []) ∷ []))
    go true = tt
    go false = (without_false-last ls l h, tt)

pairs-nonempty : (ls : List ℕ) (p : ℕ) → All NonEmpty (pairs ls p)
unfolding pairs
pairs-nonempty [] p = tt
pairs-nonempty (l ∷ ls) p = (tt, pairs-nonempty ls p)

joined-nonempty : (xs ys : List ℕ) (p q : ℕ) → All NonEmpty (pairs xs p ++ (ys ++ q ∷ []) ∷ [])
joined-nonempty xs ys p q = All-append NonEmpty (pairs xs p) _ (pairs-nonempty xs p) (nonempty-last ys q [], tt)

-- each clause of a gate has its output's literal
gate-nonempty : (g : Gate) (o : ℕ) → 1 ≤ o → All NonEmpty (gate_clauses g o)
unfolding gate_clauses
gate-nonempty (or ls) o h = joined-nonempty (map opp ls) ls (pos o) (neg o)
gate-nonempty (and ls) o h = joined-nonempty ls (map opp ls) (neg o) (pos o)
gate-nonempty (cell x a b) o h =
    let c1 = opp a ∷ pos o ∷ [] in
    let c2 = opp x ∷ opp b ∷ pos o ∷ [] in
    let c3 = x ∷ a ∷ neg o ∷ [] in
    let c4 = b ∷ a ∷ neg o ∷ [] in
    All-append NonEmpty (tidy c1 ++ tidy c2 ++ tidy c3) (tidy c4)
    (All-append NonEmpty (tidy c1 ++ tidy c2) (tidy c3)
    (All-append NonEmpty (tidy c1) (tidy c2) (tidy-last (opp a ∷ []) (pos o) (omega arith))
    (tidy-last (opp x ∷ opp b ∷ []) (pos o) (omega arith)))
    (tidy-last (x ∷ a ∷ []) (neg o) (omega arith)))
    (tidy-last (b ∷ a ∷ []) (neg o) (omega arith))

-- an item that is no empty clause
abbrev pub Filled : Item → Type 0
Filled (gate g) = Unit {0}
Filled (hard c) = NonEmpty c
Filled (soft w l) = Unit {0}

pub hard-nonempty : (n : ℕ) (is : List Item) → 1 ≤ n → All Filled is → All NonEmpty (hard_clauses n is)
unfolding hard_clauses
hard-nonempty n [] h a = tt
hard-nonempty n (gate g ∷ is) h a =
    All-append NonEmpty (gate_clauses g n) (hard_clauses (suc n) is) (gate-nonempty g n h)
    (hard-nonempty (suc n) is (omega arith) a.1)
hard-nonempty n (hard c ∷ is) h a = (a.0, hard-nonempty n is h a.1)
hard-nonempty n (soft w l ∷ is) h a = hard-nonempty n is h a.1

-- items that are filled whatever they are made of
map-filled : {A : Type 0} (f : A → Item) → ((x : A) → Filled (f x)) → (xs : List A) → All Filled (map f xs)
map-filled f h [] = tt
map-filled f h (x ∷ xs) = (h x, map-filled f h xs)

flat-filled : {A : Type 0} (f : A → List Item) → ((x : A) → All Filled (f x)) → (xs : List A) → All Filled (flat_map f xs)
unfolding flat_map
flat-filled f h [] = tt
flat-filled f h (x ∷ xs) = All-append Filled (f x) (flat_map f xs) (h x) (flat-filled f h xs)

gates-then : (gs : List Gate) (is : List Item) → All Filled is → All Filled (map gate gs ++ is)
gates-then gs is a = All-append Filled (map gate gs) is (map-filled gate (λ g. tt) gs) a

unit-filled : (w l : ℕ) → Filled (unit w l)
unit-filled zero l = tt
unit-filled (suc w) l = tt

low-filled : (w : ℕ) (q : ℕ → ℕ) (lo : ℕ) → All Filled (low_units w q lo)
unfolding low_units
low-filled zero q lo = go (leb 1 lo)
  where
    go : (b : Bool) → All Filled (cond b (hard (q lo ∷ []) ∷ []) [])
    go true = (tt, tt)
    go false = tt
low-filled (suc w) q lo = map-filled (λ j. soft (suc w) (q j)) (λ j. tt) (from 1 lo)

high-filled : (w : ℕ) (q : ℕ → ℕ) (hi n : ℕ) → All Filled (high_units w q hi n)
unfolding high_units
high-filled zero q hi n = go (ltb hi n)
  where
    go : (b : Bool) → All Filled (cond b (hard (opp (q (hi + 1)) ∷ []) ∷ []) [])
    go true = (tt, tt)
    go false = tt
high-filled (suc w) q hi n = map-filled (λ j. soft (suc w) (opp (q j))) (λ j. tt) (from (hi + 1) (n - hi))

short-filled : (w : ℕ) (q : ℕ → ℕ) (j k v : ℕ) → All Filled (short_units w q j k v)
unfolding short_units
short-filled w q j zero v = tt
short-filled w q j (suc k) v = (tt, (unit-filled w (neg v), short-filled w q (suc j) k (suc v)))

bounds-filled : (w : ℕ) (r : Rule) (q : ℕ → ℕ) (n v : ℕ) → All Filled (bound_items w r q n v)
unfolding bound_items
bounds-filled w r q n v = go r.zero_free
  where
    go : (z : Bool) → All Filled (cond z (short_units w q 2 (r.lo - 1) v) (low_units w q r.lo) ++ high_units w q r.hi n)
    go true = All-append Filled (short_units w q 2 (r.lo - 1) v) _ (short-filled w q 2 (r.lo - 1) v) (high-filled w q r.hi n)
    go false = All-append Filled (low_units w q r.lo) _ (low-filled w q r.lo) (high-filled w q r.hi n)

count-filled : (J w : ℕ) (r : Rule) (xs : List ℕ) (v : ℕ) → All Filled (count_into J w r xs v)
unfolding count_into
count-filled J w r xs v =
    gates-then (counter no_row (ones xs) J v) (bound_items w r (last_row no_row (ones xs) J v) (length xs) (v + length xs * J))
    (bounds-filled w r (last_row no_row (ones xs) J v) (length xs) (v + length xs * J))

rule-filled : (num : Atom → ℕ) (w : ℕ) (r : Rule) (v : ℕ) → All Filled (rule_items num w r v)
unfolding rule_items
rule-filled num w r v =
    let xs = map (ref_literal num v) r.list.members in
    let n = v + length r.list.nodes in
    gates-then (map (node_gate num v) r.list.nodes) (count_items w r xs n) (count-filled (columns w r.hi (length xs)) w r xs n)

rules-filled : (num : Atom → ℕ) (rs : List (ℕ × Rule)) (v : ℕ) → All Filled (rules_items num rs v)
unfolding rules_items
rules-filled num [] v = tt
rules-filled num (r ∷ rs) v =
    let is = rule_items num r.0 r.1 v in
    All-append Filled is (rules_items num rs (v + gates is)) (rule-filled num r.0 r.1 v) (rules-filled num rs (v + gates is))

start-filled : (i : Instance) (e t : ℕ) → All Filled (start_items i e t)
start-filled i e t = (tt, (nonempty-last (y_before i e t) _ _, tt))

formula-filled : (i : Instance) → All Filled (formula i)
unfolding starts
formula-filled i =
    let rs = rules_items (num i) (all_rules i) (atoms_end i) in
    rw formula_parts
    (All-append Filled (starts i) (map gate (uses i) ++ rs)
    (flat-filled (λ e. flat_map (start_items i e) (up_to i.times))
    (λ e. flat-filled (start_items i e) (start-filled i e) (up_to i.times))
    (up_to (event_count i)))
    (gates-then (uses i) rs (rules-filled (num i) (all_rules i) (atoms_end i))))

tail-filled : (B : ℕ) (us : List (ℕ × ℕ)) (v : ℕ) → All Filled (tail B us v)
unfolding tail
tail-filled B [] v = tt
tail-filled B (u ∷ us) v =
    gates-then (counter no_row (u ∷ us) (B + 1) v) (hard (opp (last_row no_row (u ∷ us) (B + 1) v (B + 1)) ∷ []) ∷ []) (tt, tt)

pub formula-nonempty : (i : Instance) → All NonEmpty (hard_of i)
unfolding hard_of
formula-nonempty i = hard-nonempty (primary i + 1) (formula i) (omega arith) (formula-filled i)

pub bounded-nonempty : (i : Instance) (B : ℕ) → All NonEmpty (bounded_hard i B)
unfolding bounded_hard bounded
bounded-nonempty i B =
    hard-nonempty (primary i + 1) (bounded i B) (omega arith)
    (All-append Filled (formula i) (tail B (negated (soft_of i)) (variables i + 1)) (formula-filled i)
    (tail-filled B (negated (soft_of i)) (variables i + 1)))
