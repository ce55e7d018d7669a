-- Counters, bounds and rules read earlier variables only.
use mathlib.Core.Path.{◌≡◌, refl}
use mathlib.Core.Bool.{Bool, true, false, cond}
use mathlib.Core.List.{List, [], ◌∷◌, ◌++◌, map}
use Prim.Native.Nat.{ℕ, zero, suc, ◌+◌, ◌-◌, ◌*◌, ◌<◌, ◌≤◌}
use native.Mathlib.Nat.{le_refl}
use native.Mathlib.Omega.{arith}
use lib.Dec.{leb, ltb}
use lib.ListN.{length, length-map}
use borrow.Author.Tests.{leb-true, ltb-true}
use Rattle.laws.specs.Lists.{All, All-map, All-weaken, map-append}
use Rattle.scope.specs.Kinds.{Atom, Thing, an_atom, a_node, Ref, Node, some_of, all_of, Rule, from}
use Rattle.scope.specs.Cnf.{neg, opp, Item, gate, hard, gates}
use Rattle.scope.specs.Formula.{no_row, row_at, row, counter, last_row, ones, columns, unit, low_units, high_units, short_units, bound_items, count_into, count_items, thing_literal, ref_literal, node_gate, rule_items, rules_items}
use Rattle.theory.proofs.laws.Order.{Proper, Reads, ItemReads, Ordered, Ordered-append, Ordered-gates, Ordered-all, opp-proper, proper-up}
use Rattle.theory.proofs.laws.Counter.{length-row, length-counter, row_of, last_row-row}
use Rattle.theory.proofs.laws.Bounds.{columns-reach}
use Rattle.theory.proofs.laws.Ranges.{from_all}
use Rattle.theory.proofs.laws.Nodes.{ThingKnown, Known, NodeKnown, NodesKnown}
use Rattle.theory.proofs.laws.Rules.{ValidRule}

-- the literals of a counter, which have weights
abbrev pub Literals : ℕ → List (ℕ × ℕ) → Type 0
Literals v xs = All (λ x. Proper v x.1) xs

row_reads : (p : ℕ → ℕ) (w x j k v : ℕ) → Proper v x → ((i : ℕ) → i < j + k → p i < 2 * v)
    → All (ItemReads v) (map gate (row p w x j k))
unfolding row
row_reads p w x j zero v a b = tt
row_reads p w x j (suc k) v a b =
    ((a, b j (omega arith), b (j - w) (omega arith)), row_reads p w x (suc j) k v a (λ i h. b i (omega arith)))

row_at-below : (v J j : ℕ) → 1 ≤ v → j ≤ J → row_at v j < 2 * (v + J)
row_at-below v J zero a h = omega arith
row_at-below v J (suc j) a h = omega arith

no_row-below : (v j : ℕ) → 1 ≤ v → no_row j < 2 * v
no_row-below v zero h = omega arith
no_row-below v (suc j) h = omega arith

rows-order : (p : ℕ → ℕ) (xs : List (ℕ × ℕ)) (J v : ℕ) → 1 ≤ v → ((j : ℕ) → j ≤ J → p j < 2 * v) → Literals v xs
    → Ordered v (map gate (counter p xs J v))
unfolding counter
rows-order p [] J v a b c = tt
rows-order p (x ∷ xs) J v a b c =
    let first = row p x.0 x.1 1 J in
    let more = All-weaken _ _ (λ y. proper-up v (v + J) y.1 (omega arith)) xs c.1 in
    let reads = row_reads p x.0 x.1 1 J v c.0 (λ i h. b i (omega arith)) in
    rw map-append
    (Ordered-gates v first _ (Ordered-all v v (map gate first) (le_refl v) reads)
    (rw length-row (rows-order (row_at v) xs J (v + J) (omega arith) (λ j h. row_at-below v J j a h) more)))

-- a counter whose literals are of variables before its own
pub counter-order : (xs : List (ℕ × ℕ)) (J v : ℕ) → 1 ≤ v → Literals v xs → Ordered v (map gate (counter no_row xs J v))
counter-order xs J v a c = rows-order no_row xs J v a (λ j h. no_row-below v j a) c

-- the columns 1 to J of the row q are literals of variables before n
abbrev pub RowProper : ℕ → (ℕ → ℕ) → ℕ → Type 0
RowProper J q n = (j : ℕ) → 1 ≤ j → j ≤ J → Proper n (q j)

-- those of a counter's last row, if it has a row
pub last_row-proper : (xs : List (ℕ × ℕ)) (J v : ℕ) → 1 ≤ v → J ≤ length xs * J
    → RowProper J (last_row no_row xs J v) (v + length xs * J)
last_row-proper xs J v a b = rw (last_row-row no_row xs J v) (go (length xs) b)
  where
    go : (n : ℕ) → J ≤ n * J → RowProper J (row_of no_row J v n) (v + n * J)
    go zero b j l h = let f : ⊥ = omega arith in absurd f
    go (suc n) b zero l h = let f : ⊥ = omega arith in absurd f
    go (suc n) b (suc j) l h = omega arith

-- there are no columns without literals
columns-rows : (w hi n : ℕ) → columns w hi n ≤ n * columns w hi n
columns-rows zero hi zero = omega arith
columns-rows zero hi (suc n) = omega arith
columns-rows (suc w) hi zero = omega arith
columns-rows (suc w) hi (suc n) = omega arith

unit-order : (n w l : ℕ) (is : List Item) → Proper n l → Ordered n is → Ordered n (unit w l ∷ is)
unit-order n zero l is a b = ((a, tt), b)
unit-order n (suc w) l is a b = (a, b)

-- the low part, the high part and kind 6's low part, on a row q, from the variable v on
low_reads : (w : ℕ) (q : ℕ → ℕ) (lo J v : ℕ) → lo ≤ J → RowProper J q v → All (ItemReads v) (low_units w q lo)
unfolding low_units
low_reads zero q lo J v a c = go (leb 1 lo) refl
  where
    go : (b : Bool) → leb 1 lo ≡ b → All (ItemReads v) (cond b (hard (q lo ∷ []) ∷ []) [])
    go true e = ((c lo (leb-true 1 lo e) a, tt), tt)
    go false e = tt
low_reads (suc w) q lo J v a c =
    All-map (λ j. Proper v (q j)) (ItemReads v) (λ j. unit (suc w) (q j)) (λ j h. h) (from 1 lo)
    (from_all _ 1 lo (λ j l h. c j l (omega arith)))

high-reads : (w : ℕ) (q : ℕ → ℕ) (hi n v : ℕ) → hi ≤ n → RowProper (columns w hi n) q v → All (ItemReads v) (high_units w q hi n)
unfolding high_units
high-reads zero q hi n v a c = go (ltb hi n) refl
  where
    go : (b : Bool) → ltb hi n ≡ b → All (ItemReads v) (cond b (hard (opp (q (hi + 1)) ∷ []) ∷ []) [])
    go true e = ((opp-proper v (q (hi + 1)) (c (hi + 1) (omega arith) (omega (arith, ltb-true hi n e))), tt), tt)
    go false e = tt
high-reads (suc w) q hi n v a c =
    All-map (λ j. Proper v (q j)) (ItemReads v) (λ j. unit (suc w) (opp (q j))) (λ j. opp-proper v (q j)) (from (hi + 1) (n - hi))
    (from_all _ (hi + 1) (n - hi) (λ j l h. c j (omega arith) (omega arith)))

short-order : (w : ℕ) (q : ℕ → ℕ) (j k v : ℕ) → 1 ≤ v → 1 ≤ j → (0 < k → RowProper (j + k - 1) q v)
    → Ordered v (short_units w q j k v)
unfolding short_units
short-order w q j zero v p a c = tt
short-order w q j (suc k) v p a c =
    let more : 0 < k → RowProper (suc j + k - 1) q (suc v) =
    λ _ i l h. proper-up v (suc v) (q i) (omega arith) (c (omega arith) i l (omega arith)) in (
      (c (omega arith) 1 (omega arith) (omega arith), (opp-proper v (q j) (c (omega arith) j a (omega arith)), tt)),
      unit-order (suc v) w (neg v) (short_units w q (suc j) k (suc v)) (omega arith)
          (short-order w q (suc j) k (suc v) (omega arith) (omega arith) more),
    )

bounds-order : (w : ℕ) (r : Rule) (q : ℕ → ℕ) (n v : ℕ) → 1 ≤ v → r.lo ≤ r.hi → r.hi ≤ n → RowProper (columns w r.hi n) q v
    → Ordered v (bound_items w r q n v)
unfolding bound_items
bounds-order w r q n v p a b c = go r.zero_free
  where
    reach : r.hi ≤ columns w r.hi n
    reach = columns-reach w r.hi n b

    high : (m : ℕ) → v ≤ m → Ordered m (high_units w q r.hi n)
    high m h = Ordered-all v m (high_units w q r.hi n) h (high-reads w q r.hi n v b c)

    go : (zf : Bool) → Ordered v (cond zf (short_units w q 2 (r.lo - 1) v) (low_units w q r.lo) ++ high_units w q r.hi n)
    go true =
        Ordered-append v (short_units w q 2 (r.lo - 1) v) (high_units w q r.hi n)
        (short-order w q 2 (r.lo - 1) v p (omega arith) (λ k j l h. c j l (omega (arith, reach)))) (high _ (omega arith))
    go false =
        Ordered-append v (low_units w q r.lo) (high_units w q r.hi n)
        (Ordered-all v v (low_units w q r.lo) (le_refl v) (low_reads w q r.lo (columns w r.hi n) v (omega (arith, reach)) c))
        (high _ (omega arith))

count-order : (w : ℕ) (r : Rule) (xs : List ℕ) (v : ℕ) → 1 ≤ v → r.lo ≤ r.hi → r.hi ≤ length xs → All (Proper v) xs
    → Ordered v (count_items w r xs v)
unfolding count_into
count-order w r xs v p a b h =
    let n = length xs in
    let J = columns w r.hi n in
    let e = columns-rows w r.hi n in
    let c = rw length-map at (last_row-proper (ones xs) J v p (rw length-map e)) in
    Ordered-gates v (counter no_row (ones xs) J v) _ (counter-order (ones xs) J v p (All-map _ _ (λ x. (1, x)) (λ x p. p) xs h))
    (rw (length-counter, length-map) (bounds-order w r (last_row no_row (ones xs) J v) n (v + n * J) (omega arith) a b c))

-- where the literals of atoms are of variables before m
module _ (num : Atom → ℕ) (m : ℕ) where
  abbrev pub Below : Atom → Type 0
  Below a = Proper m (num a)

  -- where the first node of a list is the variable v
  module _ (v : ℕ) (p : 1 ≤ m) (h : m ≤ v) where
    thing_proper : (k : ℕ) (x : Thing) → ThingKnown Below k x → Proper (v + k) (thing_literal num v x)
    thing_proper k (an_atom a) g = proper-up m (v + k) (num a) (omega arith) g
    thing_proper k (a_node j) g = omega arith

    ref_proper : (k : ℕ) (r : Ref) → Known Below k r → Proper (v + k) (ref_literal num v r)
    ref_proper k r g = go r.negated (thing_proper k r.thing g)
      where
        go : (b : Bool) → Proper (v + k) (thing_literal num v r.thing)
            → Proper (v + k) (cond b (opp (thing_literal num v r.thing)) (thing_literal num v r.thing))
        go true q = opp-proper (v + k) (thing_literal num v r.thing) q
        go false q = q

    node_reads : (k : ℕ) (n : Node) → NodeKnown Below k n → Reads (v + k) (node_gate num v n)
    node_reads k (some_of rs) g = All-map (Known Below k) (Proper (v + k)) (ref_literal num v) (ref_proper k) rs g
    node_reads k (all_of rs) g = All-map (Known Below k) (Proper (v + k)) (ref_literal num v) (ref_proper k) rs g

    -- each node reads earlier variables only
    nodes_order : (k : ℕ) (ns : List Node) → NodesKnown Below k ns → Ordered (v + k) (map gate (map (node_gate num v) ns))
    nodes_order k [] g = tt
    nodes_order k (n ∷ ns) g =
        let e : v + suc k ≡ suc (v + k) = omega arith in
        (node_reads k n g.0, rw e at (nodes_order (suc k) ns g.1))

    members_proper : (k : ℕ) (rs : List Ref) → All (Known Below k) rs → All (Proper (v + k)) (map (ref_literal num v) rs)
    members_proper k rs g = All-map (Known Below k) (Proper (v + k)) (ref_literal num v) (ref_proper k) rs g

  rule_order : (w : ℕ) (r : Rule) (v : ℕ) → 1 ≤ m → m ≤ v → ValidRule Below r → Ordered v (rule_items num w r v)
  unfolding rule_items
  rule_order w r v p h g =
      let l = r.list in
      let gs = map (node_gate num v) l.nodes in
      let xs = map (ref_literal num v) l.members in
      let n = v + length l.nodes in
      let e : v + 0 ≡ v = omega arith in
      Ordered-gates v gs _ (rw e at (nodes_order v p h 0 l.nodes g.atoms.nodes))
      (rw length-map
      (count-order w r xs n (omega arith) g.order (rw length-map g.reach)
      (members_proper v p h (length l.nodes) l.members g.atoms.members)))

  -- rules with weights, one after the other
  pub rules_order : (rs : List (ℕ × Rule)) (v : ℕ) → 1 ≤ m → m ≤ v → All (λ r. ValidRule Below r.1) rs
      → Ordered v (rules_items num rs v)
  unfolding rules_items
  rules_order [] v p h g = tt
  rules_order (r ∷ rs) v p h g =
      let is = rule_items num r.0 r.1 v in
      Ordered-append v is _ (rule_order r.0 r.1 v p h g.0) (rules_order rs (v + gates is) p (omega arith) g.1)
