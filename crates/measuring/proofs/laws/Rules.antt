-- The sizes of rules: the nodes of a counted list, then the counter over its members and its bounds: laws.
use mathlib.Core.Path.{◌≡◌, refl, ap, ◌∙◌}
use mathlib.Core.Bool.{Bool, true, false, cond}
use mathlib.Core.List.{List, [], ◌∷◌, ◌++◌, map}
use Prim.Native.Nat.{ℕ, ◌+◌, ◌≤◌}
use native.Mathlib.Omega.{arith}
use lib.ListN.{length, replicate, length-map}
use Rattle.scope.specs.Cnf.{opp, gates, soft_units, gate}
use Rattle.scope.specs.Kinds.{Atom, Thing, an_atom, a_node, Ref, Listed, Counted, Rule, rule}
use Rattle.scope.specs.Formula.{columns, thing_literal, ref_literal, node_gate, rule_items, rules_items, count_items}
use Rattle.laws.specs.Lists.{All, All-append, All-map}
use Rattle.theory.proofs.laws.Nodes.{ThingKnown, Known}
use Rattle.theory.proofs.laws.Rules.{ValidRule}
use Rattle.theory.proofs.laws.Costs.{soft_units-append}
use Rattle.sizing.specs.Sums.{sum, multiple}
use Rattle.measuring.proofs.laws.Measure.{size_of, size_at, size-nil, size-append}
use Rattle.sizing.specs.Gates.{or_size, hard_unit, unit_size}
use Rattle.sizing.specs.NodeSizes.{node_sizes}
use Rattle.sizing.specs.Counts.{units_size, shorts_size, low_size, count_size, list_size}
use Rattle.sizing.proofs.laws.Limits.{rows-units}
use Rattle.measuring.proofs.laws.Gates.{opp-proper}
use Rattle.measuring.proofs.laws.Rows.{Proper, weights}
use Rattle.measuring.specs.NodeSizes.{nodes_size}
use Rattle.measuring.proofs.laws.NodeSizes.{nodes-size}
use Rattle.measuring.proofs.laws.Counts.{count-size}
use Rattle.measuring.proofs.laws.Softs.{Weighing, weighing-weights, weighing-proper, weights-append, append-weighing, gates-weighing, count-weighing}
use Rattle.measuring.specs.Rules.{rule_size, rules_size}

-- hi as written
pub listed-size : (w : ℕ) (c : Counted) (l : Listed)
    → rule_size w (rule c l)
    ≡ sum (nodes_size l.nodes) (list_size w c.lo c.hi c.zero_free (length l.members))
unfolding rule_size list_size
listed-size w c l = refl

-- the weights of the soft units of rules, in their order
unfoldable pub rules_weights : List (ℕ × Rule) → List ℕ
rules_weights [] = []
rules_weights (r ∷ rs) = replicate (rule_size r.0 r.1).units r.0 ++ rules_weights rs

-- hard rules have no soft units
low_hard : (lo : ℕ) (zero_free : Bool) → (low_size 0 lo zero_free).units ≡ 0
unfolding low_size shorts_size or_size units_size unit_size hard_unit multiple sum
low_hard lo true = omega arith
low_hard lo false = omega arith

pub hard-rule : (r : Rule) → (rule_size 0 r).units ≡ 0
unfolding rule_size node_sizes count_size units_size unit_size hard_unit multiple sum
hard-rule r =
    let n = length r.list.members in
    omega (arith, rows-units (columns 0 r.hi n) n 1, low_hard r.lo r.zero_free)

-- where num gives the literals of atoms
module _ (num : Atom → ℕ) where
  -- a literal that is no constant, and a rule over such literals whose bounds are within its list
  abbrev pub Literal : Atom → Type 0
  Literal a = 2 ≤ num a

  abbrev pub Countable : Rule → Type 0
  Countable r = ValidRule Literal r

  -- the literals of members are no constants
  ref_proper : (v k : ℕ) (r : Ref) → 1 ≤ v → Known Literal k r → 2 ≤ ref_literal num v r
  ref_proper v k r h p = go r.negated (thing r.thing p)
    where
      thing : (x : Thing) → ThingKnown Literal k x → 2 ≤ thing_literal num v x
      thing (an_atom a) p = p
      thing (a_node j) p = omega arith

      go : (b : Bool) → 2 ≤ thing_literal num v r.thing
          → 2 ≤ cond b (opp (thing_literal num v r.thing)) (thing_literal num v r.thing)
      go true q = opp-proper (thing_literal num v r.thing) q
      go false q = q

  members_proper : (v k : ℕ) (rs : List Ref) → 1 ≤ v → All (Known Literal k) rs → All (λ l. 2 ≤ l) (map (ref_literal num v) rs)
  members_proper v k rs h p = All-map (Known Literal k) (λ l. 2 ≤ l) (ref_literal num v) (λ r. ref_proper v k r h) rs p

  module _ (w : ℕ) (r : Rule) (v : ℕ) (h : 1 ≤ v) (c : Countable r) where
    -- a rule's items, and its soft units
    pub rule-size : size_of (rule_items num w r v) ≡ rule_size w r
    unfolding rule_items rule_size
    rule-size =
        let l = r.list in
        let p = members_proper v (length l.nodes) l.members h c.atoms.members in
        let count = count-size w r (map (ref_literal num v) l.members) (v + length l.nodes) (omega arith) p in
        rw (size-append, nodes-size num v l.nodes, count, length-map l.members (ref_literal num v))

    pub rule_weighing : Weighing w (soft_units (rule_items num w r v))
    unfolding rule_items
    rule_weighing =
        let l = r.list in
        let ls = map (ref_literal num v) l.members in
        let gs = map (node_gate num v) l.nodes in
        let u = v + length l.nodes in
        append-weighing w (map gate gs) (count_items w r ls u) (gates-weighing w gs)
        (count-weighing w r ls u (omega arith) (rw (length-map l.members (ref_literal num v)) (omega (arith, c.order, c.reach))))

    pub rule_weights : weights (soft_units (rule_items num w r v)) ≡ replicate (rule_size w r).units w
    unfolding size_of size_at
    rule_weights =
        weighing-weights w (soft_units (rule_items num w r v)) rule_weighing ∙ ap (λ s. replicate s.units w) rule-size

  -- rules one after the other, from the variable v on
  pub rules-size : (rs : List (ℕ × Rule)) (v : ℕ) → 1 ≤ v → All (λ r. Countable r.1) rs
      → size_of (rules_items num rs v) ≡ rules_size rs
  unfolding rules_items rules_size
  rules-size [] v h c = size-nil
  rules-size (r ∷ rs) v h c =
      let u = v + gates (rule_items num r.0 r.1 v) in
      rw (size-append, rule-size r.0 r.1 v h c.0, rules-size rs u (omega arith) c.1)

  -- the weights of their soft units, whose literals are no constants
  pub rules-weights : (rs : List (ℕ × Rule)) (v : ℕ) → 1 ≤ v → All (λ r. Countable r.1) rs
      → weights (soft_units (rules_items num rs v)) ≡ rules_weights rs
  unfolding rules_items rules_weights soft_units
  rules-weights [] v h c = refl
  rules-weights (r ∷ rs) v h c =
      let is = rule_items num r.0 r.1 v in
      let u = v + gates is in
      let first = rule_weights r.0 r.1 v h c.0 in
      let rest = rules-weights rs u (omega arith) c.1 in
      rw (soft_units-append is (rules_items num rs u), weights-append (soft_units is), first, rest)

  pub rules_proper : (rs : List (ℕ × Rule)) (v : ℕ) → 1 ≤ v → All (λ r. Countable r.1) rs
      → Proper (soft_units (rules_items num rs v))
  unfolding rules_items soft_units
  rules_proper [] v h c = tt
  rules_proper (r ∷ rs) v h c =
      let is = rule_items num r.0 r.1 v in
      let u = v + gates is in
      let p = weighing-proper r.0 (soft_units is) (rule_weighing r.0 r.1 v h c.0) in
      rw (soft_units-append is (rules_items num rs u))
      (All-append (λ x. 2 ≤ x.1) (soft_units is) (soft_units (rules_items num rs u)) p (rules_proper rs u (omega arith) c.1))
