-- Rules: where the variables of the atoms say whether they are true, a rule's clauses and soft units are worth what the rule
-- charges for its count.
use mathlib.Core.Path.{◌≡◌}
use mathlib.Core.Bool.{Bool, false}
use mathlib.Core.List.{List, [], ◌∷◌, map}
use Prim.Native.Nat.{ℕ, ◌+◌, ◌*◌, ◌≤◌}
use lib.ListN.{length, length-map}
use Rattle.laws.specs.Lists.{All}
use Rattle.scope.specs.Kinds.{Atom, Rule}
use Rattle.scope.specs.Cnf.{Assignment, gates}
use Rattle.scope.specs.Score.{charged, count}
use Rattle.scope.specs.Formula.{ref_literal, node_gate, rule_items, rules_items}
use Rattle.theory.proofs.laws.Circuit.{Holds, Holds-append, Holds-gates}
use Rattle.theory.proofs.laws.Costs.{Scores, Costs, Scores-none, Scores-append, Scores-gates}
use Rattle.theory.proofs.laws.Bounds.{count-costs}
use Rattle.theory.proofs.laws.Nodes.{ListKnown, list_weaken}
use Rattle.theory.proofs.laws.Values.{Agrees, list_agrees}

-- a rule's bounds are in order and within its list's length, and its list refers to atoms of which P holds
pub record ValidRule (P : Atom → Type 0) (r : Rule) : Type 0 where
  pub order : r.lo ≤ r.hi
  pub reach : r.hi ≤ length r.list.members
  pub atoms : ListKnown P r.list

-- the same rule by a weaker predicate
pub ValidRule-weaken : (P Q : Atom → Type 0) → ((a : Atom) → P a → Q a) → (r : Rule) → ValidRule P r → ValidRule Q r
ValidRule-weaken P Q f r v = record { order = v.order; reach = v.reach; atoms = list_weaken P Q f r.list v.atoms }

-- what rules with weights charge: nothing where they are hard; weighed
module _ (τ : Atom → Bool) where
  abbrev pub charge : Rule → ℕ
  charge r = charged r (count τ r.list)

  abbrev pub Kept : ℕ × Rule → Type 0
  Kept r = r.0 ≡ 0 → charge r.1 ≡ 0

  unfoldable pub weighed : List (ℕ × Rule) → ℕ
  weighed [] = 0
  weighed (r ∷ rs) = r.0 * charge r.1 + weighed rs

module _ (num : Atom → ℕ) (ν : Assignment) (z : ν 0 ≡ false) (τ : Atom → Bool) where
  -- one rule
  pub rule_costs : (w : ℕ) (r : Rule) (v : ℕ) → ValidRule (Agrees num ν τ) r → Holds ν v (rule_items num w r v)
      → Costs ν w (rule_items num w r v) (charge τ r)
  unfolding rule_items count
  rule_costs w r v g h =
      let l = r.list in
      let gs = map (node_gate num v) l.nodes in
      let xs = map (ref_literal num v) l.members in
      let p = Holds-gates ν v gs _ h in
      let n : length gs ≡ length l.nodes = length-map l.nodes (node_gate num v) in
      Scores-gates ν gs _
      (rw (← (list_agrees num ν τ v l g.atoms p.0))
      (count-costs ν z w r xs (v + length l.nodes) g.order (rw length-map g.reach) (rw n at p.1)))

  -- rules with weights, one after the other
  pub rules_score : (rs : List (ℕ × Rule)) (v : ℕ) → All (λ r. ValidRule (Agrees num ν τ) r.1) rs
      → Holds ν v (rules_items num rs v) → Scores ν (rules_items num rs v) (All (Kept τ) rs) (weighed τ rs)
  unfolding rules_items weighed
  rules_score [] v g h = Scores-none ν
  rules_score (r ∷ rs) v g h =
      let is = rule_items num r.0 r.1 v in
      let p = Holds-append ν v is _ h in
      Scores-append ν is _ (rule_costs r.0 r.1 v g.0 p.0) (rules_score rs (v + gates is) g.1 p.1)
