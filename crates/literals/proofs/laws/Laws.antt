-- The literals of atoms by numbers, and the items of rules by the numbers of their lists.
use Prim.Native.Nat.{ℕ, ◌+◌, min}
use mathlib.Core.Path.{◌≡◌, refl, ap}
use mathlib.Core.List.{List, [], ◌∷◌, ◌++◌, map}
use native.Mathlib.Omega.{arith}
use lib.ListN.{length, length-map}
use Rattle.scope.specs.declared.Layout.{Layout}
use Rattle.scope.specs.Kinds.{Atom, Y, S, X, Listed, Counted, Rule, rule, takes_at}
use Rattle.scope.specs.Cnf.{Item, gate, gates}
use Rattle.scope.specs.Formula.{ref_literal, node_gate, count_into, count_items, bound_items, rule_items, rules_items}
use Rattle.literals.specs.Variables.{base_of, literal_at, y_at}
use Rattle.literals.proofs.laws.Variables.{s_at, x_at}
use Rattle.literals.specs.Numbered.{numbered_items, all_numbered, number_of, num_at}
use Rattle.literals.proofs.laws.Entries.{Adds, adds_atoms}

module _ (T : ℕ) (L : Layout) where
  -- the literals of Y, S and X
  pub y_literal : (e t : ℕ) → num_at T L (Y e t) ≡ y_at T e t
  unfolding base_of literal_at
  y_literal e t = omega arith

  pub s_literal : (e t : ℕ) → num_at T L (S e t) ≡ s_at T L e t
  unfolding base_of literal_at
  s_literal e t = omega arith

  pub x_literal : (r t : ℕ) → num_at T L (X r t) ≡ x_at T L r t
  unfolding base_of literal_at
  x_literal r t = omega arith

  -- Y of an event at some times
  pub takes_add : (e : ℕ) (ts : List ℕ) (v k : ℕ) → Adds (num_at T L) (takes_at e ts) v k [] (map (y_at T e) ts)
  takes_add e ts v k = adds_atoms (λ t. Y e t) (y_at T e) (y_literal e) ts v k

-- the items of a counted list go by its bounds and its literals
count-bounds : (w : ℕ) (r s : Rule) (xs : List ℕ) (v : ℕ)
    → r.lo ≡ s.lo
    → r.hi ≡ s.hi
    → r.zero_free ≡ s.zero_free
    → count_items w r xs v ≡ count_items w s xs v
unfolding count_into bound_items
count-bounds w r s xs v a b c = rw (a, b, c)

module _ (num : Atom → ℕ) (c : Counted) where
  -- a rule's items
  pub rule-items : (l : Listed) (w v : ℕ) → rule_items num w (rule c l) v ≡ numbered_items w (number_of num c l) v
  unfolding rule_items numbered_items
  rule-items l w v =
      let gs = map (node_gate num v) l.nodes in
      let xs = map (ref_literal num v) l.members in
      rw (← (length-map l.nodes (node_gate num v)))
      (ap (λ (is : List Item). map gate gs ++ is)
      (count-bounds w (rule c l) _ xs (v + length gs) refl (ap (min c.hi) (rw (length-map l.members (ref_literal num v)))) refl))

  -- those of some rules of one weight
  pub rules-items : (ls : List Listed) (w v : ℕ)
      → rules_items num (map (λ r. (w, r)) (map (rule c) ls)) v ≡ all_numbered w (map (number_of num c) ls) v
  unfolding rules_items all_numbered
  rules-items [] w v = refl
  rules-items (l ∷ ls) w v =
      rw (rule-items l w v)
      (ap (λ (is : List Item). numbered_items w (number_of num c l) v ++ is) (rules-items ls w (v + gates (numbered_items w (number_of num c l) v))))
