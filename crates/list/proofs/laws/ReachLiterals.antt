-- The nodes and the members of kind 3 are over literals of variables.
use Prim.Native.Nat.{ℕ, ◌+◌, ◌≤◌}
use mathlib.Core.Path.{◌≡◌, sym, ap, ◌∙◌}
use mathlib.Core.List.{List, [], ◌∷◌}
use native.Mathlib.Omega.{arith}
use lib.ListN.{length, length-map}
use Rattle.scope.specs.Cnf.{pos, neg, or, and}
use Rattle.scope.specs.Formula.{node_gate}
use Rattle.scope.specs.Kinds.{Reach, started, carried, both, reach_added, reached, from_outside, up_to}
use Rattle.parsing.specs.Each.{Each, each_none, each_more}
use Rattle.constraint.specs.declared.kinds.Head.{Head}
use Rattle.constraint.specs.Valid.{OneOf}
use Rattle.literals.specs.Variables.{base_of, literal_at, Within}
use Rattle.literals.specs.Proper.{Proper}
use Rattle.literals.proofs.laws.Proper.{each_both, literal-proper, up_to-within}
use Rattle.literals.specs.NodeWords.{IsNode}
use Rattle.list_nodes.specs.Ground.{Ground, layout_of}
use Rattle.list_nodes.proofs.laws.Ground.{ground_sizes, ground_event}
use Rattle.list_nodes.specs.Stored.{num_of}
use Rattle.chain_lists.specs.Reach.{reach_gates, reach_variable, reaches_gates, reaches_literals}
use Rattle.chain_lists.proofs.laws.Reach.{length-step, reach_time, reached-each, from_outside_gates, from_outside_literals}
use Rattle.list.proofs.laws.OverLiterals.{OverLiterals}
use Rattle.list.proofs.laws.Proper.{output-proper}

-- of an event whose Y and S come after the variables y and s
module _ (y s : ℕ) (takes : (t : ℕ) → Within 125 t → Proper (pos (y + t))) (starts : (t : ℕ) → Within 125 t → Proper (pos (s + t))) where
  -- a time's variable
  variable_proper : (x : Reach) (o : ℕ) → Within 125 (reach_time x) → 1 ≤ o → o + reach_added x ≤ 8000001 → Proper (pos (reach_variable s x o))
  variable_proper (started t) o w h l = starts t w
  variable_proper (carried t) o w h l = output-proper (o + 1) (omega arith) (omega arith)
  variable_proper (both t) o w h l = output-proper (o + 2) (omega arith) (omega arith)

  -- its nodes: M and C, and D
  carried_nodes : (t o p : ℕ) → Within 125 t → 1 ≤ o → o ≤ 8000001 → Proper (pos p) → Each IsNode (reach_gates y s (carried t) o p)
  carried_nodes t o p w h l q =
      let n : Proper (neg (s + t)) = record { low = omega (arith, (starts t w).low); high = omega (arith, (starts t w).high) } in
      each_more {x = and (pos (y + t) ∷ neg (s + t) ∷ [])} (each_more (takes t w) (each_more n each_none))
      (each_more {x = and (pos p ∷ pos o ∷ [])} (each_more q (each_more (output-proper o h (omega arith)) each_none)) each_none)

  reach-nodes : (x : Reach) (o p : ℕ) → Within 125 (reach_time x) → 1 ≤ o → o + reach_added x ≤ 8000001 → Proper (pos p)
      → Each IsNode (reach_gates y s x o p)
  reach-nodes (started t) o p w h l q = each_none
  reach-nodes (carried t) o p w h l q = carried_nodes t o p w h (omega arith) q
  reach-nodes (both t) o p w h l q =
      each_both (carried_nodes t o p w h (omega arith) q)
      (each_more {x = or (pos (s + t) ∷ pos (o + 1) ∷ [])}
      (each_more (starts t w) (each_more (output-proper (o + 1) (omega arith) (omega arith)) each_none))
      each_none)

  -- the nodes and the literals of all times, of which o is the first variable
  reaches-nodes : (xs : List Reach) (o p : ℕ) → Each (λ x. Within 125 (reach_time x)) xs → 1 ≤ o → o + length (reaches_gates y s xs o p) ≤ 8000001
      → Proper (pos p)
      → Each IsNode (reaches_gates y s xs o p)
  unfolding reaches_gates
  reaches-nodes [] o p each_none h l q = each_none
  reaches-nodes (x ∷ xs) o p (each_more w ws) h l q =
      let e = length-step y s x xs o p in
      each_both (reach-nodes x o p w h (omega arith) q)
      (reaches-nodes xs (o + reach_added x) (reach_variable s x o) ws (omega arith) (omega arith) (variable_proper x o w h (omega arith)))

  reaches_proper : (xs : List Reach) (o p : ℕ) → Each (λ x. Within 125 (reach_time x)) xs → 1 ≤ o → o + length (reaches_gates y s xs o p) ≤ 8000001
      → Each Proper (reaches_literals s xs o)
  unfolding reaches_literals
  reaches_proper [] o p each_none h l = each_none
  reaches_proper (x ∷ xs) o p (each_more w ws) h l =
      let e = length-step y s x xs o p in
      each_more (variable_proper x o w h (omega arith)) (reaches_proper xs (o + reach_added x) (reach_variable s x o) ws (omega arith) (omega arith))

-- Y and S of an event
module _ {groups : List ℕ} {h : Head} (g : Ground groups h) {e : ℕ} (o : OneOf h.events e) where
  takes_proper : (t : ℕ) → Within 125 t → Proper (pos (base_of 0 h.times e + t))
  unfolding literal_at
  takes_proper t w = literal-proper 0 h.times e t (omega arith) g.times (ground_event g o) w

  starts_proper : (t : ℕ) → Within 125 t → Proper (pos (base_of (layout_of h).starts h.times e + t))
  unfolding literal_at
  starts_proper t w =
      literal-proper (layout_of h).starts h.times e t (omega (arith, (ground_sizes g).starts)) g.times (ground_event g o) w

  -- the list
  pub reach_literals : (d : ℕ) (ts : List ℕ) (v : ℕ) → 1 ≤ v → v + length (from_outside h.times e d ts).nodes ≤ 8000001
      → OverLiterals (num_of h) (from_outside h.times e d ts) v
  reach_literals d ts v l m =
      let T = h.times in
      let y = base_of 0 T e in
      let s = base_of (layout_of h).starts T e in
      let xs = reached d ts 0 (up_to T) in
      let ws = reached-each (Within 125) d ts 0 (up_to-within 125 T g.times) in
      let a = from_outside_gates T (layout_of h) e v d ts in
      let c : length (reaches_gates y s xs v v) ≡ length (from_outside T e d ts).nodes =
      ap length (sym a) ∙ length-map (from_outside T e d ts).nodes (node_gate (num_of h) v) in
      record {
        nodes = rw a (reaches-nodes y s takes_proper starts_proper xs v v ws l (omega arith) (output-proper v l (omega arith)));
        members =
            rw (from_outside_literals T (layout_of h) e v d ts) (reaches_proper y s takes_proper starts_proper xs v v ws l (omega arith));
      }
