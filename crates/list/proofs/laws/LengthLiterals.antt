-- The nodes and the members of kinds 9 and 10 are over literals of variables.
use Prim.Native.Nat.{ℕ, zero, suc, ◌+◌, ◌-◌, ◌*◌, ◌≤◌, ◌<◌}
use mathlib.Core.List.{List, [], ◌∷◌, ◌++◌, map, flat_map}
use mathlib.Core.Bool.{Bool, true, false, cond}
use native.Mathlib.Omega.{arith}
use native.Mathlib.Nat.{mul-le-mul}
use lib.Dec.{eqb}
use Rattle.scope.specs.declared.Layout.{Layout}
use Rattle.scope.specs.Cnf.{pos, opp, Gate, or, and}
use Rattle.scope.specs.Kinds.{from, up_to}
use Rattle.parsing.specs.Each.{Each, each_none, each_more}
use Rattle.literals.specs.Outputs.{every}
use Rattle.literals.specs.Variables.{base_of, Within}
use Rattle.literals.proofs.laws.Variables.{Sizes, row_small}
use Rattle.literals.specs.Proper.{Proper}
use Rattle.literals.proofs.laws.Proper.{each_both, every-proper}
use Rattle.literals.specs.NodeWords.{IsNode}
use Rattle.node_lists.specs.Lengths.{goes_gate, going_gates, on_count, on_literals, length_gate, outside_gates, outside_count}
use Rattle.node_lists.proofs.laws.Lengths.{first_of}
use Rattle.list.proofs.laws.Proper.{opposites_proper, output-proper, negated-proper}

-- M
goes-nodes : (y s n k : ℕ) → y < 524288 → s < 524288 → 1 ≤ n → n + k ≤ 127 → Each IsNode (map (goes_gate y s) (from n k))
unfolding from
goes-nodes y s n zero a b h l = each_none
goes-nodes y s n (suc k) a b h l =
    each_more {x = goes_gate y s n}
    (each_more (output-proper (y + n) (omega arith) (omega arith)) (each_more (negated-proper (s + n) (omega arith) (omega arith)) each_none))
    (goes-nodes y s (suc n) k a b (omega arith) (omega arith))

going-nodes : (T y s : ℕ) → T ≤ 125 → y < 524288 → s < 524288 → Each IsNode (going_gates T y s)
unfolding going_gates
going-nodes T y s h a b = each_both (goes-nodes y s 2 (T - 1) a b (omega arith) (omega arith)) (each_more {x = or []} each_none each_none)

-- the nodes of each time
flat-nodes : (g : ℕ → List Gate) → ((t : ℕ) → Within 125 t → Each IsNode (g t)) → (n k : ℕ) → 1 ≤ n → n + k ≤ 126 → Each IsNode (flat_map g (from n k))
unfolding from flat_map
flat-nodes g e n zero h l = each_none
flat-nodes g e n (suc k) h l =
    each_both (e n (record { low = h; high = omega arith })) (flat-nodes g e (suc n) k (omega arith) (omega arith))

pub base-small : (before T k : ℕ) → before ≤ 256000 → T ≤ 125 → Within 1024 k → base_of before T k < 524288
unfolding base_of
base-small before T k h l w = omega (arith, row_small T k l w.high)

count_small : (T t a b : ℕ) → on_count T t a b ≤ T + 2
unfolding on_count
count_small T t a b = omega arith

module _ (T v : ℕ) (h : T ≤ 125) (l : 1 ≤ v) (m : v ≤ 8000001) where
  on_proper : (t a b : ℕ) → t ≤ 125 → a ≤ 125 → Each Proper (on_literals T v t a b)
  on_proper t a b i j =
      every-proper 1 (v + (t + a - 2)) (on_count T t a b) (omega arith) (omega (arith, count_small T t a b))

  module _ (s : ℕ) (k : s < 524288) where
    length_node : (n t : ℕ) → n ≤ 125 → Within 125 t → Each IsNode (length_gate T n s v t ∷ [])
    unfolding length_gate
    length_node n t j w =
        each_more (each_more (output-proper (s + t) (omega (arith, w.low)) (omega (arith, w.high)))
        (each_both (on_proper t 1 (n - 1) w.high (omega arith)) (opposites_proper (on_proper t n n w.high j)))) each_none

    outside_node : (a b t : ℕ) → a ≤ 125 → Within 125 t → Each IsNode (outside_gates T a b s v t (first_of T v (outside_count a) t))
    unfolding outside_gates
    outside_node a b t j w = by (eqb a 1)
      where
        start : Proper (pos (s + t))
        start = output-proper (s + t) (omega (arith, w.low)) (omega (arith, w.high))

        by : (c : Bool)
            → Each IsNode
            (cond c (and (pos (s + t) ∷ on_literals T v t 1 b) ∷ [])
            (and (on_literals T v t a b)
            ∷ or (map opp (on_literals T v t 1 (a - 1)) ++ pos (first_of T v (cond c 1 3) t) ∷ [])
            ∷ and (pos (s + t) ∷ pos (first_of T v (cond c 1 3) t + 1) ∷ [])
            ∷ []))
        by true = each_more (each_more start (on_proper t 1 b w.high (omega arith))) each_none
        by false =
            let o = first_of T v 3 t in
            let x = output-proper o (omega arith) (omega (arith, w.high)) in
            let y = output-proper (o + 1) (omega arith) (omega (arith, w.high)) in
            each_more {x = and (on_literals T v t a b)} (on_proper t a b w.high j)
            (each_more {x = or (map opp (on_literals T v t 1 (a - 1)) ++ (pos o ∷ []))}
            (each_both (opposites_proper (on_proper t 1 (a - 1) w.high (omega arith))) (each_more x each_none))
            (each_more {x = and (pos (s + t) ∷ pos (o + 1) ∷ [])} (each_more start (each_more y each_none)) each_none))

-- the lists
module _ (T : ℕ) (L : Layout) (e v : ℕ) (z : Sizes T L) (w : Within 1024 e) (l : 1 ≤ v) (m : v ≤ 8000001) where
  y_small : base_of 0 T e < 524288
  y_small = base-small 0 T e (omega arith) z.times w

  s_small : base_of L.starts T e < 524288
  s_small = base-small L.starts T e (omega (arith, z.starts)) z.times w

  by_time_nodes : (g : ℕ → List Gate) → ((t : ℕ) → Within 125 t → Each IsNode (g t))
      → Each IsNode (going_gates T (base_of 0 T e) (base_of L.starts T e) ++ flat_map g (up_to T))
  by_time_nodes g p =
      each_both (going-nodes T (base_of 0 T e) (base_of L.starts T e) z.times y_small s_small)
      (flat-nodes g p 1 T (omega arith) (omega (arith, z.times)))

  pub length_nodes : (n : ℕ) → n ≤ 125
      → Each IsNode (going_gates T (base_of 0 T e) (base_of L.starts T e) ++ flat_map (λ t. length_gate T n (base_of L.starts T e) v t ∷ []) (up_to T))
  length_nodes n h = by_time_nodes _ (λ t i. length_node T v z.times l m (base_of L.starts T e) s_small n t h i)

  pub outside_nodes : (a b : ℕ) → a ≤ 125
      → Each IsNode
      (going_gates T (base_of 0 T e) (base_of L.starts T e)
      ++ flat_map (λ t. outside_gates T a b (base_of L.starts T e) v t (first_of T v (outside_count a) t)) (up_to T))
  outside_nodes a b h = by_time_nodes _ (λ t i. outside_node T v z.times l m (base_of L.starts T e) s_small a b t h i)

-- the last of so many nodes of each time
pub last-proper : (T v s : ℕ) → T ≤ 125 → 1 ≤ v → v ≤ 8000001 → 1 ≤ s → s ≤ 3 → Each Proper (every s (v + (T + s * 1 - 1)) T)
last-proper T v s h l m i j =
    every-proper s (v + (T + s * 1 - 1)) T (omega arith) (omega (arith, mul-le-mul {n₁ = s} {m₁ = T} {n₂ = 3} {m₂ = 125} j h))

pub count-few : (a : ℕ) → (1 ≤ outside_count a) × (outside_count a ≤ 3)
count-few a = by (eqb a 1)
  where
    by : (c : Bool) → (1 ≤ cond c 1 3) × (cond c 1 3 ≤ 3)
    by true = (omega arith, omega arith)
    by false = (omega arith, omega arith)
