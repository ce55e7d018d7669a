-- The nodes and the member of kind 11 are over literals of variables.
use Prim.Native.Nat.{ℕ, zero, suc, ◌+◌, ◌-◌, ◌≤◌, ◌<◌, min}
use mathlib.Core.Bool.{Bool, true, false}
use mathlib.Core.List.{List, [], ◌∷◌, map}
use native.Mathlib.Omega.{arith}
use Rattle.scope.specs.declared.Layout.{Layout}
use Rattle.scope.specs.Cnf.{pos, Gate, or}
use Rattle.scope.specs.Kinds.{from, early, late, before_g, before_q, gap_outside}
use Rattle.parsing.specs.Each.{Each, each_none, each_more}
use Rattle.literals.specs.Outputs.{every}
use Rattle.literals.specs.Variables.{base_of, Within}
use Rattle.literals.specs.Numbered.{num_at}
use Rattle.literals.specs.Proper.{Proper}
use Rattle.literals.proofs.laws.Proper.{each_both, every-proper}
use Rattle.literals.specs.NodeWords.{IsNode}
use Rattle.chain_lists.specs.Gap.{next_to, stepping, more_gates, chain_gates, soon_gate, soon_gates, late_gate, late_gates, either_inputs, gap_gates}
use Rattle.chain_lists.proofs.laws.Gap.{gap-gates, gap_literals}
use Rattle.list.proofs.laws.OverLiterals.{OverLiterals}
use Rattle.list.proofs.laws.Proper.{output-proper, negated-proper}

-- a variable whose literals fit a word
abbrev Variable : ℕ → Type 0
Variable x = Within 1073741823 x

up-variables : (x n : ℕ) → 1 ≤ x → x + n < 1073741824 → Each Variable (stepping true x n)
unfolding stepping
up-variables x zero h l = each_none
up-variables x (suc n) h l =
    each_more {x = x} (record { low = h; high = omega arith }) (up-variables (x + 1) n (omega arith) (omega arith))

down-variables : (x n : ℕ) → n ≤ x → x < 1073741824 → Each Variable (stepping false x n)
unfolding stepping
down-variables x zero h l = each_none
down-variables x (suc n) h l =
    each_more {x = x} (record { low = omega arith; high = omega arith }) (down-variables (x - 1) n (omega arith) (omega arith))

-- a chain of ORs
more-nodes : (up : Bool) (x n p : ℕ) → Each Variable (stepping up x n) → 1 ≤ p → p + n < 1073741824
    → Each IsNode (more_gates p (stepping up x n))
unfolding more_gates stepping
more-nodes up x zero p each_none h l = each_none
more-nodes up x (suc n) p (each_more w ws) h l =
    each_more {x = or (pos x ∷ pos p ∷ [])}
    (each_more (output-proper x w.low (omega (arith, w.high))) (each_more (output-proper p h (omega arith)) each_none))
    (more-nodes up (next_to up x) n (suc p) ws (omega arith) (omega arith))

chain-nodes : (k : ℕ) (first : List ℕ) (up : Bool) (x n o : ℕ) → Each Proper first → Each Variable (stepping up x n) → 1 ≤ o
    → o + n < 1073741824
    → Each IsNode (chain_gates k first (stepping up x n) o)
unfolding chain_gates
chain-nodes zero first up x n o p ws h l = each_none
chain-nodes (suc k) first up x n o p ws h l = each_more {x = or first} p (more-nodes up x n o ws h l)

-- a node for each of some numbers
mapped-nodes : (g : ℕ → Gate) (n k : ℕ) → ((t : ℕ) → n ≤ t → t < n + k → IsNode (g t)) → Each IsNode (map g (from n k))
unfolding from
mapped-nodes g n zero h = each_none
mapped-nodes g n (suc k) h =
    each_more {x = g n} (h n (omega arith) (omega arith)) (mapped-nodes g (suc n) k (λ t a b. h t (omega arith) (omega arith)))

-- Q's inputs are variables, where G of time 1 is the variable before q
late-input : (lo hi v q t : ℕ) → t ≤ 125 → hi ≤ 124 → 1 ≤ t → t < q → q < 1000000000 → 1 ≤ v → v ≤ 8000001 → IsNode (late_gate lo hi v q t)
late-input lo hi v q t a b c d e f g =
    each_more (negated-proper (v + (t + hi - lo)) (omega arith) (omega arith))
    (each_more (negated-proper (q - t) (omega arith) (omega arith)) each_none)

-- where Y of the two events come after the variables y and z, and E and L are early and late
module _ (T y z lo hi v E L : ℕ) (h : T ≤ 125) (a : y < 524288) (b : z < 524288) (s : 1 ≤ v) (m : v ≤ 8000001) (j : lo ≤ 124) (k : hi ≤ 124)
    (e : E ≤ T) (l : L ≤ T) where
  begun_nodes : Each IsNode (chain_gates E (every 1 (z + 1) (lo + 1)) (stepping true (z + (lo + 2)) (E - 1)) v)
  begun_nodes =
      chain-nodes E (every 1 (z + 1) (lo + 1)) true (z + (lo + 2)) (E - 1) v
      (every-proper 1 (z + 1) (lo + 1) (omega arith) (omega arith))
      (up-variables (z + (lo + 2)) (E - 1) (omega arith) (omega arith)) s (omega arith)

  soon_nodes : Each IsNode (soon_gates y E v)
  unfolding soon_gates
  soon_nodes =
      mapped-nodes (soon_gate y v) 2 (E - 1)
      (λ t p q.
      each_more (output-proper (y + t) (omega arith) (omega arith))
      (each_more (output-proper (v + (t - 1)) (omega arith) (omega arith)) each_none))

  lasting_nodes : (g : ℕ) → 1 ≤ g → g ≤ 9000000 → Each IsNode (chain_gates L (every 1 (y + (L + 1)) (T - L)) (stepping false (y + L) (L - 1)) g)
  lasting_nodes g p q =
      chain-nodes L (every 1 (y + (L + 1)) (T - L)) false (y + L) (L - 1) g
      (every-proper 1 (y + (L + 1)) (T - L) (omega arith) (omega arith))
      (down-variables (y + L) (L - 1) (omega arith) (omega arith)) p (omega arith)

  late_nodes : (q : ℕ) → L < q → q ≤ 9000000 → Each IsNode (late_gates lo hi L v q)
  unfolding late_gates
  late_nodes q p r =
      mapped-nodes (late_gate lo hi v q) 1 L (λ t x w. late-input lo hi v q t (omega arith) k x (omega arith) (omega arith) s m)

  either_node : (q : ℕ) → 1 ≤ q → q ≤ 9000000 → Each Proper (either_inputs T y E L v q)
  either_node q p r =
      each_both (every-proper 1 (y + (E + 1)) (T - E) (omega arith) (omega arith))
      (each_both (every-proper 1 v (min E 1) s (omega arith))
      (each_both (every-proper 1 (v + E) (E - 1) (omega arith) (omega arith)) (every-proper 1 q L p (omega arith))))

-- the list
module _ (T : ℕ) (layout : Layout) (first second lo hi v : ℕ) (h : T ≤ 125) (a : base_of 0 T first < 524288) (b : base_of 0 T second < 524288)
    (s : 1 ≤ v) (m : v ≤ 8000001) (j : lo ≤ 124) (k : hi ≤ 124) where
  pub gap_over : OverLiterals (num_at T layout) (gap_outside T first second lo hi) v
  unfolding gap_gates
  gap_over =
      let y = base_of 0 T first in
      let z = base_of 0 T second in
      let E = early T lo in
      let L = late T hi in
      let e : E ≤ T = omega arith in
      let l : L ≤ T = omega arith in
      let B = before_g T lo in
      let c : B ≤ 250 = omega arith in
      let q = v + before_q T lo hi in
      let d : before_q T lo hi ≤ 375 = omega arith in
      let f : L < q = omega arith in
      record {
        nodes =
            rw (gap-gates T layout v first second lo hi)
            (each_both (begun_nodes T y z lo hi v E L h a b s m j k e l)
            (each_both (soon_nodes T y z lo hi v E L h a b s m j k e l)
            (each_both (lasting_nodes T y z lo hi v E L h a b s m j k e l (v + B) (omega arith) (omega arith))
            (each_both (late_nodes T y z lo hi v E L h a b s m j k e l q f (omega arith))
            (each_more {x = or (either_inputs T y E L v q)} (either_node T y z lo hi v E L h a b s m j k e l q (omega arith) (omega arith)) each_none)))));
        members =
            rw (gap_literals T layout v first second lo hi)
            (each_more (output-proper (v + (before_q T lo hi + late T hi)) (omega arith) (omega arith)) each_none);
      }
