-- Kind 11's list by numbers: laws.
use Prim.Native.Nat.{ℕ, zero, suc, ◌+◌, ◌-◌, ◌≤◌, min}
use mathlib.Core.Path.{◌≡◌, refl, ap, ◌∙◌}
use mathlib.Core.List.{List, [], ◌∷◌, ◌++◌, map, map-append}
use mathlib.Core.Bool.{Bool, true, false}
use native.Mathlib.Omega.{arith}
use lib.ListN.{length, length-append, length-map}
use Rattle.scope.specs.declared.Layout.{Layout}
use Rattle.scope.specs.Cnf.{pos, neg, opp, or}
use Rattle.scope.specs.Kinds.{Y, Node, is, a_node, is_not, atoms, all_of, an_atom, taking_at, or_more, or_chain, from, down, up_to, early, late, before_g, before_q, begun, too_soon, lasting, too_late, either_way, gap_outside}
use Rattle.scope.specs.Formula.{ref_literal, node_gate}
use Rattle.literals.specs.Outputs.{every}
use Rattle.literals.specs.Variables.{base_of}
use Rattle.literals.specs.Numbered.{num_at}
use Rattle.list_nodes.proofs.laws.Runs.{length_from_lem}
use Rattle.chain_lists.specs.Gap.{next_to, stepping, more_gates, chain_gates, soon_gate, soon_gates, late_gate, late_gates, either_inputs, begun_gates, lasting_gates, gap_gates}
use Rattle.chain_lists.proofs.laws.Reach.{y_number}

-- numbers that follow one another, upwards and downwards, after y others
stepping-up : (y n k : ℕ) → map (λ t. y + t) (from n k) ≡ stepping true (y + n) k
unfolding from stepping
stepping-up y n zero = refl
stepping-up y n (suc k) =
    let e : y + suc n ≡ y + n + 1 = omega arith in
    ap (λ (l : List ℕ). (y + n) ∷ l) (rw e at (stepping-up y (suc n) k))

stepping-down : (y n k : ℕ) → k ≤ n → map (λ t. y + t) (down n k) ≡ stepping false (y + n) k
unfolding down stepping
stepping-down y n zero h = refl
stepping-down y n (suc k) h =
    let e : y + (n - 1) ≡ y + n - 1 = omega arith in
    ap (λ (l : List ℕ). (y + n) ∷ l) (rw e at (stepping-down y (n - 1) k (omega arith)))

module _ (T : ℕ) (L : Layout) (v : ℕ) where
  -- Y of an event at times that follow one another, and nodes that do
  taking_literals : (e n k : ℕ) → map (ref_literal (num_at T L) v) (atoms (taking_at e (from n k))) ≡ every 1 (base_of 0 T e + n) k
  unfolding from every
  taking_literals e n zero = refl
  taking_literals e n (suc k) =
      let a : base_of 0 T e + suc n ≡ base_of 0 T e + n + 1 = omega arith in
      rw (y_number T L e v n, ← a) (ap (λ (l : List ℕ). pos (base_of 0 T e + n) ∷ l) (taking_literals e (suc n) k))

  node_literals : (n k : ℕ) → map (ref_literal (num_at T L) v) (map (λ k. is (a_node k)) (from n k)) ≡ every 1 (v + n) k
  unfolding from every
  node_literals n zero = refl
  node_literals n (suc k) =
      let a : v + suc n ≡ v + n + 1 = omega arith in
      rw (← a) (ap (λ (l : List ℕ). pos (v + n) ∷ l) (node_literals (suc n) k))

  -- a chain of ORs
  more-gates : (e k p : ℕ) (ts : List ℕ) → p ≡ v + k
      → map (node_gate (num_at T L) v) (or_more k (taking_at e ts)) ≡ more_gates p (map (λ t. base_of 0 T e + t) ts)
  unfolding or_more more_gates
  more-gates e k p [] h = refl
  more-gates e k p (t ∷ ts) h = rw (y_number T L e v t, ← h, more-gates e (suc k) (suc p) ts (omega arith))

  chain-gates : (e k o n : ℕ) (a m : ℕ) (ts : List ℕ) → o ≡ v + k
      → map (node_gate (num_at T L) v) (or_chain k n (taking_at e (from a m)) (taking_at e ts))
      ≡ chain_gates n (every 1 (base_of 0 T e + a) m) (map (λ t. base_of 0 T e + t) ts) o
  unfolding or_chain chain_gates
  chain-gates e k o zero a m ts h = refl
  chain-gates e k o (suc n) a m ts h = rw (taking_literals e a m, more-gates e k o ts h)

  begun-gates : (b lo : ℕ)
      → map (node_gate (num_at T L) v) (begun T b lo)
      ≡ chain_gates (early T lo) (every 1 (base_of 0 T b + 1) (lo + 1)) (stepping true (base_of 0 T b + (lo + 2)) (early T lo - 1)) v
  unfolding begun
  begun-gates b lo =
      chain-gates b 0 v (early T lo) 1 (lo + 1) (from (lo + 2) (early T lo - 1)) (omega arith)
      ∙ rw (stepping-up (base_of 0 T b) (lo + 2) (early T lo - 1))

  lasting-gates : (a lo hi : ℕ)
      → map (node_gate (num_at T L) v) (lasting T a lo hi)
      ≡ chain_gates (late T hi) (every 1 (base_of 0 T a + (late T hi + 1)) (T - late T hi)) (stepping false (base_of 0 T a + late T hi) (late T hi - 1))
      (v + before_g T lo)
  unfolding lasting
  lasting-gates a lo hi =
      chain-gates a (before_g T lo) (v + before_g T lo) (late T hi) (late T hi + 1) (T - late T hi) (down (late T hi) (late T hi - 1)) refl
      ∙ rw (stepping-down (base_of 0 T a) (late T hi) (late T hi - 1) (omega arith))

  -- P and Q, time by time
  soon-gates : (a : ℕ) (ts : List ℕ)
      → map (node_gate (num_at T L) v) (map (λ t. all_of (is (an_atom (Y a t)) ∷ is (a_node (t - 1)) ∷ [])) ts) ≡ map (soon_gate (base_of 0 T a) v) ts
  soon-gates a [] = refl
  soon-gates a (t ∷ ts) = rw (y_number T L a v t, soon-gates a ts)

  late-gates : (lo hi k q n m : ℕ) → q ≡ v + k → n + m ≤ k + 1
      → map (node_gate (num_at T L) v) (map (λ t. all_of (is_not (a_node (t + hi - lo)) ∷ is_not (a_node (k - t)) ∷ [])) (from n m))
      ≡ map (late_gate lo hi v q) (from n m)
  unfolding from
  late-gates lo hi k q n zero e h = refl
  late-gates lo hi k q n (suc m) e h =
      let a : opp (pos (v + (n + hi - lo))) ≡ neg (v + (n + hi - lo)) = omega arith in
      let b : opp (pos (v + (k - n))) ≡ neg (q - n) = omega arith in
      rw (a, b, late-gates lo hi k q (suc n) m e (omega arith))

  either_literals : (a lo hi : ℕ)
      → node_gate (num_at T L) v (either_way T a lo hi) ≡ or (either_inputs T (base_of 0 T a) (early T lo) (late T hi) v (v + before_q T lo hi))
  unfolding either_way
  either_literals a lo hi =
      let num = num_at T L in
      let e = early T lo in
      let xs = atoms (taking_at a (from (e + 1) (T - e))) in
      let js = from 0 (min e 1) in
      let bs = from e (e - 1) in
      let cs = from (before_q T lo hi) (late T hi) in
      let z : v + 0 ≡ v = omega arith in
      ap or
      (map-append (ref_literal num v) xs (map (λ k. is (a_node k)) (js ++ (bs ++ cs)))
      ∙ rw (map-append (λ k. is (a_node k)) js (bs ++ cs), map-append (λ k. is (a_node k)) bs cs)
      (rw (
        taking_literals a (e + 1) (T - e),
        map-append (ref_literal num v),
        map-append (ref_literal num v),
        node_literals 0 (min e 1),
        node_literals e (e - 1),
        node_literals (before_q T lo hi) (late T hi),
        z,
      )))

  -- the list
  module _ (a b lo hi : ℕ) where
    pub gap-gates : map (node_gate (num_at T L) v) (gap_outside T a b lo hi).nodes ≡ gap_gates T (base_of 0 T a) (base_of 0 T b) lo hi v
    unfolding gap_outside gap_gates too_soon too_late soon_gates late_gates
    gap-gates =
        let g = node_gate (num_at T L) v in
        let os : List Node = either_way T a lo hi ∷ [] in
        let qs = too_late T lo hi ++ os in
        let gs = lasting T a lo hi ++ qs in
        let ps = too_soon T a lo ++ gs in
        map-append g (begun T b lo) ps
        ∙ rw (begun-gates b lo)
        (ap (◌++◌ (begun_gates T (base_of 0 T a) (base_of 0 T b) lo hi v))
        (map-append g (too_soon T a lo) gs
        ∙ rw (soon-gates a (from 2 (early T lo - 1)))
        (ap (◌++◌ (soon_gates (base_of 0 T a) (early T lo) v))
        (map-append g (lasting T a lo hi) qs
        ∙ rw (lasting-gates a lo hi)
        (ap (◌++◌ (lasting_gates T (base_of 0 T a) (base_of 0 T b) lo hi v))
        (map-append g (too_late T lo hi) os
        ∙ rw (late-gates lo hi (before_q T lo hi) (v + before_q T lo hi) 1 (late T hi) refl (omega arith), either_literals a lo hi)))))))

    pub gap_literals : map (ref_literal (num_at T L) v) (gap_outside T a b lo hi).members ≡ pos (v + (before_q T lo hi + late T hi)) ∷ []
    unfolding gap_outside
    gap_literals = refl

-- how many gates each has
length-stepping : (up : Bool) (x n : ℕ) → length (stepping up x n) ≡ n
unfolding stepping
length-stepping up x zero = refl
length-stepping up x (suc n) = ap suc (length-stepping up (next_to up x) n)

length_more : (p : ℕ) (xs : List ℕ) → length (more_gates p xs) ≡ length xs
unfolding more_gates
length_more p [] = refl
length_more p (x ∷ xs) = ap suc (length_more (suc p) xs)

pub length-chain : (n : ℕ) (first : List ℕ) (up : Bool) (x o : ℕ) → length (chain_gates n first (stepping up x (n - 1)) o) ≡ n
unfolding chain_gates
length-chain zero first up x o = refl
length-chain (suc n) first up x o = omega (arith, length_more o (stepping up x (suc n - 1)), length-stepping up x (suc n - 1))

pub length-soon : (y n v : ℕ) → length (soon_gates y n v) ≡ n - 1
unfolding soon_gates
length-soon y n v = length-map (from 2 (n - 1)) (soon_gate y v) ∙ length_from_lem 2 (n - 1)

pub length-late : (lo hi n v q : ℕ) → length (late_gates lo hi n v q) ≡ n
unfolding late_gates
length-late lo hi n v q = length-map (up_to n) (late_gate lo hi v q) ∙ length_from_lem 1 n

pub length-gap : (T y z lo hi v : ℕ) → length (gap_gates T y z lo hi v) ≡ before_q T lo hi + late T hi + 1
unfolding gap_gates
length-gap T y z lo hi v =
    let e = early T lo in
    let n = late T hi in
    let q = v + before_q T lo hi in
    simp length-append
    (omega (
      arith,
      length-chain e (every 1 (z + 1) (lo + 1)) true (z + (lo + 2)) v,
      length-soon y e v,
      length-chain n (every 1 (y + (n + 1)) (T - n)) false (y + n) (v + before_g T lo),
      length-late lo hi n v q,
    ))
