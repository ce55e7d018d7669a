-- The lists of kinds 9 and 10 by numbers: laws.
use Prim.Native.Nat.{ℕ, zero, suc, ◌+◌, ◌-◌, ◌*◌, ◌≤◌, min}
use mathlib.Core.Path.{◌≡◌, refl, ap, ◌∙◌}
use mathlib.Core.List.{List, [], ◌∷◌, ◌++◌, map, flat_map, map-append}
use mathlib.Core.Bool.{Bool, true, false, cond}
use native.Mathlib.Omega.{arith}
use lib.Dec.{eqb}
use Rattle.scope.specs.declared.Layout.{Layout}
use Rattle.scope.specs.Cnf.{pos, neg, opp, Gate, or, and}
use Rattle.scope.specs.Kinds.{Atom, Y, S, Listed, Node, is, a_node, goes_on, going_on, on_at, not_on_at, span, start_of, start_above, start_outside, time_by_time, of_length, of_length_outside, from, up_to}
use Rattle.scope.specs.Formula.{ref_literal, node_gate}
use Rattle.literals.specs.Outputs.{every}
use Rattle.literals.specs.Variables.{base_of}
use Rattle.literals.specs.Numbered.{num_at}
use Rattle.node_lists.specs.Lengths.{goes_gate, going_gates, on_count, on_literals, length_gate, outside_gates, outside_count}

-- the gates and the literals of a list whose first node is the variable v
pub record ByNumbers (num : Atom → ℕ) (v : ℕ) (l : Listed) (gs : List Gate) (xs : List ℕ) : Type 0 where
  pub gates : map (node_gate num v) l.nodes ≡ gs
  pub literals : map (ref_literal num v) l.members ≡ xs

module _ (num : Atom → ℕ) (v : ℕ) where
  -- M of times that follow one another, as it is and negated
  on-literals : (u k : ℕ) → 2 ≤ u → map (ref_literal num v) (map on_at (from u k)) ≡ every 1 (v + (u - 2)) k
  unfolding from every
  on-literals u zero h = refl
  on-literals u (suc k) h =
      let e : v + (suc u - 2) ≡ v + (u - 2) + 1 = omega arith in
      rw (← e) (ap (λ (l : List ℕ). pos (v + (u - 2)) ∷ l) (on-literals (suc u) k (omega arith)))

  not_on_refs : (ts : List ℕ) → map (ref_literal num v) (map not_on_at ts) ≡ map opp (map (ref_literal num v) (map on_at ts))
  not_on_refs [] = refl
  not_on_refs (t ∷ ts) = ap (λ (l : List ℕ). opp (pos (v + (t - 2))) ∷ l) (not_on_refs ts)

  not_on_literals : (u k : ℕ) → 2 ≤ u → map (ref_literal num v) (map not_on_at (from u k)) ≡ map opp (every 1 (v + (u - 2)) k)
  not_on_literals u k h = not_on_refs (from u k) ∙ ap (map opp) (on-literals u k h)

  -- the last of s nodes of each time
  last_literals : (T s n k : ℕ) → 1 ≤ s
      → map (ref_literal num v) (map (λ t. is (a_node (T + s * t - 1))) (from (suc n) k)) ≡ every s (v + (T + s * suc n - 1)) k
  unfolding from every
  last_literals T s n zero h = refl
  last_literals T s n (suc k) h =
      let e : v + (T + s * suc (suc n) - 1) ≡ v + (T + s * suc n - 1) + s = omega arith in
      rw (← e) (ap (λ (l : List ℕ). pos (v + (T + s * suc n - 1)) ∷ l) (last_literals T s (suc n) k h))

  -- the nodes of times that follow one another
  flat_gates : (f : ℕ → List Node) (g : ℕ → List Gate) → ((t : ℕ) → 1 ≤ t → map (node_gate num v) (f t) ≡ g t) → (n k : ℕ) → 1 ≤ n
      → map (node_gate num v) (flat_map f (from n k)) ≡ flat_map g (from n k)
  unfolding from flat_map
  flat_gates f g e n zero h = refl
  flat_gates f g e n (suc k) h =
      map-append (node_gate num v) (f n) (flat_map f (from (suc n) k)) ∙ rw (e n h, flat_gates f g e (suc n) k (omega arith))

-- the variable of the first node of time t where each time has s beside M
abbrev pub first_of : (T v s t : ℕ) → ℕ
first_of T v s t = v + (T + s * (t - 1))

module _ (T : ℕ) (L : Layout) (e v : ℕ) where
  -- the last variables before Y and S of the event
  abbrev pub y_base : ℕ
  y_base = base_of 0 T e

  abbrev pub s_base : ℕ
  s_base = base_of L.starts T e

  s_number : (t : ℕ) → num_at T L (S e t) ≡ pos (s_base + t)
  unfolding base_of
  s_number t = omega arith

  goes-gate : (t : ℕ) → node_gate (num_at T L) v (goes_on e t) ≡ goes_gate y_base s_base t
  unfolding base_of
  goes-gate t =
      let a : num_at T L (Y e t) ≡ pos (base_of 0 T e + t) = omega arith in
      let b : opp (num_at T L (S e t)) ≡ neg (base_of L.starts T e + t) = omega arith in
      rw (← a, ← b)

  goes_gates : (ts : List ℕ) → map (node_gate (num_at T L) v) (map (goes_on e) ts) ≡ map (goes_gate y_base s_base) ts
  goes_gates [] = refl
  goes_gates (t ∷ ts) = rw (← (goes-gate t), ← (goes_gates ts))

  going-gates : map (node_gate (num_at T L) v) (going_on T e) ≡ going_gates T y_base s_base
  unfolding going_on going_gates
  going-gates =
      map-append (node_gate (num_at T L) v) (map (goes_on e) (from 2 (T - 1))) _
      ∙ ap (λ (l : List Gate). l ++ (or [] ∷ [])) (goes_gates (from 2 (T - 1)))

  by_time : (s : ℕ) → 1 ≤ s → (f : ℕ → List Node) (g : ℕ → List Gate) → ((t : ℕ) → 1 ≤ t → map (node_gate (num_at T L) v) (f t) ≡ g t)
      → ByNumbers (num_at T L) v (time_by_time T e s f) (going_gates T y_base s_base ++ flat_map g (up_to T)) (every s (v + (T + s * 1 - 1)) T)
  unfolding time_by_time
  by_time s h f g p =
      record {
        gates =
            map-append (node_gate (num_at T L) v) (going_on T e) (flat_map f (up_to T))
            ∙ rw (going-gates, flat_gates (num_at T L) v f g p 1 T (omega arith));
        literals = last_literals (num_at T L) v T s 0 T h;
      }

  -- K of kind 9
  start_gate : (n t : ℕ) → 1 ≤ n → 1 ≤ t → map (node_gate (num_at T L) v) (start_of T e n t) ≡ length_gate T n s_base v t ∷ []
  unfolding span length_gate on_count
  start_gate n t h l =
      let a = map on_at (span T (t + 1) (t + n - 1)) in
      let k : t + n - 1 ≡ t + (n - 1) = omega arith in
      let x = on-literals (num_at T L) v (t + 1) (min (t + n - 1) (T + 1) + 1 - (t + 1)) (omega arith) in
      let y = not_on_literals (num_at T L) v (t + n) (min (t + n) (T + 1) + 1 - (t + n)) (omega arith) in
      rw (map-append (ref_literal (num_at T L) v) a (map not_on_at (span T (t + n) (t + n))), x, y, s_number t, k)

  -- K of kind 10 where the shortest length is 1, and its nodes where it is not
  above_gate : (b t : ℕ) → 1 ≤ t → map (node_gate (num_at T L) v) (start_above T e b t) ≡ and (pos (s_base + t) ∷ on_literals T v t 1 b) ∷ []
  unfolding span on_count
  above_gate b t l = rw (on-literals (num_at T L) v (t + 1) (min (t + b) (T + 1) + 1 - (t + 1)) (omega arith), s_number t)

  outside-gates : (a b k t o : ℕ) → 1 ≤ a → 1 ≤ t → o ≡ v + k
      → map (node_gate (num_at T L) v) (start_outside T e a b k t)
      ≡ and (on_literals T v t a b) ∷ or (map opp (on_literals T v t 1 (a - 1)) ++ pos o ∷ []) ∷ and (pos (s_base + t) ∷ pos (o + 1) ∷ []) ∷ []
  unfolding span on_count
  outside-gates a b k t o h l q =
      let m : t + a - 1 ≡ t + (a - 1) = omega arith in
      let p : v + (k + 1) ≡ o + 1 = omega arith in
      let x = on-literals (num_at T L) v (t + a) (min (t + b) (T + 1) + 1 - (t + a)) (omega arith) in
      let y = not_on_literals (num_at T L) v (t + 1) (min (t + a - 1) (T + 1) + 1 - (t + 1)) (omega arith) in
      rw (x, map-append (ref_literal (num_at T L) v) (map not_on_at (span T (t + 1) (t + a - 1))) (is (a_node k) ∷ []), y, s_number t, m, p, q)

  -- the lists
  pub of_length_lem : (n : ℕ) → 1 ≤ n
      → ByNumbers (num_at T L) v (of_length T e n) (going_gates T y_base s_base ++ flat_map (λ t. length_gate T n s_base v t ∷ []) (up_to T))
      (every 1 (v + (T + 1 * 1 - 1)) T)
  unfolding of_length
  of_length_lem n h = by_time 1 (omega arith) (start_of T e n) (λ t. length_gate T n s_base v t ∷ []) (λ t l. start_gate n t h l)

  pub of-length-outside : (a b : ℕ) → 1 ≤ a
      → ByNumbers (num_at T L) v (of_length_outside T e a b)
      (going_gates T y_base s_base ++ flat_map (λ t. outside_gates T a b s_base v t (first_of T v (outside_count a) t)) (up_to T))
      (every (outside_count a) (v + (T + outside_count a * 1 - 1)) T)
  unfolding of_length_outside outside_gates
  of-length-outside a b h = by (eqb a 1)
    where
      by : (c : Bool)
          → ByNumbers (num_at T L) v
          (cond c (time_by_time T e 1 (start_above T e b)) (time_by_time T e 3 (λ t. start_outside T e a b (T + 3 * (t - 1)) t)))
          (going_gates T y_base s_base
          ++ flat_map (λ t.
          cond c (and (pos (s_base + t) ∷ on_literals T v t 1 b) ∷ [])
          (and (on_literals T v t a b)
          ∷ or (map opp (on_literals T v t 1 (a - 1)) ++ pos (first_of T v (cond c 1 3) t) ∷ [])
          ∷ and (pos (s_base + t) ∷ pos (first_of T v (cond c 1 3) t + 1) ∷ [])
          ∷ [])) (up_to T))
          (every (cond c 1 3) (v + (T + cond c 1 3 * 1 - 1)) T)
      by true = by_time 1 (omega arith) (start_above T e b) _ (λ t l. above_gate b t l)
      by false =
          by_time 3 (omega arith) (λ t. start_outside T e a b (T + 3 * (t - 1)) t) _
          (λ t l. outside-gates a b (T + 3 * (t - 1)) t (first_of T v 3 t) h l refl)
