-- The lists of kinds 9 and 10: how many nodes and members they have, and what these refer to.
use mathlib.Core.Path.{◌≡◌, refl, ◌∙◌}
use mathlib.Core.Bool.{Bool, true, false, cond}
use mathlib.Core.List.{List, [], ◌∷◌, ◌++◌, map, flat_map}
use Prim.Native.Nat.{ℕ, zero, suc, ◌+◌, ◌-◌, ◌*◌, ◌<◌, ◌≤◌}
use native.Mathlib.Nat.{mul_comm, mul-suc, mul-le-mul_left}
use native.Mathlib.Omega.{arith}
use lib.Dec.{eqb}
use lib.ListN.{length, length-map, length-append}
use Rattle.laws.specs.Lists.{All, All-append, All-map, length_rows}
use Rattle.scope.specs.Kinds.{Atom, Y, S, a_node, is, Node, Listed, on_at, not_on_at, from, up_to, goes_on, going_on, span, start_of, start_above, start_outside, time_by_time, of_length, of_length_outside}
use Rattle.parsing.specs.Valid.{Within}
use Rattle.theory.proofs.laws.Ranges.{length_from_lem, from_all}
use Rattle.theory.proofs.laws.Nodes.{Known, NodeKnown, NodesKnown, ListKnown, known_append}

-- how many nodes say where an event goes on: one for each time of an instance
pub length-going : (T e : ℕ) → length (going_on T e) ≡ T - 1 + 1
unfolding going_on
length-going T e = length-append (map (goes_on e) (from 2 (T - 1))) _ ∙ rw (length-map, length_from_lem)

-- a member for each time
pub length-timed : (T e s : ℕ) (f : ℕ → List Node) → length (time_by_time T e s f).members ≡ T
unfolding time_by_time
length-timed T e s f = rw (length-map, length_from_lem)

-- s nodes for each time after those
pub length-timed-nodes : (T e s : ℕ) (f : ℕ → List Node) → ((t : ℕ) → length (f t) ≡ s)
    → length (time_by_time T e s f).nodes ≡ T - 1 + 1 + T * s
unfolding time_by_time
length-timed-nodes T e s f rows =
    length-append (going_on T e) (flat_map f (up_to T)) ∙ rw (length-going, length_rows f s rows (up_to T), length_from_lem)

-- the nodes of a time stand after those of the time before it
pub after_step : (T s t : ℕ) → 1 ≤ t → T + s * (suc t - 1) ≡ T + s * (t - 1) + s
after_step T s zero l = let f : ⊥ = omega arith in absurd f
after_step T s (suc u) l =
    let a : suc (suc u) - 1 ≡ suc u = omega arith in
    let b : suc u - 1 ≡ u = omega arith in
    rw (a, b) (omega (arith, mul-suc s u))

-- kind 10's list is one of two, whatever is asked of it
pub outside-either : (Q : Listed → Type 0) (T e a b : ℕ) → Q (time_by_time T e 1 (start_above T e b))
    → Q (time_by_time T e 3 (λ t. start_outside T e a b (T + 3 * (t - 1)) t)) → Q (of_length_outside T e a b)
unfolding of_length_outside
outside-either Q T e a b p q = go (eqb a 1)
  where
    go : (c : Bool)
        → Q (cond c (time_by_time T e 1 (start_above T e b)) (time_by_time T e 3 (λ t. start_outside T e a b (T + 3 * (t - 1)) t)))
    go true = p
    go false = q

pub length-of : (T e n : ℕ) → length (of_length T e n).members ≡ T
unfolding of_length
length-of T e n = length-timed T e 1 (start_of T e n)

pub length-outside : (T e a b : ℕ) → length (of_length_outside T e a b).members ≡ T
length-outside T e a b =
    outside-either (λ l. length l.members ≡ T) T e a b (length-timed T e 1 (start_above T e b))
    (length-timed T e 3 (λ t. start_outside T e a b (T + 3 * (t - 1)) t))

-- the times of a span
pub span-all : (P : ℕ → Type 0) (T a b : ℕ) → ((u : ℕ) → a ≤ u → u ≤ b → u ≤ T + 1 → P u) → All P (span T a b)
unfolding span
span-all P T a b h = from_all P a _ (λ u l g. h u l (omega arith) (omega arith))

module _ (P : Atom → Type 0) where
  -- nodes that refer to no node
  alone_known : (k : ℕ) (ns : List Node) → All (λ n. (j : ℕ) → NodeKnown P j n) ns → NodesKnown P k ns
  alone_known k [] h = tt
  alone_known k (n ∷ ns) h = (h.0 k, alone_known (suc k) ns h.1)

  -- s nodes for each of some times, where those of time t stand after p t nodes
  each_known : (p : ℕ → ℕ) (s : ℕ) (f : ℕ → List Node) → ((t : ℕ) → length (f t) ≡ s) → (n m : ℕ)
      → ((t : ℕ) → n ≤ t → p (suc t) ≡ p t + s) → ((t : ℕ) → n ≤ t → t < n + m → NodesKnown P (p t) (f t))
      → NodesKnown P (p n) (flat_map f (from n m))
  unfolding from flat_map
  each_known p s f rows n zero step h = tt
  each_known p s f rows n (suc m) step h =
      known_append P (p n) (f n) (flat_map f (from (suc n) m)) (h n (omega arith) (omega arith))
      (rw (rows n, ← (step n (omega arith)))
      (each_known p s f rows (suc n) m (λ t l. step t (omega arith)) (λ t l g. h t (omega arith) (omega arith))))

  -- in T times, at least one, for an event whose atoms are known
  module _ (T e : ℕ) (some : 1 ≤ T) (takes : (t : ℕ) → Within 1 T t → P (Y e t)) (starts : (t : ℕ) → Within 1 T t → P (S e t)) where
    -- that an event goes on, or not, at the times of a span
    on_known : (n : Bool) (k a b : ℕ) → T ≤ k → All (Known P k) (map (λ u. record { negated = n; thing = a_node (u - 2) }) (span T a b))
    on_known n k a b l =
        All-map (λ u. u ≤ T + 1) (Known P k) (λ u. record { negated = n; thing = a_node (u - 2) }) (λ u h. omega arith) (span T a b)
        (span-all (λ u. u ≤ T + 1) T a b (λ u x y h. h))

    -- the nodes that say where it goes on
    going_known : NodesKnown P 0 (going_on T e)
    unfolding going_on
    going_known =
        let Q : Node → Type 0 = λ n. (j : ℕ) → NodeKnown P j n in
        alone_known 0 (going_on T e)
        (All-append Q (map (goes_on e) (from 2 (T - 1))) _
        (All-map (Within 2 T) Q (goes_on e)
        (λ t w j.
        let u : Within 1 T t = record { low = omega (arith, w.low); high = w.high } in
        (takes t u, (starts t u, tt))) (from 2 (T - 1))
        (from_all (Within 2 T) 2 (T - 1) (λ t l h. record { low = l; high = omega arith })))
        ((λ j. tt), tt))

    -- the last node of a time is one of the list's
    member_known : (s t k : ℕ) → t ≤ T → T + T * s ≤ k → T + s * t - 1 < k
    member_known s t k h l = omega (arith, mul-le-mul_left s h, mul_comm s T)

    -- a list with s nodes for each time
    timed_known : (s : ℕ) (f : ℕ → List Node) → ((t : ℕ) → length (f t) ≡ s)
        → ((t : ℕ) → Within 1 T t → NodesKnown P (T + s * (t - 1)) (f t)) → ListKnown P (time_by_time T e s f)
    unfolding time_by_time
    timed_known s f rows h =
        let n = length-timed-nodes T e s f rows in
        let k = length (going_on T e ++ flat_map f (up_to T)) in
        let place : 0 + length (going_on T e) ≡ T + s * (1 - 1) = omega (arith, length-going T e) in
        record {
          nodes = known_append P 0 (going_on T e) (flat_map f (up_to T)) going_known
              (rw place
              (each_known (λ t. T + s * (t - 1)) s f rows 1 T (after_step T s)
              (λ t l g. h t (record { low = l; high = omega arith }))));
          members = All-map (λ t. t ≤ T) (Known P k) (λ t. is (a_node (T + s * t - 1)))
              (λ t l. member_known s t k l (omega (arith, n))) (up_to T) (from_all (λ t. t ≤ T) 1 T (λ t l g. omega arith));
        }

    -- kind 9's list
    pub of_length_known : (n : ℕ) → ListKnown P (of_length T e n)
    unfolding of_length
    of_length_known n =
        timed_known 1 (start_of T e n) (λ t. refl)
        (λ t w.
        let k = T + 1 * (t - 1) in (
          (
            starts t w,
            All-append (Known P k) (map on_at (span T (t + 1) (t + n - 1))) (map not_on_at (span T (t + n) (t + n)))
                (on_known false k (t + 1) (t + n - 1) (omega arith)) (on_known true k (t + n) (t + n) (omega arith)),
          ),
          tt,
        ))

    -- kind 10's, where the shortest length is 1 and where it is longer
    above_known : (n : ℕ) → ListKnown P (time_by_time T e 1 (start_above T e n))
    above_known n =
        timed_known 1 (start_above T e n) (λ t. refl)
        (λ t w. ((starts t w, on_known false (T + 1 * (t - 1)) (t + 1) (t + n) (omega arith)), tt))

    three_known : (a b : ℕ) → ListKnown P (time_by_time T e 3 (λ t. start_outside T e a b (T + 3 * (t - 1)) t))
    three_known a b =
        timed_known 3 (λ t. start_outside T e a b (T + 3 * (t - 1)) t) (λ t. refl)
        (λ t w.
        let k = T + 3 * (t - 1) in
        let W = All-append (Known P (suc k)) (map not_on_at (span T (t + 1) (t + a - 1))) (is (a_node k) ∷ [])
        (on_known true (suc k) (t + 1) (t + a - 1) (omega arith)) (omega arith, tt) in
        (on_known false k (t + a) (t + b) (omega arith), (W, ((starts t w, (omega arith, tt)), tt))))

    pub outside_known : (a b : ℕ) → ListKnown P (of_length_outside T e a b)
    outside_known a b = outside-either (ListKnown P) T e a b (above_known b) (three_known a b)
