-- The lists of a kind: at most 125 of them, and on average at most 128 inputs for each of their nodes.
use mathlib.Core.Path.{◌≡◌, refl, ◌∙◌}
use mathlib.Core.List.{List, [], ◌∷◌, ◌++◌, map, flat_map}
use Prim.Native.Nat.{ℕ, zero, suc, ◌+◌, ◌-◌, ◌*◌, ◌≤◌, min}
use native.Mathlib.Omega.{arith}
use lib.ListN.{length, length-append, length-map}
use Rattle.laws.specs.Lists.{All, All-append}
use Rattle.scope.specs.Kinds.{Kind, clash, unavailable, preferred, split, spread, busy, cluster, idle, distribute, lengths, precedence, Atom, X, Y, S, Ref, is, is_not, an_atom, a_node, atoms, Node, some_of, all_of, Entry, atom, any_of, gap, entry_nodes, added, entries_nodes, Listed, entries, Counted, from, up_to, uses_at, starts_at, gaps_after, gaps, Reach, started, carried, both, reached, reach_ref, reach_nodes, reach_added, reaches_nodes, from_outside, goes_on, going_on, on_at, not_on_at, span, start_of, start_above, start_outside, time_by_time, of_length, of_length_outside, taking_at, or_more, or_chain, down, early, late, begun, too_soon, before_g, before_q, lasting, too_late, either_way, gap_outside, counted_of}
use Rattle.theory.proofs.laws.Ranges.{length_from_lem}
use Rattle.theory.proofs.laws.GapLists.{length-down, length-gap-nodes}
use Rattle.theory.proofs.laws.TimeByTime.{outside-either}
use Rattle.measuring.specs.NodeSizes.{inputs, all_inputs}

-- what holds of each thing that a function gives
module _ {A B : Type 0} (P : B → Type 0) where
  all_map : (f : A → B) → ((x : A) → P (f x)) → (xs : List A) → All P (map f xs)
  all_map f h [] = tt
  all_map f h (x ∷ xs) = (h x, all_map f h xs)

  all_flat : (f : A → List B) → ((x : A) → All P (f x)) → (xs : List A) → All P (flat_map f xs)
  unfolding flat_map
  all_flat f h [] = tt
  all_flat f h (x ∷ xs) = All-append P (f x) (flat_map f xs) (h x) (all_flat f h xs)

-- a node with few inputs, and a list with few
abbrev Narrow : Node → Type 0
Narrow n = inputs n ≤ 128

pub record Modest (l : Listed) : Type 0 where
  pub few : all_inputs l.nodes ≤ 128 * length l.nodes

narrow-inputs : (ns : List Node) → All Narrow ns → all_inputs ns ≤ 128 * length ns
unfolding all_inputs
narrow-inputs [] h = omega arith
narrow-inputs (n ∷ ns) h = omega (arith, h.0, narrow-inputs ns h.1)

modest : (l : Listed) → All Narrow l.nodes → Modest l
modest l h = record { few = narrow-inputs l.nodes h }

-- an entry over at most 125 atoms on each side
abbrev Brief : Entry → Type 0
Brief (atom a) = Unit {0}
Brief (any_of xs) = length xs ≤ 125
Brief (gap earlier here later) = (length earlier ≤ 125) × (length later ≤ 125)

length-atoms : (xs : List Atom) → length (atoms xs) ≡ length xs
length-atoms xs = length-map xs (λ a. is (an_atom a))

entry-narrow : (x : Entry) (k : ℕ) → Brief x → All Narrow (entry_nodes x k)
entry-narrow (atom a) k b = tt
entry-narrow (any_of xs) k b = (omega (arith, length-atoms xs), tt)
entry-narrow (gap earlier here later) k b =
    (omega (arith, length-atoms earlier, b.0), (omega (arith, length-atoms later, b.1), (omega arith, tt)))

entries-narrow : (xs : List Entry) (k : ℕ) → All Brief xs → All Narrow (entries_nodes xs k)
unfolding entries_nodes
entries-narrow [] k b = tt
entries-narrow (x ∷ xs) k b =
    All-append Narrow (entry_nodes x k) (entries_nodes xs (k + added x)) (entry-narrow x k b.0) (entries-narrow xs (k + added x) b.1)

brief : (xs : List Entry) → All Brief xs → Modest (entries xs)
brief xs b = modest (entries xs) (entries-narrow xs 0 b)

gaps-brief : (before xs : List Atom) → length before + length xs ≤ 125 → All Brief (gaps_after before xs)
unfolding gaps_after
gaps-brief before [] h = tt
gaps-brief before (x ∷ []) h = tt
gaps-brief before (x ∷ y ∷ ys) h =
    ((omega arith, omega arith), gaps-brief (before ++ x ∷ []) (y ∷ ys) (omega (arith, length-append before (x ∷ []))))

all-gaps : (xs : List Atom) → length xs ≤ 125 → All Brief (gaps xs)
unfolding gaps
all-gaps [] h = tt
all-gaps (x ∷ xs) h = gaps-brief (x ∷ []) xs (omega arith)

-- two inputs for each node of kind 3
reach-narrow : (e : ℕ) (x : Reach) (k : ℕ) (p : Ref) → All Narrow (reach_nodes e x k p)
reach-narrow e (started t) k p = tt
reach-narrow e (carried t) k p = (omega arith, (omega arith, tt))
reach-narrow e (both t) k p = (omega arith, (omega arith, (omega arith, tt)))

reaches-narrow : (e : ℕ) (xs : List Reach) (k : ℕ) (p : Ref) → All Narrow (reaches_nodes e xs k p)
unfolding reaches_nodes
reaches-narrow e [] k p = tt
reaches-narrow e (x ∷ xs) k p =
    All-append Narrow (reach_nodes e x k p) (reaches_nodes e xs (k + reach_added x) (reach_ref e x k)) (reach-narrow e x k p)
    (reaches-narrow e xs (k + reach_added x) (reach_ref e x k))

reach-modest : (T e d : ℕ) (g : List ℕ) → Modest (from_outside T e d g)
unfolding from_outside
reach-modest T e d g = modest (from_outside T e d g) (reaches-narrow e (reached d g 0 (up_to T)) 0 (is (a_node 0)))

-- nodes one after the other; nodes with two inputs each; a chain after its first node
inputs-append : (ns ms : List Node) → all_inputs (ns ++ ms) ≡ all_inputs ns + all_inputs ms
unfolding all_inputs
inputs-append [] ms = omega arith
inputs-append (n ∷ ns) ms = rw (inputs-append ns ms) (omega arith)

one_input : (n : Node) → all_inputs (n ∷ []) ≡ inputs n
unfolding all_inputs
one_input n = omega arith

twos : (f : ℕ → Node) → ((t : ℕ) → inputs (f t) ≡ 2) → (ts : List ℕ) → all_inputs (map f ts) ≡ 2 * length ts
unfolding all_inputs
twos f h [] = refl
twos f h (t ∷ ts) = omega (arith, h t, twos f h ts)

more-inputs : (k : ℕ) (xs : List Atom) → all_inputs (or_more k xs) ≡ 2 * length xs
unfolding all_inputs or_more
more-inputs k [] = refl
more-inputs k (x ∷ xs) = omega (arith, more-inputs (suc k) xs)

-- O of kind 11, and all its nodes, where E is early and L is late
gap-either : (T E L : ℕ) → T ≤ 125 → E ≤ T → {n : ℕ} → n ≡ T - E + (min E 1 + (E - 1 + L)) → n ≤ 125 + L
gap-either T E L h k e = omega arith

gap-sum : (E L : ℕ) {f p g q o n m : ℕ} → f ≤ 127 * E → p ≡ 2 * (E - 1) → g ≤ 127 * L → q ≡ 2 * L → o ≤ 125 + L
    → n ≡ f + (p + (g + (q + o))) → m ≡ E + (E - 1) + L + L + 1 → n ≤ 128 * m
gap-sum E L a b c d e x y = omega arith

-- what a kind counts, where no group has more than 125 members
pub record Few (c : Counted) : Type 0 where
  pub lists : length c.lists ≤ 125
  pub inputs : All Modest c.lists

module _ (T : ℕ) (h : T ≤ 125) where
  -- no more references than there are times up to T + 1
  span_few : (f : ℕ → Ref) (a b : ℕ) → length (map f (span T a b)) ≤ 127 - a
  unfolding span
  span_few f a b = omega (arith, length-map (from a (min b (T + 1) + 1 - a)) f, length_from_lem a (min b (T + 1) + 1 - a))

  span_one : (f : ℕ → Ref) (a : ℕ) → length (map f (span T a a)) ≤ 1
  unfolding span
  span_one f a = omega (arith, length-map (from a (min a (T + 1) + 1 - a)) f, length_from_lem a (min a (T + 1) + 1 - a))

  timed_modest : (e s : ℕ) (f : ℕ → List Node) → ((t : ℕ) → All Narrow (f t)) → Modest (time_by_time T e s f)
  unfolding time_by_time going_on
  timed_modest e s f n =
      modest (time_by_time T e s f)
      (All-append Narrow (going_on T e) (flat_map f (up_to T))
      (All-append Narrow (map (goes_on e) (from 2 (T - 1))) (some_of [] ∷ []) (all_map Narrow (goes_on e) (λ t. omega arith) (from 2 (T - 1))) (omega arith, tt))
      (all_flat Narrow f n (up_to T)))

  of_modest : (e n : ℕ) → Modest (of_length T e n)
  unfolding of_length
  of_modest e n =
      timed_modest e 1 (start_of T e n)
      (λ t.
      let on = map on_at (span T (t + 1) (t + n - 1)) in
      let off = map not_on_at (span T (t + n) (t + n)) in
      (omega (arith, length-append on off, span_few on_at (t + 1) (t + n - 1), span_one not_on_at (t + n)), tt))

  outside_modest : (e a b : ℕ) → Modest (of_length_outside T e a b)
  outside_modest e a b =
      outside-either Modest T e a b
      (timed_modest e 1 (start_above T e b) (λ t. (omega (arith, span_few on_at (t + 1) (t + b)), tt)))
      (timed_modest e 3 (λ t. start_outside T e a b (T + 3 * (t - 1)) t)
      (λ t.
      let off = map not_on_at (span T (t + 1) (t + a - 1)) in
      let q : List Ref = is (a_node (T + 3 * (t - 1))) ∷ [] in
      (omega (arith, span_few on_at (t + a) (t + b)), (omega (arith, length-append off q, span_few not_on_at (t + 1) (t + a - 1)), (omega arith, tt)))))

  -- kind 11: two inputs for each node but the first of a chain, which has no more than there are times, and O
  chain_inputs : (k n : ℕ) (xs ys : List Atom) → length ys ≡ n - 1 → (1 ≤ n → length xs ≤ 125) → all_inputs (or_chain k n xs ys) ≤ 127 * n
  unfolding all_inputs or_chain
  chain_inputs k zero xs ys l few = omega arith
  chain_inputs k (suc n) xs ys l few = omega (arith, length-atoms xs, few (omega arith), more-inputs k ys)

  taking_length : (e : ℕ) (ts : List ℕ) → length (taking_at e ts) ≡ length ts
  taking_length e ts = length-map ts (λ t. Y e t)

  begun_inputs : (b lo : ℕ) → all_inputs (begun T b lo) ≤ 127 * early T lo
  unfolding begun
  begun_inputs b lo =
      let more = from (lo + 2) (early T lo - 1) in
      chain_inputs 0 (early T lo) (taking_at b (up_to (lo + 1))) (taking_at b more)
      (taking_length b more ∙ length_from_lem (lo + 2) (early T lo - 1))
      (λ some. omega (arith, taking_length b (up_to (lo + 1)), length_from_lem 1 (lo + 1)))

  lasting_inputs : (a lo hi : ℕ) → all_inputs (lasting T a lo hi) ≤ 127 * late T hi
  unfolding lasting
  lasting_inputs a lo hi =
      let L = late T hi in
      let after = from (L + 1) (T - L) in
      chain_inputs (before_g T lo) L (taking_at a after) (taking_at a (down L (L - 1)))
      (taking_length a (down L (L - 1)) ∙ length-down L (L - 1))
      (λ some. omega (arith, taking_length a after, length_from_lem (L + 1) (T - L)))

  either-inputs : (a lo hi : ℕ) → inputs (either_way T a lo hi) ≤ 125 + late T hi
  unfolding either_way
  either-inputs a lo hi =
      let E = early T lo in
      let after = taking_at a (from (E + 1) (T - E)) in
      let soon = from E (E - 1) in
      let slow = from (before_q T lo hi) (late T hi) in
      let one = from 0 (min E 1) in
      let node : ℕ → Ref = λ k. is (a_node k) in
      gap-either T E (late T hi) h (omega arith)
      (length-append (atoms after) (map node (one ++ (soon ++ slow)))
      ∙ rw (length-atoms after, taking_length a (from (E + 1) (T - E)), length_from_lem, length-map, length-append one (soon ++ slow), length-append soon slow, length_from_lem, length_from_lem, length_from_lem))

  gap_modest : (a b lo hi : ℕ) → Modest (gap_outside T a b lo hi)
  unfolding gap_outside too_soon too_late
  gap_modest a b lo hi =
      let O = either_way T a lo hi ∷ [] in
      let Q = too_late T lo hi ++ O in
      let G = lasting T a lo hi ++ Q in
      let P = too_soon T a lo ++ G in
      let nodes = length-gap-nodes T a b lo hi in
      record {
        few = gap-sum (early T lo) (late T hi)
            (begun_inputs b lo)
            (twos (λ t. all_of (is (an_atom (Y a t)) ∷ is (a_node (t - 1)) ∷ [])) (λ t. refl) (from 2 (early T lo - 1)) ∙ rw length_from_lem)
            (lasting_inputs a lo hi)
            (twos (λ t. all_of (is_not (a_node (t + hi - lo)) ∷ is_not (a_node (before_q T lo hi - t)) ∷ [])) (λ t. refl) (up_to (late T hi)) ∙ rw length_from_lem)
            (either-inputs a lo hi)
            (inputs-append (begun T b lo) P ∙ rw (inputs-append (too_soon T a lo) G, inputs-append (lasting T a lo hi) Q, inputs-append (too_late T lo hi) O, one_input (either_way T a lo hi)))
            nodes;
      }

  module _ (dur : ℕ → ℕ) (us group : ℕ → List ℕ) (short : (g : ℕ) → length (group g) ≤ 125) where
    uses_short : (r g : ℕ) → length (uses_at r (group g)) ≤ 125
    uses_short r g = omega (arith, length-map (group g) (λ t. X r t), short g)

    pub kind_few : (k : Kind) → Few (counted_of T dur us group k)
    unfolding counted_of
    kind_few (clash r) =
        record {
          lists = omega (arith, length-map (up_to T) (λ t. entries (map (λ e. atom (Y e t)) (us r))), length_from_lem 1 T);
          inputs =
              all_map Modest (λ t. entries (map (λ e. atom (Y e t)) (us r)))
              (λ t. brief _ (all_map Brief (λ e. atom (Y e t)) (λ e. tt) (us r))) (up_to T);
        }
    kind_few (unavailable r g) = record { lists = omega arith; inputs = (brief _ (all_map Brief atom (λ a. tt) (uses_at r (group g))), tt) }
    kind_few (preferred e g) = record { lists = omega arith; inputs = (reach-modest T e (dur e) (group g), tt) }
    kind_few (split e lo hi) = record { lists = omega arith; inputs = (brief _ (all_map Brief (λ t. atom (S e t)) (λ t. tt) (up_to T)), tt) }
    kind_few (spread vs g lo hi) =
        record {
          lists = omega arith;
          inputs =
              (brief _ (all_flat Brief (λ e. starts_at e (group g)) (λ e. all_map Brief (λ t. atom (S e t)) (λ t. tt) (group g)) vs), tt);
        }
    kind_few (busy r g lo hi) = record { lists = omega arith; inputs = (brief _ (all_map Brief atom (λ a. tt) (uses_at r (group g))), tt) }
    kind_few (cluster r hs lo hi) =
        record { lists = omega arith; inputs = (brief _ (all_map Brief (λ g. any_of (uses_at r (group g))) (uses_short r) hs), tt) }
    kind_few (idle r hs lo hi) =
        record {
          lists = omega arith;
          inputs = (brief _ (all_flat Brief (λ g. gaps (uses_at r (group g))) (λ g. all-gaps (uses_at r (group g)) (uses_short r g)) hs), tt);
        }
    kind_few (distribute e n lo hi) = record { lists = omega arith; inputs = (of_modest e n, tt) }
    kind_few (lengths e a b) = record { lists = omega arith; inputs = (outside_modest e a b, tt) }
    kind_few (precedence a b lo hi) = record { lists = omega arith; inputs = (gap_modest a b lo hi, tt) }
