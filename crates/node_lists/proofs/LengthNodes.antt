-- The nodes of kinds 9 and 10 in the words: M time by time, the nodes of one time, and those of all times.
use Prim.Native.Nat.{ℕ, zero, suc, ◌+◌, ◌-◌, ◌*◌, ◌≤◌, ◌<◌}
use mathlib.Core.Path.{◌≡◌, refl, sym, ap, ◌∙◌}
use mathlib.Core.List.{List, [], ◌∷◌, ◌++◌, map, flat_map, map-append, append-nil, append_assoc}
use mathlib.Core.Bool.{Bool, true, false, cond}
use native.Mathlib.Omega.{arith}
use native.Mathlib.Nat.{add-zero}
use native.Mathlib.Numerals.{add-one}
use lib.Dec.{eqb}
use lib.ListN.{length, take, set, length-set, length-append, length-map}
use Rattle.scope.specs.Cnf.{pos, neg, opp, Gate, or, and}
use Rattle.scope.specs.Kinds.{Atom, Listed, distribute, lengths, from, up_to, counted_of}
use Rattle.constraint.specs.declared.kinds.Head.{Head}
use Rattle.literals.specs.Variables.{base_of}
use Rattle.literals.specs.Words.{Holds}
use Rattle.literals.proofs.laws.Words.{holds_as, holds-none}
use Rattle.literals.specs.Outputs.{every}
use Rattle.literals.specs.NodeWords.{node_words, nodes_words}
use Rattle.literals.proofs.laws.NodeWords.{or-words, nodes-words-both}
use Rattle.list_nodes.proofs.laws.Runs.{length_from_lem}
use Rattle.list_nodes.proofs.Nodes.{holds_then, holds_put}
use Rattle.list_nodes.specs.Ground.{layout_of}
use Rattle.list_nodes.specs.Stored.{only_in, num_of, Stored}
use Rattle.node_lists.specs.Lengths.{goes_gate, going_gates, on_count, length_gate, outside_gates, outside_count}
use Rattle.node_lists.proofs.laws.Lengths.{ByNumbers, first_of, of_length_lem, of-length-outside}

-- one number more
from_more : (n k : ℕ) → from n (k + 1) ≡ from n k ++ ((n + k) ∷ [])
unfolding from
from_more n k = rw (add-one k) (by n k)
  where
    by : (n k : ℕ) → from n (suc k) ≡ from n k ++ ((n + k) ∷ [])
    by n zero = rw (add-zero n)
    by n (suc k) = let e : suc n + k ≡ n + suc k = omega arith in ap (λ (l : List ℕ). n ∷ l) (rw e at (by (suc n) k))

-- one node
one-node : (v : ℕ) (g : Gate) → nodes_words v (g ∷ []) ≡ node_words g v
unfolding nodes_words
one-node v g = append-nil (node_words g v)

pub one-node-after : (before : List ℕ) (v : ℕ) (g : Gate) → before ++ nodes_words v (g ∷ []) ≡ before ++ node_words g v
one-node-after before v g = ap (◌++◌ before) (one-node v g)

-- M of the first k times from time 2 on
module _ (y s v : ℕ) where
  length_goes : (k : ℕ) → length (map (goes_gate y s) (from 2 k)) ≡ k
  length_goes k = length-map (from 2 k) (goes_gate y s) ∙ length_from_lem 2 k

  pub record GoingTo (words : List ℕ) (at k : ℕ) : Type 0 where
    pub holds : Holds words at (nodes_words v (map (goes_gate y s) (from 2 k)))

  pub going_none : (words : List ℕ) → GoingTo words 0 0
  unfolding nodes_words from
  going_none words = record { holds = holds-none words }

  pub going_more : (k : ℕ) {words after : List ℕ} {n m : ℕ} → GoingTo words n k
      → (o t j : ℕ)
      → o ≡ v + k
      → t ≡ 2 + k
      → j ≡ k + 1
      → Holds after m (take n words ++ node_words (and (pos (y + t) ∷ every 1 (s + t) 0 ++ neg (s + t + 0) ∷ [])) o)
      → GoingTo after m j
  unfolding every
  going_more k h o t j e f i q =
      let gs = map (goes_gate y s) (from 2 k) in
      let a : s + t + 0 ≡ s + t = omega arith in
      let w : nodes_words v (map (goes_gate y s) (from 2 (k + 1))) ≡ nodes_words v gs ++ node_words (goes_gate y s t) o =
      rw (from_more 2 k, map-append (goes_gate y s) (from 2 k) ((2 + k) ∷ []), nodes-words-both gs (goes_gate y s (2 + k) ∷ []) v, length_goes k, ← e, ← f)
      (ap (◌++◌ (nodes_words v gs)) (one-node o (goes_gate y s t))) in
      rw i (record { holds = holds_as (sym w) (holds_then (node_words (goes_gate y s t) o) h.holds (rw a at q)) })

  -- and of time T + 1, the OR of nothing
  pub going_last : (T : ℕ) {words : List ℕ} {at k : ℕ} → GoingTo words at k
      → k ≡ T - 1
      → at + 1 < length words
      → (o : ℕ)
      → o ≡ v + k
      → Holds (set (set words at 0) (at + 1) (2 * o + 1 + 2147483648)) (at + 2) (nodes_words v (going_gates T y s))
  unfolding going_gates
  going_last T {words} {at} {k} h e l o f =
      let gs = map (goes_gate y s) (from 2 k) in
      let w : nodes_words v (map (goes_gate y s) (from 2 (T - 1)) ++ (or [] ∷ [])) ≡ (nodes_words v gs ++ (0 ∷ [])) ++ ((2 * o + 1 + 2147483648) ∷ []) =
      rw (← e, nodes-words-both gs (or [] ∷ []) v, length_goes k, ← f, one-node o (or []), or-words [] o) (sym (append_assoc (nodes_words v gs) (0 ∷ []) _)) in
      let a = holds_put h.holds at 0 (at + 1) refl (omega arith) refl in
      holds_as (sym w) (holds_put a (at + 1) (2 * o + 1 + 2147483648) (at + 2) refl (simp length-set (omega arith)) (omega arith))

pub length-going : (T y s : ℕ) → 1 ≤ T → length (going_gates T y s) ≡ T
unfolding going_gates
length-going T y s h =
    length-append (map (goes_gate y s) (from 2 (T - 1))) (or [] ∷ []) ∙ omega (arith, length_goes y s 0 (T - 1))

-- how many of some times are up to T + 1
module _ (T n t : ℕ) where
  all_count : 1 ≤ n → t + n ≤ T + 1 → on_count T t 1 (n - 1) ≡ n - 1
  unfolding on_count
  all_count h k = omega arith

  some_count : T + 1 < t + n → on_count T t 1 (n - 1) ≡ T + 1 - t
  unfolding on_count
  some_count k = omega arith

  one_count : t + n ≤ T + 1 → on_count T t n n ≡ 1
  unfolding on_count
  one_count k = omega arith

  no_count : T + 1 < t + n → on_count T t n n ≡ 0
  unfolding on_count
  no_count k = omega arith

-- K of kind 9, where the length ends up to time T + 1, and where it ends later
module _ (T n s v t : ℕ) (h : 1 ≤ n) (l : 1 ≤ t) where
  pub start_within : t + n ≤ T + 1
      → and (pos (s + t) ∷ every 1 (v + (t - 1)) (n - 1) ++ neg (v + (t - 1) + (n - 1)) ∷ []) ≡ length_gate T n s v t
  unfolding length_gate every
  start_within k =
      let a : v + (t + 1 - 2) ≡ v + (t - 1) = omega arith in
      let d : opp (pos (v + (t + n - 2))) ≡ neg (v + (t - 1) + (n - 1)) = omega arith in
      rw (a, all_count T n t h k, one_count T n t k, d)

  pub start_beyond : T + 1 < t + n → and (pos (s + t) ∷ every 1 (v + (t - 1)) (T + 1 - t)) ≡ length_gate T n s v t
  unfolding length_gate every
  start_beyond k =
      let a : v + (t + 1 - 2) ≡ v + (t - 1) = omega arith in
      rw (a, some_count T n t k, no_count T n t k, append-nil (every 1 (v + (t - 1)) (T + 1 - t)))

-- the nodes of kind 10 for one time
module _ (T a b s v t o : ℕ) (l : 1 ≤ t) where
  pub above_words : a ≡ 1
      → node_words (and (pos (s + t) ∷ every 1 (v + (t - 1)) (on_count T t a b))) o ≡ nodes_words o (outside_gates T a b s v t o)
  unfolding outside_gates
  above_words e =
      let k : v + (t + 1 - 2) ≡ v + (t - 1) = omega arith in
      rw (e, k) (sym (one-node o _))

  pub outside_stored : eqb a 1 ≡ false → (out : List ℕ) (at : ℕ) {o1 o2 o3 : List ℕ} {p q r : ℕ}
      → Holds o1 p (take at out ++ node_words (and (every 1 (v + (t + a - 2)) (on_count T t a b))) o)
      → Holds o2 q (take p o1 ++ node_words (or (map opp (every 1 (v + (t - 1)) (on_count T t 1 (a - 1))) ++ pos o ∷ [])) (o + 1))
      → Holds o3 r (take q o2 ++ node_words (and (pos (s + t) ∷ every 1 (o + 1) 1)) (o + 2))
      → Holds o3 r (take at out ++ nodes_words o (outside_gates T a b s v t o))
  unfolding outside_gates nodes_words every
  outside_stored e out at x y z =
      let A = node_words (and (every 1 (v + (t + a - 2)) (on_count T t a b))) o in
      let B = node_words (or (map opp (every 1 (v + (t - 1)) (on_count T t 1 (a - 1))) ++ (pos o ∷ []))) (o + 1) in
      let C = node_words (and (pos (s + t) ∷ pos (o + 1) ∷ [])) (o + 2) in
      let k : v + (t + 1 - 2) ≡ v + (t - 1) = omega arith in
      let i : suc (suc o) ≡ o + 2 = omega arith in
      let w : take at out ++ nodes_words o (outside_gates T a b s v t o) ≡ ((take at out ++ A) ++ B) ++ C =
      rw (e, k, i, ← (add-one o)) (simp (append_assoc, append-nil)) in
      holds_as (sym w) (holds_then C (holds_then B x y) z)

pub length-outside : (T a b s v t o : ℕ) → length (outside_gates T a b s v t o) ≡ outside_count a
unfolding outside_gates
length-outside T a b s v t o = by (eqb a 1) _ _ _ _
  where
    by : (c : Bool) (g1 g2 g3 g4 : Gate) → length (cond c (g1 ∷ []) (g2 ∷ g3 ∷ g4 ∷ [])) ≡ cond c 1 3
    by true g1 g2 g3 g4 = refl
    by false g1 g2 g3 g4 = refl

-- the gates G, and after these the s gates of each of the first k times
flat-more : (g : ℕ → List Gate) (xs : List ℕ) (x : ℕ) → flat_map g (xs ++ (x ∷ [])) ≡ flat_map g xs ++ g x
unfolding flat_map
flat-more g [] x = append-nil (g x)
flat-more g (y ∷ xs) x = rw (flat-more g xs x) (sym (append_assoc (g y) (flat_map g xs) (g x)))

length-flat : (g : ℕ → List Gate) (s : ℕ) → ((t : ℕ) → length (g t) ≡ s) → (xs : List ℕ) → length (flat_map g xs) ≡ s * length xs
unfolding flat_map
length-flat g s e [] = omega arith
length-flat g s e (x ∷ xs) = length-append (g x) (flat_map g xs) ∙ omega (arith, e x, length-flat g s e xs)

pub record TimesTo (G : List Gate) (g : ℕ → List Gate) (v : ℕ) (words : List ℕ) (at k : ℕ) : Type 0 where
  pub holds : Holds words at (nodes_words v (G ++ flat_map g (up_to k)))

pub times_none : (G : List Gate) (g : ℕ → List Gate) (v : ℕ) {words : List ℕ} {at : ℕ} → Holds words at (nodes_words v G) → TimesTo G g v words at 0
unfolding flat_map from
times_none G g v h = record { holds = holds_as (sym (ap (nodes_words v) (append-nil G))) h }

module _ (G : List Gate) (s : ℕ) (g : ℕ → List Gate) (e : (t : ℕ) → length (g t) ≡ s) (v : ℕ) where
  length_times : (k : ℕ) → length (G ++ flat_map g (up_to k)) ≡ length G + s * k
  length_times k = length-append G (flat_map g (up_to k)) ∙ rw (length-flat g s e (up_to k), length_from_lem 1 k)

  pub times_more : (k : ℕ) {words after : List ℕ} {n m : ℕ} → TimesTo G g v words n k
      → (o t j : ℕ) (gs : List Gate)
      → o ≡ v + (length G + s * k)
      → t ≡ k + 1
      → j ≡ k + 1
      → gs ≡ g t
      → Holds after m (take n words ++ nodes_words o gs)
      → TimesTo G g v after m j
  times_more k h o t j gs f p i d q =
      let hs = G ++ flat_map g (up_to k) in
      let a : 1 + k ≡ t = omega arith in
      let b : G ++ flat_map g (up_to (k + 1)) ≡ hs ++ gs =
      rw (from_more 1 k, flat-more g (up_to k) (1 + k), a, d) (sym (append_assoc G (flat_map g (up_to k)) (g t))) in
      let w : nodes_words v (G ++ flat_map g (up_to (k + 1))) ≡ nodes_words v hs ++ nodes_words o gs =
      rw (b, nodes-words-both hs gs v, length_times k, ← f) in
      rw i (record { holds = holds_as (sym w) (holds_then (nodes_words o gs) h.holds q) })

  -- the whole list
  pub times_stored : {num : Atom → ℕ} {l : Listed} {xs : List ℕ} (T : ℕ) → ByNumbers num v l (G ++ flat_map g (up_to T)) xs
      → {words out : List ℕ} {at end : ℕ}
      → TimesTo G g v words at T
      → Holds out end (take at words ++ xs)
      → (nodes : ℕ)
      → nodes ≡ length G + s * T
      → Stored num l v out (record { nodes = nodes; at = at; end = end })
  times_stored {xs = xs} T b h q nodes f =
      record {
        holds = rw (b.gates, b.literals) (holds_then xs h.holds q);
        nodes = rw b.gates (f ∙ sym (length_times T));
        at = rw b.gates h.holds.count;
      }

-- the variable of the first node of the next time
pub first_next : (T v s t : ℕ) → 1 ≤ t → first_of T v s t + s ≡ first_of T v s (t + 1)
first_next T v s t h = let e : t + 1 - 1 ≡ suc (t - 1) = omega arith in rw e (omega arith)

module _ (h : Head) (v e : ℕ) {words out : List ℕ} {at end : ℕ} (l : 1 ≤ h.times) where
  -- kind 9
  pub distribute_stored : (n lo hi : ℕ) → 1 ≤ n
      → TimesTo (going_gates h.times (base_of 0 h.times e) (base_of (layout_of h).starts h.times e))
      (λ t. length_gate h.times n (base_of (layout_of h).starts h.times e) v t ∷ [])
      v
      words
      at
      h.times
      → Holds out end (take at words ++ every 1 (v + h.times) h.times)
      → (nodes : ℕ)
      → nodes ≡ 2 * h.times
      → Stored (num_of h) (only_in [] h (distribute e n lo hi)) v out (record { nodes = nodes; at = at; end = end })
  unfolding counted_of
  distribute_stored n lo hi k p q nodes f =
      let T = h.times in
      let s = base_of (layout_of h).starts T e in
      let a : v + (T + 1 * 1 - 1) ≡ v + T = omega arith in
      times_stored (going_gates T (base_of 0 T e) s) 1 (λ t. length_gate T n s v t ∷ []) (λ t. refl) v T (rw a at (of_length_lem T (layout_of h) e v n k)) p q nodes
      (omega (arith, length-going T (base_of 0 T e) s l))

  -- kind 10
  pub lengths_stored : (a b c : ℕ) → 1 ≤ a
      → c ≡ outside_count a
      → TimesTo (going_gates h.times (base_of 0 h.times e) (base_of (layout_of h).starts h.times e))
      (λ t. outside_gates h.times a b (base_of (layout_of h).starts h.times e) v t (first_of h.times v c t))
      v
      words
      at
      h.times
      → (first : ℕ)
      → first ≡ v + h.times + c - 1
      → Holds out end (take at words ++ every c first h.times)
      → (nodes : ℕ)
      → nodes ≡ h.times + c * h.times
      → Stored (num_of h) (only_in [] h (lengths e a b)) v out (record { nodes = nodes; at = at; end = end })
  unfolding counted_of
  lengths_stored a b c k u p first d q nodes f =
      let T = h.times in
      let s = base_of (layout_of h).starts T e in
      let i : v + (T + c * 1 - 1) ≡ first = omega arith in
      times_stored (going_gates T (base_of 0 T e) s) c _ (λ t. length-outside T a b s v t (first_of T v c t) ∙ sym u) v T
      (rw (← u, i) at (of-length-outside T (layout_of h) e v a b k)) p q nodes
      (omega (arith, length-going T (base_of 0 T e) s l))
