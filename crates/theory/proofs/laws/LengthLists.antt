-- The lists of kinds 9 and 10: a member for each time, and no more nodes and words than stated.
use mathlib.Core.Path.{◌≡◌, refl}
use mathlib.Core.List.{List, [], ◌∷◌, ◌++◌, map, flat_map}
use Prim.Native.Nat.{ℕ, ◌+◌, ◌-◌, ◌*◌, ◌≤◌, min}
use native.Mathlib.Nat.{mul-add, add-mul, mul-le-mul_left}
use native.Mathlib.Omega.{arith}
use lib.ListN.{length, length-append, length-map}
use Rattle.scope.specs.Kinds.{Node, some_of, is, a_node, from, up_to, goes_on, going_on, on_at, not_on_at, span, start_of, start_above, start_outside, time_by_time, of_length, of_length_outside}
use Rattle.scope.specs.Demands.{ListedByTime}
use Rattle.theory.proofs.laws.Ranges.{length_from_lem}
use Rattle.theory.proofs.laws.TimeByTime.{length-timed, length-timed-nodes, outside-either}
use Rattle.theory.proofs.laws.Words.{words_of, nodes-words, words_of-append, words_of-each}

-- a span is no longer than its bounds say
span-most : (T a b : ℕ) → length (span T a b) ≤ b + 1 - a
unfolding span
span-most T a b = rw (length_from_lem a (min b (T + 1) + 1 - a)) (omega arith)

-- M has two references, but none at time T + 1
goes-words : (e : ℕ) (ts : List ℕ) → words_of (map (goes_on e) ts) ≡ 7 * length ts
unfolding words_of
goes-words e [] = refl
goes-words e (t ∷ ts) = rw (goes-words e ts) (omega arith)

going-words : (T e : ℕ) → words_of (going_on T e) ≤ 7 * T + 1
unfolding going_on words_of
going-words T e =
    let ts = from 2 (T - 1) in
    omega (arith, words_of-append (map (goes_on e) ts) (some_of [] ∷ []), goes-words e ts, length_from_lem 2 (T - 1))

-- up to three nodes for each time, whose clauses have up to 3 n + 12 words
timed-listed : (T e s n : ℕ) (f : ℕ → List Node) → s ≤ 3 → ((t : ℕ) → length (f t) ≡ s) → ((t : ℕ) → 1 ≤ t → words_of (f t) ≤ 3 * n + 12)
    → ListedByTime T n (time_by_time T e s f)
unfolding time_by_time
timed-listed T e s n f h rows each =
    record {
      members = length-timed T e s f;
      variables = omega (arith, length-timed-nodes T e s f rows, mul-le-mul_left T h, mul-add (T + 1) T 1);
      words = λ num v.
          rw (nodes-words num v v (going_on T e ++ flat_map f (up_to T)))
          (omega (
            arith,
            words_of-append (going_on T e) (flat_map f (up_to T)),
            going-words T e,
            words_of-each f (3 * n + 12) 1 T each,
            mul-add T (3 * n + 12) 7,
            add-mul T 1 (3 * n + 19),
          ));
    }

pub of-length-listed : (T e n : ℕ) → ListedByTime T n (of_length T e n)
unfolding of_length words_of
of-length-listed T e n =
    timed-listed T e 1 n (start_of T e n) (omega arith) (λ t. refl)
    (λ t h.
    let ons = span T (t + 1) (t + n - 1) in
    let off = span T (t + n) (t + n) in
    omega (
      arith,
      length-append (map on_at ons) (map not_on_at off),
      length-map ons on_at,
      length-map off not_on_at,
      span-most T (t + 1) (t + n - 1),
      span-most T (t + n) (t + n),
    ))

above_listed : (T e b : ℕ) → ListedByTime T b (time_by_time T e 1 (start_above T e b))
unfolding words_of
above_listed T e b =
    timed-listed T e 1 b (start_above T e b) (omega arith) (λ t. refl)
    (λ t h.
    let ons = span T (t + 1) (t + b) in
    omega (arith, length-map ons on_at, span-most T (t + 1) (t + b)))

three-listed : (T e a b : ℕ) → 1 ≤ a → a ≤ b
    → ListedByTime T b (time_by_time T e 3 (λ t. start_outside T e a b (T + 3 * (t - 1)) t))
unfolding words_of
three-listed T e a b i j =
    timed-listed T e 3 b (λ t. start_outside T e a b (T + 3 * (t - 1)) t) (omega arith) (λ t. refl)
    (λ t h.
    let ons = span T (t + a) (t + b) in
    let offs = span T (t + 1) (t + a - 1) in
    omega (
      arith,
      length-append (map not_on_at offs) (is (a_node (T + 3 * (t - 1))) ∷ []),
      length-map ons on_at,
      length-map offs not_on_at,
      span-most T (t + a) (t + b),
      span-most T (t + 1) (t + a - 1),
    ))

pub outside-listed : (T e a b : ℕ) → 1 ≤ a → a ≤ b → ListedByTime T b (of_length_outside T e a b)
outside-listed T e a b i j = outside-either (ListedByTime T b) T e a b (above_listed T e b) (three-listed T e a b i j)
