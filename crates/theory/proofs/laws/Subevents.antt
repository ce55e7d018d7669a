-- What kinds 9 and 10 count: the subevents of a length, and those whose length lies outside two.
use mathlib.Core.Path.{subst, sym}
use mathlib.Core.Path.{◌≡◌, refl, ap, ap₂, ◌∙◌}
use mathlib.Core.Bool.{Bool, true, false, cond, ◌&&◌, ◌||◌}
use mathlib.Core.List.{List, [], ◌∷◌, ◌++◌, map, flat_map}
use Prim.Native.Nat.{ℕ, zero, suc, ◌+◌, ◌-◌, ◌*◌, ◌≤◌, ◌<◌}
use native.Mathlib.Nat.{add-zero}
use native.Mathlib.Omega.{arith}
use lib.Dec.{ltb, eqb}
use lib.ListN.{length, get_or}
use borrow.Author.Tests.{le-ltb, eqb-true}
use Rattle.scope.specs.Kinds.{Atom, S, is, a_node, Node, Listed, distribute, lengths, from, up_to, going_on, start_of, start_above, start_outside, time_by_time, of_length, of_length_outside, rule, between, counted_of, rules_of}
use Rattle.scope.specs.Score.{trues, deviation, ref_true, values_after, count, deviations}
use Rattle.scope.specs.Subevents.{length_from, subevents}
use Rattle.theory.proofs.laws.Lowered.{charged-lowered}
use Rattle.theory.proofs.laws.Ranges.{from_all}
use Rattle.theory.proofs.laws.Values.{length-values, values_append, values_keep, value-last}
use Rattle.theory.proofs.laws.TimeByTime.{length-going, after_step}
use Rattle.theory.proofs.laws.StartNodes.{map_same, Ons, going_on_lem, ons_keep, start-of, start-above, start_outside_lem}

module _ (T : ℕ) (τ : Atom → Bool) (e : ℕ) where
  -- a list with s nodes for each time, where the last of time t has the value g t
  module _ (s : ℕ) (f : ℕ → List Node) (g : ℕ → Bool) (rows : (t : ℕ) → length (f t) ≡ s)
      (last : (t : ℕ) (vs : List Bool) → 1 ≤ t → t ≤ T → Ons T τ e vs → length vs ≡ T + s * (t - 1)
      → get_or (values_after τ vs (f t)) (T + s * t - 1) false ≡ g t) where
    each_true : (t k : ℕ) (vs : List Bool) → 1 ≤ t → t + k ≤ T + 1 → Ons T τ e vs → length vs ≡ T + s * (t - 1)
        → map (ref_true τ (values_after τ vs (flat_map f (from t k)))) (map (λ u. is (a_node (T + s * u - 1))) (from t k)) ≡ map g (from t k)
    unfolding from flat_map
    each_true t zero vs h l o n = refl
    each_true t (suc k) vs h l o n =
        let ws = values_after τ vs (f t) in
        let ms = flat_map f (from (suc t) k) in
        let m : length ws ≡ T + s * (suc t - 1) = length-values τ vs (f t) ∙ omega (arith, rows t, after_step T s t h) in
        let p : suc t - 1 ≡ t = omega arith in
        let r : T + s * t - 1 < length ws = rw m (rw p (omega arith)) in
        subst
        (λ (us : List Bool). map (ref_true τ us) (map (λ u. is (a_node (T + s * u - 1))) (t ∷ from (suc t) k)) ≡ map g (t ∷ from (suc t) k))
        (sym (values_append τ vs (f t) ms))
        (ap₂ ◌∷◌ (values_keep τ ws ms (T + s * t - 1) r ∙ last t vs h (omega arith) o n)
        (each_true (suc t) k ws (omega arith) (omega arith) (ons_keep T τ e vs (f t) o) m))

    timed_count : count τ (time_by_time T e s f) ≡ trues (map g (up_to T))
    unfolding count time_by_time from flat_map
    timed_count = ap trues (go T refl)
      where
        go : (k : ℕ) → T ≡ k
            → map (ref_true τ (values_after τ [] (going_on T e ++ flat_map f (up_to T)))) (map (λ t. is (a_node (T + s * t - 1))) (up_to T))
            ≡ map g (up_to T)
        go zero p = rw p
        go (suc k) p =
            let n : length (values_after τ [] (going_on T e)) ≡ T + s * (1 - 1) =
            length-values τ [] (going_on T e) ∙ omega (arith, length-going T e) in
            rw (values_append τ [] (going_on T e) (flat_map f (up_to T)))
            (each_true 1 T (values_after τ [] (going_on T e)) (omega arith) (omega arith) (going_on_lem T τ e) n)

  -- the counts of the lists
  of_length_count : (n : ℕ) → 1 ≤ n → count τ (of_length T e n) ≡ subevents T τ e (eqb n)
  unfolding of_length subevents values_after
  of_length_count n i =
      timed_count 1 (start_of T e n) (λ t. τ (S e t) && eqb n (length_from T τ e t)) (λ t. refl)
      (λ t vs h k o l. value-last vs _ (T + 1 * t - 1) (omega arith) ∙ start-of T τ e vs o n t i h k)

  above_count : (b : ℕ) → count τ (time_by_time T e 1 (start_above T e b)) ≡ subevents T τ e (ltb b)
  unfolding subevents values_after
  above_count b =
      timed_count 1 (start_above T e b) (λ t. τ (S e t) && ltb b (length_from T τ e t)) (λ t. refl)
      (λ t vs h k o l. value-last vs _ (T + 1 * t - 1) (omega arith) ∙ start-above T τ e vs o b t h k)

  three_count : (a b : ℕ) → 1 ≤ a
      → count τ (time_by_time T e 3 (λ t. start_outside T e a b (T + 3 * (t - 1)) t)) ≡ subevents T τ e (λ n. ltb n a || ltb b n)
  unfolding subevents
  three_count a b i =
      timed_count 3 (λ t. start_outside T e a b (T + 3 * (t - 1)) t) (λ t. τ (S e t) && (ltb (length_from T τ e t) a || ltb b (length_from T τ e t)))
      (λ t. refl)
      (λ t vs h k o l.
      let p : T + 3 * t - 1 ≡ length vs + 2 = omega arith in
      rw (p, ← l) (start_outside_lem T τ e vs o t a b h k i))

  outside-count : (a b : ℕ) → 1 ≤ a → count τ (of_length_outside T e a b) ≡ subevents T τ e (λ n. ltb n a || ltb b n)
  unfolding of_length_outside subevents
  outside-count a b i = go (eqb a 1) refl
    where
      go : (c : Bool) → eqb a 1 ≡ c
          → count τ (cond c (time_by_time T e 1 (start_above T e b)) (time_by_time T e 3 (λ t. start_outside T e a b (T + 3 * (t - 1)) t)))
          ≡ subevents T τ e (λ n. ltb n a || ltb b n)
      go false q = three_count a b i
      go true q =
          let p = eqb-true a 1 q in
          above_count b
          ∙ rw p (ap trues (map_same _ _ (up_to T) (from_all _ 1 T (λ t l h. rw (le-ltb (length_from T τ e t) 1 (omega arith))))))

-- a kind with one list
pub one-charged : (τ : Atom → Bool) (lo hi : ℕ) (l : Listed) → deviations τ (rule (between lo hi []) l ∷ []) ≡ deviation lo hi (count τ l)
unfolding deviations
one-charged τ lo hi l = rw add-zero (charged-lowered τ (between lo hi []) l)

-- kind 9 and kind 10 charge for subevents
pub distribute-counts : (T : ℕ) (dur : ℕ → ℕ) (us group : ℕ → List ℕ) (τ : Atom → Bool) (e n lo hi : ℕ) → 1 ≤ n
    → deviations τ (rules_of T dur us group (distribute e n lo hi)) ≡ deviation lo hi (subevents T τ e (eqb n))
unfolding counted_of
distribute-counts T dur us group τ e n lo hi h =
    one-charged τ lo hi (of_length T e n) ∙ ap (deviation lo hi) (of_length_count T τ e n h)

pub lengths-counts : (T : ℕ) (dur : ℕ → ℕ) (us group : ℕ → List ℕ) (τ : Atom → Bool) (e a b : ℕ) → 1 ≤ a
    → deviations τ (rules_of T dur us group (lengths e a b)) ≡ deviation 0 0 (subevents T τ e (λ n. ltb n a || ltb b n))
unfolding counted_of
lengths-counts T dur us group τ e a b h =
    one-charged τ 0 0 (of_length_outside T e a b) ∙ ap (deviation 0 0) (outside-count T τ e a b h)
