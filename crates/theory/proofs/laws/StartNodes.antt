-- What the nodes of kinds 9 and 10 say: M, that a time goes on with the subevent before it, and K, that a subevent of such a length
-- starts at a time.
use mathlib.Core.Path.{◌≡◌, refl, sym, ap, ap₂, ◌∙◌}
use mathlib.Core.Bool.{Bool, true, false, not, ◌&&◌, ◌||◌, and-true, or-false}
use mathlib.Core.List.{List, [], ◌∷◌, ◌++◌, map, map-append, map-map, append-nil, append_assoc}
use Prim.Native.Nat.{ℕ, zero, suc, ◌+◌, ◌-◌, ◌≤◌, ◌<◌}
use native.Mathlib.Nat.{add-zero}
use native.Mathlib.Omega.{arith}
use lib.Dec.{leb, ltb, eqb, leb-suc-suc}
use lib.ListN.{length, get_or, length-map, get_or-append}
use lib.Seq.{get_or_at}
use borrow.Author.Tests.{leb-true, leb-false}
use Rattle.laws.specs.Lists.{All}
use Rattle.scope.specs.Kinds.{Atom, Y, S, is, an_atom, a_node, Node, all_of, some_of, from, goes_on, going_on, on_at, not_on_at, span, start_outside}
use Rattle.scope.specs.Score.{any, all, ref_true, node_true, values_after}
use Rattle.scope.specs.Subevents.{length_from}
use Rattle.theory.proofs.laws.Ranges.{length_from_lem}
use Rattle.theory.proofs.laws.Values.{length_more, length-values, values_append, values_keep, value-last}
use Rattle.theory.proofs.laws.TimeByTime.{length-going, span-all}
use Rattle.theory.proofs.laws.Runs.{on, later, all_append, run_span, length_run, outside_run}

-- maps that agree on each element
pub map_same : {A B : Type 0} (f g : A → B) (xs : List A) → All (λ x. f x ≡ g x) xs → map f xs ≡ map g xs
map_same f g [] h = refl
map_same f g (x ∷ xs) h = ap₂ ◌∷◌ h.0 (map_same f g xs h.1)

-- a map of numbers from a on, at a place
pub get_d-map-from : (g : ℕ → Bool) (a k i : ℕ) → i < k → get_or (map g (from a k)) i false ≡ g (a + i)
unfolding from
get_d-map-from g a zero i l = let f : ⊥ = omega arith in absurd f
get_d-map-from g a (suc k) zero l = rw add-zero
get_d-map-from g a (suc k) (suc i) l = let e : a + suc i ≡ suc a + i = omega arith in rw e (get_d-map-from g (suc a) k i (omega arith))

-- one of these is false, or b is true: not all are true, or b is
any-not : (g : ℕ → Bool) (xs : List ℕ) (b : Bool) → any (map (λ x. not (g x)) xs ++ b ∷ []) ≡ (not (all (map g xs)) || b)
unfolding any all
any-not g [] b = or-false b
any-not g (x ∷ xs) b = rw (any-not g xs b) (go (g x))
  where
    go : (y : Bool) → (not y || (not (all (map g xs)) || b)) ≡ (not (y && all (map g xs)) || b)
    go true = refl
    go false = refl

module _ (T : ℕ) (τ : Atom → Bool) (e : ℕ) where
  -- values of nodes of which the first say whether the times 2 to T + 1 go on
  pub record Ons (vs : List Bool) : Type 0 where
    pub reach : T ≤ length vs
    pub at : (u : ℕ) → 2 ≤ u → u ≤ T + 1 → get_or vs (u - 2) false ≡ on T τ e u

  -- nodes that refer to no node
  values_alone : (f : ℕ → Node) (g : ℕ → Bool) → ((vs : List Bool) (t : ℕ) → node_true τ vs (f t) ≡ g t) → (vs : List Bool) (ts : List ℕ)
      → values_after τ vs (map f ts) ≡ vs ++ map g ts
  unfolding values_after
  values_alone f g h vs [] = sym (append-nil vs)
  values_alone f g h vs (t ∷ ts) =
      ap (λ b. values_after τ (vs ++ b ∷ []) (map f ts)) (h vs t) ∙ values_alone f g h (vs ++ g t ∷ []) ts
      ∙ append_assoc vs (g t ∷ []) (map g ts)

  -- M of a time up to T
  going : ℕ → Bool
  going t = τ (Y e t) && (not (τ (S e t)) && true)

  going_values : values_after τ [] (going_on T e) ≡ map going (from 2 (T - 1)) ++ false ∷ []
  unfolding going_on values_after any all going
  going_values =
      values_append τ [] (map (goes_on e) (from 2 (T - 1))) (some_of [] ∷ [])
      ∙ rw (values_alone (goes_on e) going (λ vs t. refl) [] (from 2 (T - 1)))

  pub going_on_lem : Ons (values_after τ [] (going_on T e))
  unfolding on going
  going_on_lem =
      record {
        reach = omega (arith, length-values τ [] (going_on T e), length-going T e);
        at = λ u l h. rw going_values (go u l h (leb u T) refl);
      }
    where
      size : length (map going (from 2 (T - 1))) ≡ T - 1
      size = length-map (from 2 (T - 1)) going ∙ length_from_lem 2 (T - 1)

      go : (u : ℕ) → 2 ≤ u → u ≤ T + 1 → (b : Bool) → leb u T ≡ b
          → get_or (map going (from 2 (T - 1)) ++ false ∷ []) (u - 2) false ≡ (b && τ (Y e u) && not (τ (S e u)))
      go u l h true q =
          let k = leb-true u T q in
          let p : 2 + (u - 2) ≡ u = omega arith in
          get_or-append (map going (from 2 (T - 1))) (false ∷ []) false (u - 2) (omega (arith, size))
          ∙ get_d-map-from going 2 (T - 1) (u - 2) (omega arith)
          ∙ rw (p, and-true)
      go u l h false q =
          let k = leb-false u T q in
          get_or_at (map going (from 2 (T - 1))) false [] false (u - 2) (omega (arith, size))

  -- nodes that follow leave them
  pub ons_keep : (vs : List Bool) (ns : List Node) → Ons vs → Ons (values_after τ vs ns)
  ons_keep vs ns o =
      record {
        reach = omega (arith, o.reach, length-values τ vs ns);
        at = λ u l h. values_keep τ vs ns (u - 2) (omega (arith, o.reach)) ∙ o.at u l h;
      }

  -- references to M at the times of a span, as they are and negated
  on_refs : (vs : List Bool) → Ons vs → (a b : ℕ) → 2 ≤ a → map (ref_true τ vs) (map on_at (span T a b)) ≡ map (on T τ e) (span T a b)
  on_refs vs o a b h =
      map-map (ref_true τ vs) on_at (span T a b)
      ∙ map_same _ _ (span T a b) (span-all _ T a b (λ u l k m. o.at u (omega arith) m))

  not_refs : (vs : List Bool) → Ons vs → (a b : ℕ) → 2 ≤ a
      → map (ref_true τ vs) (map not_on_at (span T a b)) ≡ map (λ u. not (on T τ e u)) (span T a b)
  not_refs vs o a b h =
      map-map (ref_true τ vs) not_on_at (span T a b)
      ∙ map_same _ _ (span T a b) (span-all _ T a b (λ u l k m. ap not (o.at u (omega arith) m)))

  -- the m times after a start go on
  after_start : (vs : List Bool) → Ons vs → (t m : ℕ) → 1 ≤ t → t ≤ T
      → all (map (ref_true τ vs) (map on_at (span T (t + 1) (t + m)))) ≡ leb m (later T τ e t)
  after_start vs o t m h k = ap all (on_refs vs o (t + 1) (t + m) (omega arith)) ∙ run_span T τ e t m k

  -- K of kind 9
  pub start-of : (vs : List Bool) → Ons vs → (n t : ℕ) → 1 ≤ n → 1 ≤ t → t ≤ T
      → all (map (ref_true τ vs) (is (an_atom (S e t)) ∷ map on_at (span T (t + 1) (t + n - 1)) ++ map not_on_at (span T (t + n) (t + n))))
      ≡ (τ (S e t) && eqb n (length_from T τ e t))
  unfolding all
  start-of vs o n t i h k =
      let ons = map on_at (span T (t + 1) (t + n - 1)) in
      let offs = map not_on_at (span T (t + n) (t + n)) in
      let p : t + n - 1 ≡ t + (n - 1) = omega arith in
      let first : all (map (ref_true τ vs) ons) ≡ leb (n - 1) (later T τ e t) = rw p (after_start vs o t (n - 1) h k) in
      ap (◌&&◌ (τ (S e t)))
      (ap all (map-append (ref_true τ vs) ons offs) ∙ all_append (map (ref_true τ vs) ons) (map (ref_true τ vs) offs)
      ∙ ap₂ ◌&&◌ first (ap all (not_refs vs o (t + n) (t + n) (omega arith))) ∙ length_run T τ e t n i k)

  -- K of kind 10 where the shortest length is 1
  pub start-above : (vs : List Bool) → Ons vs → (n t : ℕ) → 1 ≤ t → t ≤ T
      → all (map (ref_true τ vs) (is (an_atom (S e t)) ∷ map on_at (span T (t + 1) (t + n)))) ≡ (τ (S e t) && ltb n (length_from T τ e t))
  unfolding all
  start-above vs o n t h k =
      ap (◌&&◌ (τ (S e t))) (after_start vs o t n h k ∙ sym (leb-suc-suc n (later T τ e t)))

  -- Q and W of kind 10, where Q's value stands at j
  on_between : (vs : List Bool) → Ons vs → (t a b : ℕ) → 1 ≤ t → 1 ≤ a
      → all (map (ref_true τ vs) (map on_at (span T (t + a) (t + b)))) ≡ all (map (on T τ e) (span T (t + a) (t + b)))
  on_between vs o t a b h i = ap all (on_refs vs o (t + a) (t + b) (omega arith))

  wrong_length : (vs : List Bool) → Ons vs → (t a b j : ℕ) → 1 ≤ t → t ≤ T → 1 ≤ a
      → get_or vs j false ≡ all (map (on T τ e) (span T (t + a) (t + b)))
      → any (map (ref_true τ vs) (map not_on_at (span T (t + 1) (t + a - 1)) ++ is (a_node j) ∷ []))
      ≡ (ltb (length_from T τ e t) a || ltb b (length_from T τ e t))
  wrong_length vs o t a b j h k i q =
      let offs = map not_on_at (span T (t + 1) (t + a - 1)) in
      let p : t + a - 1 ≡ t + (a - 1) = omega arith in
      let run : all (map (on T τ e) (span T (t + 1) (t + a - 1))) ≡ leb (a - 1) (later T τ e t) = rw p (run_span T τ e t (a - 1) k) in
      ap any
      (map-append (ref_true τ vs) offs (is (a_node j) ∷ [])
      ∙ ap₂ (λ xs x. xs ++ x ∷ []) (not_refs vs o (t + 1) (t + a - 1) (omega arith)) q)
      ∙ any-not (on T τ e) (span T (t + 1) (t + a - 1)) (all (map (on T τ e) (span T (t + a) (t + b))))
      ∙ rw run (outside_run T τ e t a b i k)

  -- K of kind 10 elsewhere, the last of three nodes
  pub start_outside_lem : (vs : List Bool) → Ons vs → (t a b : ℕ) → 1 ≤ t → t ≤ T → 1 ≤ a
      → get_or (values_after τ vs (start_outside T e a b (length vs) t)) (length vs + 2) false
      ≡ (τ (S e t) && (ltb (length_from T τ e t) a || ltb b (length_from T τ e t)))
  unfolding values_after all
  start_outside_lem vs o t a b h k i =
      let n = length vs in
      let q = all (map (ref_true τ vs) (map on_at (span T (t + a) (t + b)))) in
      let qs = vs ++ q ∷ [] in
      let w = any (map (ref_true τ qs) (map not_on_at (span T (t + 1) (t + a - 1)) ++ is (a_node n) ∷ [])) in
      let ws = qs ++ w ∷ [] in
      let Q : get_or qs n false ≡ all (map (on T τ e) (span T (t + a) (t + b))) = value-last vs q n refl ∙ on_between vs o t a b h i in
      let W : get_or ws (n + 1) false ≡ w = value-last qs w (n + 1) (length_more vs q ∙ omega arith) in
      let kept = ons_keep vs (all_of (map on_at (span T (t + a) (t + b))) ∷ []) o in
      value-last ws (τ (S e t) && (get_or ws (n + 1) false && true)) (n + 2) (omega (arith, length_more vs q, length_more qs w))
      ∙ rw (and-true, W) (ap (◌&&◌ (τ (S e t))) (wrong_length qs kept t a b n h k i Q))
