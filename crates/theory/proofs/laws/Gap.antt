-- What kind 11 charges: 1 where the gap between two events lies outside, else 0. In its list F says by t + lo whether the second
-- event's first time f has come, G whether the first event's last time l is still to come.
use mathlib.Core.Path.{◌≡◌, refl, sym, ap, ap₂, ◌∙◌}
use mathlib.Core.Bool.{Bool, true, false, not, cond, ◌&&◌, ◌||◌, or-true, and-false}
use mathlib.Core.List.{List, [], ◌∷◌, ◌++◌, map, map-append, map-map}
use mathlib.Core.Logic.{⊎_elim}
use Prim.Native.Nat.{ℕ, zero, suc, ◌+◌, ◌-◌, ◌≤◌, ◌<◌, min}
use native.Mathlib.Nat.{add-zero, zero-add, eq-or-lt_of_le}
use native.Mathlib.Omega.{arith}
use lib.Dec.{leb, ltb}
use lib.ListN.{length, get_or, length-map, length-append, get_or-append}
use lib.Seq.{get_or-append-add}
use borrow.Author.Tests.{ltb-true, ltb-false, leb-true, leb-false, lt-ltb, le-ltb, le-leb, lt-leb}
use Rattle.laws.specs.Lists.{All-at}
use Rattle.scope.specs.Kinds.{event_of, Atom, Y, is, an_atom, a_node, is_not, atoms, Ref, all_of, precedence, from, up_to, taking_at, down, early, late, begun, too_soon, before_g, before_q, lasting, too_late, either_way, gap_outside, counted_of, rules_of}
use Rattle.scope.specs.Instance.{Instance}
use Rattle.scope.specs.Score.{trues, any, all, ref_true, node_true, values_after, count, deviations, event_right}
use Rattle.scope.specs.Gap.{times_taken, first_time, last_time, gap_within}
use Rattle.scope.specs.Demands.{Accepted}
use Rattle.theory.specs.Accepted.{ValidEvent}
use Rattle.theory.proofs.laws.Accepted.{accepted-valid}
use Rattle.theory.proofs.laws.Ranges.{length_from_lem}
use Rattle.theory.proofs.laws.Lowered.{deviation-zero}
use Rattle.theory.proofs.laws.Values.{length-values, values_append, value-last}
use Rattle.theory.proofs.laws.StartNodes.{get_d-map-from}
use Rattle.theory.proofs.laws.Subevents.{one-charged}
use Rattle.theory.proofs.laws.GapLists.{length-down, length-too-late}
use Rattle.theory.proofs.laws.Chains.{any_atoms, Grows, chain_values, mapped_values}
use Rattle.theory.proofs.laws.FirstLast.{IsFirst, IsLast, first_of, last_of, right-taken}

-- whether any number of some is such
any_append : (xs ys : List Bool) → any (xs ++ ys) ≡ (any xs || any ys)
unfolding any
any_append [] ys = refl
any_append (true ∷ xs) ys = refl
any_append (false ∷ xs) ys = any_append xs ys

any-two : (h : ℕ → Bool) (xs ys : List ℕ) → any (map h (xs ++ ys)) ≡ (any (map h xs) || any (map h ys))
any-two h xs ys = ap any (map-append h xs ys) ∙ any_append (map h xs) (map h ys)

any_at : (h : ℕ → Bool) (n m t : ℕ) → n ≤ t → t < n + m → h t ≡ true → any (map h (from n m)) ≡ true
unfolding any from
any_at h n zero t l k e = let f : ⊥ = omega arith in absurd f
any_at h n (suc m) t l k e =
    ⊎_elim (λ (q : n ≡ t). rw (q, e)) (λ (q : n < t). rw (any_at h (suc n) m t q (omega arith) e) (or-true (h n))) (eq-or-lt_of_le l)

any-never : (h : ℕ → Bool) (n m : ℕ) → ((t : ℕ) → n ≤ t → t < n + m → h t ≡ false) → any (map h (from n m)) ≡ false
unfolding any from
any-never h n zero p = refl
any-never h n (suc m) p = rw (p n (omega arith) (omega arith)) (any-never h (suc n) m (λ t l k. p t (omega arith) (omega arith)))

-- the values at p and on are those of g at n and on
abbrev Stands : List Bool → (p n m : ℕ) → (ℕ → Bool) → Type 0
Stands vs p n m g = (i : ℕ) → i < m → get_or vs (p + i) false ≡ g (n + i)

stands-keep : (vs ws : List Bool) (p n m : ℕ) (g : ℕ → Bool) → p + m ≤ length vs → Stands vs p n m g → Stands (vs ++ ws) p n m g
stands-keep vs ws p n m g l h i k = get_or-append vs ws false (p + i) (omega arith) ∙ h i k

stands-new : (vs : List Bool) (p n m : ℕ) (g : ℕ → Bool) → length vs ≡ p → Stands (vs ++ map g (from n m)) p n m g
stands-new vs p n m g l i k = rw (← l) (get_or-append-add vs (map g (from n m)) i false ∙ get_d-map-from g n m i k)

at_zero : (vs : List Bool) (k : ℕ) → get_or vs (0 + k) false ≡ get_or vs k false
at_zero vs k = ap (λ j. get_or vs j false) (zero-add k)

-- where Q finds its F and its G
F-place : (T lo hi t E : ℕ) → t + hi + 2 ≤ T → T ≤ E + 1 + lo → 1 ≤ E → t + hi - lo < E
F-place T lo hi t E h k l = omega arith

G-place : (B L t : ℕ) → t ≤ L → B + L - t ≡ B + (L - t)
G-place B L t h = omega arith

G-time : (L t : ℕ) → t ≤ L → L - (0 + (L - t)) ≡ t
G-time L t h = omega arith

G-inside : (L t : ℕ) → 1 ≤ t → t ≤ L → L - t < L
G-inside L t h k = omega arith

module _ (T : ℕ) (τ : Atom → Bool) (a b lo hi f l : ℕ) (first : IsFirst τ b 1 T f) (last : IsLast τ a 1 T l) where
  abbrev E : ℕ
  E = early T lo

  abbrev L : ℕ
  L = late T hi

  -- the second event has come by time s; the first is to come at time s or later
  come_step : (s : ℕ) → 1 ≤ s → (τ (Y b s) || ltb f s) ≡ ltb f (suc s)
  come_step s h = go (ltb f s) refl
    where
      go : (c : Bool) → ltb f s ≡ c → (τ (Y b s) || c) ≡ ltb f (suc s)
      go true q = rw (lt-ltb f (suc s) (omega (arith, ltb-true f s q))) (or-true (τ (Y b s)))
      go false q =
          ⊎_elim
          (λ (e : s ≡ f). rw (e, first.takes, lt-ltb f (suc f) (omega arith)))
          (λ (m : s < f). rw (first.none s h m, le-ltb f (suc s) m))
          (eq-or-lt_of_le (ltb-false f s q))

  last_step : (s : ℕ) → 1 ≤ s → s ≤ T → (τ (Y a s) || leb (suc s) l) ≡ leb s l
  last_step s h k = go (leb (suc s) l) refl
    where
      go : (c : Bool) → leb (suc s) l ≡ c → (τ (Y a s) || c) ≡ leb s l
      go true q = rw (le-leb s l (omega (arith, leb-true (suc s) l q))) (or-true (τ (Y a s)))
      go false q =
          let m : l ≤ s = omega (arith, leb-false (suc s) l q) in
          ⊎_elim
          (λ (e : l ≡ s). rw (← e, last.takes, le-leb l l (omega arith)))
          (λ (n : l < s). rw (last.none s n (omega arith), lt-leb s l n))
          (eq-or-lt_of_le m)

  any_come : (s k : ℕ) → 1 ≤ s → s ≤ f → any (map τ (taking_at b (from s k))) ≡ ltb f (s + k)
  unfolding any from
  any_come s zero h m = rw (add-zero, le-ltb f s m)
  any_come s (suc k) h m =
      let e : s + suc k ≡ suc s + k = omega arith in
      ⊎_elim
      (λ (q : s ≡ f). rw (q, first.takes, lt-ltb f (f + suc k) (omega arith)))
      (λ (q : s < f). rw (first.none s h q, any_come (suc s) k (omega arith) q, e))
      (eq-or-lt_of_le m)

  any_last : (k s : ℕ) → 1 ≤ s → s + k ≡ T + 1 → any (map τ (taking_at a (from s k))) ≡ leb s l
  unfolding any from
  any_last zero s h m = sym (lt-leb s l (omega (arith, last.high)))
  any_last (suc k) s h m = rw (any_last k (suc s) (omega arith) (omega arith)) (last_step s h (omega arith))

  -- F, P, G by its place, and Q
  F : ℕ → Bool
  F t = ltb f (suc (t + lo))

  P : ℕ → Bool
  P t = τ (Y a t) && (F t && true)

  G : ℕ → Bool
  G j = leb (suc (L - j)) l

  Q : ℕ → Bool
  Q t = not (F (1 + (t + hi - lo))) && (not (leb (suc t) l) && true)

  F-grows : (m i s : ℕ) → s ≡ suc (i + lo) → Grows τ F i (taking_at b (from s m))
  unfolding from F
  F-grows zero i s e = tt
  F-grows (suc m) i s e =
      let q : suc (suc i + lo) ≡ suc s = omega (arith, e) in
      (rw (q, ← e) (come_step s (omega arith)), F-grows m (suc i) (suc s) (omega arith))

  G-grows : (m j s : ℕ) → s ≡ L - j → m ≤ s - 1 → Grows τ G j (taking_at a (down s m))
  unfolding down G
  G-grows zero j s e h = tt
  G-grows (suc m) j s e h =
      let q : suc (L - suc j) ≡ s = omega (arith, e) in
      (rw (← e, q) (last_step s (omega arith) (omega (arith, e))), G-grows m (suc j) (s - 1) (omega arith) (omega arith))

  -- the values after each
  abbrev after_f : List Bool
  after_f = map F (from 1 E)

  abbrev after_p : List Bool
  after_p = after_f ++ map P (from 2 (E - 1))

  abbrev after_g : List Bool
  after_g = after_p ++ map G (from 0 L)

  size_map : (g : ℕ → Bool) (n m : ℕ) → length (map g (from n m)) ≡ m
  size_map g n m = length-map (from n m) g ∙ length_from_lem n m

  size-p : length after_p ≡ before_g T lo
  size-p = rw (length-append after_f (map P (from 2 (E - 1))), size_map F 1 E, size_map P 2 (E - 1))

  size-g : length after_g ≡ before_q T lo hi
  size-g = rw (length-append after_p (map G (from 0 L)), size-p, size_map G 0 L)

  F-values : values_after τ [] (begun T b lo) ≡ after_f
  unfolding begun F
  F-values =
      let n = E - 1 in
      chain_values τ F 1 0 E (taking_at b (up_to (lo + 1))) (taking_at b (from (lo + 2) n)) [] refl
      (any_come 1 (lo + 1) (omega arith) first.low ∙ ap (ltb f) (omega arith))
      (F-grows n 1 (lo + 2) (omega arith))
      (size_taking b (from (lo + 2) n) ∙ length_from_lem (lo + 2) n)
    where
      size_taking : (e : ℕ) (ts : List ℕ) → length (taking_at e ts) ≡ length ts
      size_taking e ts = length-map ts (λ t. Y e t)

  F-stands : Stands after_f 0 1 E F
  F-stands = stands-new [] 0 1 E F refl

  P-values : values_after τ after_f (too_soon T a lo) ≡ after_p
  unfolding too_soon all P
  P-values =
      mapped_values τ (λ t. all_of (is (an_atom (Y a t)) ∷ is (a_node (t - 1)) ∷ [])) P after_f 2 (E - 1)
      (λ ws t x y.
      let e : 1 + (t - 1) ≡ t = omega arith in
      let v : get_or (after_f ++ ws) (t - 1) false ≡ F t =
      sym (at_zero (after_f ++ ws) (t - 1)) ∙ stands-keep after_f ws 0 1 E F (omega (arith, size_map F 1 E)) F-stands (t - 1) (omega arith)
      ∙ ap F e in
      rw v)

  G-values : values_after τ after_p (lasting T a lo hi) ≡ after_g
  unfolding lasting G
  G-values =
      chain_values τ G 0 (before_g T lo) L (taking_at a (from (L + 1) (T - L))) (taking_at a (down L (L - 1))) after_p size-p
      (any_last (T - L) (L + 1) (omega arith) (omega arith) ∙ ap (λ n. leb n l) (omega arith))
      (G-grows (L - 1) 0 L (omega arith) (omega arith))
      (length-map (down L (L - 1)) (λ t. Y a t) ∙ length-down L (L - 1))

  F-last : Stands after_g 0 1 E F
  F-last =
      stands-keep after_p (map G (from 0 L)) 0 1 E F (omega (arith, size-p))
      (stands-keep after_f (map P (from 2 (E - 1))) 0 1 E F (omega (arith, size_map F 1 E)) F-stands)

  P-last : Stands after_g E 2 (E - 1) P
  P-last = stands-keep after_p (map G (from 0 L)) E 2 (E - 1) P (omega (arith, size-p)) (stands-new after_f E 2 (E - 1) P (size_map F 1 E))

  G-last : Stands after_g (before_g T lo) 0 L G
  G-last = stands-new after_p (before_g T lo) 0 L G size-p

  -- where F of a time is there
  module _ (some : 1 ≤ E) where
    Q-values : values_after τ after_g (too_late T lo hi) ≡ after_g ++ map Q (from 1 L)
    unfolding too_late all Q G
    Q-values =
        mapped_values τ (λ t. all_of (is_not (a_node (t + hi - lo)) ∷ is_not (a_node (before_q T lo hi - t)) ∷ [])) Q after_g 1 L
        (λ ws t x y.
        let h : t ≤ L = omega arith in
        let n : t + hi + 2 ≤ T = omega arith in
        let m : T ≤ E + 1 + lo = omega arith in
        let k = G-time L t h in
        let i : L - t < L = G-inside L t x h in
        let j = G-place (before_g T lo) L t h in
        let v : get_or (after_g ++ ws) (t + hi - lo) false ≡ F (1 + (t + hi - lo)) =
        sym (at_zero (after_g ++ ws) (t + hi - lo))
        ∙ stands-keep after_g ws 0 1 E F (omega (arith, size-g)) F-last (t + hi - lo) (F-place T lo hi t E n m some) in
        let w : get_or (after_g ++ ws) (before_q T lo hi - t) false ≡ leb (suc t) l =
        rw j (stands-keep after_g ws (before_g T lo) 0 L G (omega (arith, size-g)) G-last (L - t) i ∙ rw k) in
        rw (v, w))

  -- what O says after values in which F, P and Q stand
  record Valued (vs : List Bool) : Type 0 where
    begins : Stands vs 0 1 E F
    soon : Stands vs E 2 (E - 1) P
    slow : Stands vs (before_q T lo hi) 1 L Q

  -- too soon, in time, too late
  abbrev Says : List Bool → Bool → Type 0
  Says vs o = node_true τ vs (either_way T a lo hi) ≡ o

  abbrev at : List Bool → ℕ → Bool
  at vs k = get_or vs k false

  abbrev F-or-P-or-Q : List Bool → Bool
  F-or-P-or-Q vs =
      any (map (at vs) (from 0 (min E 1))) || (any (map (at vs) (from E (E - 1))) || any (map (at vs) (from (before_q T lo hi) L)))

  either_value : (vs : List Bool) → Says vs (leb (suc E) l || F-or-P-or-Q vs)
  unfolding either_way
  either_value vs =
      let A = taking_at a (from (E + 1) (T - E)) in
      let one = from 0 (min E 1) in
      let soon = from E (E - 1) in
      let slow = from (before_q T lo hi) L in
      let node : ℕ → Ref = λ k. is (a_node k) in
      ap any (map-append (ref_true τ vs) (atoms A) (map node (one ++ (soon ++ slow))))
      ∙ any_append (map (ref_true τ vs) (atoms A)) (map (ref_true τ vs) (map node (one ++ (soon ++ slow))))
      ∙ ap₂ ◌||◌
      (any_atoms τ vs A ∙ any_last (T - E) (E + 1) (omega arith) (omega arith) ∙ ap (λ n. leb n l) (omega arith))
      (ap any (map-map (ref_true τ vs) node (one ++ (soon ++ slow)))
      ∙ any-two (at vs) one (soon ++ slow) ∙ ap (◌||◌ (any (map (at vs) one))) (any-two (at vs) soon slow))

  -- the first event ends after early, or the second begins by its last time + lo
  too-soon : (vs : List Bool) → Valued vs → f < l + 1 + lo → Says vs true
  unfolding F P
  too-soon vs v h = either_value vs ∙ go (leb (suc E) l) refl
    where
      go : (c : Bool) → leb (suc E) l ≡ c → (c || F-or-P-or-Q vs) ≡ true
      go true q = refl
      go false q =
          let m : l ≤ E = omega (arith, leb-false (suc E) l q) in
          let one : 1 ≤ l = last.low in
          ⊎_elim
          (λ (e : 1 ≡ l).
          rw
          (any_at (at vs) 0 (min E 1) 0 (omega arith) (omega arith)
          (v.begins 0 (omega arith) ∙ lt-ltb f (suc (1 + 0 + lo)) (omega arith))))
          (λ (n : 1 < l).
          let k : 2 + (l - 2) ≡ l = omega arith in
          let P-true : at vs (E + (l - 2)) ≡ true =
          v.soon (l - 2) (omega arith) ∙ rw (k, last.takes, lt-ltb f (suc (l + lo)) (omega arith)) in
          rw (any_at (at vs) E (E - 1) (E + (l - 2)) (omega arith) (omega arith) P-true) (or-true (any (map (at vs) (from 0 (min E 1)))))
          )
          (eq-or-lt_of_le one)

  too-late : (vs : List Bool) → Valued vs → l + 1 + lo ≤ f → l + 1 + hi < f → Says vs true
  unfolding F Q
  too-late vs v h k =
      let one = last.low in
      let top = first.high in
      let e : 1 + (l - 1) ≡ l = omega arith in
      let Q-true : at vs (before_q T lo hi + (l - 1)) ≡ true =
      v.slow (l - 1) (omega arith)
      ∙ rw (e, le-ltb f (suc (1 + (l + hi - lo) + lo)) (omega arith), lt-leb (suc l) l (omega arith)) in
      either_value vs
      ∙ rw (any_at (at vs) (before_q T lo hi) L (before_q T lo hi + (l - 1)) (omega arith) (omega arith) Q-true, or-true, or-true, or-true)

  in_time : (vs : List Bool) → Valued vs → l + 1 + lo ≤ f → f ≤ l + 1 + hi → Says vs false
  unfolding F P Q
  in_time vs v h k =
      let one = last.low in
      let top = first.high in
      either_value vs
      ∙ rw (
        lt-leb (suc E) l (omega arith),
        any-never (at vs) 0 (min E 1) (λ j x y. F-false j (omega arith)),
        any-never (at vs) E (E - 1) (λ j x y. let e : E + (j - E) ≡ j = omega arith in rw (← e) (P-false (j - E) (omega arith))),
        any-never (at vs) (before_q T lo hi) L
            (λ j x y.
            let e : before_q T lo hi + (j - before_q T lo hi) ≡ j = omega arith in
            rw (← e) (Q-false (j - before_q T lo hi) (omega arith))),
      )
    where
      F-false : (j : ℕ) → j ≡ 0 → at vs j ≡ false
      F-false j z =
          let one = last.low in
          let top = first.high in
          rw z (v.begins 0 (omega arith) ∙ le-ltb f (suc (1 + 0 + lo)) (omega arith))

      P-false : (i : ℕ) → i < E - 1 → at vs (E + i) ≡ false
      P-false i m = v.soon i m ∙ go (leb (2 + i) l) refl
        where
          go : (c : Bool) → leb (2 + i) l ≡ c → (τ (Y a (2 + i)) && (ltb f (suc (2 + i + lo)) && true)) ≡ false
          go true q =
              let n = leb-true (2 + i) l q in
              rw (le-ltb f (suc (2 + i + lo)) (omega arith)) (and-false (τ (Y a (2 + i))))
          go false q =
              let n = leb-false (2 + i) l q in
              rw (last.none (2 + i) n (omega arith))

      Q-false : (i : ℕ) → i < L → at vs (before_q T lo hi + i) ≡ false
      Q-false i m = v.slow i m ∙ go (leb (suc (1 + i)) l) refl
        where
          go : (c : Bool) → leb (suc (1 + i)) l ≡ c → (not (ltb f (suc (1 + (1 + i + hi - lo) + lo))) && (not c && true)) ≡ false
          go true q = and-false (not (ltb f (suc (1 + (1 + i + hi - lo) + lo))))
          go false q =
              let n = leb-false (suc (1 + i)) l q in
              rw (lt-ltb f (suc (1 + (1 + i + hi - lo) + lo)) (omega arith))

  -- the values of all nodes before O; where early is 0 the first event takes a time after it
  abbrev after_q : List Bool
  after_q = values_after τ after_g (too_late T lo hi)

  valued : 1 ≤ E → Valued after_q
  valued some =
      let Qs = map Q (from 1 L) in
      rw (Q-values some)
      (record {
        begins = stands-keep after_g Qs 0 1 E F (omega (arith, size-g)) F-last;
        soon = stands-keep after_g Qs E 2 (E - 1) P (omega (arith, size-g)) P-last;
        slow = stands-new after_g (before_q T lo hi) 1 L Q size-g;
      })

  says : Says after_q (not (leb (l + 1 + lo) f && leb f (l + 1 + hi)))
  says = go (leb (l + 1 + lo) f) refl (leb f (l + 1 + hi)) refl
    where
      go : (c : Bool) → leb (l + 1 + lo) f ≡ c → (d : Bool) → leb f (l + 1 + hi) ≡ d → Says after_q (not (c && d))
      go true p true q =
          let x = leb-true (l + 1 + lo) f p in
          let top = first.high in
          in_time after_q (valued (omega (arith, last.low))) x (leb-true f (l + 1 + hi) q)
      go true p false q =
          let x = leb-true (l + 1 + lo) f p in
          let top = first.high in
          too-late after_q (valued (omega (arith, last.low))) x (leb-false f (l + 1 + hi) q)
      go false p d q = soon (leb 1 E) refl
        where
          soon : (c : Bool) → leb 1 E ≡ c → Says after_q true
          soon true e = too-soon after_q (valued (leb-true 1 E e)) (leb-false (l + 1 + lo) f p)
          soon false e =
              let z = leb-false 1 E e in
              either_value after_q ∙ rw (le-leb (suc E) l (omega (arith, last.low)))

  nodes_value : values_after τ [] (gap_outside T a b lo hi).nodes ≡ after_q ++ node_true τ after_q (either_way T a lo hi) ∷ []
  unfolding gap_outside values_after
  nodes_value =
      let O = either_way T a lo hi ∷ [] in
      values_append τ [] (begun T b lo) _
      ∙ rw F-values
      (values_append τ after_f (too_soon T a lo) _
      ∙ rw P-values
      (values_append τ after_p (lasting T a lo hi) _ ∙ rw G-values (values_append τ after_g (too_late T lo hi) O)))

  size-q : length after_q ≡ before_q T lo hi + L
  size-q = length-values τ after_g (too_late T lo hi) ∙ rw (size-g, length-too-late)

  outside-count : count τ (gap_outside T a b lo hi) ≡ cond (leb (l + 1 + lo) f && leb f (l + 1 + hi)) 0 1
  unfolding count trues gap_outside
  outside-count =
      rw (nodes_value, value-last after_q (node_true τ after_q (either_way T a lo hi)) (before_q T lo hi + L) size-q, says)
      (go (leb (l + 1 + lo) f && leb f (l + 1 + hi)))
    where
      go : (c : Bool) → cond (not c) 1 0 + 0 ≡ cond c 0 1
      go true = refl
      go false = refl

pub precedence-charged : (T : ℕ) (dur : ℕ → ℕ) (us group : ℕ → List ℕ) (τ : Atom → Bool) (a b lo hi : ℕ)
    → 1 ≤ length (times_taken T τ a) → 1 ≤ length (times_taken T τ b)
    → deviations τ (rules_of T dur us group (precedence a b lo hi)) ≡ cond (gap_within T τ a b lo hi) 0 1
unfolding counted_of gap_within
precedence-charged T dur us group τ a b lo hi p q =
    let l = gap_outside T a b lo hi in
    one-charged τ 0 0 l ∙ deviation-zero (count τ l)
    ∙ outside-count T τ a b lo hi (first_time T τ b) (last_time T τ a) (first_of τ b 1 T q) (last_of τ a 1 T p)

-- every event of an accepted instance that keeps a timetable's rules takes a time
pub accepted-taken : (file : List ℕ) (i : Instance) (τ : Atom → Bool) (e : ℕ) → Accepted file i → 1 ≤ e → e ≤ length i.events
    → event_right i τ e (event_of i.events e) ≡ true → 1 ≤ length (times_taken i.times τ e)
accepted-taken file i τ e a l h r =
    let v = All-at (ValidEvent i.times i.resources) (record { duration = 0; resources = [] }) i.events (e - 1) (omega arith)
    (accepted-valid file i a).events in
    right-taken i τ e (event_of i.events e) r v.duration.low
