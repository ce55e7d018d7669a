-- What kind 3 counts: in a timetable the members of its list that are true are the times held by a subevent that starts outside
-- the group. No other time is held so, since no subevent is longer than the event's duration.
use mathlib.Core.Path.{subst}
use mathlib.Core.Path.{◌≡◌, refl, sym, ap, ap₂, ◌∙◌}
use mathlib.Core.Bool.{Bool, true, false, not, cond, ◌&&◌, ◌||◌, and-true, or-false, and-eq-true_iff, false≢true}
use mathlib.Core.List.{List, [], ◌∷◌, ◌++◌, map}
use Prim.Native.Nat.{ℕ, zero, suc, ◌+◌, ◌-◌, ◌≤◌, ◌<◌}
use native.Mathlib.Nat.{zero-add}
use native.Mathlib.Omega.{arith}
use lib.Dec.{eqb}
use lib.ListN.{length, get_or}
use borrow.Author.Tests.{le-leb, lt-leb, eqb-true}
use Rattle.laws.specs.Lists.{All, All-at}
use Rattle.scope.specs.Kinds.{Event, event_of, duration_of, users, group_at, Atom, Y, S, Ref, is, an_atom, a_node, Node, preferred, from, up_to, member, goes_on, Reach, started, carried, both, reached, reach_ref, reach_nodes, reach_added, reaches_nodes, reaches_members, from_outside, counted_of, rules_of}
use Rattle.scope.specs.Instance.{Instance}
use Rattle.scope.specs.Score.{trues, any, all, deviation, ref_true, values_after, count, deviations, rules, start_right, event_right}
use Rattle.scope.specs.Subevents.{before, held_from, times_held, lengths_from}
use Rattle.scope.specs.Demands.{outside_group}
use Rattle.theory.proofs.laws.Ranges.{length_from_lem, get_d-from}
use Rattle.theory.proofs.laws.Lowered.{deviation-zero}
use Rattle.theory.proofs.laws.Values.{length_more, length-values, values_append, values_keep, value-last}
use Rattle.theory.proofs.laws.Subevents.{one-charged}
use Rattle.theory.proofs.laws.Charges.{all_true}

-- a start is a taken time: y taken, s a start, h whether the time before is held; no subevent goes on where none is near enough
skipped : (y s h : Bool) → (y && (not s && h)) ≡ false → (y && cond s false h) ≡ false
skipped true true h e = refl
skipped true false h e = e
skipped false s h e = refl

started-held : (y s h : Bool) → (s ≡ true → y ≡ true) → (y && (not s && h)) ≡ false → s ≡ (y && cond s true h)
started-held true true h t e = refl
started-held true false h t e = sym e
started-held false true h t e = sym (t refl)
started-held false false h t e = refl

carried-held : (y s h : Bool) → (h && (y && (not s && true))) ≡ (y && cond s false h)
carried-held true true true = refl
carried-held true true false = refl
carried-held true false true = refl
carried-held true false false = refl
carried-held false s true = refl
carried-held false s false = refl

both-held : (y s h : Bool) → (s ≡ true → y ≡ true) → (s || (h && (y && (not s && true)))) ≡ (y && cond s true h)
both-held true true h t = refl
both-held true false true t = refl
both-held true false false t = refl
both-held false true h t = sym (t refl)
both-held false false true t = refl
both-held false false false t = refl

-- a time that is held is taken
held-takes : (y s x h : Bool) → (y && cond s x h) ≡ true → y ≡ true
held-takes true s x h e = refl
held-takes false s x h e = e

-- a time in the group that is held goes on from one that is
held-before : (y s h : Bool) → (y && cond s false h) ≡ true → h ≡ true
held-before true true h e = absurd (false≢true e)
held-before true false h e = e
held-before false s h e = absurd (false≢true e)

-- a time that goes on from one that is held: so many times were taken before it, and at most d are in all
far : (y s h : Bool) (c d rest : ℕ) → (h ≡ true → d ≤ c) → c + (cond y 1 0 + rest) ≤ d → (y && (not s && h)) ≡ false
far true true h c d rest p q = refl
far true false true c d rest p q = let l = p refl in let f : ⊥ = omega arith in absurd f
far true false false c d rest p q = refl
far false s h c d rest p q = refl

-- a time of those that there are
held-here : (T : ℕ) (τ : Atom → Bool) (e : ℕ) (such : ℕ → Bool) (u : ℕ) → suc u ≤ T
    → held_from T τ e such (suc u) ≡ (τ (Y e (suc u)) && cond (τ (S e (suc u))) (such (suc u)) (held_from T τ e such u))
unfolding held_from
held-here T τ e such u h = rw (le-leb (suc u) T h)

module _ (T : ℕ) (τ : Atom → Bool) (e : ℕ) (d : ℕ) (g : List ℕ) where
  abbrev such : ℕ → Bool
  such t = not (member t g)

  -- a reference has this value, whatever nodes follow
  abbrev Stands : List Bool → Ref → Bool → Type 0
  Stands vs p b = (ms : List Node) → ref_true τ (values_after τ vs ms) p ≡ b

  -- M's value
  abbrev goes : ℕ → Bool
  goes t = τ (Y e t) && (not (τ (S e t)) && true)

  -- C and D, where the reference of the time before has the value b
  carried_stands : (t : ℕ) (vs : List Bool) (k : ℕ) (p : Ref) (b : Bool) → length vs ≡ k → Stands vs p b
      → Stands (values_after τ vs (reach_nodes e (carried t) k p)) (is (a_node (k + 1))) (b && goes t)
  unfolding values_after all
  carried_stands t vs k p b l h ms =
      let ws = vs ++ goes t ∷ [] in
      let c = ref_true τ ws p && (get_or ws k false && true) in
      values_keep τ (ws ++ c ∷ []) ms (k + 1) (omega (arith, length_more vs (goes t), length_more ws c))
      ∙ value-last ws c (k + 1) (length_more vs (goes t) ∙ omega arith)
      ∙ ap₂ ◌&&◌ (h (goes_on e t ∷ [])) (and-true (get_or ws k false) ∙ value-last vs (goes t) k l)

  both_stands : (t : ℕ) (vs : List Bool) (k : ℕ) (p : Ref) (b : Bool) → length vs ≡ k → Stands vs p b
      → Stands (values_after τ vs (reach_nodes e (both t) k p)) (is (a_node (k + 2))) (τ (S e t) || (b && goes t))
  unfolding values_after any all
  both_stands t vs k p b l h ms =
      let ws = vs ++ goes t ∷ [] in
      let c = ref_true τ ws p && (get_or ws k false && true) in
      let us = ws ++ c ∷ [] in
      let r = τ (S e t) || (get_or us (k + 1) false || false) in
      let lw = length_more vs (goes t) in
      let lu = length_more ws c in
      values_keep τ (us ++ r ∷ []) ms (k + 2) (omega (arith, lw, lu, length_more us r))
      ∙ value-last us r (k + 2) (omega (arith, lw, lu))
      ∙ ap (◌||◌ (τ (S e t))) (or-false (get_or us (k + 1) false) ∙ carried_stands t vs k p b l h [])

  -- the list of so many times after u: `near` of them can be reached, c times up to u are taken
  abbrev held : ℕ → Bool
  held t = held_from T τ e such t

  abbrev list_count : (ts : List ℕ) (near : ℕ) (vs : List Bool) (k : ℕ) (p : Ref) → ℕ
  list_count ts near vs k p =
      let xs = reached d g near ts in
      trues (map (ref_true τ (values_after τ vs (reaches_nodes e xs k p))) (reaches_members e xs k))

  -- one that is reached, and those after it
  one_more : (x : Reach) (xs : List Reach) (vs : List Bool) (k : ℕ) (p : Ref) (b : Bool)
      → Stands (values_after τ vs (reach_nodes e x k p)) (reach_ref e x k) b → (rest : ℕ)
      → trues (map (ref_true τ (values_after τ (values_after τ vs (reach_nodes e x k p)) (reaches_nodes e xs (k + reach_added x) (reach_ref e x k)))) (reaches_members e xs (k + reach_added x))) ≡ rest
      → trues (map (ref_true τ (values_after τ vs (reaches_nodes e (x ∷ xs) k p))) (reaches_members e (x ∷ xs) k)) ≡ cond b 1 0 + rest
  unfolding reaches_nodes reaches_members trues
  one_more x xs vs k p b h rest q =
      let ms = reaches_nodes e xs (k + reach_added x) (reach_ref e x k) in
      subst
      (λ (us : List Bool). trues (map (ref_true τ us) (reach_ref e x k ∷ reaches_members e xs (k + reach_added x))) ≡ cond b 1 0 + rest)
      (sym (values_append τ vs (reach_nodes e x k p) ms))
      (ap₂ ◌+◌ (ap (λ v. cond v 1 0) (h ms)) q)

  module _ (starts : (t : ℕ) → 1 ≤ t → t ≤ T → τ (S e t) ≡ true → τ (Y e t) ≡ true) where
    -- what is known before the times after u: where the time u is held, as many as can be reached are near
    record Before (u near c : ℕ) (vs : List Bool) (k : ℕ) (p : Ref) : Type 0 where
      size : length vs ≡ k
      value : 0 < near → Stands vs p (held u)
      room : held u ≡ true → d ≤ c + near

    -- the time after u, where the times after it are counted right
    module _ (u n c : ℕ) (inside : suc u ≤ T)
        (few : c + (cond (τ (Y e (suc u))) 1 0 + trues (map (λ t. τ (Y e t)) (from (suc (suc u)) n))) ≤ d)
        (later : (near c : ℕ) (vs : List Bool) (k : ℕ) (p : Ref) → Before (suc u) near c vs k p
        → c + trues (map (λ t. τ (Y e t)) (from (suc (suc u)) n)) ≤ d
        → list_count (from (suc (suc u)) n) near vs k p ≡ trues (map held (from (suc (suc u)) n))) where
      abbrev y : Bool
      y = τ (Y e (suc u))

      abbrev s : Bool
      s = τ (S e (suc u))

      start : s ≡ true → y ≡ true
      start q = starts (suc u) (omega arith) inside q

      held_next : (m : Bool) → member (suc u) g ≡ m → held (suc u) ≡ (y && cond s (not m) (held u))
      held_next m q = rw (← q) (held-here T τ e such u inside)

      fewer : c + cond y 1 0 + trues (map (λ t. τ (Y e t)) (from (suc (suc u)) n)) ≤ d
      fewer = omega (arith, few)

      -- after a time outside that is held d − 1 more can be reached
      room_outside : (m : Bool) → member (suc u) g ≡ m → held (suc u) ≡ true → d ≤ c + cond y 1 0 + (d - 1)
      room_outside m q h = let a = held-takes y s (not m) (held u) (sym (held_next m q) ∙ h) in rw a (omega arith)

      -- no time can be reached
      unreached : (vs : List Bool) (k : ℕ) (p : Ref) → Before u 0 c vs k p
          → list_count (from (suc u) (suc n)) 0 vs k p ≡ trues (map held (from (suc u) (suc n)))
      unfolding from reached trues values_after
      unreached vs k p b = by (member (suc u) g) refl
        where
          none : (y && (not s && held u)) ≡ false
          none = far y s (held u) c d (trues (map (λ t. τ (Y e t)) (from (suc (suc u)) n))) (λ h. omega (arith, b.room h)) few

          by : (m : Bool) → member (suc u) g ≡ m
              → trues
              (map (ref_true τ (values_after τ vs (reaches_nodes e (cond m (reached d g zero (from (suc (suc u)) n)) (started (suc u) ∷ reached d g (d - 1) (from (suc (suc u)) n))) k p)))
              (reaches_members e (cond m (reached d g zero (from (suc (suc u)) n)) (started (suc u) ∷ reached d g (d - 1) (from (suc (suc u)) n))) k))
              ≡ cond (held (suc u)) 1 0 + trues (map held (from (suc (suc u)) n))
          by true q =
              let z : held (suc u) ≡ false = held_next true q ∙ skipped y s (held u) none in
              rw (z, zero-add)
              (later 0 (c + cond y 1 0) vs k p
              (record { size = b.size; value = λ l. let f : ⊥ = omega arith in absurd f; room = λ h. absurd (false≢true (sym z ∙ h)) })
              fewer)
          by false q =
              let z : s ≡ held (suc u) = started-held y s (held u) start none ∙ sym (held_next false q) in
              rw (← z)
              (one_more (started (suc u)) (reached d g (d - 1) (from (suc (suc u)) n)) vs k p s (λ ms. refl) _
              (later (d - 1) (c + cond y 1 0) vs (k + 0) (is (an_atom (S e (suc u))))
              (record { size = b.size ∙ omega arith; value = λ l ms. z; room = room_outside false q })
              fewer))

      -- some can
      near_reached : (m : ℕ) (vs : List Bool) (k : ℕ) (p : Ref) → Before u (suc m) c vs k p
          → list_count (from (suc u) (suc n)) (suc m) vs k p ≡ trues (map held (from (suc u) (suc n)))
      unfolding from reached trues
      near_reached j vs k p b = by (member (suc u) g) refl
        where
          value : Stands vs p (held u)
          value = b.value (omega arith)

          by : (m : Bool) → member (suc u) g ≡ m
              → trues
              (map (ref_true τ (values_after τ vs (reaches_nodes e (cond m (carried (suc u) ∷ reached d g j (from (suc (suc u)) n)) (both (suc u) ∷ reached d g (d - 1) (from (suc (suc u)) n))) k p)))
              (reaches_members e (cond m (carried (suc u) ∷ reached d g j (from (suc (suc u)) n)) (both (suc u) ∷ reached d g (d - 1) (from (suc (suc u)) n))) k))
              ≡ cond (held (suc u)) 1 0 + trues (map held (from (suc (suc u)) n))
          by true q =
              let z : (held u && goes (suc u)) ≡ held (suc u) = carried-held y s (held u) ∙ sym (held_next true q) in
              let stands = carried_stands (suc u) vs k p (held u) b.size value in
              let ws = values_after τ vs (reach_nodes e (carried (suc u)) k p) in
              rw (← z)
              (one_more (carried (suc u)) (reached d g j (from (suc (suc u)) n)) vs k p (held u && goes (suc u)) stands _
              (later j (c + cond y 1 0) ws (k + 2) (is (a_node (k + 1)))
              (record {
                size = length-values τ vs (reach_nodes e (carried (suc u)) k p) ∙ omega (arith, b.size);
                value = λ l ms. stands ms ∙ z;
                room = λ h.
                    let a = held-takes y s false (held u) (sym (held_next true q) ∙ h) in
                    let r = b.room (held-before y s (held u) (sym (held_next true q) ∙ h)) in
                    rw a (omega arith);
              })
              fewer))
          by false q =
              let z : (s || (held u && goes (suc u))) ≡ held (suc u) = both-held y s (held u) start ∙ sym (held_next false q) in
              let stands = both_stands (suc u) vs k p (held u) b.size value in
              let ws = values_after τ vs (reach_nodes e (both (suc u)) k p) in
              rw (← z)
              (one_more (both (suc u)) (reached d g (d - 1) (from (suc (suc u)) n)) vs k p (s || (held u && goes (suc u))) stands _
              (later (d - 1) (c + cond y 1 0) ws (k + 3) (is (a_node (k + 2)))
              (record {
                size = length-values τ vs (reach_nodes e (both (suc u)) k p) ∙ omega (arith, b.size);
                value = λ l ms. stands ms ∙ z;
                room = room_outside false q;
              })
              fewer))

    counted : (n u near c : ℕ) (vs : List Bool) (k : ℕ) (p : Ref) → u + n ≡ T → Before u near c vs k p
        → c + trues (map (λ t. τ (Y e t)) (from (suc u) n)) ≤ d
        → list_count (from (suc u) n) near vs k p ≡ trues (map held (from (suc u) n))
    unfolding from reached reaches_nodes reaches_members trues
    counted zero u near c vs k p l b w = refl
    counted (suc n) u zero c vs k p l b w =
        unreached u n c (omega arith) w (λ near c vs k p. counted n (suc u) near c vs k p (omega arith)) vs k p b
    counted (suc n) u (suc j) c vs k p l b w =
        near_reached u n c (omega arith) w (λ near c vs k p. counted n (suc u) near c vs k p (omega arith)) j vs k p b

    -- the whole list, of an event that takes no more than d times
    pub outside-count : trues (map (λ t. τ (Y e t)) (up_to T)) ≡ d → count τ (from_outside T e d g) ≡ times_held T τ e such
    unfolding count from_outside times_held held_from
    outside-count h =
        counted T 0 0 0 [] 0 (is (a_node 0)) (omega arith)
        (record { size = refl; value = λ l. let f : ⊥ = omega arith in absurd f; room = λ q. absurd (false≢true q) }) (omega (arith, h))

-- what a timetable's event satisfies
pub right-takes : (i : Instance) (τ : Atom → Bool) (e : ℕ) (v : Event) → event_right i τ e v ≡ true
    → (trues (map (λ t. τ (Y e t)) (up_to i.times)) ≡ v.duration)
    × ((t : ℕ) → 1 ≤ t → t ≤ i.times → τ (S e t) ≡ true → τ (Y e t) ≡ true)
unfolding event_right
right-takes i τ e v h =
    let c = trues (map (λ t. τ (Y e t)) (up_to i.times)) in
    let b = (and-eq-true_iff (eqb c v.duration) (all (map (start_right i τ e) (up_to i.times)))).0 h in
    let starts = (all_true (start_right i τ e) (up_to i.times)).0 b.1 in
    (eqb-true c v.duration b.0, λ t l m s. taken t (at t l m starts) s)
  where
    at : (t : ℕ) → 1 ≤ t → t ≤ i.times → All (λ u. start_right i τ e u ≡ true) (up_to i.times) → start_right i τ e t ≡ true
    at t l m a =
        let p : 1 + (t - 1) ≡ t = omega arith in
        rw (get_d-from 0 1 i.times (t - 1) (omega arith), p) at
        (All-at (λ u. start_right i τ e u ≡ true) 0 (up_to i.times) (t - 1) (omega (arith, length_from_lem 1 i.times)) a)

    taken : (t : ℕ) → start_right i τ e t ≡ true → τ (S e t) ≡ true → τ (Y e t) ≡ true
    taken t r s = rw s at ((and-eq-true_iff (not (τ (S e t)) || τ (Y e t)) _).0 r).0

-- what kind 3 charges
pub preferred-counts : (T : ℕ) (dur : ℕ → ℕ) (us group : ℕ → List ℕ) (τ : Atom → Bool) (e g : ℕ)
    → trues (map (λ t. τ (Y e t)) (up_to T)) ≡ dur e → ((t : ℕ) → 1 ≤ t → t ≤ T → τ (S e t) ≡ true → τ (Y e t) ≡ true)
    → deviations τ (rules_of T dur us group (preferred e g)) ≡ deviation 0 0 (times_held T τ e (λ t. not (member t (group g))))
unfolding counted_of
preferred-counts T dur us group τ e g h starts =
    one-charged τ 0 0 (from_outside T e (dur e) (group g)) ∙ ap (deviation 0 0) (outside-count T τ e (dur e) (group g) starts h)

-- a time of a subevent: counted by itself, and with the whole length at its start; b times go on after it
one-length : (y s x h : Bool) (b : ℕ) → (s ≡ true → y ≡ true)
    → cond (y && cond s x h) 1 0 + cond (y && cond s x h) b 0 ≡ cond h (cond (not y || s) 0 (suc b)) 0 + cond (s && x) (suc b) 0
one-length true true true true b t = omega arith
one-length true true true false b t = omega arith
one-length true true false true b t = refl
one-length true true false false b t = refl
one-length true false x true b t = omega arith
one-length true false x false b t = refl
one-length false true x h b t = absurd (false≢true (t refl))
one-length false false x true b t = refl
one-length false false x false b t = refl

-- the times that are held, from one on, are the lengths of the subevents that start there, with what is left of the one before
module _ (T : ℕ) (τ : Atom → Bool) (e : ℕ) (such : ℕ → Bool)
    (starts : (t : ℕ) → 1 ≤ t → t ≤ T → τ (S e t) ≡ true → τ (Y e t) ≡ true) where
  held_lengths : (n u : ℕ) → u + n ≡ T
      → trues (map (held_from T τ e such) (from (suc u) n))
      ≡ cond (held_from T τ e such u) (before T τ e (suc u) (suc n)) 0 + lengths_from T τ e such (suc u) n
  unfolding from trues lengths_from before
  held_lengths zero u l = rw (lt-leb (suc u) T (omega arith)) (go (held_from T τ e such u))
    where
      go : (h : Bool) → 0 ≡ cond h 0 0 + 0
      go true = refl
      go false = refl
  held_lengths (suc n) u l =
      let t = suc u in
      let k : T + 1 - t ≡ suc n = omega arith in
      let y = τ (Y e t) in
      let s = τ (S e t) in
      let h = held_from T τ e such u in
      let b = before T τ e (suc t) (suc n) in
      let rest = lengths_from T τ e such (suc t) n in
      let ih : trues (map (held_from T τ e such) (from (suc t) n)) ≡ cond (held_from T τ e such t) b 0 + rest = held_lengths n t (omega arith) in
      let now : held_from T τ e such t ≡ (y && cond s (such t) h) = held-here T τ e such u (omega arith) in
      let q = one-length y s (such t) h b (starts t (omega arith) (omega arith)) in
      rw (k, le-leb t T (omega arith), ih, now) (omega (arith, q))

  pub held_whole : times_held T τ e such ≡ lengths_from T τ e such 1 T
  unfolding times_held held_from
  held_whole = held_lengths T 0 (omega arith) ∙ zero-add (lengths_from T τ e such 1 T)

-- of an instance's event
pub times-charged : (i : Instance) (τ : Atom → Bool) (w e g : ℕ) → event_right i τ e (event_of i.events e) ≡ true
    → deviations τ (rules i (record { weight = w; kind = preferred e g })) ≡ deviation 0 0 (times_held i.times τ e (outside_group i g))
times-charged i τ w e g h =
    let r = right-takes i τ e (event_of i.events e) h in
    preferred-counts i.times (duration_of i.events) (λ r. users r i.events) (group_at i.groups) τ e g r.0 r.1

pub lengths-charged : (i : Instance) (τ : Atom → Bool) (w e g : ℕ) → event_right i τ e (event_of i.events e) ≡ true
    → deviations τ (rules i (record { weight = w; kind = preferred e g })) ≡ lengths_from i.times τ e (outside_group i g) 1 i.times
lengths-charged i τ w e g h =
    times-charged i τ w e g h ∙ deviation-zero (times_held i.times τ e (outside_group i g))
    ∙ held_whole i.times τ e (outside_group i g) (right-takes i τ e (event_of i.events e) h).1
