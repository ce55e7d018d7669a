-- What the rules charge is the score: the rules of constraints give infeasibility and objective, and those of durations, with
-- the starts, whether each event is right.
use mathlib.Core.Path.{◌≡◌, refl, sym, ap, ap₂, ◌∙◌}
use mathlib.Core.Bool.{Bool, true, cond, and-eq-true_iff}
use mathlib.Core.Logic.{◌↔◌}
use mathlib.Core.List.{List, [], ◌∷◌, ◌++◌, map, flat_map}
use mathlib.Core.Option.{none}
use Prim.Native.Nat.{ℕ, zero, suc, ◌+◌, ◌*◌, ◌≤◌, min}
use native.Mathlib.Nat.{zero-add, add_assoc, mul-add, mul-zero, zero-mul}
use native.Mathlib.Omega.{arith}
use lib.Dec.{eqb, eqb-suc-zero}
use lib.ListN.{length, length-map}
use borrow.Author.Tests.{eqb-true, eq-eqb}
use Rattle.laws.specs.Booleans.{cond-none}
use Rattle.laws.specs.Lists.{All, All-append, All-split}
use Rattle.scope.specs.Kinds.{Event, Constraint, Atom, Y, Rule, rule, between, entries, entries_members, from, up_to, takes_at}
use Rattle.scope.specs.Instance.{Instance}
use Rattle.scope.specs.Score.{trues, all, charged, deviations, event_count, rules, start_right, event_right, first_wrong, infeasibility_of, objective_of}
use Rattle.scope.specs.Formula.{duration_rules, constraint_rules, all_rules}
use Rattle.theory.specs.Accepted.{ValidEvent}
use Rattle.theory.proofs.laws.Bounds.{deviation-parts}
use Rattle.theory.proofs.laws.Ranges.{length_from_lem}
use Rattle.theory.proofs.laws.Nodes.{length-members}
use Rattle.theory.proofs.laws.Entries.{entry_true, entries_count}
use Rattle.theory.proofs.laws.Rules.{charge, Kept, weighed}

pub all_true : {A : Type 0} (f : A → Bool) (xs : List A) → (all (map f xs) ≡ true) ↔ All (λ x. f x ≡ true) xs
unfolding all
all_true f [] = (λ _. tt, λ _. refl)
all_true f (x ∷ xs) =
    let b = and-eq-true_iff (f x) (all (map f xs)) in
    let ih = all_true f xs in
    (λ e. ((b.0 e).0, ih.0 (b.0 e).1), λ h. b.1 (h.0, ih.1 h.1))

module _ (i : Instance) (τ : Atom → Bool) where
  weighed_append : (rs qs : List (ℕ × Rule)) → weighed τ (rs ++ qs) ≡ weighed τ rs + weighed τ qs
  unfolding weighed
  weighed_append [] qs = sym (zero-add (weighed τ qs))
  weighed_append (r ∷ rs) qs = rw (weighed_append rs qs, add_assoc)

  -- rules of one weight
  hard_kept : (rs : List Rule) → All (Kept τ) (map (λ r. (0, r)) rs) ↔ (deviations τ rs ≡ 0)
  unfolding deviations
  hard_kept [] = (λ _. refl, λ _. tt)
  hard_kept (r ∷ rs) =
      let ih = hard_kept rs in
      (λ h. omega (arith, h.0 refl, ih.0 h.1), λ e. (λ _. omega arith, ih.1 (omega arith)))

  soft_kept : (w : ℕ) (rs : List Rule) → All (Kept τ) (map (λ r. (suc w, r)) rs)
  soft_kept w [] = tt
  soft_kept w (r ∷ rs) = (λ e. let f : ⊥ = omega arith in absurd f, soft_kept w rs)

  weight_kept : (w : ℕ) (rs : List Rule) → All (Kept τ) (map (λ r. (w, r)) rs) ↔ (cond (eqb w 0) (deviations τ rs) 0 ≡ 0)
  weight_kept zero rs = hard_kept rs
  weight_kept (suc w) rs = rw (eqb-suc-zero w) (λ _. refl, λ _. soft_kept w rs)

  weight_weighed : (w : ℕ) (rs : List Rule) → weighed τ (map (λ r. (w, r)) rs) ≡ w * deviations τ rs
  unfolding weighed deviations
  weight_weighed w [] = sym (mul-zero w)
  weight_weighed w (r ∷ rs) = rw (weight_weighed w rs, mul-add)

  -- the constraints
  constraints_kept : (cs : List Constraint) → All (Kept τ) (constraint_rules i cs) ↔ (infeasibility_of i τ cs ≡ 0)
  unfolding constraint_rules infeasibility_of flat_map
  constraints_kept [] = (λ _. refl, λ _. tt)
  constraints_kept (c ∷ cs) =
      let rs : List (ℕ × Rule) = map (λ r. (c.weight, r)) (rules i c) in
      let w = weight_kept c.weight (rules i c) in
      let ih = constraints_kept cs in (
        λ h. let p = All-split (Kept τ) rs (constraint_rules i cs) h in omega (arith, w.0 p.0, ih.0 p.1),
        λ e. All-append (Kept τ) rs (constraint_rules i cs) (w.1 (omega arith)) (ih.1 (omega arith)),
      )

  constraints_weighed : (cs : List Constraint) → weighed τ (constraint_rules i cs) ≡ objective_of i τ cs
  unfolding constraint_rules objective_of flat_map weighed
  constraints_weighed [] = refl
  constraints_weighed (c ∷ cs) =
      weighed_append (map (λ r. (c.weight, r)) (rules i c)) (constraint_rules i cs)
      ∙ ap₂ (λ a b. a + b) (weight_weighed c.weight (rules i c)) (constraints_weighed cs)

  -- the durations
  durations_weighed : (e : ℕ) (vs : List Event) → weighed τ (duration_rules i e vs) ≡ 0
  unfolding duration_rules weighed
  durations_weighed e [] = refl
  durations_weighed e (v ∷ vs) = rw (durations_weighed (suc e) vs, zero-mul)

  taken : (e : ℕ) (ts : List ℕ) → map (entry_true τ) (takes_at e ts) ≡ map (λ t. τ (Y e t)) ts
  unfolding entry_true
  taken e [] = refl
  taken e (t ∷ ts) = ap (λ bs. τ (Y e t) ∷ bs) (taken e ts)

  abbrev duration_rule : ℕ → ℕ → Rule
  duration_rule e d = rule (between d d []) (entries (takes_at e (up_to i.times)))

  -- an event takes its duration exactly where its rule charges nothing
  duration_kept : (e d : ℕ) → d ≤ i.times
      → (charge τ (duration_rule e d) ≡ 0) ↔ (trues (map (λ t. τ (Y e t)) (up_to i.times)) ≡ d)
  unfolding charged
  duration_kept e d h =
      let n : length (entries_members (takes_at e (up_to i.times)) 0) ≡ i.times = rw (length-members, length-map, length_from_lem) in
      let c = trues (map (λ t. τ (Y e t)) (up_to i.times)) in
      let m : min d i.times ≡ d = omega arith in
      let p = deviation-parts d d c (omega arith) in
      rw (entries_count, taken e (up_to i.times), n, m) (λ z. omega (arith, p), λ z. omega (arith, p))

  -- the starts of an event
  abbrev pub StartsRight : ℕ → Type 0
  StartsRight e = All (λ t. start_right i τ e t ≡ true) (up_to i.times)

  event-right : (e : ℕ) (v : Event) → v.duration ≤ i.times
      → (event_right i τ e v ≡ true)
      ↔ (StartsRight e × (charge τ (duration_rule e v.duration) ≡ 0))
  unfolding event_right
  event-right e v h =
      let d = v.duration in
      let c = trues (map (λ t. τ (Y e t)) (up_to i.times)) in
      let s = all_true (start_right i τ e) (up_to i.times) in
      let k = duration_kept e d h in
      let b = and-eq-true_iff (eqb c d) (all (map (start_right i τ e) (up_to i.times))) in
      (λ x. (s.0 (b.0 x).1, k.1 (eqb-true c d (b.0 x).0)), λ p. b.1 (eq-eqb c d (k.0 p.1), s.1 p.0))

  -- each event is right exactly where its starts are and its rule charges nothing
  events_right : (e : ℕ) (vs : List Event) → All (ValidEvent i.times i.resources) vs
      → (All StartsRight (from e (length vs)) × All (Kept τ) (duration_rules i e vs)) ↔ (first_wrong i τ e vs ≡ none)
  unfolding duration_rules first_wrong from
  events_right e [] a = (λ _. refl, λ _. (tt, tt))
  events_right e (v ∷ vs) a =
      let c = cond-none (event_right i τ e v) e (first_wrong i τ (suc e) vs) in
      let r = event-right e v a.0.duration.high in
      let ih = events_right (suc e) vs a.1 in (
        λ p. c.1 (r.1 (p.0.0, p.1.0 refl), ih.0 (p.0.1, p.1.1)),
        λ n. let s = r.0 (c.0 n).0 in let t = ih.1 (c.0 n).1 in ((s.0, t.0), (λ _. s.1, t.1)),
      )

  -- all of it: the hard part and the cost
  pub score_hard : All (ValidEvent i.times i.resources) i.events
      → (All StartsRight (up_to (event_count i)) × All (Kept τ) (all_rules i))
      ↔ ((first_wrong i τ 1 i.events ≡ none) × (infeasibility_of i τ i.constraints ≡ 0))
  score_hard a =
      let ds = duration_rules i 1 i.events in
      let cs = constraint_rules i i.constraints in
      let e = events_right 1 i.events a in
      let c = constraints_kept i.constraints in (
        λ h. let p = All-split (Kept τ) ds cs h.1 in (e.0 (h.0, p.0), c.0 p.1),
        λ h. let p = e.1 h.0 in (p.0, All-append (Kept τ) ds cs p.1 (c.1 h.1)),
      )

  -- and the cost
  pub score_cost : weighed τ (all_rules i) ≡ objective_of i τ i.constraints
  score_cost =
      weighed_append (duration_rules i 1 i.events) (constraint_rules i i.constraints)
      ∙ rw (durations_weighed 1 i.events, constraints_weighed i.constraints, zero-add)
