-- At the extension of a timetable's bytes the formula is worth the timetable's score.
use mathlib.Core.Path.{◌≡◌, refl, sym, ap, ap₂, ◌∙◌}
use mathlib.Core.Bool.{Bool, true, false, not, ◌||◌, and-eq-true_iff}
use mathlib.Core.List.{List, [], ◌∷◌, ◌++◌, map, flat_map}
use mathlib.Core.Option.{none}
use Prim.Native.Nat.{ℕ, zero, suc, ◌+◌, ◌*◌, ◌≤◌}
use native.Mathlib.Nat.{zero-add}
use native.Mathlib.Omega.{arith}
use lib.ListN.{length}
use Rattle.laws.specs.Taut.{taut}
use Rattle.laws.specs.Lists.{All, All-weaken}
use Rattle.scope.specs.Kinds.{Atom, Y, S, X, up_to, users}
use Rattle.scope.specs.Instance.{Instance}
use Rattle.scope.specs.Cnf.{Assignment, bit, neg, lit, clause, gate, soft_units, falsified}
use Rattle.scope.specs.Score.{var, truth, event_count, taken_before, start_right, first_wrong, infeasibility_of, objective_of}
use Rattle.scope.specs.Formula.{num, y_before, start_items, starts, uses, rules_items, all_rules, primary, formula}
use Rattle.theory.specs.Accepted.{Within, ValidInstance}
use Rattle.theory.proofs.laws.Gates.{lit_pos, lit_neg, clause_append, clause_any}
use Rattle.theory.proofs.laws.Circuit.{Holds}
use Rattle.theory.proofs.laws.Extension.{bit-append}
use Rattle.theory.proofs.laws.Costs.{Scores, Scores-same, Scores-append, Scores-gates, Scores-flatMap}
use Rattle.theory.proofs.laws.Values.{Agrees}
use Rattle.theory.proofs.laws.Rules.{weighed, rules_score}
use Rattle.theory.proofs.laws.KindRules.{InRange, users-within, times_within, events-within, all_rules-valid}
use Rattle.theory.proofs.laws.Charges.{StartsRight, score_hard, score_cost}
use Rattle.theory.proofs.laws.Variables.{place-within, use_holds, atoms_end, formula_parts, formula_holds}

-- the items of starts, where the variables of Y and S say whether they are true
module _ (i : Instance) (ν : Assignment) (τ : Atom → Bool)
    (agrees : (a : Atom) → InRange i a → Agrees (num i) ν τ a) where
  pair_clause : (a b : ℕ) → clause ν (a ∷ b ∷ []) ≡ lit ν a || lit ν b
  unfolding clause
  pair_clause a b = taut 2 (λ a b. a || (b || false)) (λ a b. a || b) tt (lit ν a) (lit ν b)

  before_agrees : (e t : ℕ) → Within 1 (length i.events) e → Within 1 i.times t
      → clause ν (y_before i e t) ≡ taken_before i τ e t
  unfolding clause
  before_agrees e zero a b = refl
  before_agrees e (suc zero) a b = refl
  before_agrees e (suc (suc t)) a b =
      rw (agrees (Y e (suc t)) (a, record { low = omega arith; high = omega (arith, b.high) }))
      (taut 1 (λ a. a || false) (λ a. a) tt (τ (Y e (suc t))))

  start_score : (e t : ℕ) → Within 1 (length i.events) e → Within 1 i.times t
      → Scores ν (start_items i e t) (start_right i τ e t ≡ true) 0
  unfolding soft_units falsified
  start_score e t a b =
      let y = agrees (Y e t) (a, b) in
      let s = agrees (S e t) (a, b) in
      let not-s = lit_neg ν (var i (S e t)) ∙ ap not (sym (lit_pos ν (var i (S e t))) ∙ s) in
      let not-y = lit_neg ν (var i (Y e t)) ∙ ap not (sym (lit_pos ν (var i (Y e t))) ∙ y) in
      let first =
      pair_clause (num i (Y e t)) (neg (var i (S e t))) ∙ ap₂ (λ a b. a || b) y not-s
      ∙ taut 2 (λ y s. y || not s) (λ y s. not s || y) tt (τ (Y e t)) (τ (S e t)) in
      let pair = pair_clause (neg (var i (Y e t))) (num i (S e t)) ∙ ap₂ (λ a b. a || b) not-y s in
      let second =
      clause_append ν (y_before i e t) (neg (var i (Y e t)) ∷ num i (S e t) ∷ [])
      ∙ ap₂ (λ a b. a || b) (before_agrees e t a b) pair
      ∙ taut 3 (λ y s p. p || (not y || s)) (λ y s p. not y || p || s) tt (τ (Y e t)) (τ (S e t)) (taken_before i τ e t) in
      let both = and-eq-true_iff (not (τ (S e t)) || τ (Y e t)) (not (τ (Y e t)) || taken_before i τ e t || τ (S e t)) in
      record {
        keeps = (
          λ k. both.1 (sym first ∙ k.0, sym second ∙ k.1.0),
          λ r. let p = both.0 r in (first ∙ p.0, (second ∙ p.1, tt)),
        );
        costs = refl;
      }

  -- the clauses of all starts hold exactly where all starts are right
  pub starts_score : Scores ν (starts i) (All (StartsRight i τ) (up_to (event_count i))) 0
  unfolding starts
  starts_score =
      Scores-flatMap ν (StartsRight i τ) (λ e. flat_map (start_items i e) (up_to i.times)) (up_to (event_count i))
      (All-weaken _ _
      (λ e a.
      Scores-flatMap ν _ (start_items i e) (up_to i.times)
      (All-weaken _ _ (λ t b. start_score e t a b) (up_to i.times) (times_within i)))
      (up_to (event_count i)) (events-within i))

-- the bytes of a timetable, with more bytes after them
module _ (i : Instance) (v : ValidInstance i) (t rest : List ℕ) (size : length t ≡ primary i) where
  abbrev ν : Assignment
  ν = bit (t ++ rest)

  abbrev τ : Atom → Bool
  τ = truth i t

  -- a variable among the bytes
  inner : (u : ℕ) → u ≤ primary i → lit ν (2 * u) ≡ bit t u
  inner u h = lit_pos ν u ∙ sym (bit-append t rest u (omega arith))

  taken_agrees : (e s : ℕ) → Within 1 (length i.events) e → Within 1 i.times s
      → lit ν (num i (Y e s)) ≡ bit t (var i (Y e s))
  taken_agrees e s a b =
      let w = place-within e s (event_count i) i.times a b in
      inner (var i (Y e s)) (omega (arith, w.high))

  -- the variables of atoms in range say whether they are true
  atoms_agree : Holds ν (primary i + 1) (map gate (uses i)) → (a : Atom) → InRange i a → Agrees (num i) ν τ a
  unfolding truth
  atoms_agree h (Y e s) r = taken_agrees e s r.0 r.1
  atoms_agree h (S e s) r =
      let w = place-within e s (event_count i) i.times r.0 r.1 in
      inner (var i (S e s)) (omega (arith, w.high))
  atoms_agree h (X x s) r =
      let us = users x i.events in
      lit_pos ν (var i (X x s)) ∙ use_holds i ν h x s r.0 r.1
      ∙ clause_any ν (λ e. num i (Y e s)) (λ e. bit t (var i (Y e s))) us
      (All-weaken _ _ (λ e a. taken_agrees e s a r.1) us (users-within i x))

  -- the hard clauses hold exactly where each event is right and the infeasibility is 0; the false soft units weigh the objective
  pub formula_score : Holds ν (primary i + 1) (formula i)
      → Scores ν (formula i) ((first_wrong i τ 1 i.events ≡ none) × (infeasibility_of i τ i.constraints ≡ 0))
      (objective_of i τ i.constraints)
  unfolding bit
  formula_score h =
      let rs = rules_items (num i) (all_rules i) (atoms_end i) in
      let p = formula_holds i ν h in
      let agree = atoms_agree p.0 in
      let valid = all_rules-valid i v (Agrees (num i) ν τ) agree in
      let s = Scores-gates ν (uses i) rs (rules_score (num i) ν refl τ (all_rules i) (atoms_end i) valid p.1) in
      rw (formula_parts, ← score_cost i τ, ← zero-add (weighed τ (all_rules i)))
      (Scores-same ν (score_hard i τ v.events)
      (Scores-append ν (starts i) (map gate (uses i) ++ rs) (starts_score i ν τ agree) s))
