-- The size of a whole formula and of its tail, constraint by constraint: laws.
use mathlib.Core.Path.{◌≡◌, refl, sym, ap}
use mathlib.Core.List.{List, [], ◌∷◌, ◌++◌, map, flat_map, append-nil, append_assoc}
use Prim.Native.Nat.{ℕ, suc, ◌+◌, ◌≤◌}
use native.Mathlib.Nat.{zero-add}
use native.Mathlib.Omega.{arith}
use lib.ListN.{length, replicate, replicate-append-replicate}
use Rattle.scope.specs.Cnf.{Item, soft_units}
use Rattle.scope.specs.Kinds.{Event, Constraint, Rule, rule, between, entries, up_to, takes_at}
use Rattle.scope.specs.Instance.{Instance}
use Rattle.scope.specs.Score.{event_count, rules}
use Rattle.scope.specs.Text.{sum_weights}
use Rattle.scope.specs.Formula.{words, num, starts, duration_rules, constraint_rules, all_rules, primary, formula, variables, hard_of, soft_of, rules_items, negated, tail, bounded, bounded_variables, bounded_hard}
use Rattle.scope.specs.Operations.{formula_size}
use Rattle.theory.specs.Accepted.{ValidInstance}
use Rattle.theory.proofs.laws.Variables.{atoms_end}
use Rattle.theory.proofs.laws.Costs.{soft_units-append}
use Rattle.sizing.specs.declared.Size.{Size}
use Rattle.sizing.specs.Sums.{none, sum, multiple}
use Rattle.sizing.proofs.laws.Sums.{equal, none-sum, sum-assoc}
use Rattle.measuring.proofs.laws.Measure.{size_at, size_of, size-any, size-append}
use Rattle.measuring.proofs.laws.Rows.{Proper, weights}
use Rattle.sizing.specs.Blocks.{start_clauses, starts_size}
use Rattle.sizing.specs.Whole.{stored}
use Rattle.measuring.proofs.laws.Tail.{tail_size, tail-size, tail-add}
use Rattle.measuring.proofs.laws.Softs.{soft-gates}
use Rattle.measuring.specs.Rules.{rules_size}
use Rattle.measuring.proofs.laws.Rules.{rules_weights, hard-rule, rules-size, rules-weights, rules_proper}
use Rattle.measuring.specs.Blocks.{uses_size, durations_size}
use Rattle.measuring.proofs.laws.Blocks.{starts-size, uses-size, durations-size}
use Rattle.measuring.proofs.laws.Countable.{rules-countable}
use Rattle.measuring.specs.Whole.{weighed_rules, constraint_size, constraints_size, before_size, whole_size, tail_after, tail_of}

-- the size of an instance's formula, by its definitions
unfoldable pub formula_of : Instance → Size
formula_of i =
    record {
      variables = variables i;
      clauses = length (hard_of i);
      words = words (hard_of i);
      units = length (soft_of i);
      weight = sum_weights (soft_of i);
    }

-- rules one after the other
pub rules-append : (rs qs : List (ℕ × Rule)) → rules_size (rs ++ qs) ≡ sum (rules_size rs) (rules_size qs)
unfolding rules_size
rules-append [] qs = sym (none-sum (rules_size qs))
rules-append (r ∷ rs) qs = rw (rules-append rs qs, sum-assoc)

weights-of-append : (rs qs : List (ℕ × Rule)) → rules_weights (rs ++ qs) ≡ rules_weights rs ++ rules_weights qs
unfolding rules_weights
weights-of-append [] qs = refl
weights-of-append (r ∷ rs) qs = rw (weights-of-append rs qs, append_assoc)

-- rules of one weight have soft units of that weight
one-weight : (w : ℕ) (rs : List Rule)
    → rules_weights (map (λ r. (w, r)) rs) ≡ replicate (rules_size (map (λ r. (w, r)) rs)).units w
unfolding rules_weights rules_size none sum
one-weight w [] = refl
one-weight w (r ∷ rs) = rw (one-weight w rs, replicate-append-replicate)

module _ (i : Instance) where
  -- the rules of constraints
  constraints-size : (cs : List Constraint) → rules_size (constraint_rules i cs) ≡ constraints_size i cs
  unfolding constraint_rules constraints_size flat_map rules_size
  constraints-size [] = refl
  constraints-size (c ∷ cs) = rw (rules-append (weighed_rules i c), constraints-size cs)

  -- the tail grows by the soft units of each constraint
  tail-after : (cols : ℕ) → 1 ≤ cols → (ws : List ℕ) (cs : List Constraint)
      → tail_size cols (ws ++ rules_weights (constraint_rules i cs)) ≡ tail_after i cols (tail_size cols ws) cs
  unfolding constraint_rules flat_map tail_after rules_weights
  tail-after cols h ws [] = rw append-nil
  tail-after cols h ws (c ∷ cs) =
      let e = one-weight c.weight (rules i c) in
      let n = (constraint_size i c).units in
      let us = replicate n c.weight in
      let rest = tail-after cols h (ws ++ us) cs in
      rw
      (weights-of-append (weighed_rules i c), e, ← append_assoc ws us, rest, ← tail-add cols ws n c.weight h)

  -- hard rules have no soft units
  durations_weights : (e : ℕ) (vs : List Event) → rules_weights (duration_rules i e vs) ≡ []
  unfolding duration_rules rules_weights
  durations_weights e [] = refl
  durations_weights e (v ∷ vs) =
      let r = rule (between v.duration v.duration []) (entries (takes_at e (up_to i.times))) in
      rw (hard-rule r, durations_weights (suc e) vs)

  -- all rules
  rules_of_size : rules_size (all_rules i) ≡ sum (durations_size i.times i.events) (constraints_size i i.constraints)
  rules_of_size =
      rw (rules-append, durations-size, constraints-size)

  -- the formula's items
  items_size : ValidInstance i
      → size_of (formula i)
      ≡ sum (multiple (event_count i) (start_clauses i.times))
      (sum (uses_size i.times i.events (up_to i.resources))
      (sum (durations_size i.times i.events) (constraints_size i i.constraints)))
  unfolding formula
  items_size s =
      let rest = rules-size (num i) (all_rules i) (atoms_end i) (omega arith) (rules-countable i s) in
      rw (size-append, size-append, starts-size, uses-size, rest, rules_of_size, sum-assoc)

  -- the variables Y and S
  primary_size : Size
  primary_size = record { variables = primary i; clauses = 0; words = 0; units = 0; weight = 0 }

  -- the size of an instance's formula
  pub whole-size : ValidInstance i → formula_of i ≡ whole_size i
  unfolding formula_of whole_size before_size starts_size variables hard_of soft_of primary_size
  whole-size s =
      let e : size_at (primary i + 1) (formula i) ≡ size_of (formula i) = size-any (formula i) (primary i + 1) (omega arith) in
      let f : formula_of i ≡ sum primary_size (size_at (primary i + 1) (formula i)) = unfold sum size_at in equal (omega arith) in
      rw (f, e, items_size s) (simp sum-assoc)

  -- only the rules have soft units
  no_softs : (is : List Item) → (size_of is).units ≡ 0 → soft_units is ≡ []
  unfolding size_of size_at
  no_softs is e = go (soft_units is) e
    where
      go : (us : List (ℕ × ℕ)) → length us ≡ 0 → us ≡ []
      go [] z = refl
      go (u ∷ us) z = let f : ⊥ = omega arith in absurd f

  starts_units : (size_of (starts i)).units ≡ 0
  unfolding start_clauses multiple
  starts_units = rw starts-size (omega arith)

  soft-of : soft_of i ≡ soft_units (rules_items (num i) (all_rules i) (atoms_end i))
  unfolding soft_of formula
  soft-of =
      rw (soft_units-append, soft_units-append, soft-gates, no_softs (starts i) starts_units)

  -- the weights of the formula's soft units, whose literals are no constants
  pub softs_weights : ValidInstance i → weights (soft_of i) ≡ rules_weights (constraint_rules i i.constraints)
  softs_weights s =
      let w = rules-weights (num i) (all_rules i) (atoms_end i) (omega arith) (rules-countable i s) in
      rw (soft-of, w, weights-of-append, durations_weights)

  pub softs_proper : ValidInstance i → Proper (soft_of i)
  softs_proper s =
      rw soft-of
      (rules_proper (num i) (all_rules i) (atoms_end i) (omega arith) (rules-countable i s))

-- negated soft units
negated-weights : (us : List (ℕ × ℕ)) → weights (negated us) ≡ weights us
negated-weights [] = refl
negated-weights (u ∷ us) = ap (λ ws. u.0 ∷ ws) (negated-weights us)

negated-proper : (us : List (ℕ × ℕ)) → Proper us → Proper (negated us)
negated-proper [] p = tt
negated-proper (u ∷ us) p = (omega (arith, p.0), negated-proper us p.1)

-- with the tail for the bound B
module _ (i : Instance) (B : ℕ) where
  -- the tail's items
  pub tail_of_lem : ValidInstance i → size_of (tail B (negated (soft_of i)) (variables i + 1)) ≡ tail_of i B
  unfolding tail_of tail_size
  tail_of_lem s =
      let p = negated-proper (soft_of i) (softs_proper i s) in
      rw (tail-size B (negated (soft_of i)) (variables i + 1) (omega arith) p, negated-weights, softs_weights i s)
      (tail-after i (B + 1) (omega arith) [] i.constraints)

  -- the variables Y and S, the formula's items and the tail's
  bounded_items : ValidInstance i
      → sum (primary_size i) (size_at (primary i + 1) (bounded i B)) ≡ sum (whole_size i) (tail_of i B)
  unfolding bounded whole_size before_size starts_size primary_size
  bounded_items s =
      let e = size-any (bounded i B) (primary i + 1) (omega arith) in
      rw (e, size-append, tail_of_lem s, items_size i s) (simp sum-assoc)

  -- the size of the hard clauses and the tail
  pub bounded_size : ValidInstance i → formula_size i B ≡ stored (sum (whole_size i) (tail_of i B))
  unfolding stored
  bounded_size s =
      rw (← bounded_items s) (unfold sum primary_size size_at bounded_variables bounded_hard in simp zero-add)
