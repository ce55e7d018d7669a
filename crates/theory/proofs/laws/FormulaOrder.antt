-- The formula of an accepted instance reads earlier variables only.
use mathlib.Core.List.{◌++◌, map, flat_map}
use Prim.Native.Nat.{ℕ, zero, suc, ◌+◌}
use native.Mathlib.Nat.{add-zero, le_refl}
use native.Mathlib.Omega.{arith}
use lib.ListN.{length}
use Rattle.laws.specs.Lists.{All, All-append, All-map, All-flatMap}
use Rattle.scope.specs.Kinds.{Atom, Y, S, X, up_to, users}
use Rattle.scope.specs.Instance.{Instance}
use Rattle.scope.specs.Cnf.{neg, gate}
use Rattle.scope.specs.Score.{event_count, var}
use Rattle.scope.specs.Formula.{num, y_before, start_items, starts, uses, rules_items, all_rules, primary, formula}
use Rattle.theory.specs.Accepted.{Within, ValidInstance}
use Rattle.theory.proofs.laws.Order.{Proper, Reads, ItemReads, Ordered, Ordered-append, Ordered-gates, Ordered-all}
use Rattle.theory.proofs.laws.KindRules.{InRange, users-within, times_within, events-within, all_rules-valid}
use Rattle.theory.proofs.laws.Ranges.{from_all}
use Rattle.theory.proofs.laws.RuleOrder.{Below, rules_order}
use Rattle.theory.proofs.laws.Variables.{place-within, use_gate, atoms_end, uses_end, gates_starts, formula_parts}

module _ (i : Instance) where
  -- the literals of atoms
  atom_below : (a : Atom) → InRange i a → Proper (atoms_end i) (num i a)
  atom_below (Y e t) h = let w = place-within e t (event_count i) i.times h.0 h.1 in omega (arith, w.low, w.high)
  atom_below (S e t) h = let w = place-within e t (event_count i) i.times h.0 h.1 in omega (arith, w.low, w.high)
  atom_below (X r t) h = let w = place-within r t i.resources i.times h.0 h.1 in omega (arith, w.low, w.high)

  taken_below : (e t : ℕ) → Within 1 (length i.events) e → Within 1 i.times t → Proper (primary i + 1) (num i (Y e t))
  taken_below e t a b = let w = place-within e t (event_count i) i.times a b in omega (arith, w.low, w.high)

  before_below : (e t : ℕ) → Within 1 (length i.events) e → Within 1 i.times t
      → All (Proper (primary i + 1)) (y_before i e t)
  before_below e zero a b = tt
  before_below e (suc zero) a b = tt
  before_below e (suc (suc t)) a b = (taken_below e (suc t) a (record { low = omega arith; high = omega (arith, b.high) }), tt)

  start_reads : (e t : ℕ) → Within 1 (length i.events) e → Within 1 i.times t
      → All (ItemReads (primary i + 1)) (start_items i e t)
  start_reads e t a b =
      let w = place-within e t (event_count i) i.times a b in
      let y = taken_below e t a b in
      let not-y : Proper (primary i + 1) (neg (var i (Y e t))) = omega (arith, w.low, w.high) in
      let s : Proper (primary i + 1) (num i (S e t)) = omega (arith, w.low, w.high) in
      let not-s : Proper (primary i + 1) (neg (var i (S e t))) = omega (arith, w.low, w.high) in
      ((y, (not-s, tt)), (All-append _ (y_before i e t) _ (before_below e t a b) (not-y, (s, tt)), tt))

  starts_reads : All (ItemReads (primary i + 1)) (starts i)
  unfolding starts
  starts_reads =
      let P = ItemReads (primary i + 1) in
      All-flatMap _ P (λ e. flat_map (start_items i e) (up_to i.times))
      (λ e a. All-flatMap _ P (start_items i e) (λ t b. start_reads e t a b) (up_to i.times) (times_within i))
      (up_to (event_count i)) (events-within i)

  use_reads : (r t : ℕ) → Within 1 i.times t → Reads (primary i + 1) (use_gate i r t)
  use_reads r t b =
      All-map _ (Proper (primary i + 1)) (λ e. num i (Y e t)) (λ e a. taken_below e t a b) (users r i.events)
      (users-within i r)

  uses_read : All (ItemReads (primary i + 1)) (map gate (uses i))
  unfolding uses
  uses_read =
      let P = Reads (primary i + 1) in
      All-map P (ItemReads (primary i + 1)) gate (λ g h. h) (uses i)
      (All-flatMap (λ _. Unit {0}) P (λ r. map (use_gate i r) (up_to i.times))
      (λ r _. All-map _ P (use_gate i r) (use_reads r) (up_to i.times) (times_within i)) (up_to i.resources)
      (from_all _ 1 i.resources (λ r a b. tt)))

  -- the whole formula
  pub formula_order : ValidInstance i → Ordered (primary i + 1) (formula i)
  formula_order v =
      let n = primary i + 1 in
      let end = atoms_end i in
      let rs = rules_items (num i) (all_rules i) end in
      let valid = all_rules-valid i v (Below (num i) end) atom_below in
      rw formula_parts
      (Ordered-append n (starts i) (map gate (uses i) ++ rs) (Ordered-all n n (starts i) (le_refl n) starts_reads)
      (rw (gates_starts, add-zero)
      (Ordered-gates n (uses i) rs (Ordered-all n n (map gate (uses i)) (le_refl n) uses_read)
      (rw uses_end (rules_order (num i) end (all_rules i) end (omega arith) (le_refl end) valid)))))
