-- The sizes of the formula's blocks before the constraints are those of their items: starts, uses and durations: laws.
use mathlib.Core.Path.{◌≡◌, refl}
use mathlib.Core.Bool.{false}
use mathlib.Core.List.{List, [], ◌∷◌, map, flat_map}
use Prim.Native.Nat.{ℕ, zero, suc, ◌+◌}
use native.Mathlib.Omega.{arith}
use lib.ListN.{length, length-map}
use Rattle.scope.specs.Cnf.{Item, or}
use Rattle.scope.specs.Kinds.{Event, Atom, Y, atom, entries, entries_nodes, rule, between, from, up_to, users}
use Rattle.scope.specs.Instance.{Instance}
use Rattle.scope.specs.Score.{event_count}
use Rattle.scope.specs.Formula.{words, num, start_items, starts, uses, duration_rules}
use Rattle.theory.proofs.laws.Ranges.{length_from_lem}
use Rattle.theory.proofs.laws.Nodes.{length-members}
use Rattle.sizing.specs.declared.Size.{Size}
use Rattle.sizing.specs.Sums.{none, sum, multiple}
use Rattle.sizing.proofs.laws.Sums.{equal, none-sum, multiple-zero, multiple-suc}
use Rattle.sizing.specs.Blocks.{start_clauses, use_size}
use Rattle.measuring.proofs.laws.Measure.{clauses_size, size_of, size-nil, size-gate, size-hard, size-append}
use Rattle.sizing.specs.NodeSizes.{node_sizes}
use Rattle.sizing.specs.Counts.{list_size}
use Rattle.measuring.proofs.laws.Gates.{or-size}
use Rattle.measuring.proofs.laws.Rows.{gates_size, gates-append}
use Rattle.measuring.specs.NodeSizes.{all_inputs}
use Rattle.measuring.specs.Rules.{rule_size, rules_size}
use Rattle.measuring.specs.Blocks.{uses_size, durations_size}

-- lists of one size, one after the other
same-sizes : {A : Type 0} (f : A → List Item) (s : Size) → ((x : A) → size_of (f x) ≡ s) → (xs : List A)
    → size_of (flat_map f xs) ≡ multiple (length xs) s
unfolding flat_map
same-sizes f s h [] = rw (size-nil, multiple-zero)
same-sizes f s h (x ∷ xs) = rw (size-append, h x, same-sizes f s h xs, multiple-suc)

-- the two clauses of a start, with w words
abbrev start_pair : ℕ → Size
start_pair w = record { variables = 0; clauses = 2; words = w; units = 0; weight = 0 }

-- atoms have no nodes
atoms-nodes : {A : Type 0} (f : A → Atom) (xs : List A) (k : ℕ) → entries_nodes (map (λ x. atom (f x)) xs) k ≡ []
unfolding entries_nodes
atoms-nodes f [] k = refl
atoms-nodes f (x ∷ xs) k = atoms-nodes f xs (k + 0)

-- a rule over atoms
atoms-rule : {A : Type 0} (w lo hi : ℕ) (f : A → Atom) (xs : List A)
    → rule_size w (rule (between lo hi []) (entries (map (λ x. atom (f x)) xs))) ≡ list_size w lo hi false (length xs)
unfolding rule_size list_size node_sizes all_inputs none
atoms-rule w lo hi f xs =
    rw (atoms-nodes f xs 0, length-members, length-map xs (λ x. atom (f x))) (none-sum _)

module _ (i : Instance) where
  -- at time 1, and at a later time
  first_start : (e : ℕ) → size_of (start_items i e 1) ≡ start_pair 4
  unfolding clauses_size words sum none
  first_start e = rw (size-hard, size-hard, size-nil)

  later_start : (e t : ℕ) → size_of (start_items i e (suc (suc t))) ≡ start_pair 5
  unfolding clauses_size words sum none
  later_start e t = rw (size-hard, size-hard, size-nil)

  -- an event's starts at k times after time t + 1, and at all times
  later_starts : (e t k : ℕ) → size_of (flat_map (start_items i e) (from (suc (suc t)) k)) ≡ multiple k (start_pair 5)
  unfolding flat_map from
  later_starts e t zero = rw (size-nil, multiple-zero)
  later_starts e t (suc k) = rw (size-append, later_start e t, later_starts e (suc t) k, multiple-suc)

  starts-of : (T e : ℕ) → size_of (flat_map (start_items i e) (up_to T)) ≡ start_clauses T
  unfolding flat_map from start_clauses sum multiple none
  starts-of zero e = size-nil
  starts-of (suc k) e = rw (size-append, first_start e, later_starts e 0 k) (equal (omega arith))

  -- the starts of all events
  pub starts-size : size_of (starts i) ≡ multiple (event_count i) (start_clauses i.times)
  unfolding starts
  starts-size =
      let block : ℕ → List Item = λ e. flat_map (start_items i e) (up_to i.times) in
      rw
      (same-sizes block (start_clauses i.times) (starts-of i.times) (up_to (event_count i)), length_from_lem 1 (event_count i))

  -- X of a resource at some times
  use-size : (us ts : List ℕ) → gates_size (map (λ t. or (map (λ e. num i (Y e t)) us)) ts) ≡ use_size (length ts) (length us)
  unfolding use_size
  use-size us [] = rw (size-nil, multiple-zero)
  use-size us (t ∷ ts) =
      rw (size-gate, or-size, length-map us (λ e. num i (Y e t)), use-size us ts, multiple-suc)

  uses_of : (rs : List ℕ)
      → gates_size (flat_map (λ r. map (λ t. or (map (λ e. num i (Y e t)) (users r i.events))) (up_to i.times)) rs)
      ≡ uses_size i.times i.events rs
  unfolding flat_map uses_size
  uses_of [] = size-nil
  uses_of (r ∷ rs) =
      rw (gates-append, use-size (users r i.events) (up_to i.times), length_from_lem 1 i.times, uses_of rs)

  -- X of all resources
  pub uses-size : gates_size (uses i) ≡ uses_size i.times i.events (up_to i.resources)
  unfolding uses
  uses-size = uses_of (up_to i.resources)

  -- the rules of durations
  pub durations-size : (e : ℕ) (vs : List Event) → rules_size (duration_rules i e vs) ≡ durations_size i.times vs
  unfolding duration_rules rules_size durations_size
  durations-size e [] = refl
  durations-size e (v ∷ vs) =
      rw
      (atoms-rule 0 v.duration v.duration (Y e) (up_to i.times), length_from_lem 1 i.times, durations-size (suc e) vs)
