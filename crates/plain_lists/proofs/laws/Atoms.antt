-- The literals of the lists that have no nodes: Y of events at a time, S of an event, and X of a resource, at some times, S of events at
-- some times.
use Prim.Native.Nat.{ℕ}
use mathlib.Core.List.{List, [], map, flat_map, map-map}
use Rattle.scope.specs.declared.Layout.{Layout}
use Rattle.scope.specs.Kinds.{Y, S, X, atom, uses_at, starts_at}
use Rattle.literals.specs.Variables.{y_at}
use Rattle.literals.proofs.laws.Variables.{s_at, x_at}
use Rattle.literals.specs.Numbered.{num_at}
use Rattle.literals.proofs.laws.Entries.{Adds, adds_atoms, adds_lists}
use Rattle.literals.proofs.laws.Laws.{y_literal, s_literal, x_literal}

module _ (T : ℕ) (L : Layout) where
  pub events_add : (t : ℕ) (us : List ℕ) (v k : ℕ) → Adds (num_at T L) (map (λ e. atom (Y e t)) us) v k [] (map (λ e. y_at T e t) us)
  events_add t us v k = adds_atoms (λ e. Y e t) (λ e. y_at T e t) (λ e. y_literal T L e t) us v k

  pub starts_add : (e : ℕ) (ts : List ℕ) (v k : ℕ) → Adds (num_at T L) (starts_at e ts) v k [] (map (s_at T L e) ts)
  starts_add e ts v k = adds_atoms (λ t. S e t) (s_at T L e) (s_literal T L e) ts v k

  pub uses_add : (r : ℕ) (ts : List ℕ) (v k : ℕ) → Adds (num_at T L) (map atom (uses_at r ts)) v k [] (map (x_at T L r) ts)
  uses_add r ts v k = rw (map-map atom (λ (t : ℕ). X r t) ts) (adds_atoms (λ t. X r t) (x_at T L r) (x_literal T L r) ts v k)

  pub spread_add : (ts vs : List ℕ) (v k : ℕ)
      → Adds (num_at T L) (flat_map (λ e. starts_at e ts) vs) v k [] (flat_map (λ e. map (s_at T L e) ts) vs)
  spread_add ts vs v k = adds_lists (λ e. starts_at e ts) (λ e. map (s_at T L e) ts) (λ e v k. starts_add e ts v k) vs v k
