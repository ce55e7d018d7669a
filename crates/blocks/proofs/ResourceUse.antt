-- X of a resource at a time as the writer of an OR gives it.
use mathlib.Core.Path.{◌≡◌, ap, ◌∙◌}
use mathlib.Core.List.{List, [], ◌∷◌, ◌++◌, map, flat_map}
use Prim.Native.Nat.{ℕ, ◌+◌, ◌*◌, ◌≤◌, ◌<◌}
use native.Mathlib.Omega.{arith}
use lib.ListN.{length, take, set, length-map}
use Rattle.scope.specs.Kinds.{up_to}
use Rattle.scope.specs.Cnf.{or, Item, gate, gates}
use Rattle.parsing.specs.Each.{Each}
use Rattle.sink.specs.Run.{Ran}
use Rattle.sink.specs.Lines.{Line, clause_line, lines}
use Rattle.sink.proofs.laws.Lines.{map-append}
use Rattle.sink.specs.World.{World}
use Rattle.counters.specs.Literals.{LiteralsTo}
use Rattle.counters.specs.Rows.{gates-map}
use Rattle.node_clauses.specs.LongClauses.{LongClause, node_clauses}
use Rattle.node_clauses.proofs.laws.LongClauses.{or_long, or_ran}
use Rattle.literals.specs.Variables.{y_at, Within}
use Rattle.literals.specs.Words.{Holds}
use Rattle.literals.proofs.laws.Proper.{events-proper}
use Rattle.literals.specs.Numbered.{use_gates}
use Rattle.items.proofs.laws.Held.{held_literals}
use Rattle.items.specs.Written.{Wrote}
use Rattle.items.specs.Numbers.{length-up_to}
use Rattle.items.proofs.laws.Numbers.{after, after_start, map_turn, map_end, flat_turn, flat_end}

-- Y of some events at a time
abbrev pub ys_at : (T : ℕ) (us : List ℕ) (t : ℕ) → List ℕ
ys_at T us t = map (λ e. y_at T e t) us

-- the items of a resource at the times that are left
abbrev pub uses_left : (T : ℕ) (us : List ℕ) (t : ℕ) → List Item
uses_left T us t = map gate (map (λ t. or (ys_at T us t)) (after T t))

module _ (T : ℕ) (us : List ℕ) where
  pub uses_start : uses_left T us 0 ≡ map gate (use_gates T us)
  unfolding use_gates
  uses_start = rw (after_start T)

  pub uses_turn : (t : ℕ) → t < T → uses_left T us t ≡ (gate (or (ys_at T us (t + 1))) ∷ []) ++ uses_left T us (t + 1)
  uses_turn t h = ap (map gate) (map_turn T t (λ t. or (ys_at T us t)) h)

  pub uses_end : (t : ℕ) → T ≤ t → uses_left T us t ≡ []
  uses_end t h = ap (map gate) (map_end T t (λ t. or (ys_at T us t)) h)

  -- the literals gathered for a time, and the OR over them
  module _ {words : List ℕ} {m : ℕ} (t : ℕ) (h : Holds words m (ys_at T us (t + 1))) where
    -- as many as there are events
    pub use_few : m ≡ length us
    use_few = h.count ∙ length-map us (λ e. y_at T e (t + 1))

    module _ (v : ℕ) (a : Each (Within 1024) us) (l : T ≤ 125) (k : t < T) (few : m < length words) where
      use_literals : LiteralsTo m words
      use_literals = held_literals h (events-proper T (t + 1) l (record { low = omega arith; high = omega arith }) a)

      pub use_long : LongClause (take (m + 1) (set words m (2 * (v + t) + 1 + 2147483648)))
      use_long = or_long m words (v + t) few use_literals

      pub use_wrote : {f : Line → World → World} {w w' : World} → v + t < 1073741824
          → Ran f (map clause_line (node_clauses (take (m + 1) (set words m (2 * (v + t) + 1 + 2147483648))))) w w'
          → Wrote f (v + t) (gate (or (ys_at T us (t + 1))) ∷ []) w w' (v + (t + 1))
      use_wrote s r = record { ran = rw h.front at (or_ran m words (v + t) few use_literals s r); next = omega arith }

  -- a resource's variables are as many as the times
  uses_gates : gates (map gate (use_gates T us)) ≡ T
  unfolding use_gates
  uses_gates = gates-map (map (λ t. or (ys_at T us t)) (up_to T)) ∙ length-map (up_to T) (λ t. or (ys_at T us t)) ∙ length-up_to T

  -- those of all its events
  pub resource_wrote : {f : Line → World → World} (v : ℕ) {w w' : World}
      → Ran f (lines v (map gate (use_gates T us))) w w'
      → Wrote f v (map gate (use_gates T us)) w w' (v + T)
  resource_wrote v r = record { ran = r; next = omega (arith, uses_gates) }

-- the items of the resources that are left, where f gives the users of each
module _ (T : ℕ) (f : ℕ → List ℕ) (n : ℕ) where
  abbrev pub all_uses : (r : ℕ) → List Item
  all_uses r = map gate (flat_map (λ r. use_gates T (f r)) (after n r))

  pub all_start : all_uses 0 ≡ map gate (flat_map (λ r. use_gates T (f r)) (up_to n))
  all_start = rw (after_start n)

  pub all_turn : (r : ℕ) → r < n → all_uses r ≡ map gate (use_gates T (f (r + 1))) ++ all_uses (r + 1)
  all_turn r h =
      ap (map gate) (flat_turn n r (λ r. use_gates T (f r)) h)
      ∙ map-append gate (use_gates T (f (r + 1))) (flat_map (λ r. use_gates T (f r)) (after n (r + 1)))

  pub all_end : (r : ℕ) → n ≤ r → all_uses r ≡ []
  all_end r h = ap (map gate) (flat_end n r (λ r. use_gates T (f r)) h)
