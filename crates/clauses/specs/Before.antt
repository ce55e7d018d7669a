-- The items that stand before the constraints: starts, uses and durations; and the whole formula in these two parts.
use Rattle.std.specs.Prelude.{◌≡◌, refl, ℕ, ◌+◌, ◌*◌, length}
use Rattle.std.proofs.Common.{ap, ◌∙◌, sym, length-append}
use mathlib.Core.List.{List, [], ◌∷◌, ◌++◌, map, flat_map, append_assoc}
use native.Mathlib.Omega.{arith}
use Rattle.std.proofs.lemmas.List.{length-map}
use Rattle.scope.specs.declared.Layout.{Layout}
use Rattle.scope.specs.Kinds.{Constraint, up_to}
use Rattle.scope.specs.Score.{layout_at}
use Rattle.scope.specs.Cnf.{Item, gate, hard, soft, gates}
use Rattle.sink.specs.Run.{Ran}
use Rattle.sink.specs.Lines.{Line, clause_line, soft_line, lines}
use Rattle.sink.specs.World.{World}
use Rattle.counters.specs.Rows.{gates-map}
use Rattle.literals.specs.Numbered.{all_numbered, duration_lists, start_clauses, use_gates, constraint_items, list_items, numbered_formula}
use Rattle.items.specs.Written.{gates_both, Room, Wrote, wrote_then}
use Rattle.items.specs.Numbers.{length-up_to}

-- starts have no gates
start-gates : (T starts e : ℕ) (ts : List ℕ) → gates (flat_map (start_clauses T starts e) ts) ≡ 0
unfolding flat_map start_clauses
start-gates T starts e [] = refl
start-gates T starts e (t ∷ ts) = start-gates T starts e ts

starts-gates : (T starts : ℕ) (es : List ℕ) → gates (flat_map (λ e. flat_map (start_clauses T starts e) (up_to T)) es) ≡ 0
unfolding flat_map
starts-gates T starts [] = refl
starts-gates T starts (e ∷ es) =
    gates_both (flat_map (start_clauses T starts e) (up_to T)) (flat_map (λ e. flat_map (start_clauses T starts e) (up_to T)) es)
    ∙ omega (arith, start-gates T starts e (up_to T), starts-gates T starts es)

-- uses have one for each resource and time
use-gates : (T : ℕ) (us : List ℕ) → length (use_gates T us) ≡ T
unfolding use_gates
use-gates T us = length-map (up_to T) _ ∙ length-up_to T

uses_gates : (T : ℕ) (users : ℕ → List ℕ) (rs : List ℕ) → length (flat_map (λ r. use_gates T (users r)) rs) ≡ length rs * T
unfolding flat_map
uses_gates T users [] = omega arith
uses_gates T users (r ∷ rs) =
    length-append (use_gates T (users r)) (flat_map (λ r. use_gates T (users r)) rs)
    ∙ omega (arith, use-gates T (users r), uses_gates T users rs)

-- items without gates are the same lines whatever the next variable
lines-any : (n m : ℕ) (is : List Item) → gates is ≡ 0 → lines n is ≡ lines m is
unfolding lines
lines-any n m [] e = refl
lines-any n m (gate g ∷ is) e = let f : ⊥ = omega arith in absurd f
lines-any n m (hard c ∷ is) e = ap (◌∷◌ (clause_line c)) (lines-any n m is e)
lines-any n m (soft w l ∷ is) e = ap (◌∷◌ (soft_line w l)) (lines-any n m is e)

module _ (T : ℕ) (users : ℕ → List ℕ) (E R : ℕ) (ds : List ℕ) where
  -- the numbering
  abbrev L : Layout
  L = layout_at T E R

  abbrev pub start_items : List Item
  start_items = flat_map (λ e. flat_map (start_clauses T L.starts e) (up_to T)) (up_to E)

  abbrev pub use_items : List Item
  use_items = map gate (flat_map (λ r. use_gates T (users r)) (up_to R))

  abbrev pub duration_items : List Item
  duration_items = all_numbered 0 (duration_lists T 1 ds) (L.others + 1)

  -- what stands before the constraints
  unfoldable pub block_items : List Item
  block_items = start_items ++ use_items ++ duration_items

  starts_none : gates start_items ≡ 0
  starts_none = starts-gates T L.starts (up_to E)

  uses_count : gates use_items ≡ R * T
  uses_count = gates-map (flat_map (λ r. use_gates T (users r)) (up_to R)) ∙ uses_gates T users (up_to R) ∙ rw (length-up_to R)

  block_gates : gates block_items ≡ R * T + gates duration_items
  unfolding block_items
  block_gates =
      gates_both (start_items ++ use_items) duration_items
      ∙ omega (arith, starts_none, gates_both start_items use_items, uses_count)

  -- the blocks one after another
  pub blocks_wrote : {f : Line → World → World} {v u n : ℕ} {w₀ w₁ w₂ w₃ : World}
      → v ≡ L.primary + 1 → u ≡ L.others + 1
      → Ran f (lines 0 start_items) w₀ w₁
      → Ran f (lines v use_items) w₁ w₂
      → Wrote f u (all_numbered 0 (duration_lists T 1 ds) u) w₂ w₃ n
      → Wrote f (L.primary + 1) block_items w₀ w₃ n
  unfolding block_items
  blocks_wrote {f} {v} {u} {n} {w₀} {w₁} {w₂} {w₃} ev eu a b d =
      let e : u ≡ L.others + 1 = omega arith in
      let p : Wrote f (L.primary + 1) start_items w₀ w₁ (L.primary + 1) = record { ran = rw (lines-any (L.primary + 1) 0 start_items starts_none) a; next = omega (arith, starts_none) } in
      let q : Wrote f (L.primary + 1) use_items w₁ w₂ (L.others + 1) = record { ran = rw ev at b; next = omega (arith, uses_count) } in
      wrote_then (wrote_then p q) (rw e at d)

  -- the room of the durations
  pub blocks_room : {u : ℕ} → u ≡ L.others + 1 → Room (L.primary + 1) block_items → Room u (all_numbered 0 (duration_lists T 1 ds) u)
  unfolding block_items
  blocks_room {u} eu r =
      let e : u ≡ L.others + 1 = omega arith in
      rw e (record { some = omega arith; small = omega (arith, block_gates, r.small) })

  module _ (group : ℕ → List ℕ) (cs : List Constraint) where
    -- the variable after those of the blocks
    abbrev pub first_variable : ℕ
    first_variable = L.primary + 1 + gates block_items

    pub formula_parts : numbered_formula T users group E R ds cs ≡ block_items ++ constraint_items T L ds users group cs first_variable
    unfolding numbered_formula list_items block_items
    formula_parts =
        let e : L.others + 1 + gates duration_items ≡ first_variable = omega (arith, block_gates) in
        rw e (sym (append_assoc (start_items ++ use_items) duration_items _))
