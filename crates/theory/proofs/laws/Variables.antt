-- The variables of atoms: where they stand, and that X is the OR of its events' Y. The parts of the formula.
use mathlib.Core.Path.{◌≡◌, refl, sym, ap, ◌∙◌}
use mathlib.Core.List.{◌++◌, map, append_assoc}
use Prim.Native.Nat.{ℕ, zero, suc, ◌+◌, ◌-◌, ◌*◌}
use native.Mathlib.Nat.{add-zero, mul-le-mul_right}
use native.Mathlib.Omega.{arith}
use lib.ListN.{length, get_or, length-map, get_or-map}
use Rattle.laws.specs.Lists.{length_rows, get_d_rows}
use Rattle.scope.specs.Kinds.{Y, X, up_to, users}
use Rattle.scope.specs.Instance.{Instance}
use Rattle.scope.specs.Cnf.{Assignment, clause, Gate, or, gate, gates}
use Rattle.theory.proofs.laws.Outputs.{value}
use Rattle.scope.specs.Score.{layout, var, event_count}
use Rattle.scope.specs.Formula.{num, start_items, starts, uses, rules_items, all_rules, primary, formula}
use Rattle.theory.specs.Accepted.{Within}
use Rattle.theory.proofs.laws.Circuit.{Holds, Holds-append, Holds-gates, Holds-at, gates-none}
use Rattle.theory.proofs.laws.Ranges.{length_from_lem, get_d-from}

-- (e − 1)×T + t is one of 1 .. n×T
pub place-within : (e t n T : ℕ) → Within 1 n e → Within 1 T t → Within 1 (n * T) ((e - 1) * T + t)
place-within zero t n T a b = let f : ⊥ = omega (arith, a.low) in absurd f
place-within (suc e) t n T a b =
    let p : suc e - 1 ≡ e = omega arith in
    rw p (record { low = omega (arith, b.low); high = omega (arith, b.high, mul-le-mul_right T a.high) })

module _ (i : Instance) where
  -- what makes X(r, t)
  abbrev pub use_gate : ℕ → ℕ → Gate
  use_gate r t = or (map (λ e. num i (Y e t)) (users r i.events))

  use_row : (r : ℕ) → length (map (use_gate r) (up_to i.times)) ≡ i.times
  use_row r = rw (length-map, length_from_lem)

  -- how many there are
  pub length_uses : length (uses i) ≡ i.resources * i.times
  unfolding uses
  length_uses = length_rows (λ r. map (use_gate r) (up_to i.times)) i.times use_row (up_to i.resources) ∙ rw length_from_lem

  use_at : (r t : ℕ) → Within 1 i.resources r → Within 1 i.times t
      → get_or (uses i) ((r - 1) * i.times + (t - 1)) (use_gate r 0) ≡ use_gate r t
  unfolding uses
  use_at r t a b =
      let p : 1 + (r - 1) ≡ r = omega (arith, a.low) in
      let q : 1 + (t - 1) ≡ t = omega (arith, b.low) in
      let rows =
      get_d_rows (λ r. map (use_gate r) (up_to i.times)) i.times use_row 0 (use_gate r 0) (up_to i.resources) (r - 1) (t - 1)
      (omega (arith, length_from_lem 1 i.resources, a.low, a.high)) (omega (arith, b.low, b.high)) in
      let row = get_d-from 0 1 i.resources (r - 1) (omega (arith, a.low, a.high)) ∙ p in
      let time = get_d-from 0 1 i.times (t - 1) (omega (arith, b.low, b.high)) ∙ q in
      rows ∙ ap (λ s. get_or (map (use_gate s) (up_to i.times)) (t - 1) (use_gate r 0)) row
      ∙ get_or-map (use_gate r) (up_to i.times) (t - 1) 0
      ∙ ap (use_gate r) time

  -- X is the OR of the Y of its events
  pub use_holds : (ν : Assignment) → Holds ν (primary i + 1) (map gate (uses i)) → (r t : ℕ) → Within 1 i.resources r
      → Within 1 i.times t → ν (var i (X r t)) ≡ clause ν (map (λ e. num i (Y e t)) (users r i.events))
  unfolding value
  use_holds ν h r t a b =
      let T = i.times in
      let k = (r - 1) * T + (t - 1) in
      let w = place-within r t i.resources T a b in
      let e : primary i + 1 + k ≡ var i (X r t) = omega (arith, b.low) in
      let v = Holds-at ν (use_gate r 0) (primary i + 1) (uses i) h k (omega (arith, w.high, b.low, length_uses)) in
      ap ν (sym e) ∙ v ∙ ap (value ν) (use_at r t a b)

  -- the variables after those of Y, S and X
  abbrev pub atoms_end : ℕ
  atoms_end = (layout i).others + 1

  -- they follow those of the gates of X
  pub uses_end : primary i + 1 + length (uses i) ≡ atoms_end
  uses_end = omega (arith, length_uses)

  -- the items of starts have no gates
  pub gates_starts : gates (starts i) ≡ 0
  unfolding starts
  gates_starts = gates-none _ (λ e. gates-none (start_items i e) (λ t. refl) (up_to i.times)) (up_to (event_count i))

  -- the parts of the formula
  pub formula_parts : formula i ≡ starts i ++ (map gate (uses i) ++ rules_items (num i) (all_rules i) atoms_end)
  unfolding formula
  formula_parts = append_assoc (starts i) (map gate (uses i)) (rules_items (num i) (all_rules i) atoms_end)

  -- what holds of the formula's gates holds of the gates of X and of the rules'
  pub formula_holds : (ν : Assignment) → Holds ν (primary i + 1) (formula i)
      → Holds ν (primary i + 1) (map gate (uses i)) × Holds ν atoms_end (rules_items (num i) (all_rules i) atoms_end)
  formula_holds ν h =
      let n = primary i + 1 in
      let rs = rules_items (num i) (all_rules i) atoms_end in
      let p = (Holds-append ν n (starts i) (map gate (uses i) ++ rs) (rw formula_parts at h)).1 in
      rw uses_end at (Holds-gates ν n (uses i) rs (rw (gates_starts, add-zero) at p))
