-- The words of a formula with its tail: those of the hard clauses, of the tail's counter, and of the tail's unit.
use mathlib.Core.Path.{◌≡◌, refl, ap, ◌∙◌}
use mathlib.Core.List.{List, [], ◌∷◌, ◌++◌, map, flat_map}
use Prim.Native.Nat.{ℕ, ◌+◌, ◌*◌, ◌≤◌, ◌<◌}
use native.Mathlib.Nat.{add-zero}
use native.Mathlib.Numerals.{add-one}
use native.Mathlib.Omega.{arith}
use lib.ListN.{length, length-map}
use Rattle.scope.specs.Instance.{Instance}
use Rattle.scope.specs.Cnf.{neg, opp, Gate, gate, hard, hard_clauses, gates}
use Rattle.scope.specs.Formula.{no_row, row_at, counter, last_row, primary, formula, variables, hard_of, soft_of, negated, tail, bounded, bounded_variables, bounded_hard}
use Rattle.theory.proofs.laws.Circuit.{gates-append, gates-map, hard_clauses-append}
use Rattle.theory.proofs.laws.Counter.{length-counter}
use Rattle.sink.specs.Lines.{gates_clauses}
use Rattle.sink.proofs.laws.Lines.{flat_append}
use Rattle.sink.specs.Block.{mark}
use Rattle.sink.specs.World.{row_over}
use Rattle.sink.specs.Tails.{tail_words, last_first}
use Rattle.sink.proofs.laws.Tails.{last-at, last_row_lem, row-over}

-- the tail's unit as a word, where its last row begins at the variable p
abbrev pub unit_word : ℕ → ℕ → ℕ
unit_word B p = neg (p + B) + 2147483648

module _ (B v : ℕ) (h : 0 < v) where
  -- the first variable of the last row
  abbrev pub last_of : List (ℕ × ℕ) → ℕ
  last_of us = last_first (B + 1) 0 v (length us)

  pub last_there : (us : List (ℕ × ℕ)) → 1 ≤ length us → 0 < last_of us
  last_there [] l = absurd (omega arith)
  last_there (u ∷ us) l = omega (arith, last-at (B + 1) 0 v (length us))

  -- the last literal of the last row, and its opposite
  last_literal : (us : List (ℕ × ℕ)) → 1 ≤ length us → opp (last_row no_row (negated us) (B + 1) v (B + 1)) ≡ neg (last_of us + B)
  last_literal us l =
      let p = last_of us in
      let row : last_row no_row (negated us) (B + 1) v ≡ row_at p =
      last_row_lem (B + 1) 0 v (negated us) h
      ∙ ap (λ (n : ℕ). row_over (last_first (B + 1) 0 v n)) (length-map us (λ u. (u.0, opp u.1)))
      ∙ row-over p (last_there us l) in
      rw row (ap (λ (n : ℕ). opp (row_at p n)) (add-one B) ∙ omega arith)

  -- the tail's words
  pub tail-words : (us : List (ℕ × ℕ)) → 1 ≤ length us
      → flat_map mark (hard_clauses v (tail B (negated us) v)) ≡ tail_words (B + 1) 0 v us ++ unit_word B (last_of us) ∷ []
  unfolding tail hard_clauses gates_clauses flat_map mark
  tail-words [] l = absurd (omega arith)
  tail-words (u ∷ us) l =
      let xs = negated (u ∷ us) in
      let gs : List Gate = counter no_row xs (B + 1) v in
      let x : ℕ = opp (last_row no_row xs (B + 1) v (B + 1)) in
      ap (flat_map mark) (hard_clauses-append v (map gate gs) (hard (x ∷ []) ∷ []))
      ∙ flat_append mark (hard_clauses v (map gate gs)) ((x ∷ []) ∷ [])
      ∙ ap (λ (n : ℕ). flat_map mark (hard_clauses v (map gate gs)) ++ (n + 2147483648) ∷ []) (last_literal (u ∷ us) l)

  -- there is none without soft units
  pub tail_none : (us : List (ℕ × ℕ)) → length us ≡ 0 → flat_map mark (hard_clauses v (tail B (negated us) v)) ≡ []
  unfolding tail hard_clauses flat_map
  tail_none [] l = refl
  tail_none (u ∷ us) l = absurd (omega arith)

-- the tail has a variable for each soft unit and column
tail-gates : (B v : ℕ) (us : List (ℕ × ℕ)) → gates (tail B (negated us) v) ≡ length us * (B + 1)
unfolding tail
tail-gates B v [] = omega arith
tail-gates B v (u ∷ us) =
    let xs = negated (u ∷ us) in
    let gs : List Gate = counter no_row xs (B + 1) v in
    let x : ℕ = opp (last_row no_row xs (B + 1) v (B + 1)) in
    gates-append (map gate gs) (hard (x ∷ []) ∷ []) ∙ add-zero (gates (map gate gs)) ∙ gates-map gs ∙ length-counter no_row xs (B + 1) v
    ∙ ap (λ (n : ℕ). n * (B + 1)) (length-map (u ∷ us) (λ u. (u.0, opp u.1)))

module _ (i : Instance) (B : ℕ) where
  abbrev pub tail_clauses : List (List ℕ)
  tail_clauses = hard_clauses (variables i + 1) (tail B (negated (soft_of i)) (variables i + 1))

  pub bounded-variables : bounded_variables i B ≡ variables i + length (soft_of i) * (B + 1)
  unfolding bounded_variables bounded variables
  bounded-variables =
      let L = tail B (negated (soft_of i)) (primary i + gates (formula i) + 1) in
      omega (arith, gates-append (formula i) L, tail-gates B (primary i + gates (formula i) + 1) (soft_of i))

  tail_start : primary i + 1 + gates (formula i) ≡ variables i + 1
  unfolding variables
  tail_start = omega arith

  -- the words of all
  pub bounded_words : flat_map mark (bounded_hard i B) ≡ flat_map mark (hard_of i) ++ flat_map mark tail_clauses
  unfolding bounded_hard bounded hard_of
  bounded_words =
      let L = tail B (negated (soft_of i)) (variables i + 1) in
      ap (flat_map mark) (hard_clauses-append (primary i + 1) (formula i) L ∙ ap (λ (n : ℕ). hard_clauses (primary i + 1) (formula i) ++ hard_clauses n L) tail_start)
      ∙ flat_append mark (hard_clauses (primary i + 1) (formula i)) (hard_clauses (variables i + 1) L)
