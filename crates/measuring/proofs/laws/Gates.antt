-- The sizes of gates are those of their clauses: an OR or an AND, and the cells of a counter; and of units.
use mathlib.Core.Path.{◌≡◌, refl, ap}
use mathlib.Core.List.{List, [], ◌∷◌}
use Prim.Native.Nat.{ℕ, zero, suc, ◌+◌, ◌*◌, ◌≤◌}
use native.Mathlib.Omega.{arith}
use lib.ListN.{length}
use Rattle.scope.specs.Cnf.{opp, has_true, without_false, tidy, Gate, or, and, cell, gate_clauses, Item, hard}
use Rattle.scope.specs.Formula.{words, unit}
use Rattle.sizing.specs.Sums.{sum}
use Rattle.sizing.proofs.laws.Sums.{equal}
use Rattle.sizing.specs.Gates.{variable_size, or_size, hard_unit, unit_size}
use Rattle.measuring.proofs.laws.Measure.{clauses_size, size_of, gate_size, or_clauses, and_clauses, eqb-0, eqb-1, size-hard, size-soft}

-- a gate's variable beside its clauses
gate-size : (g : Gate) (n : ℕ)
    → clauses_size (gate_clauses g 1) ≡ record { variables = 0; clauses = n + 1; words = 3 * n + 1; units = 0; weight = 0 }
    → gate_size g ≡ or_size n
unfolding gate_size or_size clauses_size
gate-size g n e =
    equal
    (record { variables = refl; clauses = ap (λ s. s.clauses) e; words = ap (λ s. s.words) e; units = refl; weight = refl })

pub or-size : (ls : List ℕ) → gate_size (or ls) ≡ or_size (length ls)
or-size ls = gate-size (or ls) (length ls) (or_clauses ls 1)

pub and-size : (ls : List ℕ) → gate_size (and ls) ≡ or_size (length ls)
and-size ls = gate-size (and ls) (length ls) (and_clauses ls 1)

-- the opposite of a literal from 2 on is one
pub opp-proper : (l : ℕ) → 2 ≤ l → 2 ≤ opp l
opp-proper l h = omega arith

-- the cell of a literal x under no row, in a column up to x's weight and past it; then the same under a row
module _ (x : ℕ) (hx : 2 ≤ x) where
  pub first_low : gate_size (cell x 0 1) ≡ variable_size 2 4
  unfolding gate_size gate_clauses tidy has_true without_false words
  first_low = simp (eqb-0, eqb-1, opp-proper)

  pub first_high : gate_size (cell x 0 0) ≡ variable_size 2 3
  unfolding gate_size gate_clauses tidy has_true without_false words
  first_high = simp (eqb-0, eqb-1, opp-proper)

  module _ (a : ℕ) (ha : 2 ≤ a) where
    pub later_low : gate_size (cell x a 1) ≡ variable_size 3 7
    unfolding gate_size gate_clauses tidy has_true without_false words
    later_low = simp (eqb-0, eqb-1, opp-proper)

    pub later_high : (b : ℕ) → 2 ≤ b → gate_size (cell x a b) ≡ variable_size 4 11
    unfolding gate_size gate_clauses tidy has_true without_false words
    later_high b hb = simp (eqb-0, eqb-1, opp-proper)

-- items with a unit more
pub hard-unit : (l : ℕ) (is : List Item) → size_of (hard (l ∷ []) ∷ is) ≡ sum hard_unit (size_of is)
unfolding clauses_size words hard_unit
hard-unit l is = size-hard (l ∷ []) is

pub unit_size_lem : (w l : ℕ) (is : List Item) → size_of (unit w l ∷ is) ≡ sum (unit_size w) (size_of is)
unfolding unit_size
unit_size_lem zero l is = hard-unit l is
unit_size_lem (suc w) l is = size-soft (suc w) l is
