-- Kind 7's list: an OR for each group, whose output is counted.
use Rattle.std.specs.Prelude.{ℕ, ◌-◌, List, map}
use Rattle.tables.specs.Rows.{row_at}
use Rattle.literals.specs.Variables.{in_block}

-- the row of a group by its number
abbrev pub row_in : List ℕ → ℕ → List ℕ
row_in t g = row_at t (g - 1)

-- X of resource r in each of some groups, in the block after `uses` variables
abbrev pub xs_of : (T uses : ℕ) (group : ℕ → List ℕ) (r : ℕ) → List ℕ → List (List ℕ)
xs_of T uses group r hs = map (λ g. map (in_block T uses r) (group g)) hs
