-- The sizes of an instance's formula, without and with its tail, in the terms of document 01.
use Rattle.std.specs.Prelude.{ℕ, ◌+◌, ◌≡◌, length}
use Rattle.scope.specs.Instance.{Instance}
use Rattle.scope.specs.Formula.{variables as variables_of, words as words_of, hard_of, soft_of}
use Rattle.scope.specs.Text.{top as top_of}
use Rattle.sizing.specs.declared.Size.{Size}
use Rattle.sizing.specs.Sums.{Within}
use Rattle.measuring.specs.Whole.{whole_size, tail_of}
use Rattle.part_sizes.specs.declared.walk.Total.{Total}

-- the formula, and the tail for the bound B, with numbers far below 2 ^ 64
pub record WholeOf (i : Instance) (B : ℕ) (t : Total) : Type 0 where
  pub formula : t.formula ≡ whole_size i
  pub tail : t.tail ≡ tail_of i B
  pub within : Within 1101659111424 t.formula
  pub tail_within : Within 8796093022208 t.tail

-- the numbers of the formula without its tail, each far below 2 ^ 64
pub record Numbers (i : Instance) (z : Size) : Type 0 where
  pub variables : z.variables ≡ variables_of i
  pub clauses : z.clauses ≡ length (hard_of i)
  pub words : z.words ≡ words_of (hard_of i)
  pub units : z.units ≡ length (soft_of i)
  pub top : z.weight + 1 ≡ top_of i
  pub within : Within 1101659111424 z
