-- Sizes of formulas: how they add up, how often one is taken, and how large they are at most.
use Rattle.std.specs.Prelude.{ℕ, ◌+◌, ◌*◌, ◌≤◌}
use Rattle.sizing.specs.declared.Size.{Size}

-- the size of nothing
unfoldable pub none : Size
none = record { variables = 0; clauses = 0; words = 0; units = 0; weight = 0 }

-- the size of two parts together
unfoldable pub sum : Size → Size → Size
sum a b =
    record {
      variables = a.variables + b.variables;
      clauses = a.clauses + b.clauses;
      words = a.words + b.words;
      units = a.units + b.units;
      weight = a.weight + b.weight;
    }

-- the size of k parts of the size a
unfoldable pub multiple : ℕ → Size → Size
multiple k a =
    record {
      variables = k * a.variables;
      clauses = k * a.clauses;
      words = k * a.words;
      units = k * a.units;
      weight = k * a.weight;
    }

-- no number of the size is above m
pub record Within (m : ℕ) (a : Size) : Type 0 where
  pub variables : a.variables ≤ m
  pub clauses : a.clauses ≤ m
  pub words : a.words ≤ m
  pub units : a.units ≤ m
  pub weight : a.weight ≤ m

-- each number of the size is one of 64 bits
abbrev pub Fits64 : Size → Type 0
Fits64 a = Within 18446744073709551615 a
