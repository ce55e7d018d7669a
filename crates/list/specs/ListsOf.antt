-- How many lists a kind has: it goes by its fields alone.
use Rattle.std.specs.Prelude.{ℕ, ◌≡◌, List, length}
use Rattle.scope.specs.Kinds.{counted_of}
use Rattle.constraint.specs.declared.kinds.Kind.{Kind}
use Rattle.constraint.specs.Answers.{kind_of}

pub record ListsOf (k : Kind) (T n : ℕ) : Type 0 where
  pub eq : (dur : ℕ → ℕ) (us group : ℕ → List ℕ) (l : List ℕ) → n ≡ length (counted_of T dur us group (kind_of l k)).lists
