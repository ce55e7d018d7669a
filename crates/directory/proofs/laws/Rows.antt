-- The directory's rows: laws.
use mathlib.Core.Path.{◌≡◌}
use Prim.Native.Nat.{ℕ, ◌<◌}
use Rattle.scope.specs.Steps.{put}
use Rattle.directory.specs.declared.Row.{Row}
use Rattle.directory.specs.Rows.{dying}

-- the first n rows stand in ascending order of their ids
pub record Rising (R : ℕ → Row) (n : ℕ) : Type 0 where
  pub up : (i j : ℕ) → i < j → j < n → (R i).id < (R j).id

-- In a directory of cap rows: a row that dies, and a row that is appended to the first n
pub record Dies (cap : ℕ) (R R' : ℕ → Row) (i : ℕ) : Type 0 where
  pub dies : i < cap → R' ≡ put R i (dying (R i))

pub record Appends (cap : ℕ) (R R' : ℕ → Row) (n : ℕ) (row : Row) : Type 0 where
  pub appends : n < cap → R' ≡ put R n row
