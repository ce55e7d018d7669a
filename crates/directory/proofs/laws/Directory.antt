-- The rows that a list of row structs holds: laws.
use mathlib.Core.Path.{◌≡◌, refl, fun_ext}
use mathlib.Core.Bool.{Bool, true, false, cond}
use mathlib.Core.List.{List}
use Prim.Native.Nat.{ℕ, ◌<◌}
use lib.Dec.{eqb}
use lib.ListN.{length, get_or, set}
use lib.Seq.{get_or-set_same, get_or-set_other}
use borrow.Author.Tests.{eqb-true, eqb-false}
use Rattle.scope.specs.Steps.{put}
use Rattle.directory.specs.declared.Row.{Row}
use Rattle.directory.specs.Rows.{no_row, dying}
use Rattle.directory.proofs.laws.Rows.{Dies, Appends}
use Rattle.directory.specs.Directory.{rows_of, with_dead}

-- a row that is stored
pub row_put : (xs : List Row) (n : ℕ) (row : Row) → n < length xs → rows_of (set xs n row) ≡ put (rows_of xs) n row
row_put xs n row h = fun_ext λ i. go i (eqb i n) refl
  where
    go : (i : ℕ) (t : Bool) → eqb i n ≡ t → get_or (set xs n row) i no_row ≡ cond t row (get_or xs i no_row)
    go i true t = let p = eqb-true i n t in rw p (get_or-set_same xs n row no_row h)
    go i false t = get_or-set_other xs n i row no_row (eqb-false i n t)

pub dies-at : (xs ys : List Row) (i : ℕ) → ys ≡ with_dead xs i → Dies (length xs) (rows_of xs) (rows_of ys) i
dies-at xs ys i e = rw e (record { dies = row_put xs i (dying (rows_of xs i)) })

pub appends-at : (xs ys : List Row) (n : ℕ) (row : Row) → ys ≡ set xs n row → Appends (length xs) (rows_of xs) (rows_of ys) n row
appends-at xs ys n row e = rw e (record { appends = row_put xs n row })
