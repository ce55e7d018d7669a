-- What is noted of each variable, settled: a byte of the model for each that is given once.
use Rattle.std.specs.Prelude.{ℕ, suc, ◌-◌, ◌≡◌, ◌||◌, cond, List, [], ◌∷◌, eqb, Result, Ok, Err}
use Rattle.std.proofs.Math.Option.{Option, none, some}

-- the first of the variables v, v + 1, .. whose byte says that it is not given, or more than once
unfoldable pub unsettled : ℕ → List ℕ → Option ℕ
unsettled v [] = none
unsettled v (b ∷ bs) = cond (eqb b 0 || eqb b 3) (some v) (unsettled (suc v) bs)

-- the bytes before that of such a variable, one less each, and the others as they are
unfoldable pub settled_to : List ℕ → List ℕ
settled_to [] = []
settled_to (b ∷ bs) = cond (eqb b 0 || eqb b 3) (b ∷ bs) ((b - 1) ∷ settled_to bs)

-- each variable is given once; or the lowest that is not
abbrev pub Settled : Type 0
Settled = Result Unit ℕ

abbrev pub settled_at : Settled → Option ℕ
settled_at (Ok _) = none
settled_at (Err v) = some v

pub record SettledAs (st st' : List ℕ) (r : Settled) : Type 0 where
  pub found : settled_at r ≡ unsettled 1 st
  pub left : st' ≡ settled_to st
