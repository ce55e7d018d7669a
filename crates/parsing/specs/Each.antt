-- What holds of each member of a list, and of each thing that was read.
use Rattle.std.specs.Prelude.{List, [], ◌∷◌}

-- P holds of each
pub data Each {A : Type 0} (P : A → Type 0) : List A → Type 0 where
  each_none : Each P []
  each_more : {x : A} {xs : List A} → P x → Each P xs → Each P (x ∷ xs)
