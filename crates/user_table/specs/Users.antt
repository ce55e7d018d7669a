-- The events that use a resource, by the rows of the table of the events' resources.
use Rattle.std.specs.Prelude.{ℕ, zero, suc, List, [], ◌∷◌, ◌++◌, cond}
use Rattle.scope.specs.Kinds.{member}
use Rattle.tables.specs.Rows.{row_at}

-- those of the first n events
unfoldable pub users_in : (t : List ℕ) (n r : ℕ) → List ℕ
users_in t zero r = []
users_in t (suc e) r = users_in t e r ++ cond (member r (row_at t e)) (suc e ∷ []) []
