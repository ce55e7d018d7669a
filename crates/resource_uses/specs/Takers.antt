-- How many of the events that use a resource take a time: from the rows of resources, and by the definition of users.
use Rattle.std.specs.Prelude.{ℕ, zero, suc, ◌+◌, ◌*◌, cond, List}
use Rattle.scope.specs.Cnf.{bit}
use Rattle.scope.specs.Kinds.{member}
use Rattle.tables.specs.Rows.{row_at}

-- of the first n rows
unfoldable pub takers : ℕ → List ℕ → List ℕ → ℕ → ℕ → ℕ → ℕ
takers T b rs r t zero = 0
takers T b rs r t (suc e) = takers T b rs r t e + cond (bit b (e * T + t)) (cond (member r (row_at rs e)) 1 0) 0
