-- The times that events take, told from their bytes.
use Rattle.std.specs.Prelude.{ℕ, ◌+◌, ◌-◌, ◌*◌, Bool, false, List}
use Rattle.scope.specs.Cnf.{bit}
use Rattle.scope.specs.Kinds.{Atom, Y, S, X}

-- which Y are true in rows of T bytes, one for each event; no other atom is asked for
unfoldable pub taken_in : (T : ℕ) → List ℕ → Atom → Bool
taken_in T b (Y e t) = bit b ((e - 1) * T + t)
taken_in T b (S e t) = false
taken_in T b (X r t) = false
