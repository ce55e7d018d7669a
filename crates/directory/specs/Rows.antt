-- The directory's rows.
use Rattle.std.specs.Prelude.{Bool, List, ℕ, ◌+◌, ◌-◌, ◌*◌, ◌/◌, ◌%◌, eqb}
use Rattle.standing.specs.Clauses.{part}
use Rattle.directory.specs.declared.Row.{Row}

abbrev pub no_row : Row
no_row = record { id = 0; first = 0; len = 0; live = 0 }

-- the row of a live clause; its first word is one of a block of 2 ^ 32 words
unfoldable pub new_row : ℕ → ℕ → ℕ → Row
new_row id first len =
    record {
      id = id % 4294967296;
      first = first % 4294967296;
      len = len % 4294967296;
      live = (1 + first / 4294967296) % 4294967296;
    }

-- a clause's first word, and whether it is dead
unfoldable pub first_word : Row → ℕ
first_word r = (r.live - 1) * 4294967296 + r.first

abbrev pub is_dead : Row → Bool
is_dead r = eqb r.live 0

-- the clause among the words
abbrev pub row_clause : Row → List ℕ → List ℕ
row_clause r ws = part (first_word r) r.len ws

-- the row, no longer live
abbrev pub dying : Row → Row
dying r = record { id = r.id; first = r.first; len = r.len; live = 0 }
