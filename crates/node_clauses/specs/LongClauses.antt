-- A node's clauses read off its long clause: for each word m before the last the clause (opposite of m, opposite of the last), and
-- then the long clause itself.
use Rattle.std.specs.Prelude.{List, ◌++◌, map, ℕ, ◌-◌, ◌≤◌, length, take, get_or}
use Rattle.scope.specs.Cnf.{opp, pairs}
use Rattle.sink.specs.Block.{split}
use Rattle.counters.specs.Literals.{LiteralsTo}

-- the words before the last, and the literal of the last
abbrev pub others : List ℕ → List ℕ
others ws = take (length ws - 1) ws

abbrev pub last_of : List ℕ → ℕ
last_of ws = get_or ws (length ws - 1) 0 - 2147483648

-- the clauses
unfoldable pub node_clauses : List ℕ → List (List ℕ)
node_clauses ws = pairs (map opp (others ws)) (opp (last_of ws)) ++ split ws

-- what is a long clause: literals, and then a marked word
pub record LongClause (ws : List ℕ) : Type 0 where
  pub some : 1 ≤ length ws
  pub literals : LiteralsTo (length ws - 1) ws
  pub marked : 2147483648 ≤ get_or ws (length ws - 1) 0
