-- Numbers that are passed over up to a 0, for any bytes and offsets.
use Rattle.std.specs.Prelude.{Bool, true, false, cond, List, ℕ, suc, eqb, length, Option, Some, None}
use Rattle.scope.specs.Parsed.{Parsed, got, refused}
use Rattle.scope.specs.Number.{number}
use Rattle.reader.specs.Loop.{while_more}

-- numbers that are being passed over: whether it goes on, where the next one stands, and what is found once it does not
pub record Passing : Type 0 where
  pub more : Bool
  pub at : ℕ
  pub found : Option ℕ

-- numbers up to a 0 are passed over: at an offset, and after a number
abbrev pub passing : ℕ → Passing
passing at = record { more = true; at = at; found = None }

abbrev pub passed_by : ℕ → Parsed ℕ → Passing
passed_by at (refused k v) = record { more = false; at = at; found = None }
passed_by at (got n next) = cond (eqb n 0) (record { more = false; at = next; found = Some next }) (passing next)

-- each number takes a byte at least
abbrev pub passed_from : List ℕ → ℕ → Passing → Passing
passed_from s k p = while_more (λ p. p.more) (λ p. passed_by p.at (number s p.at)) k p

unfoldable pub passed_at : List ℕ → ℕ → Option ℕ
passed_at s at = (passed_from s (suc (length s)) (passing at)).found
