-- A row says what it was made of, as long as its numbers fit.
use mathlib.Core.Path.{◌≡◌}
use Prim.Native.Nat.{ℕ, ◌+◌, ◌/◌, ◌%◌, ◌≤◌}
use native.Mathlib.Omega.{arith}
use Rattle.directory.specs.declared.Row.{Row}
use Rattle.directory.specs.Rows.{new_row, first_word, dying}

-- a row of a clause with an id and a length below 2 ^ 32, among words that a machine can have, says what it was made of
pub record Exact (id first len : ℕ) (r : Row) : Type 0 where
  pub named : r.id ≡ id
  pub begins : first_word r ≡ first
  pub long : r.len ≡ len
  pub alive : r.live ≡ 0 → ⊥

pub row-exact : (id first len : ℕ) → id ≤ 4294967295 → first ≤ 9223372036854775807 → len ≤ 4294967295 → Exact id first len (new_row id first len)
unfolding new_row first_word
row-exact id first len i f l =
    let live : (1 + first / 4294967296) % 4294967296 ≡ 1 + first / 4294967296 = omega arith in
    record {
      named = omega arith;
      begins = rw live (omega arith);
      long = omega arith;
      alive = λ e. omega (arith, live);
    }

-- a dead row begins no later
pub dying-begins : (r : Row) → first_word (dying r) ≤ first_word r
unfolding first_word
dying-begins r = omega arith
