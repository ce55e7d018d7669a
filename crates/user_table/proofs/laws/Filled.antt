-- The table of the users of each resource: rows of 1,025 numbers, each a count and then as many numbers of events. Row r is
-- that of resource r, from 1 to 99; row 0 is empty: laws.
use Prim.Native.Nat.{ℕ, ◌≤◌}
use mathlib.Core.Path.{◌≡◌}
use mathlib.Core.List.{List}
use native.Mathlib.Omega.{arith}
use lib.ListN.{length, length-take}
use Rattle.user_table.specs.Users.{users_in}
use Rattle.user_table.proofs.laws.Users.{users-most, users-within}
use Rattle.user_table.specs.Filled.{users_at, Filled, EventRows, UserRows}

pub first_rows : {t : List ℕ} {n : ℕ} (m : ℕ) → m ≤ n → EventRows t n → EventRows t m
first_rows m h r =
    record {
      most = r.most;
      few = r.few;
      rows = record { each = λ e k. r.rows.each e (omega arith) };
      ascends = λ e k. r.ascends e (omega arith);
    }

-- a table that holds the users of each resource among the first n events
module _ (t : List ℕ) (n : ℕ) {users : List ℕ} (f : Filled users (users_in t n)) where
  pub filled_users : (r : ℕ) → users_at users r ≡ users_in t n r
  unfolding users_at
  filled_users r = (f.each r).front

  pub filled_rows : n ≤ 1024 → UserRows users
  filled_rows h =
      record {
        long = f.long;
        count = λ r. omega (arith, (f.each r).count, users-most t n r);
        within = λ r. rw (filled_users r) (users-within t 1024 n r h);
      }

-- a row's list is short
pub users-few : {users : List ℕ} → UserRows users → (r : ℕ) → length (users_at users r) ≤ 1024
unfolding users_at
users-few {users} u r = rw length-take (omega (arith, u.count r))
