-- The times that subevents of one event hold, told from its bytes.
use Rattle.std.specs.Prelude.{ℕ, ◌<◌, ◌≡◌, Bool, cond, not, List, length, get_or}
use Rattle.scope.specs.Kinds.{member}
use Rattle.scope.specs.Subevents.{times_held}
use Rattle.deviation.specs.Subevents.{alone}

-- how many of T times are held by a subevent that starts at such a time; the event is event 1, as it is alone
abbrev pub times_held_at : ℕ → List ℕ → (y s : ℕ) → (ℕ → Bool) → ℕ
times_held_at T b y s such = times_held T (alone b y s) 1 such

-- the times outside a group
abbrev pub outside_of : List ℕ → ℕ → Bool
outside_of row t = not (member t row)

-- flags for the times up to 125 are all 1, and a row has only such times
pub record Flaggable (row flags : List ℕ) : Type 0 where
  pub room : length flags ≡ 126
  pub times : (k : ℕ) → k < length row → get_or row k 0 < 126
  pub ones : (t : ℕ) → t < 126 → get_or flags t 0 ≡ 1

-- a flag is 1 at such times, else 0
pub record Flagged (such : ℕ → Bool) (flags : List ℕ) : Type 0 where
  pub each : (t : ℕ) → t < 126 → get_or flags t 0 ≡ cond (such t) 1 0
