-- Idle times in one walk over a group. A group is said by whether each of its members has X, in their order.
use Rattle.std.specs.Prelude.{Bool, true, false, not, cond, ◌&&◌, ℕ, suc, ◌+◌, min, length, get_or, take, drop, eqb}
use mathlib.Core.List.{List, map, foldl}
use Rattle.scope.specs.Kinds.{from}
use Rattle.scope.specs.Score.{trues, any}
use Rattle.scope.specs.declared.Kept.{Kept}

-- "the member has no X, some earlier member of the group has X, and some later member has X"; members count from 0
abbrev pub idle_at : List Bool → ℕ → Bool
idle_at xs k = not (get_or xs k false) && any (take k xs) && any (drop (suc k) xs)

unfoldable pub idle_times : List Bool → ℕ
idle_times xs = trues (map (idle_at xs) (from 0 (length xs)))

-- what is kept at the start of each group
abbrev pub nothing_kept : Kept
nothing_kept = record { idle = 0; since = 0; seen = false }

-- "a step that takes at most three numbers kept from the step before and whether the next member has X": with X, all members since
-- the last with X are idle; without X it is one more of those, unless no member had X
abbrev pub idle_step : Kept → Bool → Kept
idle_step k true = record { idle = k.idle + k.since; since = 0; seen = true }
idle_step k false = cond k.seen (record { idle = k.idle; since = k.since + 1; seen = true }) k

-- what is kept after some members, from the start of a group on
unfoldable pub kept_after : List Bool → Kept
kept_after xs = foldl idle_step nothing_kept xs

-- any number but 0 says yes
abbrev pub yes : ℕ → Bool
yes n = not (eqb n 0)

-- the three as numbers of 32 bits: one that does not fit is given as the largest that does, yes as 1
abbrev pub fitted : ℕ → ℕ
fitted n = min n 4294967295

abbrev pub numbers_of : Kept → ℕ × ℕ × ℕ
numbers_of k = (fitted k.idle, fitted k.since, cond k.seen 1 0)

-- the step as an operation, for every value of its numbers
abbrev pub idle_step_of : (idle since seen used : ℕ) → ℕ × ℕ × ℕ
idle_step_of idle since seen used = numbers_of (idle_step (record { idle = idle; since = since; seen = yes seen }) (yes used))
