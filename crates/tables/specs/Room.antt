-- How many rows the groups of a file may need.
use Rattle.std.specs.Prelude.{ℕ, Bool, cond, List, eqb, get_or}

-- a file that begins with a 0
abbrev pub dated : List ℕ → Bool
dated s = eqb (get_or s 0 1) 0

-- rows for its groups, and in such a file for the windows of its calendar too
abbrev pub group_room : List ℕ → ℕ
group_room s = cond (dated s) 2048 1024
