-- How a directory is searched for an id, and what is found.
use Rattle.std.specs.Prelude.{true, false, cond, List, ℕ, zero, suc, ◌+◌, ◌-◌, ◌/◌, min, eqb, leb, ltb, length}
use Rattle.directory.specs.declared.Row.{Row}
use Rattle.directory.specs.Rows.{no_row}
use Rattle.directory.specs.Directory.{rows_of}
use Rattle.lookup.specs.declared.Probe.{Probe}

-- A search of n rows for an id. The first look is at row id − 1, which has the id where no id was left out, or at the last row
abbrev pub started : ℕ → ℕ → Probe
started n id = record { lo = 0; hi = n; at = min n id - 1; hit = no_row; guess = true }

-- a search of lo to hi whose next look is in the middle
abbrev pub halving : ℕ → ℕ → Row → Probe
halving lo hi hit = record { lo = lo; hi = hi; at = lo + (hi - lo) / 2; hit = hit; guess = false }

-- a search that is over, with a row
abbrev pub ended : Probe → Row → Probe
ended s hit = record { lo = s.hi; hi = s.hi; at = s.at; hit = hit; guess = false }

-- the search after a look at a row: a guess is right or fails; the last row that is left is the wanted one or not; the wanted row is
-- this one or after it, or it stands before it
unfoldable pub narrowed : Probe → Row → ℕ → Probe
narrowed s row id =
    cond s.guess (cond (eqb row.id id) (ended s row) (halving s.lo s.hi s.hit))
    (cond (ltb (s.hi - s.lo) 2) (cond (eqb row.id id) (ended s row) (ended s s.hit))
    (cond (leb row.id id) (halving s.at s.hi s.hit) (halving s.lo s.at s.hit)))

-- at most k looks
unfoldable pub seek : ℕ → (ℕ → Row) → ℕ → Probe → Probe
seek zero R id s = s
seek (suc k) R id s = cond (ltb s.lo s.hi) (seek k R id (narrowed s (R s.at) id)) s

-- the search of the first n of some rows for an id
abbrev pub look_up : List Row → ℕ → ℕ → Probe
look_up xs n id = seek (suc (length xs)) (rows_of xs) id (started (min n (length xs)) id)
