-- The subevents of one event, told from its bytes.
use Rattle.std.specs.Prelude.{ℕ, ◌+◌, Bool, true, false, not, cond, ◌||◌, List, ltb}
use Rattle.scope.specs.Cnf.{bit}
use Rattle.scope.specs.Kinds.{Atom, Y, S, X}
use Rattle.scope.specs.Subevents.{subevents}
use Rattle.deviation.specs.declared.subevents.Wanted.{Wanted}
use Rattle.deviation.specs.declared.subevents.Runs.{Runs}

-- which atoms are true of an event whose bytes of Y begin at y and those of S at s
unfoldable pub alone : List ℕ → (y s : ℕ) → Atom → Bool
alone b y s (Y e t) = bit b (y + t)
alone b y s (S e t) = bit b (s + t)
alone b y s (X r t) = false

-- how many of its subevents in T times have such a length; it is event 1, as it is alone
abbrev pub subevents_at : ℕ → List ℕ → (y s : ℕ) → (ℕ → Bool) → ℕ
subevents_at T b y s such = subevents T (alone b y s) 1 such

-- whether a length is wanted
abbrev pub is_wanted : Wanted → ℕ → Bool
is_wanted w n = cond (ltb n w.from || ltb w.to n) w.outside (not w.outside)

-- a walk, one time further back: whether it is taken, whether it is a start, whether a subevent that starts there is counted
abbrev pub runs_by : (taken start such : Bool) → Runs → Runs
runs_by taken true true w = record { count = w.count + 1; run = 0 }
runs_by taken true false w = record { count = w.count; run = 0 }
runs_by true false such w = record { count = w.count; run = w.run + 1 }
runs_by false false such w = record { count = w.count; run = 0 }

abbrev pub runs_after : Wanted → Runs → (taken start : Bool) → Runs
runs_after wanted w taken start = runs_by taken start (is_wanted wanted (w.run + 1)) w
