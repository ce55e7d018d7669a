-- The run of a check as a function: what each turn makes of the machine and the stores, until no turn is left. It says nothing of
-- what a turn means.
use Rattle.std.specs.Prelude.{Bool, true, false, List, ℕ, suc, ◌+◌, ◌-◌, ◌*◌, length, set, replicate, Result}
use Rattle.scope.specs.Number.{number}
use Rattle.scope.specs.declared.refusal.Refusal.{Refusal}
use Rattle.directory.specs.declared.Row.{Row}
use Rattle.lookup.specs.declared.Probe.{Probe}
use Rattle.directory.specs.Directory.{with_dead}
use Rattle.lookup.specs.Lookup.{look_up}
use Rattle.reader.specs.Loop.{while_more}
use Rattle.copying.specs.Copies.{copied_at}
use Rattle.hints.specs.declared.machine.Phase.{Phase}
use Rattle.hints.specs.declared.machine.Phase.TheVariants.{Next, Walk, Followed, Keep, Wipe, Delete, Proved, Refused}
use Rattle.hints.specs.declared.machine.Turn.{Turn}
use Rattle.hints.specs.declared.machine.Machine.{Machine}
use Rattle.hints.specs.Machine.{turn_of, stopped, advanced, advanced_marks, advanced_trail}
use Rattle.deletion.specs.Passed.{passed_id}
use Rattle.turns.specs.declared.check.Check.{Check}
use Rattle.turns.specs.Check.{begun, judged, row_of, kept_as, entered, proceeded, unwound, unwound_marks, StepTaken, step_taken, answer_of}

-- the trail holds the literals that the hints of the step at hand set true, as far as it has room
pub record State : Type 0 where
  pub check : Check
  pub machine : Machine
  pub rows : List Row
  pub words : List ℕ
  pub marks : List ℕ
  pub trail : List ℕ

abbrev pub state : Check → Machine → List Row → List ℕ → List ℕ → List ℕ → State
state c m ys ws ms tr = record { check = c; machine = m; rows = ys; words = ws; marks = ms; trail = tr }

-- Ids that are deleted among the first n rows: one, with the row that was found; and all, each of which takes a byte at least
pub record Deletion : Type 0 where
  pub machine : Machine
  pub rows : List Row

abbrev pub deletion : Machine → List Row → Deletion
deletion m ys = record { machine = m; rows = ys }

abbrev pub found_deleted : List ℕ → Machine → List Row → Probe → Deletion
found_deleted s m ys p = deletion (passed_id (number s m.at) m p.hit) (with_dead ys p.at)

unfoldable pub id_deleted : List ℕ → ℕ → Deletion → Deletion
id_deleted s n d = found_deleted s d.machine d.rows (look_up d.rows n d.machine.want)

-- whether a turn deletes an id
abbrev pub is_delete : Turn → Bool
is_delete Turn.Look = false
is_delete Turn.Delete = true
is_delete Turn.Keep = false
is_delete Turn.Judge = false
is_delete Turn.Read = false
is_delete Turn.End = false

abbrev pub deletes : Deletion → Bool
deletes d = is_delete (turn_of d.machine.phase)

unfoldable pub ids_deleted : List ℕ → ℕ → Machine → List Row → Deletion
ids_deleted s n m ys = while_more deletes (id_deleted s n) (suc (length s)) (deletion m ys)

-- A turn, for the proof s: a clause is looked at, with the row that was found
abbrev pub looked_at : List ℕ → State → Row → State
looked_at s w row =
    state w.check (advanced (number s w.machine.at) (length w.trail) w.machine row w.words w.marks) w.rows
    w.words (advanced_marks (number s w.machine.at) w.machine row w.words w.marks)
    (advanced_trail (number s w.machine.at) w.machine row w.words w.marks w.trail)

-- ids were deleted
abbrev pub with_deletion : State → Deletion → State
with_deletion w d = state w.check d.machine d.rows w.words w.marks w.trail

-- the clause at hand is kept: c and ws are the check and the words with it
abbrev pub kept_with : State → Check → List ℕ → State
kept_with w c ws =
    state c (unwound c w.machine (length w.trail)) (set w.rows w.check.tally.rows (row_of w.check)) ws
    (unwound_marks c w.machine ws w.marks w.trail) w.trail

-- it was judged
abbrev pub judged_as : State → Check → State
judged_as w c = state c (proceeded c w.machine) w.rows w.words w.marks w.trail

-- a step was read
abbrev pub step_read : List ℕ → State → StepTaken → State
step_read s w x = state x.check (entered s x.check) w.rows w.words x.marks w.trail

-- by the turn; the variables of the proof go up to the last
abbrev pub by_turn : List ℕ → ℕ → State → Turn → State
by_turn s last w Turn.Look = looked_at s w (look_up w.rows w.check.tally.rows w.machine.want).hit
by_turn s last w Turn.Delete = with_deletion w (id_deleted s w.check.tally.rows (deletion w.machine w.rows))
by_turn s last w Turn.Keep =
    kept_with w (kept_as w.check) (copied_at s w.check.clause.literals w.words w.check.tally.words)
by_turn s last w Turn.Judge =
    judged_as w (judged w.check w.machine.at (length s) (length w.words) (length w.rows))
by_turn s last w Turn.Read = step_read s w (step_taken s w.check w.machine.at last w.marks)
by_turn s last w Turn.End = w

unfoldable pub turned : List ℕ → ℕ → State → State
turned s last w = by_turn s last w (turn_of w.machine.phase)

-- a turn is left
abbrev pub goes_on : Turn → Bool
goes_on Turn.Look = true
goes_on Turn.Delete = true
goes_on Turn.Keep = true
goes_on Turn.Judge = true
goes_on Turn.Read = true
goes_on Turn.End = false

abbrev pub going : State → Bool
going w = goes_on (turn_of w.machine.phase)

-- How many turns are left at most: of a proof of P bytes and a step whose hints stand at h, by stages and by the offset in each
unfoldable pub budget : ℕ → ℕ → ℕ → ℕ → ℕ
budget P h stage at = suc ((P - h) * (5 * suc P) + stage * suc P + (P - at))

unfoldable pub left_at : ℕ → ℕ → ℕ → Phase → ℕ
left_at P h at Next = budget P h 0 at
left_at P h at Walk = budget P h 4 at
left_at P h at Followed = budget P h 3 at
left_at P h at Keep = budget P h 2 at
left_at P h at Wipe = budget P h 1 at
left_at P h at Delete = budget P h 4 at
left_at P h at Proved = 0
left_at P h at (Refused k) = 0

unfoldable pub left : ℕ → Check → Machine → ℕ
left P c m = left_at P c.clause.hints m.at m.phase

abbrev pub to_go : List ℕ → State → ℕ
to_go s w = left (length s) w.check w.machine

-- turn by turn to the end
unfoldable pub ended : List ℕ → ℕ → State → State
ended s last w = while_more going (turned s last) (to_go s w) w

-- before the first step, where the stores hold a formula of n clauses and used words
abbrev pub at_first : ℕ → ℕ → List Row → List ℕ → List ℕ → List ℕ → State
at_first n used ys ws ms tr = state (begun n used) (stopped Next 0) ys ws ms tr

-- what a check answers, and what it leaves in the stores
pub record Outcome : Type 0 where
  pub answer : Result ℕ Refusal
  pub rows : List Row
  pub words : List ℕ
  pub marks : List ℕ

abbrev pub outcome : Result ℕ Refusal → List Row → List ℕ → List ℕ → Outcome
outcome r ys ws ms = record { answer = r; rows = ys; words = ws; marks = ms }

abbrev pub outcome_of : State → Outcome
outcome_of w = outcome (answer_of w.check.tally.steps w.machine.phase) w.rows w.words w.marks

-- a check with some trail
unfoldable pub driven_with : List ℕ → ℕ → ℕ → ℕ → List Row → List ℕ → List ℕ → List ℕ → Outcome
driven_with s last n used ys ws ms tr = outcome_of (ended s last (at_first n used ys ws ms tr))

-- a check has a trail of 32,768
unfoldable pub no_trail : List ℕ
no_trail = replicate 32768 0

abbrev pub driven_by : List ℕ → ℕ → ℕ → ℕ → List Row → List ℕ → List ℕ → Outcome
driven_by s last n used ys ws ms = driven_with s last n used ys ws ms no_trail
