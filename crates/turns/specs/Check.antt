-- A check between two walks over ids: what is counted, and what each step-level turn makes of it.
use Rattle.std.specs.Prelude.{cond, ◌&&◌, List, ℕ, ◌+◌, ◌-◌, min, eqb, ltb, leb, length, Option, Some, None, Result, Ok, Err}
use Rattle.scope.specs.Parsed.{Parsed, got, refused}
use Rattle.scope.specs.Number.{number}
use Rattle.scope.specs.declared.refusal.Reason.{Reason}
use Rattle.scope.specs.declared.refusal.Refusal.{Refusal}
use Rattle.directory.specs.declared.Row.{Row}
use Rattle.directory.specs.Rows.{new_row}
use Rattle.standing.specs.Clauses.{part, wiped}
use Rattle.steps.specs.declared.step.Step.{Step}
use Rattle.steps.specs.declared.step.Step.TheVariants.{Adds, Deletes}
use Rattle.hints.specs.declared.machine.Phase.{Phase}
use Rattle.hints.specs.declared.machine.Phase.TheVariants.{Next, Walk, Followed, Keep, Wipe, Delete, Proved, Refused}
use Rattle.hints.specs.declared.machine.Machine.{Machine}
use Rattle.turns.specs.declared.check.Tally.{Tally}
use Rattle.turns.specs.declared.check.Check.{Check}
use Rattle.steps.specs.Step.{step_at}
use Rattle.hints.specs.Machine.{stopped, onward}
use Rattle.trail.specs.Recorded.{largest}

-- before the first step, with a formula of so many rows and words
abbrev pub begun : ℕ → ℕ → Check
begun rows words =
    record {
      phase = Next;
      tally = record { steps = 0; highest = rows; rows = rows; words = words };
      clause = record { id = 0; literals = 0; size = 0; hints = 0 };
    }

abbrev pub with_phase : Check → Phase → Check
with_phase c p = record { phase = p; tally = c.tally; clause = c.clause }

-- the clause at hand follows, and what comes after its step stands at an offset: the empty clause ends the proof, another is
-- kept if it fits
unfoldable pub verdict : Check → ℕ → ℕ → ℕ → ℕ → Phase
verdict c at bytes words rows =
    cond (eqb c.clause.size 0) (cond (ltb at bytes) (Refused Reason.BadEnd) Proved)
    (cond (leb (c.tally.words + c.clause.size) words && leb (c.tally.rows + 1) rows) Keep (Refused Reason.ClauseTooLong))

abbrev pub judged : Check → ℕ → ℕ → ℕ → ℕ → Check
judged c at bytes words rows = with_phase c (verdict c at bytes words rows)

-- the row of the clause at hand
abbrev pub row_of : Check → Row
row_of c = new_row c.clause.id c.tally.words c.clause.size

-- the clause at hand was stored, and is counted
abbrev pub kept_as : Check → Check
kept_as c =
    record {
      phase = Wipe;
      tally =
          record {
            steps = c.tally.steps;
            highest = c.clause.id;
            rows = min (c.tally.rows + 1) largest;
            words = min (c.tally.words + c.clause.size) largest;
          };
      clause = c.clause;
    }

-- a walk over the ids at an offset, where x is the number there
abbrev pub first_id : Phase → Phase → ℕ → Parsed ℕ → Machine
first_id p over at (got id next) = onward p over id next 0
first_id p over at (refused k v) = stopped (Refused Reason.BadStep) at

-- the machine at the start of what comes next
abbrev pub entered_at : List ℕ → ℕ → ℕ → Phase → Machine
entered_at s at id Next = stopped Next at
entered_at s at id Walk = first_id Walk (Refused Reason.BadHint) at (number s at)
entered_at s at id Followed = stopped Followed at
entered_at s at id Keep = stopped Keep at
entered_at s at id Wipe = record { phase = Wipe; at = at; want = id; set = 0 }
entered_at s at id Delete = first_id Delete Next at (number s at)
entered_at s at id Proved = stopped Proved at
entered_at s at id (Refused k) = stopped (Refused k) at

abbrev pub entered : List ℕ → Check → Machine
entered s c = entered_at s c.clause.hints c.clause.id c.phase

-- the machine once the clause at hand was judged
abbrev pub proceeded : Check → Machine → Machine
proceeded c m = record { phase = c.phase; at = m.at; want = 0; set = m.set }

-- the clause at hand was kept, and a trail of room for k was recorded: what is next, and the marks
unfoldable pub unwound : Check → Machine → ℕ → Machine
unwound c m k = cond (leb m.set k) (stopped Next m.at) (record { phase = Wipe; at = c.clause.hints; want = c.clause.id; set = 0 })

unfoldable pub unwound_marks : Check → Machine → List ℕ → List ℕ → List ℕ → List ℕ
unwound_marks c m ws ms tr =
    cond (leb m.set (length tr))
    (wiped (wiped ms (part (c.tally.words - c.clause.size) c.clause.size ws)) (part 0 m.set tr)) ms

-- one step more
abbrev pub counted : Tally → Tally
counted t = record { steps = min (t.steps + 1) largest; highest = t.highest; rows = t.rows; words = t.words }

-- a step was read, or it is misformed
abbrev pub stepped : Check → Option Step → Check
stepped c None = record { phase = Refused Reason.BadStep; tally = counted c.tally; clause = c.clause }
stepped c (Some (Adds k)) = record { phase = Walk; tally = counted c.tally; clause = k }
stepped c (Some (Deletes from)) =
    record { phase = Delete; tally = counted c.tally; clause = record { id = 0; literals = from; size = 0; hints = from } }

-- the step that stands at an offset, if there is one
pub record StepTaken : Type 0 where
  pub check : Check
  pub marks : List ℕ

unfoldable pub step_taken : List ℕ → Check → ℕ → ℕ → List ℕ → StepTaken
step_taken s c at last ms =
    cond (leb (length s) at) (record { check = with_phase c (Refused Reason.BadEnd); marks = ms })
    (record { check = stepped c (step_at s at c.tally.highest last ms).read; marks = (step_at s at c.tally.highest last ms).marks })

-- the answer of a check that has ended, after so many steps
abbrev pub answer_of : ℕ → Phase → Result ℕ Refusal
answer_of n Next = Err (record { reason = Reason.BadStep; value = n })
answer_of n Walk = Err (record { reason = Reason.BadStep; value = n })
answer_of n Followed = Err (record { reason = Reason.BadStep; value = n })
answer_of n Keep = Err (record { reason = Reason.BadStep; value = n })
answer_of n Wipe = Err (record { reason = Reason.BadStep; value = n })
answer_of n Delete = Err (record { reason = Reason.BadStep; value = n })
answer_of n Proved = Ok n
answer_of n (Refused k) = Err (record { reason = k; value = n })
