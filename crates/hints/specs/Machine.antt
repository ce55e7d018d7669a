-- The machine that judges a proof: what each turn makes of it.
use Rattle.std.specs.Prelude.{Bool, true, false, cond, List, ℕ, zero, suc, ◌+◌, ◌/◌, ◌%◌, eqb}
use Rattle.scope.specs.Parsed.{Parsed, got, refused}
use Rattle.scope.specs.declared.refusal.Reason.{Reason}
use Rattle.theory.specs.Marked.{Standing, falsified, one_open, other, standing}
use Rattle.directory.specs.declared.Row.{Row}
use Rattle.marks.specs.Marks.{marks_of, put_mark}
use Rattle.standing.specs.Clauses.{wiped}
use Rattle.directory.specs.Rows.{row_clause}
use Rattle.trail.specs.Recorded.{recorded, recorded_at}
use Rattle.hints.specs.declared.machine.Phase.{Phase}
use Rattle.hints.specs.declared.machine.Phase.TheVariants.{Next, Walk, Followed, Keep, Wipe, Delete, Proved, Refused}
use Rattle.hints.specs.declared.machine.Turn.{Turn}
use Rattle.hints.specs.declared.machine.Machine.{Machine}

-- no id is wanted
abbrev pub stopped : Phase → ℕ → Machine
stopped p at = record { phase = p; at = at; want = 0; set = 0 }

-- the step's clause follows, and the trail holds n literals
abbrev pub followed : ℕ → ℕ → Machine
followed at n = record { phase = Followed; at = at; want = 0; set = n }

-- an id was read before next: it is wanted, or a 0 ends the ids
unfoldable pub onward : Phase → Phase → ℕ → ℕ → ℕ → Machine
onward p over zero next n = stopped over next
onward p over (suc id) next n = record { phase = p; at = next; want = suc id; set = n }

-- a hint was judged, where an id was read before next
unfoldable pub walked : ℕ → Standing → ℕ → ℕ → ℕ → Machine
walked k falsified zero next n = followed next n
walked k falsified (suc id) next n = stopped (Refused Reason.BadHint) next
walked k (one_open l) id next n = onward Walk (Refused Reason.BadHint) id next (recorded_at k n)
walked k other id next n = stopped (Refused Reason.BadHint) next

unfoldable pub walked_trail : Standing → ℕ → List ℕ → List ℕ
walked_trail falsified n tr = tr
walked_trail (one_open l) n tr = recorded tr n l
walked_trail other n tr = tr

unfoldable pub walked_marks : Standing → List ℕ → List ℕ
walked_marks falsified ms = ms
walked_marks (one_open l) ms = put_mark ms (l / 2) (1 + l % 2)
walked_marks other ms = ms

-- the turn that a machine waits for
abbrev pub turn_of : Phase → Turn
turn_of Next = Turn.Read
turn_of Walk = Turn.Look
turn_of Followed = Turn.Judge
turn_of Keep = Turn.Keep
turn_of Wipe = Turn.Look
turn_of Delete = Turn.Delete
turn_of Proved = Turn.End
turn_of (Refused k) = Turn.End

-- whether it is one with the row of an id
abbrev pub with_row : Turn → Bool
with_row Turn.Look = true
with_row Turn.Delete = true
with_row Turn.Keep = false
with_row Turn.Judge = false
with_row Turn.Read = false
with_row Turn.End = false

-- One turn with the row of the id that was wanted: by the phase, where an id was read before next and the trail has room for k
abbrev pub turned_on : ℕ → Phase → Machine → Standing → ℕ → ℕ → Machine
turned_on k Walk m x id next = walked k x id next m.set
turned_on k Wipe m x id next = onward Wipe Next id next 0
turned_on k Delete m x id next = m
turned_on k Next m x id next = m
turned_on k Followed m x id next = m
turned_on k Keep m x id next = m
turned_on k Proved m x id next = m
turned_on k (Refused r) m x id next = m

abbrev pub turned_marks : Phase → Standing → List ℕ → List ℕ → List ℕ
turned_marks Walk x c ms = walked_marks x ms
turned_marks Wipe x c ms = wiped ms c
turned_marks Delete x c ms = ms
turned_marks Next x c ms = ms
turned_marks Followed x c ms = ms
turned_marks Keep x c ms = ms
turned_marks Proved x c ms = ms
turned_marks (Refused k) x c ms = ms

abbrev pub turned_trail : Phase → Standing → ℕ → List ℕ → List ℕ
turned_trail Walk x n tr = walked_trail x n tr
turned_trail Wipe x n tr = tr
turned_trail Delete x n tr = tr
turned_trail Next x n tr = tr
turned_trail Followed x n tr = tr
turned_trail Keep x n tr = tr
turned_trail Proved x n tr = tr
turned_trail (Refused k) x n tr = tr

-- how a clause stands
abbrev pub stands_by : List ℕ → List ℕ → Standing
stands_by ms c = standing (marks_of ms) falsified c

-- by the number that was read at the machine's place
abbrev pub read_on : ℕ → Machine → List ℕ → List ℕ → Parsed ℕ → Machine
read_on k m c ms (refused j v) = stopped (Refused Reason.BadStep) m.at
read_on k m c ms (got id next) = turned_on k m.phase m (stands_by ms c) id next

abbrev pub read_marks : Phase → List ℕ → List ℕ → Parsed ℕ → List ℕ
read_marks p c ms (refused k v) = ms
read_marks p c ms (got id next) = turned_marks p (stands_by ms c) c ms

abbrev pub read_trail : Machine → List ℕ → List ℕ → List ℕ → Parsed ℕ → List ℕ
read_trail m c ms tr (refused k v) = tr
read_trail m c ms tr (got id next) = turned_trail m.phase (stands_by ms c) m.set tr

-- 15 where the row is not live
unfoldable pub advanced : Parsed ℕ → ℕ → Machine → Row → List ℕ → List ℕ → Machine
advanced x k m row ws ms = cond (eqb row.live 0) (stopped (Refused Reason.NotLive) m.at) (read_on k m (row_clause row ws) ms x)

unfoldable pub advanced_marks : Parsed ℕ → Machine → Row → List ℕ → List ℕ → List ℕ
advanced_marks x m row ws ms = cond (eqb row.live 0) ms (read_marks m.phase (row_clause row ws) ms x)

unfoldable pub advanced_trail : Parsed ℕ → Machine → Row → List ℕ → List ℕ → List ℕ → List ℕ
advanced_trail x m row ws ms tr = cond (eqb row.live 0) tr (read_trail m (row_clause row ws) ms tr x)
