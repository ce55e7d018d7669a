-- The machine that judges a proof: what each turn makes of it: laws.
use mathlib.Core.Path.{◌≡◌, refl}
use mathlib.Core.Bool.{Bool, true, false, cond}
use mathlib.Core.List.{List}
use Prim.Native.Nat.{ℕ, zero, suc}
use native.Mathlib.Omega.{arith}
use lib.Dec.{eqb}
use lib.ListN.{length}
use borrow.Author.Tests.{eqb-true, eqb-false}
use Rattle.scope.specs.Parsed.{Parsed, got, refused}
use Rattle.scope.specs.Number.{number}
use Rattle.scope.specs.declared.refusal.Reason.{Reason}
use Rattle.theory.specs.Marked.{falsified, standing}
use Rattle.directory.specs.declared.Row.{Row}
use Rattle.marks.specs.Marks.{marks_of}
use Rattle.standing.proofs.laws.Clauses.{Wiped, in_clause, wiped-opens}
use Rattle.directory.specs.Rows.{row_clause}
use Rattle.hints.specs.declared.machine.Phase.{Phase}
use Rattle.hints.specs.declared.machine.Phase.TheVariants.{Next, Walk, Followed, Keep, Wipe, Delete, Proved, Refused}
use Rattle.hints.specs.declared.machine.Turn.{Turn}
use Rattle.hints.specs.declared.machine.Machine.{Machine}
use Rattle.hints.specs.Machine.{stopped, followed, onward, walked, walked_trail, walked_marks, turn_of, with_row, turned_on, turned_marks, turned_trail, stands_by, read_on, read_marks, read_trail, advanced, advanced_marks, advanced_trail}

pub onward-end : (p over : Phase) (id next n : ℕ) → id ≡ 0 → onward p over id next n ≡ stopped over next
unfolding onward
onward-end p over zero next n h = refl
onward-end p over (suc id) next n h = absurd (omega arith)

pub onward-more : (p over : Phase) (id next n : ℕ) → (id ≡ 0 → ⊥)
    → onward p over id next n ≡ record { phase = p; at = next; want = id; set = n }
unfolding onward
onward-more p over zero next n h = absurd (h refl)
onward-more p over (suc id) next n h = refl

-- all literals of the hint are false
pub walked-last : (k id next n : ℕ) → id ≡ 0 → walked k falsified id next n ≡ followed next n
unfolding walked
walked-last k zero next n h = refl
walked-last k (suc id) next n h = absurd (omega arith)

pub walked-early : (k id next n : ℕ) → (id ≡ 0 → ⊥) → walked k falsified id next n ≡ stopped (Refused Reason.BadHint) next
unfolding walked
walked-early k zero next n h = absurd (h refl)
walked-early k (suc id) next n h = refl

-- a turn that one phase alone waits for, and that phase
abbrev pub lone : Turn → Bool
lone Turn.Look = false
lone Turn.Delete = true
lone Turn.Keep = true
lone Turn.Judge = true
lone Turn.Read = true
lone Turn.End = false

abbrev pub phase_of : Turn → Phase
phase_of Turn.Look = Walk
phase_of Turn.Delete = Delete
phase_of Turn.Keep = Keep
phase_of Turn.Judge = Followed
phase_of Turn.Read = Next
phase_of Turn.End = Proved

pub turn-phase : (p : Phase) {n : Turn} → turn_of p ≡ n → lone n ≡ true → p ≡ phase_of n
turn-phase p e l = rw (← e) (go p (rw e l))
  where
    go : (p : Phase) → lone (turn_of p) ≡ true → p ≡ phase_of (turn_of p)
    go Next l = refl
    go Walk l = refl
    go Followed l = refl
    go Keep l = refl
    go Wipe l = cc
    go Delete l = refl
    go Proved l = refl
    go (Refused k) l = cc

-- what a turn comes to
pub data Advances (s : List ℕ) (m : Machine) (row : Row) (ws ms tr : List ℕ) (r : Machine) (ms' tr' : List ℕ) : Type 0 where
  gone : row.live ≡ 0 → r ≡ stopped (Refused Reason.NotLive) m.at → Advances s m row ws ms tr r ms' tr'
  broken : (k v : ℕ) → number s m.at ≡ refused k v → r ≡ stopped (Refused Reason.BadStep) m.at → Advances s m row ws ms tr r ms' tr'
  walks : (id next : ℕ) → (row.live ≡ 0 → ⊥) → number s m.at ≡ got id next → m.phase ≡ Walk
      → r ≡ walked (length tr) (standing (marks_of ms) falsified (row_clause row ws)) id next m.set
      → ms' ≡ walked_marks (standing (marks_of ms) falsified (row_clause row ws)) ms
      → tr' ≡ walked_trail (standing (marks_of ms) falsified (row_clause row ws)) m.set tr → Advances s m row ws ms tr r ms' tr'
  wipes : (id next : ℕ) → (row.live ≡ 0 → ⊥) → number s m.at ≡ got id next → m.phase ≡ Wipe → r ≡ onward Wipe Next id next 0
      → Wiped (in_clause (row_clause row ws)) ms ms' → Advances s m row ws ms tr r ms' tr'
  deletes : (id next : ℕ) → (row.live ≡ 0 → ⊥) → number s m.at ≡ got id next → m.phase ≡ Delete
      → r ≡ onward Delete Next id next 0
      → ms' ≡ ms → Advances s m row ws ms tr r ms' tr'
  idle : with_row (turn_of m.phase) ≡ false → Advances s m row ws ms tr r ms' tr'

pub advances : (s : List ℕ) (m : Machine) (row : Row) (ws ms tr : List ℕ) → (turn_of m.phase ≡ Turn.Delete → ⊥)
    → Advances s m row ws ms tr (advanced (number s m.at) (length tr) m row ws ms) (advanced_marks (number s m.at) m row ws ms)
    (advanced_trail (number s m.at) m row ws ms tr)
unfolding advanced advanced_marks advanced_trail
advances s m row ws ms tr looks = go (eqb row.live 0) refl
  where
    by_phase : (row.live ≡ 0 → ⊥) → (id next : ℕ) → number s m.at ≡ got id next → (p : Phase) → m.phase ≡ p
        → Advances s m row ws ms tr (turned_on (length tr) p m (stands_by ms (row_clause row ws)) id next) (turned_marks p (stands_by ms (row_clause row ws)) (row_clause row ws) ms) (turned_trail p (stands_by ms (row_clause row ws)) m.set tr)
    by_phase l id next e Walk p = walks id next l e p refl refl refl
    by_phase l id next e Wipe p = wipes id next l e p refl (wiped-opens (row_clause row ws) ms)
    by_phase l id next e Delete p = absurd (looks (rw p))
    by_phase l id next e Next p = idle (rw p)
    by_phase l id next e Followed p = idle (rw p)
    by_phase l id next e Keep p = idle (rw p)
    by_phase l id next e Proved p = idle (rw p)
    by_phase l id next e (Refused k) p = idle (rw p)

    by_number : (row.live ≡ 0 → ⊥) → (x : Parsed ℕ) → number s m.at ≡ x
        → Advances s m row ws ms tr (read_on (length tr) m (row_clause row ws) ms x) (read_marks m.phase (row_clause row ws) ms x) (read_trail m (row_clause row ws) ms tr x)
    by_number l (refused k v) e = broken k v e refl
    by_number l (got id next) e = by_phase l id next e m.phase refl

    go : (t : Bool) → eqb row.live 0 ≡ t
        → Advances s m row ws ms tr (cond t (stopped (Refused Reason.NotLive) m.at) (read_on (length tr) m (row_clause row ws) ms (number s m.at)))
        (cond t ms (read_marks m.phase (row_clause row ws) ms (number s m.at))) (cond t tr (read_trail m (row_clause row ws) ms tr (number s m.at)))
    go true t = gone (eqb-true row.live 0 t) refl
    go false t = by_number (eqb-false row.live 0 t) (number s m.at) refl
