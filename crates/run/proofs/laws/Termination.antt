-- A check ends: what is left of it falls with each turn.
use mathlib.Core.Path.{◌≡◌, refl}
use mathlib.Core.Bool.{Bool, true, false, cond, ◌&&◌}
use mathlib.Core.List.{List}
use Prim.Native.Nat.{ℕ, zero, suc, ◌+◌, ◌-◌, ◌*◌, ◌≤◌, ◌<◌}
use native.Mathlib.Omega.{arith}
use native.Mathlib.Nat.{mul-le-mul_right}
use lib.Dec.{eqb, ltb, leb}
use lib.ListN.{length}
use Rattle.std.specs.Prelude.{Option}
use Rattle.laws.specs.Booleans.{impossible, never_true}
use Rattle.scope.specs.Parsed.{Parsed, got, refused}
use Rattle.scope.specs.Number.{number}
use Rattle.scope.specs.declared.refusal.Reason.{Reason}
use Rattle.theory.proofs.laws.StepTokens.{StepRead}
use Rattle.theory.specs.Marked.{Standing, falsified, one_open, other}
use Rattle.parsing.proofs.laws.Numbers.{number-got}
use Rattle.directory.specs.declared.Row.{Row}
use Rattle.hints.specs.declared.machine.Phase.{Phase}
use Rattle.hints.specs.declared.machine.Phase.TheVariants.{Next, Walk, Followed, Keep, Wipe, Delete, Proved, Refused}
use Rattle.hints.specs.declared.machine.Turn as enum
use Rattle.hints.specs.declared.machine.Turn.TheVariants as turn
use Rattle.hints.specs.declared.machine.Machine.{Machine}
use Rattle.steps.specs.declared.step.Step.{Step}
use Rattle.turns.specs.declared.check.Check.{Check}
use Rattle.reading.proofs.laws.Reading.{ReadsStep, adds, deletes, misformed}
use Rattle.hints.proofs.laws.Machine as machine_laws
use Rattle.hints.specs.Machine.{turn_of, with_row, stopped, onward, walked}
use Rattle.hints.proofs.laws.Machine.{turn-phase, Advances, gone, broken, walks, wipes, idle}
use Rattle.trail.specs.Recorded.{recorded_at}
use Rattle.turns.specs.Check.{kept_as, verdict, first_id, entered_at, entered, unwound, stepped}
use Rattle.turns.proofs.laws.Check.{TakesStep, over, takes}
use Rattle.run.specs.Turned.{goes_on, budget, left_at, left}
use Rattle.run.proofs.laws.Run.{World, Turn, looks, keeps, judges, reads, Ran, none, more}

-- the machine is at the hints of the clause at hand, or past them
abbrev pub Past : Check → Machine → Type 0
Past c m = c.clause.hints ≤ m.at

-- a machine with less left than n, past the offset h
record Lower (P h n : ℕ) (m : Machine) : Type 0 where
  past : h ≤ m.at
  less : left_at P h m.at m.phase < n

ended-lower : (P h n at : ℕ) (k : Reason) → h ≤ at → 0 < n → Lower P h n (stopped (Refused k) at)
unfolding left_at
ended-lower P h n at k l z = record { past = l; less = z }

-- an id was read
on-lower : (P h n : ℕ) (p q : Phase) (id next k : ℕ) → h ≤ next → left_at P h next p < n → left_at P h next q < n
    → Lower P h n (onward p q id next k)
unfolding onward
on-lower P h n p q zero next k l x y = record { past = l; less = y }
on-lower P h n p q (suc id) next k l x y = record { past = l; less = x }

same-stage : (P h stage at next : ℕ) → at < next → next ≤ P → budget P h stage next < budget P h stage at
unfolding budget
same-stage P h stage at next a i = omega arith

next-stage : (P h k j at next : ℕ) → k < j → budget P h k at < budget P h j next
unfolding budget
next-stage P h k j at next l = omega (arith, mul-le-mul_right {m = k + 1} {n = j} (suc P) (omega arith))

-- a step that stands further on
next-step : (P h g k at next : ℕ) → h < g → g ≤ P → k ≤ 4 → budget P g k at < budget P h 0 next
unfolding budget
next-step P h g k at next l i j =
    omega (
      arith,
      mul-le-mul_right {m = P - g + 1} {n = P - h} (5 * suc P) (omega arith),
      mul-le-mul_right {m = k} {n = 4} (suc P) j,
    )

walk-lower : (P h at k : ℕ) (x : Standing) (id next n : ℕ) → h ≤ at → at < next → next ≤ P
    → Lower P h (budget P h 4 at) (walked k x id next n)
unfolding walked left_at budget
walk-lower P h at k falsified zero next n l a i = record { past = omega arith; less = omega arith }
walk-lower P h at k falsified (suc id) next n l a i = record { past = omega arith; less = omega arith }
walk-lower P h at k (one_open x) id next n l a i =
    on-lower P h (budget P h 4 at) Walk (Refused Reason.BadHint) id next (recorded_at k n) (omega arith) (same-stage P h 4 at next a i) (omega arith)
walk-lower P h at k other id next n l a i = record { past = omega arith; less = omega arith }

pub some_left : (P h at : ℕ) (p : Phase) → goes_on (turn_of p) ≡ true → 0 < left_at P h at p
unfolding left_at budget
some_left P h at Next t = omega arith
some_left P h at Walk t = omega arith
some_left P h at Followed t = omega arith
some_left P h at Keep t = omega arith
some_left P h at Wipe t = omega arith
some_left P h at Delete t = omega arith
some_left P h at Proved t = never_true t
some_left P h at (Refused k) t = never_true t

-- a turn with a row is left
row-goes : (t : enum.Turn) → with_row t ≡ true → goes_on t ≡ true
row-goes turn.Look e = refl
row-goes turn.Delete e = refl
row-goes turn.Keep e = refl
row-goes turn.Judge e = refl
row-goes turn.Read e = refl
row-goes turn.End e = never_true e

some-budget : (P h k at : ℕ) → 0 < budget P h k at
unfolding budget
some-budget P h k at = omega arith

-- a turn with a row
advance-lower : (s : List ℕ) (h : ℕ) (m : Machine) {row : Row} {ws ms tr : List ℕ} {r : Machine} {ms' tr' : List ℕ}
    → Advances s m row ws ms tr r ms' tr'
    → with_row (turn_of m.phase) ≡ true → h ≤ m.at → Lower (length s) h (left_at (length s) h m.at m.phase) r
unfolding left_at
advance-lower s h m (gone e q) t l = rw q
    (ended-lower (length s) h _ m.at Reason.NotLive l (some_left (length s) h m.at m.phase (row-goes (turn_of m.phase) t)))
advance-lower s h m (broken k v e q) t l = rw q
    (ended-lower (length s) h _ m.at Reason.BadStep l (some_left (length s) h m.at m.phase (row-goes (turn_of m.phase) t)))
advance-lower s h m (walks id next a e p q w x) t l =
    let k = number-got s m.at e in rw (q, p) (walk-lower (length s) h m.at _ _ id next m.set l k.ahead k.inside)
advance-lower s h m (wipes id next a e p q w) t l =
    let k = number-got s m.at e in
    rw (q, p)
    (on-lower (length s) h (budget (length s) h 1 m.at) Wipe Next id next 0 (omega (arith, k.ahead))
    (same-stage (length s) h 1 m.at next k.ahead k.inside) (next-stage (length s) h 0 1 next m.at (omega arith)))
advance-lower s h m (machine_laws.deletes id next a e p q w) t l =
    let k = number-got s m.at e in
    rw (q, p)
    (on-lower (length s) h (budget (length s) h 4 m.at) Delete Next id next 0 (omega (arith, k.ahead))
    (same-stage (length s) h 4 m.at next k.ahead k.inside) (next-stage (length s) h 0 4 next m.at (omega arith)))
advance-lower s h m (idle z) t l = impossible (cc)

-- the walk that comes next, where less than n is left in its phase and in the one after it
module _ (s : List ℕ) (h n : ℕ) (z : 0 < n) where
  first_lower : (p q : Phase) → ((at : ℕ) → left_at (length s) h at p < n) → ((at : ℕ) → left_at (length s) h at q < n)
      → Lower (length s) h n (first_id p q h (number s h))
  unfolding left_at
  first_lower p q f g = go (number s h) refl
    where
      go : (x : Parsed ℕ) → number s h ≡ x → Lower (length s) h n (first_id p q h x)
      go (got id next) e = on-lower (length s) h n p q id next 0 (omega (arith, (number-got s h e).ahead)) (f next) (g next)
      go (refused k v) e = record { past = omega arith; less = z }

  enter_lower : (id : ℕ) (p : Phase) → ((at : ℕ) → left_at (length s) h at p < n) → ((at : ℕ) → left_at (length s) h at Next < n)
      → Lower (length s) h n (entered_at s h id p)
  unfolding left_at
  enter_lower id Next f g = record { past = omega arith; less = f h }
  enter_lower id Walk f g = first_lower Walk (Refused Reason.BadHint) f (λ at. z)
  enter_lower id Followed f g = record { past = omega arith; less = f h }
  enter_lower id Keep f g = record { past = omega arith; less = f h }
  enter_lower id Wipe f g = record { past = omega arith; less = f h }
  enter_lower id Delete f g = first_lower Delete Next f g
  enter_lower id Proved f g = record { past = omega arith; less = f h }
  enter_lower id (Refused k) f g = record { past = omega arith; less = f h }

-- what a judged clause leaves
verdict-less : (P h at e : ℕ) (c : Check) (to bytes words rows : ℕ)
    → left_at P h at (verdict c to bytes words rows) < budget P h 3 e
unfolding verdict left_at
verdict-less P h at e c to bytes words rows =
    go (eqb c.clause.size 0) (ltb to bytes) (leb (c.tally.words + c.clause.size) words && leb (c.tally.rows + 1) rows)
  where
    some : (k : ℕ) → 0 < budget P h k e
    some k = some-budget P h k e

    go : (x y z : Bool) → left_at P h at (cond x (cond y (Refused Reason.BadEnd) Proved) (cond z Keep (Refused Reason.ClauseTooLong))) < budget P h 3 e
    go true true z = some 3
    go true false z = some 3
    go false y true = next-stage P h 2 3 at e (omega arith)
    go false y false = some 3

-- what a clause that was kept leaves
unwound-lower : (P : ℕ) (c d : Check) (m : Machine) (k : ℕ) → d.clause.hints ≡ c.clause.hints → c.clause.hints ≤ m.at
    → Lower P c.clause.hints (budget P c.clause.hints 2 m.at) (unwound d m k)
unfolding unwound left_at
unwound-lower P c d m k e l = go (leb m.set k)
  where
    go : (t : Bool) → Lower P c.clause.hints (budget P c.clause.hints 2 m.at)
        (cond t (stopped Next m.at) (record { phase = Wipe; at = d.clause.hints; want = d.clause.id; set = 0 }))
    go true = record { past = l; less = next-stage P c.clause.hints 0 2 m.at m.at (omega arith) }
    go false =
        record {
          past = omega (arith, e);
          less = next-stage P c.clause.hints 1 2 d.clause.hints m.at (omega arith);
        }

-- what a step that was read leaves
step-lower : (s : List ℕ) (c : Check) (e highest last : ℕ) {x : StepRead} {ms ms' : List ℕ} (r : Option Step)
    → ReadsStep x s e highest last ms ms' r
    → c.clause.hints ≤ e → Lower (length s) (stepped c r).clause.hints (budget (length s) c.clause.hints 0 e)
    (entered s (stepped c r))
unfolding left_at
step-lower s c e highest last r (adds k a i f) l =
    enter_lower s k.hints _ (some-budget (length s) c.clause.hints 0 e) k.id Walk
    (λ at. next-step (length s) c.clause.hints k.hints 4 at e (omega arith) i (omega arith))
    (λ at. next-step (length s) c.clause.hints k.hints 0 at e (omega arith) i (omega arith))
step-lower s c e highest last r (deletes from a i m d) l =
    enter_lower s from _ (some-budget (length s) c.clause.hints 0 e) 0 Delete
    (λ at. next-step (length s) c.clause.hints from 4 at e (omega arith) i (omega arith))
    (λ at. next-step (length s) c.clause.hints from 0 at e (omega arith) i (omega arith))
step-lower s c e highest last r (misformed f) l =
    ended-lower (length s) c.clause.hints _ c.clause.hints Reason.BadStep (omega arith)
    (some-budget (length s) c.clause.hints 0 e)

takes-lower : (s : List ℕ) (c : Check) (e last : ℕ) {ms : List ℕ} {d : Check} {ms' : List ℕ} → TakesStep s c e last ms d ms'
    → c.clause.hints ≤ e → Lower (length s) d.clause.hints (budget (length s) c.clause.hints 0 e) (entered s d)
takes-lower s c e last (over h q) l =
    rw q (ended-lower (length s) c.clause.hints _ c.clause.hints Reason.BadEnd (omega arith)
    (some-budget (length s) c.clause.hints 0 e))
takes-lower s c e last (takes r h x q) l = rw q (step-lower s c e c.tally.highest last r x l)

-- what a turn does to what is left
abbrev pub Falls : ℕ → World → World → Type 0
Falls P w v = Past v.check v.machine × (left P v.check v.machine < left P w.check w.machine)

lower-falls : (P : ℕ) (w v : World) (h : ℕ)
    → Lower P h (left_at P w.check.clause.hints w.machine.at w.machine.phase) v.machine
    → v.check.clause.hints ≡ h → Falls P w v
unfolding left
lower-falls P w v h l e = (rw e l.past, rw e l.less)

pub turn-falls : (s : List ℕ) (last cap : ℕ) (w v : World) → Turn s last cap w v → Past w.check w.machine
    → Falls (length s) w v
unfolding left_at
turn-falls s last cap w v (looks p t f r d a c ws) l =
    lower-falls (length s) w v _ (advance-lower s w.check.clause.hints w.machine a t l) (rw c)
turn-falls s last cap w v (keeps t a c k e ms) l =
    let h = w.check.clause.hints in
    lower-falls (length s) w v h
    (rw (turn-phase w.machine.phase t refl, e, c) (unwound-lower (length s) w.check (kept_as w.check) w.machine (length w.trail) refl l))
    (rw c)
turn-falls s last cap w v (judges t c e r ws ms tr) l =
    let h = w.check.clause.hints in
    lower-falls (length s) w v h
    (rw (turn-phase w.machine.phase t refl, e, c)
    (record {
      past = l;
      less = verdict-less (length s) h w.machine.at w.machine.at w.check w.machine.at (length s) (length w.words) cap;
    }))
    (rw c)
turn-falls s last cap w v (reads t x e r ws) l =
    lower-falls (length s) w v _
    (rw (turn-phase w.machine.phase t refl, e) (takes-lower s w.check w.machine.at last x l))
    refl

-- two runs, one after the other
pub ran_on : (s : List ℕ) (last cap : ℕ) {w v u : World} → Ran s last cap w v → Ran s last cap v u → Ran s last cap w u
ran_on s last cap r none = r
ran_on s last cap r (more x y q t k l) = more x y (ran_on s last cap r q) t k l
