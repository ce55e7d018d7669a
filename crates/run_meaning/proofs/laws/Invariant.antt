-- What holds of a check between its turns: the plain run's answer A is what is still to come.
use mathlib.Core.Path.{◌≡◌}
use mathlib.Core.Bool.{true, false}
use mathlib.Core.List.{List, ◌∷◌}
use Prim.Native.Nat.{ℕ, ◌+◌, ◌-◌, ◌≤◌, ◌<◌}
use lib.ListN.{length}
use Rattle.scope.specs.Reason.{number_of}
use Rattle.scope.specs.Parsed.{Answer, answered, refusal}
use Rattle.scope.specs.Steps.{Live, follows, deleted}
use Rattle.theory.proofs.laws.StepTokens.{Tokens, up_to0}
use Rattle.theory.proofs.laws.Marked.{all_open, all_false, literals_ok, hints_show}
use Rattle.scope.specs.PlainRun.{State, Limits, with_clause}
use Rattle.theory.proofs.laws.MarkedRun.{Outcome, by_shown, by_deleted, by_outcome, run}
use Rattle.directory.specs.declared.Row.{Row}
use Rattle.marks.specs.Marks.{marks_of}
use Rattle.standing.specs.Clauses.{part}
use Rattle.standing.proofs.laws.Clauses.{in_clause}
use Rattle.holding.proofs.laws.Live.{live_rows}
use Rattle.holding.proofs.laws.Holding.{Holding}
use Rattle.hints.specs.declared.machine.Phase.{Phase}
use Rattle.hints.specs.declared.machine.Phase.TheVariants.{Next, Walk, Followed, Keep, Wipe, Delete, Proved, Refused}
use Rattle.hints.specs.declared.machine.Machine.{Machine}
use Rattle.turns.specs.declared.check.Tally.{Tally}
use Rattle.steps.specs.declared.step.Clause.{Clause}
use Rattle.reading.proofs.laws.Reading.{tokens_at, numbers_at}
use Rattle.run.proofs.laws.Run.{World}
use Rattle.run_meaning.proofs.laws.Hints.{in_hints, AllLive}

-- the plain run's state after so many steps
abbrev pub state_of : ℕ → Tally → Live → State
state_of steps t L = record { live = L; highest = t.highest; words_used = t.words; rows_used = t.rows; steps = steps }

-- the live clauses
abbrev pub live_in : Tally → (ℕ → Row) → List ℕ → Live
live_in tally R ws = live_rows R ws tally.rows

-- the stores
pub record Base (lim : Limits) (tally : Tally) (R : ℕ → Row) (ws ms : List ℕ) : Type 0 where
  pub holding : Holding lim.last_variable lim.rows_lent R ws tally.rows tally.words tally.highest
  pub lent : length ws ≡ lim.words_lent
  pub marked : lim.last_variable ≤ length ms

-- a step that was read: those before it are done, what comes after it, and how many steps more can be taken
pub record InStep (s : List ℕ) (tally : Tally) (clause : Clause) : Type 0 where
  pub done : ℕ
  pub counts : tally.steps ≡ done + 1
  pub early : tally.steps ≤ clause.hints
  pub after : Tokens
  pub fuel : ℕ
  pub enough : length s - clause.hints < fuel

-- what such a step's outcome comes to
abbrev pub ending : {s : List ℕ} (lim : Limits) {tally : Tally} {clause : Clause} → InStep s tally clause → Outcome → Answer ℕ
ending lim i x = by_outcome x (i.done + 1) i.after (λ st. run i.fuel lim st i.after)

-- a step that adds a clause: the marks of variables that no hint touches are those of its literals
pub record Adding (s : List ℕ) (lim : Limits) (tally : Tally) (clause : Clause) (R : ℕ → Row) (ws ms : List ℕ) : Type 0 where
  pub base : Base lim tally R ws ms
  pub step : InStep s tally clause
  pub literals : List ℕ
  pub hints : List ℕ
  pub middle : Tokens
  pub literals-at : numbers_at s clause.literals ≡ up_to0 literals middle
  pub hints_at : numbers_at s clause.hints ≡ up_to0 hints step.after
  pub size : length literals ≡ clause.size
  pub fresh : tally.highest < clause.id
  pub small : clause.id ≤ 4294967295
  pub good : literals_ok lim.last_variable all_open literals ≡ true
  pub outside : (v : ℕ) → in_hints (live_in tally R ws) hints v ≡ false → marks_of ms v ≡ all_false all_open literals v

-- the marks of variables that no literal of the trail has, where it holds n literals and had room for them
pub record Trailed (literals tr ms : List ℕ) (n : ℕ) : Type 0 where
  pub trailed : n ≤ length tr → (v : ℕ) → in_clause (part 0 n tr) v ≡ false → marks_of ms v ≡ all_false all_open literals v

-- the state before such a step
abbrev pub before : {s : List ℕ} {lim : Limits} {tally : Tally} {clause : Clause} {R : ℕ → Row} {ws ms : List ℕ}
    → Adding s lim tally clause R ws ms → State
before {tally = tally} {R = R} {ws = ws} a = state_of a.step.done tally (live_in tally R ws)

-- by the phase
module _ (s : List ℕ) (lim : Limits) (A : Answer ℕ) (tally : Tally) (clause : Clause) (R : ℕ → Row) (ws ms : List ℕ) where
  -- a step is to be read
  pub record Reading (at : ℕ) : Type 0 where
    pub base : Base lim tally R ws ms
    pub unmarked : marks_of ms ≡ all_open
    pub early : tally.steps ≤ at
    pub fuel : ℕ
    pub enough : length s - at < fuel
    pub answer : A ≡ run fuel lim (state_of tally.steps tally (live_in tally R ws)) (tokens_at s at)

  -- hints are left: h, and then those at an offset
  pub record Walking (tr : List ℕ) (n h at : ℕ) : Type 0 where
    pub adding : Adding s lim tally clause R ws ms
    pub trail : Trailed adding.literals tr ms n
    pub left : List ℕ
    pub left_at : numbers_at s at ≡ up_to0 left adding.step.after
    pub among : (v : ℕ) → in_hints (live_in tally R ws) adding.hints v ≡ false → in_hints (live_in tally R ws) (h ∷ left) v ≡ false
    pub live : AllLive (live_in tally R ws) (h ∷ left) → AllLive (live_in tally R ws) adding.hints
    pub answer : A ≡ ending lim adding.step (by_shown (hints_show (live_in tally R ws) (marks_of ms) (h ∷ left)) lim
        (before adding) clause.id adding.literals)

  -- the clause follows
  pub record Following (tr : List ℕ) (n at : ℕ) : Type 0 where
    pub adding : Adding s lim tally clause R ws ms
    pub trail : Trailed adding.literals tr ms n
    pub live : AllLive (live_in tally R ws) adding.hints
    pub after_at : tokens_at s at ≡ adding.step.after
    pub answer : A ≡ ending lim adding.step (by_shown follows lim (before adding) clause.id adding.literals)

  -- it fits
  pub record Keeping (tr : List ℕ) (n at : ℕ) : Type 0 where
    pub adding : Adding s lim tally clause R ws ms
    pub trail : Trailed adding.literals tr ms n
    pub live : AllLive (live_in tally R ws) adding.hints
    pub after_at : tokens_at s at ≡ adding.step.after
    pub words_fit : tally.words + length adding.literals ≤ lim.words_lent
    pub rows_fit_lem : tally.rows + 1 ≤ lim.rows_lent
    pub answer : A ≡ run adding.step.fuel lim (with_clause (before adding) clause.id adding.literals)
        adding.step.after

  -- the clauses of h, and then of the ids at an offset, are to be wiped
  pub record Wiping (h at : ℕ) : Type 0 where
    pub base : Base lim tally R ws ms
    pub step : InStep s tally clause
    pub left : List ℕ
    pub left_at : numbers_at s at ≡ up_to0 left step.after
    pub live : AllLive (live_in tally R ws) (h ∷ left)
    pub outside : (v : ℕ) → in_hints (live_in tally R ws) (h ∷ left) v ≡ false → marks_of ms v ≡ 0
    pub answer : A ≡ run step.fuel lim (state_of (step.done + 1) tally (live_in tally R ws)) step.after

  -- h, and then the ids at an offset, are to be deleted
  pub record Deleting (h at : ℕ) : Type 0 where
    pub base : Base lim tally R ws ms
    pub unmarked : marks_of ms ≡ all_open
    pub step : InStep s tally clause
    pub left : List ℕ
    pub left_at : numbers_at s at ≡ up_to0 left step.after
    pub answer : A ≡ ending lim step (by_deleted (state_of step.done tally (live_in tally R ws))
        (deleted (live_in tally R ws) (h ∷ left)))

  abbrev pub InvariantIn : List ℕ → Phase → ℕ → ℕ → ℕ → Type 0
  InvariantIn tr Next at want n = Reading at
  InvariantIn tr Walk at want n = Walking tr n want at
  InvariantIn tr Followed at want n = Following tr n at
  InvariantIn tr Keep at want n = Keeping tr n at
  InvariantIn tr Wipe at want n = Wiping want at
  InvariantIn tr Delete at want n = Deleting want at
  InvariantIn tr Proved at want n = A ≡ answered tally.steps
  InvariantIn tr (Refused k) at want n = A ≡ refusal (number_of k) tally.steps

  abbrev pub InvariantAt : List ℕ → Machine → Type 0
  InvariantAt tr m = InvariantIn tr m.phase m.at m.want m.set

abbrev pub Invariant : List ℕ → Limits → Answer ℕ → World → Type 0
Invariant s lim A w =
    InvariantAt s lim A w.check.tally w.check.clause w.rows w.words w.marks w.trail w.machine
