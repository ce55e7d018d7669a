-- The loop that drives a check: what each turn makes of the machine and the stores is a turn of the run, which comes nearer to its end.
use mathlib.Core.Path.{◌≡◌, sym, ap, subst}
use mathlib.Core.Bool.{true}
use mathlib.Core.List.{List}
use Prim.Native.Nat.{ℕ}
use lib.ListN.{length, set}
use Rattle.std.specs.Prelude.{Result}
use Rattle.scope.specs.Parsed.{Parsed}
use Rattle.scope.specs.Number.{number}
use Rattle.scope.specs.declared.refusal.Refusal.{Refusal}
use Rattle.directory.specs.declared.Row.{Row}
use Rattle.lookup.specs.declared.Probe.{Probe}
use Rattle.lookup.specs.Lookup.{look_up}
use Rattle.reader.proofs.Loops.{Left, left_over}
use Rattle.copying.specs.Copies.{copied_at}
use Rattle.hints.specs.declared.machine.Turn.{Turn}
use Rattle.hints.specs.declared.machine.Machine.{Machine}
use Rattle.hints.specs.Machine.{turn_of, advanced, advanced_marks, advanced_trail}
use Rattle.turns.specs.declared.check.Check.{Check}
use Rattle.turns.specs.Check.{judged, row_of, kept_as, entered, proceeded, unwound, unwound_marks, step_taken, answer_of}
use Rattle.run.specs.Turned.{State, state, turned, deletion, ids_deleted, goes_on, going, to_go, ended, at_first, outcome, outcome_of, driven_with}
use Rattle.run.proofs.laws.Termination.{Past}
use Rattle.run.proofs.Turning.{Nearer, turn_nearer, ids_nearer}

-- a check of the proof s that comes to g, and where it stands
module _ (s : List ℕ) (last : ℕ) (g : State) (c : Check) (m : Machine) (ys : List Row) (ws ms tr : List ℕ) (past : Past c m)
    (onto : Left going (turned s last) (to_go s) g (state c m ys ws ms tr)) where
  abbrev here : State
  here = state c m ys ws ms tr

  abbrev Onward : Check → Machine → List Row → List ℕ → List ℕ → List ℕ → Type 0
  Onward c' m' ys' ws' ms' tr' = Nearer s last g here (state c' m' ys' ws' ms' tr')

  one-turn : (v : State) → goes_on (turn_of m.phase) ≡ true → v ≡ turned s last here → Nearer s last g here v
  one-turn v low e = subst (Nearer s last g here) (sym e) (turn_nearer s last g here low past onto)

  pub looked : (p : Probe) (x : Parsed ℕ) {m' : Machine} {ms' tr' : List ℕ} → turn_of m.phase ≡ Turn.Look → p ≡ look_up ys c.tally.rows m.want
      → x ≡ number s m.at
      → m' ≡ advanced x (length tr) m p.hit ws ms
      → ms' ≡ advanced_marks x m p.hit ws ms
      → tr' ≡ advanced_trail x m p.hit ws ms tr
      → Onward c m' ys ws ms' tr'
  unfolding turned
  looked p x h found q a b d = one-turn _ (ap goes_on h) (rw (h, a, b, d, q, found))

  pub deleted : (m' : Machine) (ys' : List Row) → turn_of m.phase ≡ Turn.Delete → deletion m' ys' ≡ ids_deleted s c.tally.rows m ys
      → Onward c m' ys' ws ms tr
  deleted m' ys' h e = ids_nearer s last g here h past onto m' ys' e

  pub kept : (row : Row) {c' : Check} {m' : Machine} {ys' : List Row} {ws' ms' : List ℕ} → turn_of m.phase ≡ Turn.Keep → row ≡ row_of c
      → ys' ≡ set ys c.tally.rows row
      → c' ≡ kept_as c
      → ws' ≡ copied_at s c.clause.literals ws c.tally.words
      → m' ≡ unwound c' m (length tr)
      → ms' ≡ unwound_marks c' m ws' ms tr
      → Onward c' m' ys' ws' ms' tr
  unfolding turned
  kept row h e put k w u v = one-turn _ (ap goes_on h) (rw (h, u, v, k, w, put, e))

  pub judged-on : {c' : Check} {m' : Machine} → turn_of m.phase ≡ Turn.Judge → c' ≡ judged c m.at (length s) (length ws) (length ys)
      → m' ≡ proceeded c' m
      → Onward c' m' ys ws ms tr
  unfolding turned
  judged-on h e begins = one-turn _ (ap goes_on h) (rw (h, begins, e))

  pub stepped-on : {c' : Check} {m' : Machine} {ms' : List ℕ} → turn_of m.phase ≡ Turn.Read → c' ≡ (step_taken s c m.at last ms).check
      → ms' ≡ (step_taken s c m.at last ms).marks
      → m' ≡ entered s c'
      → Onward c' m' ys ws ms' tr
  unfolding turned
  stepped-on h e f begins = one-turn _ (ap goes_on h) (rw (h, begins, e, f))

-- none is left
pub answered : (s : List ℕ) (last n used : ℕ) (ys₀ : List Row) (ws₀ ms₀ tr₀ : List ℕ) (c : Check) (m : Machine) (ys : List Row)
    (ws ms tr : List ℕ) (r : Result ℕ Refusal)
    → Left going (turned s last) (to_go s) (ended s last (at_first n used ys₀ ws₀ ms₀ tr₀)) (state c m ys ws ms tr)
    → turn_of m.phase ≡ Turn.End
    → r ≡ answer_of c.tally.steps m.phase
    → outcome r ys ws ms ≡ driven_with s last n used ys₀ ws₀ ms₀ tr₀
unfolding driven_with
answered s last n used ys₀ ws₀ ms₀ tr₀ c m ys ws ms tr r onto h e =
    rw e (ap outcome_of (left_over going (turned s last) (to_go s) _ (state c m ys ws ms tr) onto (ap goes_on h)))
