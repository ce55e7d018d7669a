-- The run as a function is a chain of turns: what is left falls with each, and deleting ids at once is some of them.
use mathlib.Core.Path.{◌≡◌, refl, sym, ap, subst}
use mathlib.Core.Bool.{Bool, true, false, cond}
use mathlib.Core.List.{List}
use Prim.Native.Nat.{ℕ, zero, suc, ◌≤◌, ◌<◌}
use native.Mathlib.Omega.{arith}
use lib.ListN.{length, length-replicate}
use Rattle.std.specs.Prelude.{Result}
use Rattle.laws.specs.Booleans.{impossible, never_true}
use Rattle.scope.specs.declared.refusal.Refusal.{Refusal}
use Rattle.directory.specs.declared.Row.{Row}
use Rattle.directory.specs.Directory.{rows_of, with_dead}
use Rattle.directory.proofs.laws.Directory.{dies-at, appends-at}
use Rattle.lookup.specs.Lookup.{look_up}
use Rattle.lookup.proofs.Search.{finds}
use Rattle.reader.specs.Loop.{while_more}
use Rattle.reader.proofs.Loops.{Left, left_more}
use Rattle.reading.proofs.laws.Copying.{copies_at}
use Rattle.hints.specs.declared.machine.Turn as enum
use Rattle.hints.specs.declared.machine.Turn.TheVariants as turn
use Rattle.hints.specs.declared.machine.Machine.{Machine}
use Rattle.hints.specs.Machine.{turn_of}
use Rattle.hints.proofs.laws.Machine.{turn-phase, advances}
use Rattle.trail.specs.Recorded.{largest}
use Rattle.deletion.proofs.laws.Passed.{passes-id}
use Rattle.turns.specs.Check.{row_of}
use Rattle.run.specs.Turned.{State, Deletion, deletion, is_delete, deletes, id_deleted, ids_deleted, with_deletion, by_turn, turned, goes_on, going, left, to_go, ended, at_first, outcome, driven_with, no_trail, driven_by}
use Rattle.run.proofs.laws.Run.{World, world, Turn, looks, keeps, judges, reads, Ran, none, more, Driven}
use Rattle.run.proofs.laws.Termination.{Past, Falls, turn-falls, some_left, ran_on}
use Rattle.run.proofs.Taking.{takes_step}
use Rattle.run.proofs.Lengths.{turned-long}

-- the rows as they are looked up
abbrev pub seen : State → World
seen w = world w.check w.machine (rows_of w.rows) w.words w.marks w.trail

pub turned_turn : (s : List ℕ) (last : ℕ) (w : State) → goes_on (turn_of w.machine.phase) ≡ true
    → Turn s last (length w.rows) (seen w) (seen (turned s last w))
unfolding turned id_deleted
turned_turn s last w h = go (turn_of w.machine.phase) refl h
  where
    go : (k : enum.Turn) → turn_of w.machine.phase ≡ k → goes_on k ≡ true → Turn s last (length w.rows) (seen w) (seen (by_turn s last w k))
    go turn.Look e l =
        let p = look_up w.rows w.check.tally.rows w.machine.want in
        looks p (rw e) (finds w.rows w.check.tally.rows w.machine.want p refl) (λ z. refl) (λ z. impossible (cc))
        (advances s w.machine p.hit w.words w.marks w.trail (λ z. impossible (cc))) refl refl
    go turn.Delete e l =
        let p = look_up w.rows w.check.tally.rows w.machine.want in
        looks p (rw e) (finds w.rows w.check.tally.rows w.machine.want p refl) (λ z. impossible (cc))
        (λ z. dies-at w.rows (with_dead w.rows p.at) p.at refl)
        (passes-id s w.machine p.hit w.words w.marks w.trail (turn-phase w.machine.phase e refl))
        refl refl
    go turn.Keep e l =
        keeps e (appends-at w.rows _ w.check.tally.rows (row_of w.check) refl) refl
        (copies_at s w.check.clause.literals w.words w.check.tally.words) refl refl
    go turn.Judge e l = judges e refl refl refl refl refl refl
    go turn.Read e l = reads e (takes_step s w.check w.machine.at last w.marks) refl refl refl
    go turn.End e l = never_true l

pub turned-falls : (s : List ℕ) (last : ℕ) (w : State) → goes_on (turn_of w.machine.phase) ≡ true → Past w.check w.machine
    → Falls (length s) (seen w) (seen (turned s last w))
turned-falls s last w h p = turn-falls s last (length w.rows) (seen w) (seen (turned s last w)) (turned_turn s last w h) p

-- a turn is left while there is something to do
some-to-go : (s : List ℕ) (w : State) → going w ≡ true → 0 < to_go s w
unfolding left
some-to-go s w e = some_left (length s) w.check.clause.hints w.machine.at w.machine.phase e

-- where none is left
ends-turn : (t : enum.Turn) → goes_on t ≡ false → t ≡ turn.End
ends-turn turn.Look e = cc
ends-turn turn.Delete e = cc
ends-turn turn.Keep e = cc
ends-turn turn.Judge e = cc
ends-turn turn.Read e = cc
ends-turn turn.End e = refl

-- an id is deleted in the turn that deletes
deletes-turn : (t : enum.Turn) → is_delete t ≡ true → t ≡ turn.Delete
deletes-turn turn.Look e = cc
deletes-turn turn.Delete e = refl
deletes-turn turn.Keep e = cc
deletes-turn turn.Judge e = cc
deletes-turn turn.Read e = cc
deletes-turn turn.End e = cc

-- Turn by turn to the end
record Ends (s : List ℕ) (last : ℕ) (w v : State) : Type 0 where
  ran : Ran s last (length w.rows) (seen w) (seen v)
  over : turn_of v.machine.phase ≡ turn.End

module _ (s : List ℕ) (last : ℕ) where
  stays : (w : State) → going w ≡ false → Ends s last w w
  stays w e = record { ran = none; over = ends-turn (turn_of w.machine.phase) e }

  goes_on_lem : (w v : State) → going w ≡ true → Past w.check w.machine → Ends s last (turned s last w) v → Ends s last w v
  goes_on_lem w v e p x =
      let t = turned_turn s last w e in
      let k = turned-long s last w in
      let r : Ran s last (length w.rows) (seen (turned s last w)) (seen v) = rw k.rows at x.ran in
      record { ran = ran_on s last (length w.rows) (more (seen w) (seen (turned s last w)) none t k.marks k.trail) r; over = x.over }

  ends : (k : ℕ) (w : State) → to_go s w ≤ k → Past w.check w.machine → Ends s last w (while_more going (turned s last) k w)
  unfolding while_more
  ends zero w l p = go (going w) refl
    where
      go : (t : Bool) → going w ≡ t → Ends s last w w
      go true e = absurd (omega (arith, some-to-go s w e))
      go false e = stays w e
  ends (suc k) w l p = go (ends k (turned s last w)) (going w) refl
    where
      go : (to_go s (turned s last w) ≤ k → Past (turned s last w).check (turned s last w).machine → Ends s last (turned s last w) (while_more going (turned s last) k (turned s last w)))
          → (t : Bool) → going w ≡ t → Ends s last w (cond t (while_more going (turned s last) k (turned s last w)) w)
      go ih true e =
          let f = turned-falls s last w e p in goes_on_lem w _ e p (ih (omega (arith, f.1)) f.0)
      go ih false e = stays w e

-- no store is longer than a word of the machine can say
pub record Few (s ws : List ℕ) (cap : ℕ) : Type 0 where
  pub bytes : length s ≤ largest
  pub words : length ws ≤ largest
  pub rows : cap ≤ largest

no-trail-long : length no_trail ≡ 32768
unfolding no_trail
no-trail-long = length-replicate {A = ℕ} 32768 0

-- what a check leaves, as a chain of turns
pub driven-chain : (s : List ℕ) (last n used : ℕ) (ys : List Row) (ws ms : List ℕ) {r : Result ℕ Refusal} {ys' : List Row} {ws' ms' : List ℕ}
    → Few s ws (length ys) → outcome r ys' ws' ms' ≡ driven_by s last n used ys ws ms
    → Driven s last (length ys) n used (rows_of ys) ws ms r (rows_of ys') ws' ms'
unfolding driven_with ended
driven-chain s last n used ys ws ms few e =
    let w = at_first n used ys ws ms no_trail in
    let x = ends s last (to_go s w) w (omega arith) (omega arith) in
    record {
      trail = no_trail;
      end = seen (ended s last w);
      ran = x.ran;
      over = x.over;
      answer = ap (λ o. o.answer) e;
      rows_left = ap (λ o. rows_of o.rows) e;
      words_left = ap (λ o. o.words) e;
      marks_left = ap (λ o. o.marks) e;
      few_bytes = few.bytes;
      few_words = few.words;
      few_rows = few.rows;
      short_trail = omega (arith, no-trail-long);
    }

-- Ids that are deleted at once: turns of a check that comes to g
module _ (s : List ℕ) (last : ℕ) (g : State) where
  abbrev Onto : State → Type 0
  Onto w = Left going (turned s last) (to_go s) g w

  pub record Further (w v : State) : Type 0 where
    pub past : Past v.check v.machine
    pub onto : Onto v
    pub near : to_go s v ≤ to_go s w

  -- one of them
  abbrev one_deleted : State → State
  one_deleted w = with_deletion w (id_deleted s w.check.tally.rows (deletion w.machine w.rows))

  deleted_turn : (w : State) → deletes (deletion w.machine w.rows) ≡ true
      → turned s last w ≡ one_deleted w
  unfolding turned
  deleted_turn w e = rw (deletes-turn (turn_of w.machine.phase) e)

  pub record Nearer (w v : State) : Type 0 where
    pub past : Past v.check v.machine
    pub onto : Onto v
    pub near : to_go s v < to_go s w

  pub turn_nearer : (w : State) → goes_on (turn_of w.machine.phase) ≡ true → Past w.check w.machine → Onto w → Nearer w (turned s last w)
  turn_nearer w h p l =
      let f = turned-falls s last w h p in
      record {
        past = f.0;
        onto = left_more going (turned s last) (to_go s) g w l h f.1;
        near = f.1;
      }

  delete_nearer : (w : State) → deletes (deletion w.machine w.rows) ≡ true → Past w.check w.machine → Onto w
      → Nearer w (one_deleted w)
  delete_nearer w e p l =
      let h = deletes-turn (turn_of w.machine.phase) e in
      subst (Nearer w) (deleted_turn w e) (turn_nearer w (ap goes_on h) p l)

  further : (k : ℕ) (w : State) → Past w.check w.machine → Onto w
      → Further w (with_deletion w (while_more deletes (id_deleted s w.check.tally.rows) k (deletion w.machine w.rows)))
  unfolding while_more
  further zero w p l = record { past = p; onto = l; near = omega arith }
  further (suc k) w p l = go (further k (one_deleted w)) (deletes (deletion w.machine w.rows)) refl
    where
      go : (Past (one_deleted w).check (one_deleted w).machine → Onto (one_deleted w) → Further (one_deleted w) (with_deletion w (while_more deletes (id_deleted s w.check.tally.rows) k (id_deleted s w.check.tally.rows (deletion w.machine w.rows)))))
          → (t : Bool) → deletes (deletion w.machine w.rows) ≡ t
          → Further w (with_deletion w (cond {A = Deletion} t (while_more deletes (id_deleted s w.check.tally.rows) k (id_deleted s w.check.tally.rows (deletion w.machine w.rows))) (deletion w.machine w.rows)))
      go ih true e =
          let n = delete_nearer w e p l in
          let f = ih n.past n.onto in record { past = f.past; onto = f.onto; near = omega (arith, f.near, n.near) }
      go ih false e = record { past = p; onto = l; near = omega arith }

  pub ids_nearer : (w : State) → turn_of w.machine.phase ≡ turn.Delete → Past w.check w.machine → Onto w → (m : Machine) (ys : List Row)
      → deletion m ys ≡ ids_deleted s w.check.tally.rows w.machine w.rows → Nearer w (with_deletion w (deletion m ys))
  unfolding ids_deleted while_more
  ids_nearer w h p l m ys e = subst (λ d. Nearer w (with_deletion w d)) (sym e) (go (deletes (deletion w.machine w.rows)) refl)
    where
      go : (t : Bool) → deletes (deletion w.machine w.rows) ≡ t
          → Nearer w (with_deletion w (cond {A = Deletion} t (while_more deletes (id_deleted s w.check.tally.rows) (length s) (id_deleted s w.check.tally.rows (deletion w.machine w.rows))) (deletion w.machine w.rows)))
      go true t =
          let n = delete_nearer w t p l in
          let f = further (length s) (one_deleted w) n.past n.onto in record { past = f.past; onto = f.onto; near = omega (arith, f.near, n.near) }
      go false t = impossible (let d : is_delete (turn_of w.machine.phase) ≡ true = ap is_delete h in cc)
