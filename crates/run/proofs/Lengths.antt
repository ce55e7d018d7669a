-- No turn changes the length of a store.
use mathlib.Core.Path.{◌≡◌, refl, ◌∙◌}
use mathlib.Core.Bool.{Bool, true, false, cond}
use mathlib.Core.List.{List, [], ◌∷◌}
use Prim.Native.Nat.{ℕ, zero, suc, ◌+◌, ◌-◌, ◌/◌, ◌%◌}
use lib.Dec.{leb, eqb}
use lib.ListN.{length, get_or, length-set}
use Rattle.std.specs.Prelude.{Option, Some, None}
use Rattle.scope.specs.Parsed.{Parsed, got, refused}
use Rattle.scope.specs.Number.{number}
use Rattle.scope.specs.declared.refusal.Reason.{Reason}
use Rattle.theory.specs.Marked.{Standing, falsified, one_open, other}
use Rattle.directory.specs.declared.Row.{Row}
use Rattle.marks.specs.Marks.{marks_of, put_mark}
use Rattle.marks.proofs.laws.Marks.{put-length}
use Rattle.standing.specs.Clauses.{part, wiped}
use Rattle.directory.specs.Rows.{row_clause}
use Rattle.lookup.specs.Lookup.{look_up}
use Rattle.reader.specs.Loop.{while_more}
use Rattle.passing.specs.Passed.{passed_at}
use Rattle.spelling.specs.Spelt.{literal_ok, spelt_marks, Spelled, spell_turn, literals_at}
use Rattle.steps.specs.Step.{StepAt, step_is, by_hints, by_literals, by_id, add_at, by_ids, step_at}
use Rattle.hints.specs.declared.machine.Phase.{Phase}
use Rattle.hints.specs.declared.machine.Phase.TheVariants.{Next, Walk, Followed, Keep, Wipe, Delete, Proved, Refused}
use Rattle.hints.specs.declared.machine.Turn.{Turn}
use Rattle.hints.specs.declared.machine.Machine.{Machine}
use Rattle.hints.specs.Machine.{turn_of, walked_marks, walked_trail, turned_marks, turned_trail, read_marks, read_trail, advanced_marks, advanced_trail, stands_by}
use Rattle.turns.specs.declared.check.Check.{Check}
use Rattle.turns.specs.Check.{with_phase, stepped, StepTaken, step_taken, unwound_marks}
use Rattle.run.specs.Turned.{State, id_deleted, by_turn, turned}

wiped-long : (c ms : List ℕ) → length (wiped ms c) ≡ length ms
unfolding wiped
wiped-long [] ms = refl
wiped-long (l ∷ ls) ms = wiped-long ls (put_mark ms (l / 2) 0) ∙ put-length ms (l / 2) 0

-- a hint's literal is set true, and put on the trail
walked-long : (x : Standing) (ms : List ℕ) → length (walked_marks x ms) ≡ length ms
unfolding walked_marks
walked-long falsified ms = refl
walked-long (one_open l) ms = put-length ms (l / 2) (1 + l % 2)
walked-long other ms = refl

trail-long : (x : Standing) (n : ℕ) (tr : List ℕ) → length (walked_trail x n tr) ≡ length tr
unfolding walked_trail
trail-long falsified n tr = refl
trail-long (one_open l) n tr = length-set tr n l
trail-long other n tr = refl

phase-marks : (p : Phase) (x : Standing) (c ms : List ℕ) → length (turned_marks p x c ms) ≡ length ms
phase-marks Walk x c ms = walked-long x ms
phase-marks Wipe x c ms = wiped-long c ms
phase-marks Delete x c ms = refl
phase-marks Next x c ms = refl
phase-marks Followed x c ms = refl
phase-marks Keep x c ms = refl
phase-marks Proved x c ms = refl
phase-marks (Refused k) x c ms = refl

phase-trail : (p : Phase) (x : Standing) (n : ℕ) (tr : List ℕ) → length (turned_trail p x n tr) ≡ length tr
phase-trail Walk x n tr = trail-long x n tr
phase-trail Wipe x n tr = refl
phase-trail Delete x n tr = refl
phase-trail Next x n tr = refl
phase-trail Followed x n tr = refl
phase-trail Keep x n tr = refl
phase-trail Proved x n tr = refl
phase-trail (Refused k) x n tr = refl

marks-advanced : (x : Parsed ℕ) (m : Machine) (row : Row) (ws ms : List ℕ) → length (advanced_marks x m row ws ms) ≡ length ms
unfolding advanced_marks
marks-advanced x m row ws ms = go (eqb row.live 0)
  where
    read : (x : Parsed ℕ) → length (read_marks m.phase (row_clause row ws) ms x) ≡ length ms
    read (refused k v) = refl
    read (got id next) = phase-marks m.phase (stands_by ms (row_clause row ws)) (row_clause row ws) ms

    go : (t : Bool) → length (cond t ms (read_marks m.phase (row_clause row ws) ms x)) ≡ length ms
    go true = refl
    go false = read x

trail-advanced : (x : Parsed ℕ) (m : Machine) (row : Row) (ws ms tr : List ℕ) → length (advanced_trail x m row ws ms tr) ≡ length tr
unfolding advanced_trail
trail-advanced x m row ws ms tr = go (eqb row.live 0)
  where
    read : (x : Parsed ℕ) → length (read_trail m (row_clause row ws) ms tr x) ≡ length tr
    read (refused k v) = refl
    read (got id next) = phase-trail m.phase (stands_by ms (row_clause row ws)) m.set tr

    go : (t : Bool) → length (cond t tr (read_trail m (row_clause row ws) ms tr x)) ≡ length tr
    go true = refl
    go false = read x

marks-unwound : (c : Check) (m : Machine) (ws ms tr : List ℕ) → length (unwound_marks c m ws ms tr) ≡ length ms
unfolding unwound_marks
marks-unwound c m ws ms tr = go (leb m.set (length tr))
  where
    go : (t : Bool) → length (cond t (wiped (wiped ms (part (c.tally.words - c.clause.size) c.clause.size ws)) (part 0 m.set tr)) ms) ≡ length ms
    go true = wiped-long (part 0 m.set tr) (wiped ms (part (c.tally.words - c.clause.size) c.clause.size ws)) ∙ wiped-long (part (c.tally.words - c.clause.size) c.clause.size ws) ms
    go false = refl

-- the literals of a new clause are made false
marks-spelt : (last : ℕ) (ms : List ℕ) (x : Parsed ℕ) → length (spelt_marks last ms x) ≡ length ms
marks-spelt last ms (refused k v) = refl
marks-spelt last ms (got l next) = go (eqb l 0) (literal_ok last (marks_of ms) l)
  where
    go : (a b : Bool) → length (cond a ms (cond b (put_mark ms (l / 2) (2 - l % 2)) ms)) ≡ length ms
    go true b = refl
    go false true = put-length ms (l / 2) (2 - l % 2)
    go false false = refl

spelled-long : (s : List ℕ) (last k : ℕ) (x : Spelled) → length (while_more (λ x. x.state.more) (spell_turn s last) k x).marks ≡ length x.marks
unfolding while_more
spelled-long s last zero x = refl
spelled-long s last (suc k) x = go (spelled-long s last k (spell_turn s last x)) x.state.more
  where
    go : length (while_more (λ x. x.state.more) (spell_turn s last) k (spell_turn s last x)).marks ≡ length (spell_turn s last x).marks → (t : Bool)
        → length (cond {A = Spelled} t (while_more (λ x. x.state.more) (spell_turn s last) k (spell_turn s last x)) x).marks ≡ length x.marks
    go ih true = ih ∙ marks-spelt last x.marks (number s x.state.at)
    go ih false = refl

literals-long : (s : List ℕ) (at last : ℕ) (ms : List ℕ) → length (literals_at s at last ms).marks ≡ length ms
unfolding literals_at
literals-long s at last ms = spelled-long s last (suc (length s)) _

marks-hints : (id lits size hints : ℕ) (ms : List ℕ) (x : Option ℕ) → (by_hints id lits size hints ms x).marks ≡ ms
marks-hints id lits size hints ms None = refl
marks-hints id lits size hints ms (Some next) = refl

marks-literals : (s : List ℕ) (id lits : ℕ) (x : Option (ℕ × ℕ)) (ms : List ℕ) → (by_literals s id lits x ms).marks ≡ ms
marks-literals s id lits None ms = refl
marks-literals s id lits (Some (size, hints)) ms = marks-hints id lits size hints ms (passed_at s hints)

marks-id : (s : List ℕ) (highest last : ℕ) (ms : List ℕ) (x : Parsed ℕ) → length (by_id s highest last ms x).marks ≡ length ms
marks-id s highest last ms (refused k v) = refl
marks-id s highest last ms (got id lits) = go (leb id highest)
  where
    go : (t : Bool)
        → length (cond {A = StepAt} t (step_is None ms) (by_literals s id lits (literals_at s lits last ms).found (literals_at s lits last ms).marks)).marks ≡ length ms
    go true = refl
    go false = rw (marks-literals s id lits (literals_at s lits last ms).found (literals_at s lits last ms).marks) (literals-long s lits last ms)

marks-ids : (from : ℕ) (ms : List ℕ) (x : Option ℕ) → (by_ids from ms x).marks ≡ ms
marks-ids from ms None = refl
marks-ids from ms (Some next) = refl

marks-step : (s : List ℕ) (at highest last : ℕ) (ms : List ℕ) → length (step_at s at highest last ms).marks ≡ length ms
unfolding step_at add_at
marks-step s at highest last ms = go (eqb (get_or s at 0) 97) (eqb (get_or s at 0) 100)
  where
    go : (a b : Bool)
        → length (cond {A = StepAt} a (by_id s highest last ms (number s (at + 1))) (cond b (by_ids (at + 1) ms (passed_at s (at + 1))) (step_is None ms))).marks ≡ length ms
    go true b = marks-id s highest last ms (number s (at + 1))
    go false true = rw (marks-ids (at + 1) ms (passed_at s (at + 1)))
    go false false = refl

marks-taken : (s : List ℕ) (c : Check) (at last : ℕ) (ms : List ℕ) → length (step_taken s c at last ms).marks ≡ length ms
unfolding step_taken
marks-taken s c at last ms = go (leb (length s) at)
  where
    go : (t : Bool)
        → length (cond {A = StepTaken} t (record { check = with_phase c (Refused Reason.BadEnd); marks = ms })
        (record { check = stepped c (step_at s at c.tally.highest last ms).read; marks = (step_at s at c.tally.highest last ms).marks })).marks ≡ length ms
    go true = refl
    go false = marks-step s at c.tally.highest last ms

-- a turn
pub record Long (w v : State) : Type 0 where
  pub rows : length v.rows ≡ length w.rows
  pub marks : length v.marks ≡ length w.marks
  pub trail : length v.trail ≡ length w.trail

pub turned-long : (s : List ℕ) (last : ℕ) (w : State) → Long w (turned s last w)
unfolding turned id_deleted
turned-long s last w = go (turn_of w.machine.phase)
  where
    go : (k : Turn) → Long w (by_turn s last w k)
    go Turn.Look =
        record {
          rows = refl;
          marks = marks-advanced (number s w.machine.at) w.machine (look_up w.rows w.check.tally.rows w.machine.want).hit w.words w.marks;
          trail = trail-advanced (number s w.machine.at) w.machine (look_up w.rows w.check.tally.rows w.machine.want).hit w.words w.marks w.trail;
        }
    go Turn.Delete = record { rows = length-set w.rows _ _; marks = refl; trail = refl }
    go Turn.Keep = record { rows = length-set w.rows _ _; marks = marks-unwound _ w.machine _ w.marks w.trail; trail = refl }
    go Turn.Judge = record { rows = refl; marks = refl; trail = refl }
    go Turn.Read = record { rows = refl; marks = marks-taken s w.check w.machine.at last w.marks; trail = refl }
    go Turn.End = record { rows = refl; marks = refl; trail = refl }
