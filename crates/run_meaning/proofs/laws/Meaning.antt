-- What a check answers: the plain run's answer for the formula that stands in the stores: laws.
use mathlib.Core.Path.{◌≡◌, refl, sym, ap, ◌∙◌}
use mathlib.Core.Bool.{true}
use mathlib.Core.List.{List, ◌++◌, flat_map}
use mathlib.Core.Option.{none, some}
use Prim.Native.Nat.{ℕ, suc, ◌≤◌, ◌<◌}
use native.Mathlib.Omega.{arith}
use lib.ListN.{length}
use Rattle.std.specs.Prelude.{Result}
use borrow.Author.Tests.{eq-eqb, ne_eqb}
use Rattle.scope.specs.Parsed.{Answer}
use Rattle.theory.proofs.laws.Marked.{all_open}
use Rattle.scope.specs.Formula.{words}
use Rattle.scope.specs.PlainRun.{Limits, by_id, start}
use Rattle.scope.specs.PlainRun as scope
use Rattle.theory.proofs.laws.MarkedRun.{plain_run}
use Rattle.theory.proofs.laws.SameRun.{plain-marked}
use Rattle.scope.specs.Answers.{means}
use Rattle.scope.specs.declared.refusal.Refusal.{Refusal}
use Rattle.directory.specs.declared.Row.{Row}
use Rattle.lookup.specs.declared.Probe.{Probe}
use Rattle.marks.specs.Marks.{marks_of}
use Rattle.directory.specs.Rows.{row_clause}
use Rattle.directory.proofs.laws.Rows.{Dies}
use Rattle.lookup.proofs.laws.Lookup.{Found, hit, miss, Finds}
use Rattle.holding.proofs.laws.Live.{held, live_rows, live-found}
use Rattle.holding.specs.Holding.{Good}
use Rattle.holding.proofs.laws.Holding.{Holding, found_good}
use Rattle.building.specs.Marked.{mark, Plain, Built}
use Rattle.building.proofs.laws.Marked.{BuiltFor}
use Rattle.holding.specs.Built.{Each, Narrow}
use Rattle.holding.proofs.laws.Built.{built-for, built_holding, built_live}
use Rattle.directory.specs.Directory.{rows_of}
use Rattle.laws.specs.Booleans.{impossible, never_true}
use Rattle.hints.specs.declared.machine.Phase.{Phase}
use Rattle.hints.specs.declared.machine.Phase.TheVariants.{Next, Walk, Followed, Keep, Wipe, Delete, Proved, Refused}
use Rattle.hints.specs.declared.machine.Turn as enum
use Rattle.hints.specs.declared.machine.Turn.TheVariants as turn
use Rattle.hints.specs.declared.machine.Machine.{Machine}
use Rattle.turns.specs.declared.check.Check.{Check}
use Rattle.reading.proofs.laws.Listing.{list-cut}
use Rattle.hints.proofs.laws.Machine as machine_laws
use Rattle.hints.specs.Machine.{turn_of}
use Rattle.hints.proofs.laws.Machine.{turn-phase, Advances, gone, broken, walks, wipes, idle}
use Rattle.trail.specs.Recorded.{largest}
use Rattle.turns.specs.Check.{answer_of}
use Rattle.run.proofs.laws.Run as run
use Rattle.run.proofs.laws.Run.{World, Turn, looks, keeps, judges, reads, Ran}
use Rattle.run.specs.Turned.{outcome, driven_by}
use Rattle.run.proofs.laws.Termination.{Past, turn-falls}
use Rattle.run.proofs.Turning.{Few, driven-chain}
use Rattle.run_meaning.proofs.laws.Invariant.{Base, live_in, Walking, Wiping, Deleting, InvariantIn, InvariantAt, Invariant}
use Rattle.run_meaning.proofs.laws.LookMeans.{hint_gone, hint_judged, clause_wiped}
use Rattle.run_meaning.proofs.laws.StepMeans.{id_gone, id-deleted, clause_kept, clause_judged}
use Rattle.run_meaning.proofs.laws.ReadMeans.{step-read}
use Rattle.run_meaning.specs.Meaning.{limits}

-- the clause that a row holds
gone-none : (live : ℕ) (cl : List ℕ) → live ≡ 0 → held live cl ≡ none
gone-none live cl e = rw (eq-eqb live 0 e)

live-some : (live : ℕ) (cl : List ℕ) → (live ≡ 0 → ⊥) → held live cl ≡ some cl
live-some live cl e = rw (ne_eqb live 0 e)

module _ (s : List ℕ) (lim : Limits) (A : Answer ℕ) (c : Check) (R : ℕ
    → Row) (ws ms tr : List ℕ) (m : Machine) (p : Probe) (r : Machine) (ms' tr' : List ℕ)
    (f : Finds lim.rows_lent R c.tally.rows m.want p) (a : Advances s m p.hit ws ms tr r ms' tr') where
  -- what was found, in a store that holds clauses
  module _ (b : Base lim c.tally R ws ms) where
    what : Found R c.tally.rows m.want p
    what = f.found b.holding.fit b.holding.rising

    clause_is : live_in c.tally R ws m.want ≡ held p.hit.live (row_clause p.hit ws)
    clause_is = live-found R ws c.tally.rows m.want p b.holding.rising what

  walk_turn : m.phase ≡ Walk → length tr < largest → Walking s lim A c.tally c.clause R ws ms tr m.set m.want m.at
      → InvariantAt s lim A c.tally c.clause R ws ms' tr' r
  walk_turn e few w = by a
    where
      b : Base lim c.tally R ws ms
      b = w.adding.base

      by : Advances s m p.hit ws ms tr r ms' tr' → InvariantAt s lim A c.tally c.clause R ws ms' tr' r
      by (gone z q) = rw q (hint_gone s lim A c R ws ms tr m.set m.want m.at w (clause_is b ∙ gone-none _ _ z))
      by (broken k v n q) = let x = list-cut s m.at k v n in let y = w.left_at in impossible (cc)
      by (walks id next l n z q t u) =
          rw (q, t, u)
          (hint_judged s lim A c R ws ms tr m.set m.want m.at w (row_clause p.hit ws) (clause_is b ∙ live-some _ _ l)
          (found_good lim.last_variable lim.rows_lent R ws c.tally.rows c.tally.words c.tally.highest b.holding
          m.want p (what b) l)
          few id next n)
      by (wipes id next l n z q t) = impossible (cc)
      by (machine_laws.deletes id next l n z q t) = impossible (cc)
      by (idle z) = never_true (sym (rw e at z))

  wipe_turn : m.phase ≡ Wipe → c.clause.hints ≤ m.at → length ms' ≡ length ms
      → Wiping s lim A c.tally c.clause R ws ms m.want m.at
      → InvariantAt s lim A c.tally c.clause R ws ms' tr' r
  wipe_turn e past long w = by a
    where
      by : Advances s m p.hit ws ms tr r ms' tr' → InvariantAt s lim A c.tally c.clause R ws ms' tr' r
      by (gone z q) = absurd (rw (clause_is w.base ∙ gone-none _ _ z) at w.live.0)
      by (broken k v n q) = let x = list-cut s m.at k v n in let y = w.left_at in impossible (cc)
      by (walks id next l n z q t u) = impossible (cc)
      by (wipes id next l n z q t) =
          rw q
          (clause_wiped s lim A c R ws ms tr m.set m.want m.at w (row_clause p.hit ws) ms' (clause_is w.base
          ∙ live-some _ _ l) t long tr' id next n past)
      by (machine_laws.deletes id next l n z q t) = impossible (cc)
      by (idle z) = never_true (sym (rw e at z))

  delete_turn : m.phase ≡ Delete → c.clause.hints ≤ m.at → (R' : ℕ → Row) → Dies lim.rows_lent R R' p.at
      → Deleting s lim A c.tally c.clause R ws ms m.want m.at → InvariantAt s lim A c.tally c.clause R' ws ms' tr' r
  delete_turn e past R' d w = by a
    where
      by : Advances s m p.hit ws ms tr r ms' tr' → InvariantAt s lim A c.tally c.clause R' ws ms' tr' r
      by (gone z q) = rw q (id_gone s lim A c R ws ms m.want m.at w (clause_is w.base ∙ gone-none _ _ z))
      by (broken k v n q) = let x = list-cut s m.at k v n in let y = w.left_at in impossible (cc)
      by (walks id next l n z q t u) = impossible (cc)
      by (wipes id next l n z q t) = impossible (cc)
      by (machine_laws.deletes id next l n z q t) = found (what w.base)
        where
          found : Found R c.tally.rows m.want p → InvariantAt s lim A c.tally c.clause R' ws ms' tr' r
          found (hit h i j) =
              rw (q, t, d.dies (omega (arith, w.base.holding.fit)))
              (id-deleted s lim A c R ws ms m.want m.at p.at w (row_clause p.hit ws) (clause_is w.base
              ∙ live-some _ _ l) h
              (ap (λ x. x.id) (sym i) ∙ j) tr' id next n past)
          found (miss i j) = absurd (l (ap (λ x. x.live) i))
      by (idle z) = never_true (sym (rw e at z))

-- no store is longer than a machine can have, and rows can say how many variables there are
pub record Short (s : List ℕ) (lim : Limits) : Type 0 where
  pub few_bytes : length s ≤ largest
  pub few_words : lim.words_lent ≤ 9223372036854775807
  pub few_rows : lim.rows_lent ≤ largest
  pub few_variables : lim.last_variable ≤ 4294967295

-- a turn keeps what holds
module _ (s : List ℕ) (lim : Limits) (A : Answer ℕ) (short : Short s lim) (w v : World)
    (long : length v.marks ≡ length w.marks) (few : length w.trail < largest) (past : Past w.check w.machine) where
  look_keeps : (p : Probe) → turn_of w.machine.phase ≡ turn.Look
      → Finds lim.rows_lent w.rows w.check.tally.rows w.machine.want p
      → Advances s w.machine p.hit w.words w.marks w.trail v.machine v.marks v.trail
      → Invariant s lim A w → InvariantAt s lim A w.check.tally w.check.clause w.rows w.words v.marks v.trail
      v.machine
  look_keeps p t f a = go w.machine.phase refl t
    where
      go : (ph : Phase) → w.machine.phase ≡ ph → turn_of ph ≡ turn.Look
          → InvariantIn s lim A w.check.tally w.check.clause w.rows w.words w.marks w.trail ph w.machine.at
          w.machine.want w.machine.set
          → InvariantAt s lim A w.check.tally w.check.clause w.rows w.words v.marks v.trail v.machine
      go Next e t x = impossible (cc)
      go Walk e t x = walk_turn s lim A w.check w.rows w.words w.marks w.trail w.machine p v.machine v.marks v.trail f a e few x
      go Followed e t x = impossible (cc)
      go Keep e t x = impossible (cc)
      go Wipe e t x = wipe_turn s lim A w.check w.rows w.words w.marks w.trail w.machine p v.machine v.marks v.trail f a e
          past long x
      go Delete e t x = impossible (cc)
      go Proved e t x = impossible (cc)
      go (Refused k) e t x = impossible (cc)

  -- what holds in the phase of a turn
  in-phase : (n : enum.Turn) → turn_of w.machine.phase ≡ n → machine_laws.lone n ≡ true → Invariant s lim A w
      → InvariantIn s lim A w.check.tally w.check.clause w.rows w.words w.marks w.trail (machine_laws.phase_of n)
      w.machine.at
      w.machine.want w.machine.set
  in-phase n t l x = rw (turn-phase w.machine.phase t l) at x

  pub turn_keeps : Turn s lim.last_variable lim.rows_lent w v → Invariant s lim A w → Invariant s lim A v
  turn_keeps (looks p t f r d a c ws) x = rw (c, ws) (by (turn_of w.machine.phase) refl)
    where
      by : (n : enum.Turn) → turn_of w.machine.phase ≡ n
          → InvariantAt s lim A w.check.tally w.check.clause v.rows w.words v.marks v.trail v.machine
      by turn.Look e = rw (r e) (look_keeps p e f a x)
      by turn.Delete e =
          delete_turn s lim A w.check w.rows w.words w.marks w.trail w.machine p v.machine v.marks v.trail f a
          (turn-phase w.machine.phase e refl)
          past v.rows (d e) (in-phase turn.Delete e refl x)
      by turn.Keep e = never_true (rw e at t)
      by turn.Judge e = never_true (rw e at t)
      by turn.Read e = never_true (rw e at t)
      by turn.End e = never_true (rw e at t)
  turn_keeps (keeps t a c k e ms) x =
      let y = in-phase turn.Keep t refl x in
      let d = k.copies y.adding.literals y.adding.middle y.adding.literals-at in
      let l = rw (ms, c, d) at long in
      rw (e, ms, c, a.appends (omega (arith, y.rows_fit_lem)), d)
      (clause_kept s lim A w.check w.rows w.words w.marks w.trail w.machine y short.few_variables short.few_rows short.few_words past
      v.trail l)
  turn_keeps (judges t c e r ws ms tr) x =
      rw (e, c, r, ws, ms, tr) (clause_judged s lim A w.check w.rows w.words w.marks w.trail w.machine.set w.machine.at
      (in-phase turn.Judge t refl x))
  turn_keeps (reads t a e r ws) x =
      rw (e, r, ws)
      (step-read s lim A w.check w.rows w.words w.marks v.trail w.machine.at v.check v.marks
      (in-phase turn.Read t refl x) short.few_bytes long a)

-- a run keeps what holds
pub record Held (s : List ℕ) (lim : Limits) (A : Answer ℕ) (w : World) : Type 0 where
  pub past : Past w.check w.machine
  pub few : length w.trail < largest
  pub kept : Invariant s lim A w

ran-keeps : (s : List ℕ) (lim : Limits) (A : Answer ℕ) → Short s lim → (w v : World)
    → Ran s lim.last_variable lim.rows_lent w v → Held s lim A w → Held s lim A v
ran-keeps s lim A short w v run.none x = x
ran-keeps s lim A short w v (run.more u v' r t long trail) x =
    let y = ran-keeps s lim A short w u r x in
    record {
      past = (turn-falls s lim.last_variable lim.rows_lent u v t y.past).0;
      few = omega (arith, y.few, trail);
      kept = turn_keeps s lim A short u v long y.few y.past t y.kept;
    }

ended-answer : (s : List ℕ) (lim : Limits) (A : Answer ℕ) (w : World) → turn_of w.machine.phase ≡ turn.End → Invariant s lim A w
    → means (answer_of w.check.tally.steps w.machine.phase) ≡ A
ended-answer s lim A w h = go w.machine.phase h
  where
    go : (ph : Phase) → turn_of ph ≡ turn.End
        → InvariantIn s lim A w.check.tally w.check.clause w.rows w.words w.marks w.trail ph w.machine.at
        w.machine.want w.machine.set
        → means (answer_of w.check.tally.steps ph) ≡ A
    go Next t x = impossible (cc)
    go Walk t x = impossible (cc)
    go Followed t x = impossible (cc)
    go Keep t x = impossible (cc)
    go Wipe t x = impossible (cc)
    go Delete t x = impossible (cc)
    go Proved t x = sym x
    go (Refused k) t x = sym x

-- a formula stands in the stores: its clauses in the first n rows and the used words, under the ids 1 to n, and its
-- variables, up to the last, are open
pub record Stands (f : List (List ℕ)) (last cap n used : ℕ) (R : ℕ → Row) (ws ms : List ℕ) : Type 0 where
  pub holding : Holding last cap R ws n used n
  pub live : live_rows R ws n ≡ by_id f
  pub count : n ≡ length f
  pub size : used ≡ words f
  pub marked : last ≤ length ms
  pub unmarked : marks_of ms ≡ all_open

-- a formula of good literals whose directory was built, where the variables are open
pub built-stands : (f : List (List ℕ)) (rest : List ℕ) (last cap n : ℕ) (R : ℕ → Row) (ws ms : List ℕ) → BuiltFor f rest ws R n
    → Each (Good last) f
    → Narrow f → length f ≤ cap → last ≤ length ms → marks_of ms ≡ all_open → Stands f last cap n (words f) R ws ms
built-stands f rest last cap n R ws ms b good few fits marked unmarked =
    record {
      holding = rw b.count (built_holding f rest ws R n b few last cap good fits);
      live = rw b.count (built_live f rest ws R n b few);
      count = b.count;
      size = refl;
      marked = marked;
      unmarked = unmarked;
    }

-- where a formula stands in the stores, a check answers what the plain run does
pub driven-means : (s : List ℕ) (last n used : ℕ) (ys : List Row) (ws ms : List ℕ) (r : Result ℕ Refusal) (f : List (List ℕ)) {ys' : List Row} {ws' ms' : List ℕ}
    → Few s ws (length ys) → outcome r ys' ws' ms' ≡ driven_by s last n used ys ws ms → last ≤ 4294967295 → length ws ≤ 9223372036854775807
    → Stands f last (length ys) n used (rows_of ys) ws ms → means r ≡ plain_run (limits last (length ws) (length ys)) f s
unfolding plain_run start
driven-means s last n used ys ws ms r f few e least short-words x =
    let d = driven-chain s last n used ys ws ms few e in
    let R = rows_of ys in
    let lim = limits last (length ws) (length ys) in
    let A = plain_run lim f s in
    let short : Short s lim = record { few_bytes = d.few_bytes; few_words = short-words; few_rows = d.few_rows; few_variables = least } in
    let begins : Invariant s lim A (run.ready n used R ws ms d.trail) =
    record {
      base = record { holding = x.holding; lent = refl; marked = x.marked };
      unmarked = x.unmarked;
      early = omega arith;
      fuel = suc (length s);
      enough = omega arith;
      answer = rw (x.live, x.count, x.size);
    } in
    ap means d.answer
    ∙ ended-answer s lim A d.end d.over (ran-keeps s lim A short (run.ready n used R ws ms d.trail) d.end d.ran
    (record { past = omega arith; few = d.short_trail; kept = begins })).kept

-- the same for a formula that stood in the words with each clause's last word marked, of which the directory was built
pub check-means : (s : List ℕ) (last n : ℕ) (ys₀ ys : List Row) (ws₀ ws ms : List ℕ) (r : Result ℕ Refusal) (f : List (List ℕ)) (rest : List ℕ) {ys' : List Row} {ws' ms' : List ℕ}
    → Plain f → Each (Good last) f → Narrow f → last ≤ 4294967295 → length ws ≤ 9223372036854775807 → ws₀ ≡ flat_map mark f ++ rest → length f ≤ length ys₀ → last ≤ length ms → marks_of ms ≡ all_open
    → Built ws₀ ws ys₀ ys (words f) n → length ys ≡ length ys₀ → Few s ws (length ys)
    → outcome r ys' ws' ms' ≡ driven_by s last n (words f) ys ws ms
    → means r ≡ scope.plain_run (limits last (length ws) (length ys₀)) f s
check-means s last n ys₀ ys ws₀ ws ms r f rest plain good narrow least short e fits marked unmarked b long few d =
    let stands : Stands f last (length ys) n (words f) (rows_of ys) ws ms =
    rw long (built-stands f rest last (length ys₀) n (rows_of ys) ws ms (built-for f rest b plain e fits) good narrow fits marked unmarked) in
    (rw long at (driven-means s last n (words f) ys ws ms r f few d least short stands))
    ∙ sym (plain-marked (limits last (length ws) (length ys₀)) f s)
