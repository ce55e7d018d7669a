-- A step-level turn keeps what holds of a check: a clause is deleted, kept or judged, and a step is read.
use mathlib.Core.Path.{◌≡◌, refl, sym, ap, subst, ◌∙◌, fun_ext}
use mathlib.Core.Bool.{Bool, true, false, cond, ◌&&◌}
use mathlib.Core.List.{List, [], ◌∷◌}
use mathlib.Core.Option.{Option, none, some}
use Prim.Native.Nat.{ℕ, suc, ◌+◌, ◌-◌, ◌≤◌, ◌<◌, min}
use native.Mathlib.Omega.{arith}
use native.Mathlib.Numerals.{add-one}
use lib.Dec.{eqb, ltb, leb}
use lib.ListN.{length, get_or, drop}
use lib.Seq.{sets, length-sets, drop-cons}
use borrow.Author.Tests.{eq-eqb, ne_eqb, leb-true, ltb-true, ltb-false}
use Rattle.scope.specs.declared.refusal.Reason.{Reason}
use Rattle.scope.specs.Parsed.{Answer, refusal, got}
use Rattle.scope.specs.Number.{Front, broken, whole, front, within, number}
use Rattle.scope.specs.Steps.{Live, put, follows, deleted}
use Rattle.theory.proofs.laws.StepTokens.{by_front, tokens_after}
use Rattle.theory.proofs.laws.Marked.{all_open}
use Rattle.theory.proofs.laws.MarkedRun as plain
use Rattle.scope.specs.PlainRun.{State, Limits, with_clause, fits}
use Rattle.theory.proofs.laws.MarkedRun.{by_shown, by_deleted, at_end, run}
use Rattle.parsing.proofs.laws.Numbers.{number-got}
use Rattle.directory.specs.declared.Row.{Row}
use Rattle.marks.specs.Marks.{marks_of}
use Rattle.standing.specs.Clauses.{part, wiped}
use Rattle.standing.proofs.laws.Clauses.{in_clause, wiped-opens}
use Rattle.directory.specs.Rows.{dying}
use Rattle.directory.proofs.Exact.{Exact, row-exact}
use Rattle.holding.proofs.laws.Live.{live_rows, live_dead, put_same, put_other}
use Rattle.holding.proofs.Distinct.{literals-few}
use Rattle.holding.specs.Holding.{All, Good}
use Rattle.holding.proofs.laws.Holding.{Holding, part_stored, holding_kept, live_kept, id_free, holding_dead}
use Rattle.laws.specs.Booleans.{impossible, and-true, or-false}
use Rattle.theory.proofs.laws.Tokens.{tokens-stop}
use Rattle.hints.specs.declared.machine.Phase.{Phase}
use Rattle.hints.specs.declared.machine.Phase.TheVariants.{Next, Keep, Wipe, Delete, Proved, Refused}
use Rattle.hints.specs.declared.machine.Machine.{Machine}
use Rattle.turns.specs.declared.check.Check.{Check}
use Rattle.turns.specs.declared.check.Tally.{Tally}
use Rattle.steps.specs.declared.step.Clause.{Clause}
use Rattle.reading.proofs.laws.Reading.{tokens_at}
use Rattle.reading.proofs.laws.Listing.{Ahead, last_id, more_ids, ids-ahead}
use Rattle.hints.specs.Machine.{stopped, onward}
use Rattle.hints.proofs.laws.Machine.{onward-end, onward-more}
use Rattle.trail.specs.Recorded.{largest}
use Rattle.turns.specs.Check.{verdict, row_of, kept_as, unwound, unwound_marks}
use Rattle.run_meaning.proofs.laws.Hints.{in_hint, in_hints, AllLive, IsLive, outside-false, literals-good, hints_same, live_same}
use Rattle.run_meaning.proofs.laws.Invariant.{Base, InStep, ending, before, live_in, state_of, Following, Keeping, Wiping, Deleting, InvariantAt}

-- what a deletion leaves does not go by the clauses that were live before it
not-by-live : (n : ℕ) (t : Tally) (L L' : Live) (o : Option Live) → by_deleted (state_of n t L) o ≡ by_deleted (state_of n t L') o
not-by-live n t L L' none = refl
not-by-live n t L L' (some K) = refl

-- after the empty clause bytes are left
more_bytes : (s : List ℕ) (at n : ℕ) → at < length s → at_end n (tokens_at s at) ≡ refusal 18 n
unfolding tokens_after
more_bytes s at n h = rw (drop-cons s at 0 h) (go (within (front (get_or s at 0 ∷ drop (suc at) s))))
  where
    go : (f : Front) → at_end n (by_front f (λ k. tokens_after (k - 1) (drop (suc at) s))) ≡ refusal 18 n
    go broken = refl
    go (whole v k) = refl

-- a clause that follows and is not empty
non-empty : (lim : Limits) (st : State) (id : ℕ) (c : List ℕ) (l : ℕ) (ls : List ℕ) (t : Bool) → c ≡ l ∷ ls → fits lim st c ≡ t
    → by_shown follows lim st id c ≡ cond t (plain.next (with_clause st id c)) (plain.refused 17)
non-empty lim st id [] l ls t e f = impossible (cc)
non-empty lim st id (k ∷ ks) l ls t e f = rw f

-- after a step, what is left is read on
next-answer : (s : List ℕ) (lim : Limits) (A : Answer ℕ) (tally : Tally) (clause : Clause) (R : ℕ → Row) (ws : List ℕ)
    (step : InStep s tally clause) (at : ℕ)
    → A ≡ run step.fuel lim (state_of (step.done + 1) tally (live_in tally R ws)) step.after → tokens_at s at ≡ step.after
    → A ≡ run step.fuel lim (state_of tally.steps tally (live_in tally R ws)) (tokens_at s at)
next-answer s lim A tally clause R ws step at a e = a ∙ rw (step.counts, e)

module _ (s : List ℕ) (lim : Limits) (A : Answer ℕ) (c : Check) (R : ℕ → Row) (ws ms : List ℕ) where
  -- an id to delete that is not live
  pub id_gone : (h at : ℕ) → Deleting s lim A c.tally c.clause R ws ms h at → live_in c.tally R ws h ≡ none
      → A ≡ refusal 15 c.tally.steps
  unfolding deleted
  id_gone h at w e = w.answer ∙ rw (e, w.step.counts)

  -- a live clause is deleted
  module _ (h at i : ℕ) (w : Deleting s lim A c.tally c.clause R ws ms h at) (cl : List ℕ)
      (e : live_in c.tally R ws h ≡ some cl) (l : i < c.tally.rows) (same : (R i).id ≡ h) where
    abbrev R' : ℕ → Row
    R' = put R i (dying (R i))

    now_live : live_in c.tally R' ws ≡ put (live_in c.tally R ws) h none
    now_live = live_dead R i ws c.tally.rows w.base.holding.rising l ∙ rw same

    deleted_base : Base lim c.tally R' ws ms
    deleted_base =
        record {
          holding = holding_dead lim.last_variable lim.rows_lent R ws c.tally.rows c.tally.words c.tally.highest
              w.base.holding i;
          lent = w.base.lent;
          marked = w.base.marked;
        }

    pub id-deleted : (tr : List ℕ) (id next : ℕ) → number s at ≡ got id next → c.clause.hints ≤ at
        → InvariantAt s lim A c.tally c.clause R' ws ms tr (onward Delete Next id next 0)
    unfolding deleted
    id-deleted tr id next n past = go w.left refl (ids-ahead s at id next w.left w.step.after n w.left_at)
      where
        k : at < next
        k = (number-got s at n).ahead

        go : (left : List ℕ) → w.left ≡ left → Ahead s next id w.step.after left
            → InvariantAt s lim A c.tally c.clause R' ws ms tr (onward Delete Next id next 0)
        go left q (last_id z t) =
            rw (onward-end Delete Next id next 0 z)
            (record {
              base = deleted_base;
              unmarked = w.unmarked;
              early = omega (arith, k, w.step.early);
              fuel = w.step.fuel;
              enough = omega (arith, k, w.step.enough);
              answer = w.answer ∙ rw (e, q, now_live, w.step.counts, t);
            })
        go left q (more_ids z rest t) =
            rw (onward-more Delete Next id next 0 z)
            (record {
              base = deleted_base;
              unmarked = w.unmarked;
              step = w.step;
              left = rest;
              left_at = t;
              answer =
                  w.answer
                  ∙ rw (e, q, now_live) (ap (ending lim w.step)
                  (not-by-live w.step.done c.tally (live_in c.tally R ws) (put (live_in c.tally R ws) h none)
                  (deleted (put (live_in c.tally R ws) h none) (id ∷ rest))));
            })

  -- a clause is kept, where the machine stands behind its step
  module _ (tr : List ℕ) (m : Machine) (w : Keeping s lim A c.tally c.clause R ws ms tr m.set m.at) where
    abbrev row : Row
    row = row_of c

    abbrev kept_words : List ℕ
    kept_words = sets ws c.tally.words w.adding.literals

    abbrev kept_rows : ℕ → Row
    kept_rows = put R c.tally.rows row

    good : All (Good lim.last_variable) w.adding.literals
    good = literals-good lim.last_variable all_open w.adding.literals w.adding.good

    room : c.tally.words + length w.adding.literals ≤ length ws
    room = omega (arith, w.words_fit, w.adding.base.lent)

    free : c.tally.rows < lim.rows_lent
    free = omega (arith, w.rows_fit_lem)

    -- the hints' clauses are as they were
    hint_kept : (h : ℕ) → IsLive (live_in c.tally R ws h)
        → put (live_in c.tally R ws) c.clause.id (some w.adding.literals) h ≡ live_in c.tally R ws h
    hint_kept h a = put_other (live_in c.tally R ws) c.clause.id h (some w.adding.literals) (λ z. other (rw z at a))
      where
        other : IsLive (live_in c.tally R ws c.clause.id) → ⊥
        other a =
            rw (id_free lim.last_variable lim.rows_lent R ws c.tally.rows c.tally.words c.tally.highest
            w.adding.base.holding c.clause.id w.adding.fresh) at a

    -- no mark stands outside the kept clause and its hints
    kept_outside : (v : ℕ) → in_hints (put (live_in c.tally R ws) c.clause.id (some w.adding.literals))
        (c.clause.id ∷ w.adding.hints) v ≡ false
        → marks_of ms v ≡ 0
    unfolding in_hints
    kept_outside v f =
        let L' = put (live_in c.tally R ws) c.clause.id (some w.adding.literals) in
        let p = or-false (in_hint (L' c.clause.id) v) (in_hints L' w.adding.hints v) f in
        let a : in_clause w.adding.literals v ≡ false =
        rw (put_same (live_in c.tally R ws) c.clause.id (some w.adding.literals)) at p.0 in
        let b : in_hints (live_in c.tally R ws) w.adding.hints v ≡ false =
        sym (hints_same (live_in c.tally R ws) L' hint_kept w.adding.hints v w.live) ∙ p.1 in
        w.adding.outside v b ∙ outside-false w.adding.literals all_open v a

    -- the counts do not run over, and the clause's row is exact
    module _ (few_variables : lim.last_variable ≤ 4294967295) (few_rows : lim.rows_lent ≤ largest)
        (few_words : lim.words_lent ≤ 9223372036854775807) where
      exact : Exact c.clause.id c.tally.words (length w.adding.literals) row
      exact =
          let few = literals-few lim.last_variable w.adding.literals w.adding.good in
          rw w.adding.size
          (row-exact c.clause.id c.tally.words c.clause.size w.adding.small (omega (arith, w.words_fit))
          (omega (arith, few, w.adding.size)))

      kept_holding : Holding lim.last_variable lim.rows_lent kept_rows kept_words (suc c.tally.rows)
          (c.tally.words + length w.adding.literals) c.clause.id
      kept_holding =
          holding_kept lim.last_variable lim.rows_lent R ws c.tally.rows c.tally.words c.tally.highest
          w.adding.base.holding
          row c.clause.id w.adding.literals w.adding.fresh exact room free good

      kept_live : live_rows kept_rows kept_words (suc c.tally.rows)
          ≡ put (live_in c.tally R ws) c.clause.id (some w.adding.literals)
      kept_live =
          live_kept lim.last_variable lim.rows_lent R ws c.tally.rows c.tally.words c.tally.highest
          w.adding.base.holding
          row c.clause.id w.adding.literals w.adding.fresh exact room free good

      kept_count : min (c.tally.rows + 1) largest ≡ suc c.tally.rows
      kept_count = omega (arith, w.rows_fit_lem)

      kept_used : min (c.tally.words + c.clause.size) largest ≡ c.tally.words + length w.adding.literals
      kept_used = omega (arith, w.words_fit, w.adding.size)

      kept_all : live_in (kept_as c).tally kept_rows kept_words ≡ put (live_in c.tally R ws) c.clause.id (some w.adding.literals)
      kept_all = rw kept_count kept_live

      kept_wiping : Wiping s lim A (kept_as c).tally (kept_as c).clause kept_rows kept_words ms c.clause.id c.clause.hints
      kept_wiping =
          record {
            base =
                record {
                  holding = rw (kept_count, kept_used) kept_holding;
                  lent = length-sets ws c.tally.words w.adding.literals ∙ w.adding.base.lent;
                  marked = w.adding.base.marked;
                };
            step =
                record {
                  done = w.adding.step.done;
                  counts = w.adding.step.counts;
                  early = w.adding.step.early;
                  after = w.adding.step.after;
                  fuel = w.adding.step.fuel;
                  enough = w.adding.step.enough;
                };
            left = w.adding.hints;
            left_at = w.adding.hints_at;
            live = subst (λ (L : Live). AllLive L (c.clause.id ∷ w.adding.hints)) (sym kept_all) (
              rw (put_same (live_in c.tally R ws) c.clause.id (some w.adding.literals))
                  tt,
              live_same (live_in c.tally R ws) _ hint_kept w.adding.hints w.live,
            );
            outside = rw (kept_count, kept_live) kept_outside;
            answer = w.answer ∙ rw (kept_count, kept_used, kept_live, add-one c.tally.rows);
          }

      -- the kept clause among the words, and the marks without it and the literals of the trail
      kept_part : part ((kept_as c).tally.words - c.clause.size) c.clause.size kept_words ≡ w.adding.literals
      kept_part =
          let e : (kept_as c).tally.words - c.clause.size ≡ c.tally.words = omega (arith, kept_used, w.adding.size) in
          rw (e, ← w.adding.size) (part_stored ws c.tally.words w.adding.literals room)

      all-open : m.set ≤ length tr → (v : ℕ) → marks_of (wiped (wiped ms w.adding.literals) (part 0 m.set tr)) v ≡ 0
      all-open h v =
          (wiped-opens (part 0 m.set tr) (wiped ms w.adding.literals)).opened v
          ∙ ap (cond (in_clause (part 0 m.set tr) v) 0) ((wiped-opens w.adding.literals ms).opened v)
          ∙ go (in_clause (part 0 m.set tr) v) refl (in_clause w.adding.literals v) refl
        where
          go : (x : Bool) → in_clause (part 0 m.set tr) v ≡ x → (y : Bool) → in_clause w.adding.literals v ≡ y
              → cond x 0 (cond y 0 (marks_of ms v)) ≡ 0
          go true e y f = refl
          go false e true f = refl
          go false e false f = w.trail.trailed h v e ∙ outside-false w.adding.literals all_open v f

      pub clause_kept : c.clause.hints ≤ m.at → (tr' : List ℕ) → length (unwound_marks (kept_as c) m kept_words ms tr) ≡ length ms
          → InvariantAt s lim A (kept_as c).tally (kept_as c).clause kept_rows kept_words
          (unwound_marks (kept_as c) m kept_words ms tr) tr' (unwound (kept_as c) m (length tr))
      unfolding unwound unwound_marks kept_wiping
      clause_kept past tr' = rw kept_part (go (leb m.set (length tr)) refl)
        where
          go : (t : Bool) → leb m.set (length tr) ≡ t
              → length (cond t (wiped (wiped ms w.adding.literals) (part 0 m.set tr)) ms) ≡ length ms
              → InvariantAt s lim A (kept_as c).tally (kept_as c).clause kept_rows kept_words
              (cond t (wiped (wiped ms w.adding.literals) (part 0 m.set tr)) ms) tr'
              (cond t (stopped Next m.at) (record { phase = Wipe; at = c.clause.hints; want = c.clause.id; set = 0 }))
          go true t long =
              record {
                base =
                    record {
                      holding = kept_wiping.base.holding;
                      lent = kept_wiping.base.lent;
                      marked = rw long w.adding.base.marked;
                    };
                unmarked = fun_ext (all-open (leb-true m.set (length tr) t));
                early = omega (arith, w.adding.step.early);
                fuel = w.adding.step.fuel;
                enough = omega (arith, w.adding.step.enough);
                answer = next-answer s lim A (kept_as c).tally (kept_as c).clause kept_rows kept_words kept_wiping.step m.at
                    kept_wiping.answer w.after_at;
              }
          go false t long = kept_wiping

  -- a clause that follows is judged
  module _ (tr : List ℕ) (n at : ℕ) (w : Following s lim A c.tally c.clause R ws ms tr n at) where
    abbrev Judged : Phase → Type 0
    Judged p = InvariantAt s lim A c.tally c.clause R ws ms tr (record { phase = p; at = at; want = 0; set = n })

    -- the empty clause
    empty_judged : w.adding.literals ≡ [] → (t : Bool) → ltb at (length s) ≡ t → Judged (cond t (Refused Reason.BadEnd) Proved)
    empty_judged q true t =
        w.answer ∙ rw (q, ← w.after_at, w.adding.step.counts)
        (more_bytes s at (w.adding.step.done + 1) (ltb-true at (length s) t))
    empty_judged q false t =
        w.answer ∙ rw (q, ← w.after_at, tokens-stop s at (ltb-false at (length s) t), w.adding.step.counts)

    -- another
    other_judged : (l : ℕ) (ls : List ℕ) → w.adding.literals ≡ l ∷ ls
        → (t : Bool) → (leb (c.tally.words + length w.adding.literals) lim.words_lent && leb (c.tally.rows + 1)
        lim.rows_lent) ≡ t
        → Judged (cond t Keep (Refused Reason.ClauseTooLong))
    other_judged l ls q true t =
        let p = and-true (leb (c.tally.words + length w.adding.literals) lim.words_lent)
        (leb (c.tally.rows + 1) lim.rows_lent) t in
        record {
          adding = w.adding;
          trail = w.trail;
          live = w.live;
          after_at = w.after_at;
          words_fit = leb-true (c.tally.words + length w.adding.literals) lim.words_lent p.0;
          rows_fit_lem = leb-true (c.tally.rows + 1) lim.rows_lent p.1;
          answer = w.answer ∙ ap (ending lim w.adding.step)
              (non-empty lim (before w.adding) c.clause.id w.adding.literals l ls true q t);
        }
    other_judged l ls q false t =
        w.answer
        ∙ ap (ending lim w.adding.step) (non-empty lim (before w.adding) c.clause.id w.adding.literals l ls false q
        t)
        ∙ rw w.adding.step.counts

    pub clause_judged : Judged (verdict c at (length s) (length ws) lim.rows_lent)
    unfolding verdict
    clause_judged = go w.adding.literals refl
      where
        go : (cl : List ℕ) → w.adding.literals ≡ cl
            → Judged
            (cond (eqb c.clause.size 0) (cond (ltb at (length s)) (Refused Reason.BadEnd) Proved)
            (cond (leb (c.tally.words + c.clause.size) (length ws) && leb (c.tally.rows + 1) lim.rows_lent) Keep
            (Refused Reason.ClauseTooLong)))
        go [] q =
            let z : c.clause.size ≡ 0 = sym w.adding.size ∙ ap length q in
            rw (eq-eqb c.clause.size 0 z) (empty_judged q (ltb at (length s)) refl)
        go (l ∷ ls) q =
            let z = sym w.adding.size ∙ ap length q in
            rw (ne_eqb c.clause.size 0 (λ y. omega arith))
            (other_judged l ls q (leb (c.tally.words + c.clause.size) (length ws) && leb (c.tally.rows + 1)
            lim.rows_lent) (rw (w.adding.size, w.adding.base.lent)))
