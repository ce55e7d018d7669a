-- A turn that looks at a clause keeps what holds of a check: a hint is judged, or the variables of a clause are opened again.
use mathlib.Core.Path.{◌≡◌, refl, sym, ap, ◌∙◌, fun_ext}
use mathlib.Core.Bool.{Bool, true, false, cond}
use mathlib.Core.List.{List, [], ◌∷◌, ◌++◌}
use mathlib.Core.Option.{none, some}
use Prim.Native.Nat.{ℕ, suc, ◌+◌, ◌/◌, ◌%◌, ◌≤◌, ◌<◌}
use native.Mathlib.Omega.{arith}
use lib.Dec.{leb}
use lib.ListN.{length, take, length-set}
use lib.Seq.{take-suc-set}
use borrow.Author.Tests.{ne_eqb, leb-false}
use Rattle.scope.specs.declared.refusal.Reason.{Reason}
use Rattle.scope.specs.Parsed.{Answer, refusal, got}
use Rattle.scope.specs.Number.{number}
use Rattle.theory.specs.Marked as steps
use Rattle.theory.proofs.laws.Marked as steps_laws
use Rattle.theory.specs.Marked.{Marks, Standing, standing}
use Rattle.theory.proofs.laws.Marked.{all_open, all_false, make_true, by_standing, hints_show}
use Rattle.scope.specs.PlainRun.{Limits}
use Rattle.theory.proofs.laws.MarkedRun.{by_shown}
use Rattle.parsing.proofs.laws.Numbers.{number-got}
use Rattle.directory.specs.declared.Row.{Row}
use Rattle.marks.specs.Marks.{marks_of, put_mark}
use Rattle.marks.proofs.laws.Marks.{mark-put, put-length}
use Rattle.standing.specs.Clauses.{part}
use Rattle.standing.proofs.laws.Clauses.{in_clause, Wiped}
use Rattle.holding.specs.Holding.{All, Good}
use Rattle.holding.proofs.laws.Holding.{open_in}
use Rattle.laws.specs.Booleans.{impossible, or-false}
use Rattle.hints.specs.declared.machine.Phase.TheVariants.{Next, Walk, Wipe, Refused}
use Rattle.turns.specs.declared.check.Check.{Check}
use Rattle.reading.proofs.laws.Listing.{Ahead, last_id, more_ids, ids-ahead}
use Rattle.hints.specs.Machine.{onward, walked, walked_marks, walked_trail}
use Rattle.hints.proofs.laws.Machine.{onward-end, onward-more, walked-last, walked-early}
use Rattle.trail.specs.Recorded.{largest, recorded, recorded_at}
use Rattle.run_meaning.proofs.laws.Hints.{in_hint, in_hints, IsLive, open-inside, in-append, last-in}
use Rattle.run_meaning.proofs.laws.Invariant.{Base, ending, Adding, Trailed, before, live_in, Walking, Wiping, InvariantAt}

module _ (s : List ℕ) (lim : Limits) (A : Answer ℕ) (c : Check) (R : ℕ → Row) (ws ms tr : List ℕ) (n h at : ℕ) where
  -- a hint that is not live
  pub hint_gone : Walking s lim A c.tally c.clause R ws ms tr n h at → live_in c.tally R ws h ≡ none
      → A ≡ refusal 15 c.tally.steps
  unfolding hints_show
  hint_gone w e = w.answer ∙ rw (e, w.adding.step.counts)

  -- the clause cl of a live hint stands as x
  module _ (w : Walking s lim A c.tally c.clause R ws ms tr n h at) (cl : List ℕ) (e : live_in c.tally R ws h ≡ some cl) where
    -- what the hints come to, by its standing and the ids that are left
    abbrev shown_by : Standing → Marks → List ℕ → Answer ℕ
    shown_by x m left =
        ending lim w.adding.step
        (by_shown (steps_laws.by_hint (by_standing x) (λ l. hints_show (live_in c.tally R ws) (make_true m l) left) (steps_laws.if_last left))
        lim (before w.adding)
        c.clause.id w.adding.literals)

    answer_by : (x : Standing) → standing (marks_of ms) steps.falsified cl ≡ x → (left : List ℕ) → w.left ≡ left
        → A ≡ shown_by x (marks_of ms) left
    unfolding hints_show
    answer_by x d left q = w.answer ∙ rw (e, d, q)

    unit : IsLive (live_in c.tally R ws h)
    unit = rw e tt

    -- all its literals are false
    all-false : (id next : ℕ) → standing (marks_of ms) steps.falsified cl ≡ steps.falsified → (left : List ℕ) → w.left ≡ left
        → Ahead s next id w.adding.step.after left
        → InvariantAt s lim A c.tally c.clause R ws ms tr (walked (length tr) steps.falsified id next n)
    all-false id next d left q (last_id z t) =
        rw (walked-last (length tr) id next n z)
        (record {
          adding = w.adding;
          trail = w.trail;
          live = w.live (unit, rw q tt);
          after_at = t;
          answer = answer_by steps.falsified d [] q;
        })
    all-false id next d left q (more_ids z rest t) =
        rw (walked-early (length tr) id next n z) (answer_by steps.falsified d (id ∷ rest) q ∙ rw w.adding.step.counts)

    other_wrong : (id next : ℕ) → standing (marks_of ms) steps.falsified cl ≡ steps.other
        → InvariantAt s lim A c.tally c.clause R ws ms tr (walked (length tr) steps.other id next n)
    unfolding walked
    other_wrong id next d = answer_by steps.other d w.left refl ∙ rw w.adding.step.counts

    -- one literal is open, and is made true
    module _ (l : ℕ) (d : standing (marks_of ms) steps.falsified cl ≡ steps.one_open l) (good : All (Good lim.last_variable) cl) (few : length tr < largest)
      where
        abbrev ms' : List ℕ
        ms' = put_mark ms (l / 2) (1 + l % 2)

        made_true : marks_of ms' ≡ make_true (marks_of ms) l
        made_true =
            let g = open_in (Good lim.last_variable) (marks_of ms) cl good d in
            mark-put ms (l / 2) (1 + l % 2) (omega (arith, g.two)) (omega (arith, g.most, w.adding.base.marked))

        apart : (v : ℕ) → in_hints (live_in c.tally R ws) w.adding.hints v ≡ false → v ≡ l / 2 → ⊥
        unfolding in_hints
        apart v f z =
            let a = (or-false (in_hint (live_in c.tally R ws h) v) (in_hints (live_in c.tally R ws) w.left v) (w.among v f)
            ).0
            in
            let b : in_clause cl v ≡ false = rw e at a in
            let t : in_clause cl (l / 2) ≡ true = open-inside (marks_of ms) cl d in
            let u : in_clause cl (l / 2) ≡ false = rw (← z) b in
            impossible (cc)

        abbrev adding' : Adding s lim c.tally c.clause R ws ms'
        adding' =
            let a = w.adding in
            record {
              base = record {
                holding = a.base.holding;
                lent = a.base.lent;
                marked = rw (put-length ms (l / 2) (1 + l % 2))
                    a.base.marked;
              };
              step = a.step;
              literals = a.literals;
              hints = a.hints;
              middle = a.middle;
              literals-at = a.literals-at;
              hints_at = a.hints_at;
              size = a.size;
              fresh = a.fresh;
              small = a.small;
              good = a.good;
              outside = λ v f. ap (λ m. m v) made_true ∙ rw (ne_eqb v (l / 2) (apart v f)) (a.outside v f);
            }

        -- the literal is on the trail, where it had room
        trail' : Trailed w.adding.literals (recorded tr n l) ms' (recorded_at (length tr) n)
        unfolding recorded_at
        trail' = record { trailed = go (leb (length tr) n) refl }
          where
            go : (t : Bool) → leb (length tr) n ≡ t → cond t largest (n + 1) ≤ length (recorded tr n l) → (v : ℕ)
                → in_clause (part 0 (cond t largest (n + 1)) (recorded tr n l)) v ≡ false
                → marks_of ms' v ≡ all_false all_open w.adding.literals v
            go true t h v f = absurd (omega (arith, length-set tr n l, few))
            go false t h v f =
                let k : n < length tr = leb-false (length tr) n t in
                let e : n + 1 ≡ suc n = omega arith in
                let g : in_clause (take n tr ++ (l ∷ [])) v ≡ false = rw (e, take-suc-set tr n l k) at f in
                let o = or-false (in_clause (take n tr) v) (in_clause (l ∷ []) v) (sym (in-append (take n tr) (l ∷ []) v) ∙ g) in
                let a : in_clause (part 0 n tr) v ≡ false = o.0 in
                ap (λ m. m v) made_true ∙ rw (ne_eqb v (l / 2) (λ z. last-in l v o.1 (sym z))) (w.trail.trailed (omega arith) v a)

        one-open : (id next : ℕ) (left : List ℕ) → w.left ≡ left → Ahead s next id w.adding.step.after left
            → InvariantAt s lim A c.tally c.clause R ws ms' (recorded tr n l) (walked (length tr) (steps.one_open l) id next n)
        unfolding walked hints_show in_hints
        one-open id next left q (last_id z t) =
            rw (onward-end Walk (Refused Reason.BadHint) id next (recorded_at (length tr) n) z) (answer_by (steps.one_open l) d [] q ∙ rw w.adding.step.counts)
        one-open id next left q (more_ids z rest t) =
            rw (onward-more Walk (Refused Reason.BadHint) id next (recorded_at (length tr) n) z)
            (record {
              adding = adding';
              trail = trail';
              left = rest;
              left_at = t;
              among = λ v f. (or-false (in_hint (live_in c.tally R ws h) v) (in_hints (live_in c.tally R ws) (id ∷ rest) v)
                  (rw q at (w.among v f))).1;
              live = λ a. w.live (unit, rw q a);
              answer =
                  answer_by (steps.one_open l) d (id ∷ rest) q
                  ∙ ap
                  (λ m. ending lim w.adding.step (by_shown (hints_show (live_in c.tally R ws) m (id ∷ rest)) lim
                  (before w.adding) c.clause.id w.adding.literals))
                  (sym made_true);
            })

    -- by how it stands
    pub hint_judged : All (Good lim.last_variable) cl → length tr < largest → (id next : ℕ) → number s at ≡ got id next
        → InvariantAt s lim A c.tally c.clause R ws (walked_marks (standing (marks_of ms) steps.falsified cl) ms)
        (walked_trail (standing (marks_of ms) steps.falsified cl) n tr)
        (walked (length tr) (standing (marks_of ms) steps.falsified cl) id next n)
    unfolding walked_marks walked_trail
    hint_judged good few id next num = go (standing (marks_of ms) steps.falsified cl) refl
      where
        there : Ahead s next id w.adding.step.after w.left
        there = ids-ahead s at id next w.left w.adding.step.after num w.left_at

        go : (x : Standing) → standing (marks_of ms) steps.falsified cl ≡ x
            → InvariantAt s lim A c.tally c.clause R ws (walked_marks x ms) (walked_trail x n tr) (walked (length tr) x id next n)
        go steps.falsified d = all-false id next d w.left refl there
        go (steps.one_open l) d = one-open l d good few id next w.left refl there
        go steps.other d = other_wrong id next d

  -- a clause whose variables are opened again
  module _ (w : Wiping s lim A c.tally c.clause R ws ms h at) (cl ms' : List ℕ)
      (e : live_in c.tally R ws h ≡ some cl) (x : Wiped (in_clause cl) ms ms') (long : length ms' ≡ length ms) where
    wiped_base : Base lim c.tally R ws ms'
    wiped_base = record { holding = w.base.holding; lent = w.base.lent; marked = rw long w.base.marked }

    outside' : (v : ℕ) → in_hints (live_in c.tally R ws) w.left v ≡ false → marks_of ms' v ≡ 0
    unfolding in_hints
    outside' v f = x.opened v ∙ go (in_clause cl v) refl
      where
        go : (t : Bool) → in_clause cl v ≡ t → cond t 0 (marks_of ms v) ≡ 0
        go true t = refl
        go false t = w.outside v (rw (e, t) f)

    no_hints : w.left ≡ [] → (v : ℕ) → in_hints (live_in c.tally R ws) w.left v ≡ false
    unfolding in_hints
    no_hints q v = rw q

    pub clause_wiped : (tr' : List ℕ) (id next : ℕ) → number s at ≡ got id next → c.clause.hints ≤ at
        → InvariantAt s lim A c.tally c.clause R ws ms' tr' (onward Wipe Next id next 0)
    clause_wiped tr' id next num past = go w.left refl (ids-ahead s at id next w.left w.step.after num w.left_at)
      where
        k : at < next
        k = (number-got s at num).ahead

        go : (left : List ℕ) → w.left ≡ left → Ahead s next id w.step.after left
            → InvariantAt s lim A c.tally c.clause R ws ms' tr' (onward Wipe Next id next 0)
        go left q (last_id z t) =
            rw (onward-end Wipe Next id next 0 z)
            (record {
              base = wiped_base;
              unmarked = fun_ext (λ v. outside' v (no_hints q v));
              early = omega (arith, k, w.step.early);
              fuel = w.step.fuel;
              enough = omega (arith, k, w.step.enough);
              answer = w.answer ∙ rw (w.step.counts, t);
            })
        go left q (more_ids z rest t) =
            rw (onward-more Wipe Next id next 0 z)
            (record {
              base = wiped_base;
              step = w.step;
              left = rest;
              left_at = t;
              live = rw q at w.live.1;
              outside = λ v f. outside' v (rw q f);
              answer = w.answer;
            })
