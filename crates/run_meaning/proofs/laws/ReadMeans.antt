-- Reading a step keeps what holds of a check.
use mathlib.Core.Path.{◌≡◌, refl, ap, ◌∙◌}
use mathlib.Core.Bool.{true}
use mathlib.Core.List.{List, [], ◌∷◌}
use Prim.Native.Nat.{ℕ, zero, suc, ◌+◌, ◌-◌, ◌≤◌, ◌<◌}
use native.Mathlib.Omega.{arith}
use lib.Dec.{ltb}
use Rattle.std.specs.Prelude.{Option, Some}
use lib.ListN.{length, get_or, drop}
use lib.Seq.{drop-cons}
use borrow.Author.Tests.{ltb-true}
use Rattle.scope.specs.declared.refusal.Reason.{Reason}
use Rattle.scope.specs.Parsed.{Parsed, Answer, refusal, got, refused}
use Rattle.scope.specs.Number.{Front, broken, whole, front, within, number}
use Rattle.theory.proofs.laws.Marked as steps_laws
use Rattle.scope.specs.Steps.{deleted}
use Rattle.theory.proofs.laws.StepTokens.{Tokens, by_front, tokens_after, StepRead, read, misread, read_step}
use Rattle.theory.proofs.laws.Marked.{well_formed, all_open, hints_show}
use Rattle.scope.specs.PlainRun.{State, Limits}
use Rattle.theory.proofs.laws.MarkedRun.{perform, by_shown, by_deleted, by_read, run}
use Rattle.parsing.proofs.laws.Numbers.{number-got}
use Rattle.directory.specs.declared.Row.{Row}
use Rattle.marks.specs.Marks.{marks_of}
use Rattle.laws.specs.Booleans.{impossible, and-true}
use Rattle.theory.proofs.laws.Tokens.{tokens-stop}
use Rattle.steps.specs.declared.step.Clause.{Clause}
use Rattle.steps.specs.declared.step.Step.{Step}
use Rattle.steps.specs.declared.step.Step.TheVariants.{Adds, Deletes}
use Rattle.hints.specs.declared.machine.Phase.TheVariants.{Next, Walk, Delete, Refused}
use Rattle.turns.specs.declared.check.Check.{Check}
use Rattle.reading.proofs.laws.Reading.{tokens_at, AddsAt, DeletesAt, MisformedAt, Open, ReadsStep, adds, deletes, misformed}
use Rattle.reading.proofs.laws.Listing.{Ahead, last_id, more_ids, ids-ahead, list-cut}
use Rattle.hints.specs.Machine.{onward}
use Rattle.hints.proofs.laws.Machine.{onward-end, onward-more}
use Rattle.trail.specs.Recorded.{largest}
use Rattle.turns.specs.Check.{first_id, entered, counted, stepped}
use Rattle.turns.proofs.laws.Check.{TakesStep, over, takes}
use Rattle.run_meaning.proofs.laws.Invariant.{Base, InStep, ending, Adding, before, live_in, state_of, Reading, InvariantAt}

-- where bytes are left, the run takes the step that is read
run_step : (s : List ℕ) (at k : ℕ) (lim : Limits) (st : State) → at < length s
    → run (suc k) lim st (tokens_at s at) ≡ by_read (read_step (tokens_at s at)) lim st (λ ts st'. run k lim st' ts)
unfolding run tokens_after read_step
run_step s at k lim st h = rw (drop-cons s at 0 h) (go (within (front (get_or s at 0 ∷ drop (suc at) s))))
  where
    go : (f : Front)
        → run (suc k) lim st (by_front f (λ n. tokens_after (n - 1) (drop (suc at) s)))
        ≡ by_read (read_step (by_front f (λ n. tokens_after (n - 1) (drop (suc at) s)))) lim st (λ ts st'. run k lim st' ts)
    go broken = refl
    go (whole v n) = refl

misformed-answer : (lim : Limits) (st : State) (x : StepRead) (go : Tokens → State → Answer ℕ)
    → MisformedAt x st.highest lim.last_variable
    → by_read x lim st go ≡ refusal 14 (st.steps + 1)
misformed-answer lim st misread go m = refl
misformed-answer lim st (read t ts) go m = rw (m t ts refl)

module _ (s : List ℕ) (lim : Limits) (A : Answer ℕ) (c : Check) (R : ℕ → Row) (ws ms tr : List ℕ) (at : ℕ)
    (w : Reading s lim A c.tally c.clause R ws ms at) where
  -- no step is left
  pub no_step : length s ≤ at → A ≡ refusal 18 c.tally.steps
  unfolding run
  no_step h = w.answer ∙ go w.fuel w.enough
    where
      go : (k : ℕ) → length s - at < k → run k lim (state_of c.tally.steps c.tally (live_in c.tally R ws)) (tokens_at s at)
          ≡ refusal 18 c.tally.steps
      go zero l = absurd (omega arith)
      go (suc k) l = rw (tokens-stop s at h)

  module _ (h : at < length s) (short : length s ≤ largest) where
    abbrev state : State
    state = state_of c.tally.steps c.tally (live_in c.tally R ws)

    -- the fuel that is left after the step
    taken : (k : ℕ) × (length s - at ≤ k) × (A ≡ by_read (read_step (tokens_at s at)) lim state (λ ts st. run k lim st ts))
    taken = go w.fuel w.enough w.answer
      where
        go : (k : ℕ) → length s - at < k → A ≡ run k lim state (tokens_at s at)
            → (k : ℕ) × (length s - at ≤ k) × (A ≡ by_read (read_step (tokens_at s at)) lim state (λ ts st. run k lim st ts))
        go zero l e = absurd (omega arith)
        go (suc k) l e = (k, omega arith, e ∙ run_step s at k lim state h)

    one_more : (counted c.tally).steps ≡ c.tally.steps + 1
    one_more = omega (arith, w.early)

    pub step_misformed : MisformedAt (read_step (tokens_at s at)) c.tally.highest lim.last_variable
        → A ≡ refusal 14 (counted c.tally).steps
    step_misformed m = taken.2 ∙ misformed-answer lim state (read_step (tokens_at s at)) _ m ∙ rw one_more

    -- the counts and the stores within the step, whose hints or ids stand at k.hints
    module _ (k : Clause) (ahead : at < k.hints) (ms' : List ℕ) (long : length ms' ≡ length ms) where
      abbrev in_step : Tokens → InStep s (counted c.tally) k
      in_step after =
          record {
            done = c.tally.steps;
            counts = one_more;
            early = omega (arith, one_more, w.early);
            after = after;
            fuel = taken.0;
            enough = omega (arith, taken.1);
          }

      abbrev base' : Base lim (counted c.tally) R ws ms'
      base' = record { holding = w.base.holding; lent = w.base.lent; marked = rw long w.base.marked }

    -- a clause is to be added
    module _ (k : Clause) (ahead : at < k.hints) (ms' : List ℕ) (long : length ms' ≡ length ms)
        (a : AddsAt (read_step (tokens_at s at)) s c.tally.highest lim.last_variable ms' k) where
      formed : (ltb c.tally.highest k.id ≡ true) × (steps_laws.literals_ok lim.last_variable all_open a.literals ≡ true)
      unfolding well_formed
      formed = and-true (ltb c.tally.highest k.id) (steps_laws.literals_ok lim.last_variable all_open a.literals) a.formed

      abbrev adding : Adding s lim (counted c.tally) k R ws ms'
      adding =
          record {
            base = base' k ahead ms' long;
            step = in_step k ahead ms' long (tokens_at s a.next);
            literals = a.literals;
            hints = a.hints;
            middle = tokens_at s k.hints;
            literals-at = a.literals_stand.listed;
            hints_at = a.hints_stand.listed;
            size = a.size;
            fresh = ltb-true c.tally.highest k.id formed.0;
            small = a.small;
            good = formed.1;
            outside = λ v f. ap (λ m. m v) a.marks;
          }

      answer_adds : (hs : List ℕ) → a.hints ≡ hs
          → A ≡ ending lim adding.step (by_shown (hints_show (live_in c.tally R ws) (marks_of ms') hs) lim (before adding)
          k.id a.literals)
      unfolding perform
      answer_adds hs q = taken.2 ∙ rw (a.step, a.formed, a.marks, q)

      none_show : ending lim adding.step (by_shown (hints_show (live_in c.tally R ws) (marks_of ms') []) lim (before adding)
          k.id a.literals)
          ≡ refusal 16 (counted c.tally).steps
      unfolding hints_show
      none_show = rw one_more

      pub step_adds : InvariantAt s lim A (counted c.tally) k R ws ms' tr (entered s (stepped c (Some (Adds k))))
      step_adds = go (number s k.hints) refl
        where
          by : (id next : ℕ) (hs : List ℕ) → a.hints ≡ hs → Ahead s next id (tokens_at s a.next) hs
              → InvariantAt s lim A (counted c.tally) k R ws ms' tr (onward Walk (Refused Reason.BadHint) id next 0)
          by id next hs q (last_id z t) = rw (onward-end Walk (Refused Reason.BadHint) id next 0 z) (answer_adds [] q ∙ none_show)
          by id next hs q (more_ids z rest t) =
              rw (onward-more Walk (Refused Reason.BadHint) id next 0 z)
              (record {
                adding = adding;
                trail = record { trailed = λ h v f. ap (λ m. m v) a.marks };
                left = rest;
                left_at = t;
                among = λ v f. rw q at f;
                live = λ x. rw q x;
                answer = answer_adds (id ∷ rest) q;
              })

          go : (x : Parsed ℕ) → number s k.hints ≡ x
              → InvariantAt s lim A (counted c.tally) k R ws ms' tr (first_id Walk (Refused Reason.BadHint) k.hints x)
          go (got id next) e = by id next a.hints refl (ids-ahead s k.hints id next a.hints (tokens_at s a.next) e
              a.hints_stand.listed)
          go (refused j o) e = let x = list-cut s k.hints j o e in let y = a.hints_stand.listed in impossible (cc)

    -- ids are to be deleted
    module _ (from : ℕ) (ahead : at < from) (d : DeletesAt (read_step (tokens_at s at)) s from) where
      abbrev ids_clause : Clause
      ids_clause = record { id = 0; literals = from; size = 0; hints = from }

      abbrev deleting_step : InStep s (counted c.tally) ids_clause
      deleting_step = in_step ids_clause ahead ms refl (tokens_at s d.next)

      answer_deletes : (ids : List ℕ) → d.ids ≡ ids
          → A ≡ ending lim deleting_step (by_deleted (state_of c.tally.steps (counted c.tally) (live_in c.tally R ws))
          (deleted (live_in c.tally R ws) ids))
      unfolding perform well_formed
      answer_deletes ids q = taken.2 ∙ rw (d.step, q)

      pub step_deletes : InvariantAt s lim A (counted c.tally) ids_clause R ws ms tr (entered s (stepped c (Some (Deletes from))))
      unfolding deleted
      step_deletes = go (number s from) refl
        where
          by : (id next : ℕ) → from < next → (ids : List ℕ) → d.ids ≡ ids → Ahead s next id (tokens_at s d.next) ids
              → InvariantAt s lim A (counted c.tally) ids_clause R ws ms tr (onward Delete Next id next 0)
          by id next l ids q (last_id z t) =
              rw (onward-end Delete Next id next 0 z)
              (record {
                base = base' ids_clause ahead ms refl;
                unmarked = w.unmarked;
                early = omega (arith, one_more, w.early);
                fuel = taken.0;
                enough = omega (arith, taken.1);
                answer = answer_deletes [] q ∙ rw (one_more, t);
              })
          by id next l ids q (more_ids z rest t) =
              rw (onward-more Delete Next id next 0 z)
              (record {
                base = base' ids_clause ahead ms refl;
                unmarked = w.unmarked;
                step = deleting_step;
                left = rest;
                left_at = t;
                answer = answer_deletes (id ∷ rest) q;
              })

          go : (x : Parsed ℕ) → number s from ≡ x
              → InvariantAt s lim A (counted c.tally) ids_clause R ws ms tr (first_id Delete Next from x)
          go (got id next) e = by id next (number-got s from e).ahead d.ids refl
              (ids-ahead s from id next d.ids (tokens_at s d.next) e d.stand.listed)
          go (refused j o) e = let x = list-cut s from j o e in let y = d.stand.listed in impossible (cc)

-- the step at an offset
pub step-read : (s : List ℕ) (lim : Limits) (A : Answer ℕ) (c : Check) (R : ℕ
    → Row) (ws ms tr : List ℕ) (at : ℕ) (r : Check) (ms' : List ℕ)
    → Reading s lim A c.tally c.clause R ws ms at → length s ≤ largest → length ms' ≡ length ms
    → TakesStep s c at lim.last_variable ms r ms' → InvariantAt s lim A r.tally r.clause R ws ms' tr (entered s r)
step-read s lim A c R ws ms tr at r ms' w short long (over h q) = rw q (no_step s lim A c R ws ms tr at w h)
step-read s lim A c R ws ms tr at r ms' w short long (takes x h rs q) = rw q (by x rs)
  where
    clean : Open lim.last_variable ms
    clean = (w.base.marked, w.unmarked)

    by : (x : Option Step) → ReadsStep (read_step (tokens_at s at)) s at c.tally.highest lim.last_variable ms ms' x
        → InvariantAt s lim A (stepped c x).tally (stepped c x).clause R ws ms' tr (entered s (stepped c x))
    by x (adds k a i f) = step_adds s lim A c R ws ms tr at w h short k a ms' long (f clean)
    by x (deletes from a i e d) = rw e (step_deletes s lim A c R ws ms tr at w h short from a d)
    by x (misformed f) = step_misformed s lim A c R ws ms tr at w h short (f clean)
