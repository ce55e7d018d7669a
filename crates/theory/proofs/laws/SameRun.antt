-- The plain run answers the same over offsets and lists of literals as over tokens and marks.
use mathlib.Core.Path.{◌≡◌, refl, sym, ◌∙◌}
use mathlib.Core.Bool.{Bool, true, false, cond}
use mathlib.Core.List.{List, [], ◌∷◌}
use mathlib.Core.Option.{Option, none, some}
use Prim.Native.Nat.{ℕ, zero, suc, ◌+◌, ◌-◌, ◌≤◌, ◌<◌}
use native.Mathlib.Omega.{arith}
use lib.Dec.{leb, ltb}
use lib.ListN.{length}
use borrow.Author.Tests.{le-leb, lt-leb, le-ltb, ltb-true, ltb-false}
use Rattle.scope.specs.Parsed.{Parsed, Answer, answered, refusal, then, provided}
use Rattle.scope.specs.Steps.{Step, add, delete, step_at, Live, either, Shown, follows, not_live, breaks, deleted}
use Rattle.scope.specs.PlainRun.{State, Limits, with_clause, with_live, fits, by_shown, perform, formed, after, run, start, plain_run}
use Rattle.theory.proofs.laws.StepTokens.{Tokens, StepRead, read_step}
use Rattle.theory.proofs.laws.Marked.{all_open, all_false, well_formed as marked_formed, hints_show as marked_show}
use Rattle.theory.proofs.laws.MarkedRun.{Outcome, next, empty, refused, by_deleted, at_end, by_outcome, by_form, by_read}
use Rattle.theory.proofs.laws.MarkedRun.{by_shown as marked_shown, perform as marked_perform, run as marked_run, plain_run as marked_plain}
use Rattle.theory.proofs.laws.Tokens.{tokens-stop}
use Rattle.theory.proofs.laws.Formed.{formed-exact}
use Rattle.theory.proofs.laws.SameForm.{formed-same}
use Rattle.theory.proofs.laws.SameHints.{hints_same}
use Rattle.theory.proofs.laws.SameSteps.{First, one, broken, over, first_token, SameStep, both_read, neither_reads, step_same, tokens_from}
use Rattle.scope.specs.Refutation.{WellFormed, add_form}

-- an outcome of step n as an answer
abbrev said : ℕ → Outcome → Answer (Option State)
said n (next st) = answered (some st)
said n empty = answered none
said n (refused k) = refusal k n

module _ (lim : Limits) (st : State) (n : ℕ) where
  shown_same : (w : Shown) (id : ℕ) (c : List ℕ) → by_shown w lim st n id c ≡ said n (marked_shown w lim st id c)
  shown_same not_live id c = refl
  shown_same breaks id c = refl
  shown_same follows id [] = refl
  shown_same follows id (l ∷ ls) = go (fits lim st (l ∷ ls))
    where
      go : (b : Bool) → provided b 17 n (answered (some (with_clause st id (l ∷ ls))))
          ≡ said n (cond b (next (with_clause st id (l ∷ ls))) (refused 17))
      go true = refl
      go false = refl

  -- a well-formed step
  perform_same : (x : Step) → WellFormed lim.last_variable st.highest x
      → perform lim st n x ≡ said n (marked_perform lim st x)
  unfolding perform marked_perform
  perform_same (add id c hs) (add_form h k) =
      rw (hints_same st.live c hs k) (shown_same (marked_show st.live (all_false all_open c) hs) id c)
  perform_same (delete ids) f = go (deleted st.live ids)
    where
      go : (o : Option Live) → either o (refusal 15 n) (λ L. answered (some (with_live st L))) ≡ said n (by_deleted st o)
      go none = refl
      go (some L) = refl

-- nothing may follow the empty clause
end_same : (s : List ℕ) (at n : ℕ) → provided (leb (length s) at) 18 n (answered n) ≡ at_end n (tokens_from s at)
end_same s at n = go (first_token s at)
  where
    go : {p : Parsed ℕ} {ts : Tokens} → First s at p ts → provided (leb (length s) at) 18 n (answered n) ≡ at_end n ts
    go (one f i) = rw (lt-leb (length s) at (omega arith))
    go (broken l) = rw (lt-leb (length s) at l)
    go (over l) = rw (le-leb (length s) at l)

-- a run with a step to read
marked_step : (k : ℕ) (lim : Limits) (st : State) (s : List ℕ) (at : ℕ) → at < length s
    → marked_run (suc k) lim st (tokens_from s at) ≡ by_read (read_step (tokens_from s at)) lim st (λ ts st'. marked_run k lim st' ts)
unfolding marked_run read_step
marked_step k lim st s at h = go (first_token s at)
  where
    go : {p : Parsed ℕ} {ts : Tokens} → First s at p ts
        → marked_run (suc k) lim st ts ≡ by_read (read_step ts) lim st (λ ts st'. marked_run k lim st' ts)
    go (one f i) = refl
    go (broken l) = refl
    go (over l) = absurd (omega arith)

-- and with none
marked-over : (k : ℕ) (lim : Limits) (st : State) (s : List ℕ) (at : ℕ) → length s ≤ at
    → marked_run k lim st (tokens_from s at) ≡ refusal 18 st.steps
unfolding marked_run
marked-over zero lim st s at h = refl
marked-over (suc k) lim st s at h = rw (tokens-stop s at h)

-- each step takes a byte at least, so both bounds are enough
run-same : (k j : ℕ) (lim : Limits) (s : List ℕ) (at : ℕ) (st : State) → length s - at ≤ k → length s - at ≤ j
    → run k lim s at st ≡ marked_run j lim st (tokens_from s at)
unfolding run
run-same zero j lim s at st h l = sym (marked-over j lim st s at (omega arith))
run-same (suc k) zero lim s at st h l =
    rw (le-ltb at (length s) (omega arith)) (sym (marked-over zero lim st s at (omega arith)))
run-same (suc k) (suc j) lim s at st h l = go (run-same k j lim s) (ltb at (length s)) refl
  where
    n : ℕ
    n = st.steps + 1

    Ih : Type 0
    Ih = (at : ℕ) (st : State) → length s - at ≤ k → length s - at ≤ j → run k lim s at st ≡ marked_run j lim st (tokens_from s at)

    outcome : Ih → (i : ℕ) → at < i → i ≤ length s → (o : Outcome)
        → then (said n o) (λ o. after n s i o (run k lim s i)) ≡ by_outcome o n (tokens_from s i) (λ st'. marked_run j lim st' (tokens_from s i))
    outcome ih i f g (next st') = ih i st' (omega arith) (omega arith)
    outcome ih i f g empty = end_same s i n
    outcome ih i f g (refused e) = refl

    form : Ih → (i : ℕ) → at < i → i ≤ length s → (x : Step) (b : Bool)
        → marked_formed lim.last_variable st.highest x ≡ b
        → provided b 14 n (then (perform lim st n x) (λ o. after n s i o (run k lim s i)))
        ≡ by_form b lim st x (tokens_from s i) (λ st'. marked_run j lim st' (tokens_from s i))
    form ih i f g x false e = refl
    form ih i f g x true e =
        rw (perform_same lim st n x ((formed-exact lim.last_variable st.highest x).0
        (formed-same lim.last_variable st.highest x ∙ e)))
        (outcome ih i f g (marked_perform lim st x))

    step : Ih → {p : Parsed Step} {q : StepRead} → SameStep s at p q
        → formed lim st n p (λ x i. then (perform lim st n x) (λ o. after n s i o (run k lim s i)))
        ≡ by_read q lim st (λ ts st'. marked_run j lim st' ts)
    step ih neither_reads = refl
    step ih (both_read {x = x} {next = i} f g) =
        rw (formed-same lim.last_variable st.highest x)
        (form ih i f g x (marked_formed lim.last_variable st.highest x) refl)

    go : Ih → (b : Bool) → ltb at (length s) ≡ b
        → provided b 18 st.steps
        (formed lim st n (step_at s at) (λ x i. then (perform lim st n x) (λ o. after n s i o (run k lim s i))))
        ≡ marked_run (suc j) lim st (tokens_from s at)
    go ih false t = sym (marked-over (suc j) lim st s at (ltb-false at (length s) t))
    go ih true t = step ih (step_same s at) ∙ sym (marked_step j lim st s at (ltb-true at (length s) t))

-- for every formula and proof
pub plain-marked : (lim : Limits) (f : List (List ℕ)) (proof : List ℕ) → plain_run lim f proof ≡ marked_plain lim f proof
unfolding plain_run marked_plain
plain-marked lim f proof = run-same (length proof) (suc (length proof)) lim proof 0 (start f) (omega arith) (omega arith)
