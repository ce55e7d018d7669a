-- The plain run is exact: it answers "no timetable" where, and only where, the bytes spell a list of steps, each well formed
-- and taken on what the one before it left, of which the last, and no earlier one, adds the empty clause.
use mathlib.Core.Path.{◌≡◌, refl, ap, ◌∙◌}
use mathlib.Core.Logic.{◌↔◌}
use mathlib.Core.Bool.{Bool, true, false}
use mathlib.Core.List.{List, [], ◌∷◌}
use mathlib.Core.Option.{Option, none, some}
use Prim.Native.Nat.{ℕ, zero, suc, ◌+◌, ◌≤◌, ◌<◌}
use native.Mathlib.Omega.{arith}
use lib.Dec.{leb, ltb}
use lib.ListN.{length}
use borrow.Author.Tests.{le-leb, leb-true, lt-ltb}
use Rattle.scope.specs.Parsed.{Parsed, got, Answer, answered, refusal, then, provided}
use Rattle.scope.specs.Steps.{Step, add, delete, step_at, well_formed, Live, either, Shown, follows, not_live, breaks, hints_show, deleted}
use Rattle.scope.specs.PlainRun.{State, Limits, with_clause, with_live, fits, by_shown, perform, formed, after, run, start, plain_run}
use Rattle.scope.specs.Spelling.{SpellsProof}
use Rattle.theory.proofs.laws.StepTokens.{Tokens, stop, StepRead, read, read_step}
use Rattle.theory.proofs.laws.Tokens.{tokens-stop}
use Rattle.theory.proofs.laws.SameSteps.{tokens_from, First, one, broken, over, first_token, SameStep, both_read, neither_reads, step_same}
use Rattle.theory.proofs.laws.Performed.{Taken, ends, goes_on_lem}
use Rattle.laws.specs.Booleans.{impossible}
use Rattle.theory.proofs.laws.Spelt.{ReadAs, done, first, proof-exact, few-steps}

-- each step counts one
abbrev Counts : ℕ → Answer (Option State) → Type 0
Counts n (answered (some st)) = st.steps ≡ n
Counts n (answered none) = Unit {0}
Counts n (refusal k v) = Unit {0}

counts : (lim : Limits) (st : State) (s : Step) → Counts (st.steps + 1) (perform lim st (st.steps + 1) s)
unfolding perform
counts lim st (add id c hs) = go (hints_show st.live c hs) c
  where
    fit : (c : List ℕ) (b : Bool)
        → Counts (st.steps + 1) (provided b 17 (st.steps + 1) (answered (some (with_clause st id c))))
    fit c true = refl
    fit c false = tt

    go : (w : Shown) (c : List ℕ) → Counts (st.steps + 1) (by_shown w lim st (st.steps + 1) id c)
    go not_live c = tt
    go breaks c = tt
    go follows [] = tt
    go follows (l ∷ ls) = fit (l ∷ ls) (fits lim st (l ∷ ls))
counts lim st (delete ids) = go (deleted st.live ids)
  where
    go : (o : Option Live)
        → Counts (st.steps + 1) (either o (refusal 15 (st.steps + 1)) (λ L. answered (some (with_live st L))))
    go none = tt
    go (some L) = refl

-- the state that a step leaves has counted it
counted : (lim : Limits) (st : State) (s : Step) {st' : State} → perform lim st (st.steps + 1) s ≡ answered (some st')
    → st'.steps ≡ st.steps + 1
counted lim st s e = rw e at (counts lim st s)

-- P of the number of steps that an answer carries
abbrev IfAnswered : Answer ℕ → (ℕ → Type 0) → Type 0
IfAnswered (answered n) P = P n
IfAnswered (refusal k n) P = Unit {0}

module _ (lim : Limits) (s : List ℕ) where
  -- what is left to read is a list of steps that are taken from this state on, n steps with those before
  abbrev Listed : ℕ → State → ℕ → Type 0
  Listed at st n = (ss : List Step) × ReadAs (tokens_from s at) ss × Taken lim st ss × (st.steps + length ss ≡ n)

  -- a step is read and well formed
  module _ (at i : ℕ) (st : State) (x : Step) (r : read_step (tokens_from s at) ≡ read x (tokens_from s i))
      (w : well_formed lim.last_variable st.highest x ≡ true) where
    in_front : (st' : State) → perform lim st (st.steps + 1) x ≡ answered (some st') → (a : Answer ℕ)
        → IfAnswered a (Listed i st') → IfAnswered a (Listed at st)
    in_front st' e (answered m) h =
        let c = counted lim st x e in
        (x ∷ h.0, first r h.1, goes_on_lem w e h.2, rw (← h.3) (omega arith))
    in_front st' e (refusal j m) h = tt

    at_last : perform lim st (st.steps + 1) x ≡ answered none → (b : Bool) → leb (length s) i ≡ b
        → IfAnswered (provided b 18 (st.steps + 1) (answered (st.steps + 1))) (Listed at st)
    at_last e true t =
        (x ∷ [], first {ss = []} r (rw (tokens-stop s i (leb-true (length s) i t)) done), ends w e, refl)
    at_last e false t = tt

    -- where go answers for what is left after it
    outcome_lists : (go : State → Answer ℕ) → ((st' : State) → IfAnswered (go st') (Listed i st')) → (a : Answer (Option State))
        → perform lim st (st.steps + 1) x ≡ a → IfAnswered (then a (λ o. after (st.steps + 1) s i o go)) (Listed at st)
    outcome_lists go ih (answered (some st')) e = in_front st' e (go st') (ih st')
    outcome_lists go ih (answered none) e = at_last e (leb (length s) i) refl
    outcome_lists go ih (refusal j m) e = tt

  -- a run that answers "no timetable" has read such a list
  run_lists : (k at : ℕ) (st : State) → IfAnswered (run k lim s at st) (Listed at st)
  unfolding run
  run_lists zero at st = tt
  run_lists (suc k) at st = go (run_lists k) (ltb at (length s))
    where
      n : ℕ
      n = st.steps + 1

      Ih : Type 0
      Ih = (i : ℕ) (st' : State) → IfAnswered (run k lim s i st') (Listed i st')

      form : Ih → (x : Step) (i : ℕ) → read_step (tokens_from s at) ≡ read x (tokens_from s i) → (b : Bool)
          → well_formed lim.last_variable st.highest x ≡ b
          → IfAnswered (provided b 14 n (then (perform lim st n x) (λ o. after n s i o (run k lim s i)))) (Listed at st)
      form ih x i r false w = tt
      form ih x i r true w = outcome_lists at i st x r w (run k lim s i) (ih i) (perform lim st n x) refl

      step : Ih → {p : Parsed Step} {q : StepRead} → SameStep s at p q → read_step (tokens_from s at) ≡ q
          → IfAnswered (formed lim st n p (λ x i. then (perform lim st n x) (λ o. after n s i o (run k lim s i)))) (Listed at st)
      step ih neither_reads r = tt
      step ih (both_read {x = x} {next = i} f g) r = form ih x i r (well_formed lim.last_variable st.highest x) refl

      go : Ih → (b : Bool)
          → IfAnswered (provided b 18 st.steps
          (formed lim st n (step_at s at) (λ x i. then (perform lim st n x) (λ o. after n s i o (run k lim s i))))) (Listed at st)
      go ih false = tt
      go ih true = step ih (step_same s at) refl

  -- where a step is read from the tokens, it is read at the offset
  record ReadAt (at : ℕ) (x : Step) (ts : Tokens) : Type 0 where
    next : ℕ
    here : at < length s
    got_at : step_at s at ≡ got x next
    left : ts ≡ tokens_from s next

  read_at : (at : ℕ) (x : Step) (ts : Tokens) → read_step (tokens_from s at) ≡ read x ts → ReadAt at x ts
  read_at at x ts e = go (step_same s at) refl e
    where
      go : {p : Parsed Step} {q : StepRead} → SameStep s at p q → step_at s at ≡ p → q ≡ read x ts → ReadAt at x ts
      go (both_read {x = y} {next = i} f g) r e =
          let t : y ≡ x = cc in
          record { next = i; here = omega arith; got_at = r ∙ ap (λ z. got z i) t; left = cc }
      go neither_reads r e = impossible (cc)

  -- one step of a run
  run_step : (k at : ℕ) (st : State) (x : Step) {ts : Tokens} (r : ReadAt at x ts)
      → well_formed lim.last_variable st.highest x ≡ true
      → run (suc k) lim s at st
      ≡ then (perform lim st (st.steps + 1) x) (λ o. after (st.steps + 1) s r.next o (run k lim s r.next))
  unfolding run
  run_step k at st x r w = rw (lt-ltb at (length s) r.here, r.got_at, w)

  -- no step is left
  none_left : (at : ℕ) {ts : Tokens} → ts ≡ tokens_from s at → ReadAs ts [] → length s ≤ at
  none_left at e done = go (first_token s at) e
    where
      go : {p : Parsed ℕ} {ts : Tokens} → First s at p ts → stop ≡ ts → length s ≤ at
      go (one f i) e = impossible (cc)
      go (broken l) e = impossible (cc)
      go (over l) e = l

  -- the other way: such a list is run, where k is at least the number of steps
  lists_run : (k at : ℕ) (st : State) {ts : Tokens} {ss : List Step} → ts ≡ tokens_from s at → ReadAs ts ss → Taken lim st ss
      → length ss ≤ k → run k lim s at st ≡ answered (st.steps + length ss)
  lists_run zero at st t done x h = elim x [ ]
  lists_run (suc k) at st t done x h = elim x [ ]
  lists_run zero at st t (first r q) (ends w e) h = absurd (omega arith)
  lists_run zero at st t (first r q) (goes_on_lem w e a) h = absurd (omega arith)
  lists_run (suc k) at st t (first {ts' = ts'} {s = x} r q) (ends w e) h =
      let z = read_at at x ts' (rw t at r) in
      run_step k at st x z w ∙ rw (e, le-leb (length s) z.next (none_left z.next z.left q))
  lists_run (suc k) at st t (first {ts' = ts'} {s = x} r q) (goes_on_lem {st' = st'} {ss = ss} w e a) h =
      let z = read_at at x ts' (rw t at r) in
      let c = counted lim st x e in
      run_step k at st x z w ∙ rw e (lists_run k z.next st' z.left q a (omega arith) ∙ ap answered (omega arith))

-- demand 3's "exactly when", of the plain run
pub plain-exact : (lim : Limits) (f : List (List ℕ)) (proof : List ℕ) (n : ℕ)
    → (plain_run lim f proof ≡ answered n) ↔ ((ss : List Step) × SpellsProof ss proof × Taken lim (start f) ss × (length ss ≡ n))
unfolding plain_run start
plain-exact lim f proof n = (to, from)
  where
    Steps : Type 0
    Steps = (ss : List Step) × SpellsProof ss proof × Taken lim (start f) ss × (length ss ≡ n)

    to : plain_run lim f proof ≡ answered n → Steps
    to e =
        let h : Listed lim proof 0 (start f) n = rw e at (run_lists lim proof (length proof) 0 (start f)) in
        (h.0, (proof-exact proof h.0).0 h.1, h.2, omega (arith, h.3))

    from : Steps → plain_run lim f proof ≡ answered n
    from h =
        let k = (proof-exact proof h.0).1 h.1 in
        lists_run lim proof (length proof) 0 (start f) refl k h.2 (few-steps h.1) ∙ ap answered (omega (arith, h.3))
