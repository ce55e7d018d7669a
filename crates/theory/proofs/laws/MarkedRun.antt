-- The plain run as the code makes it: from tokens, with marks.
use mathlib.Core.Bool.{Bool, true, false, cond}
use mathlib.Core.List.{List, [], ◌∷◌}
use mathlib.Core.Option.{Option, none, some}
use Prim.Native.Nat.{ℕ, zero, suc, ◌+◌}
use lib.ListN.{length}
use Rattle.scope.specs.Parsed.{Answer, answered, refusal}
use Rattle.scope.specs.Steps.{Step, add, delete, Live, Shown, follows, not_live, breaks, deleted}
use Rattle.scope.specs.PlainRun.{State, Limits, with_clause, with_live, fits, start}
use Rattle.theory.proofs.laws.StepTokens.{Tokens, stop, bad, num, tokens, StepRead, read, misread, read_step}
use Rattle.theory.proofs.laws.Marked.{all_open, all_false, well_formed, hints_show}

-- what a well-formed step does: it leaves a state, adds the empty clause, or earns a refusal
pub data Outcome : Type 0 where
  next : State → Outcome
  empty : Outcome
  refused : (number : ℕ) → Outcome

abbrev pub by_shown : Shown → Limits → State → ℕ → List ℕ → Outcome
by_shown not_live lim st id c = refused 15
by_shown breaks lim st id c = refused 16
by_shown follows lim st id [] = empty
by_shown follows lim st id (l ∷ ls) = cond (fits lim st (l ∷ ls)) (next (with_clause st id (l ∷ ls))) (refused 17)

abbrev pub by_deleted : State → Option Live → Outcome
by_deleted st none = refused 15
by_deleted st (some L) = next (with_live st L)

unfoldable pub perform : Limits → State → Step → Outcome
perform lim st (add id c hs) = by_shown (hints_show st.live (all_false all_open c) hs) lim st id c
perform lim st (delete ids) = by_deleted st (deleted st.live ids)

-- after the empty clause, in step n, nothing may follow
abbrev pub at_end : ℕ → Tokens → Answer ℕ
at_end n stop = answered n
at_end n bad = refusal 18 n
at_end n (num k ts) = refusal 18 n

abbrev pub by_outcome : Outcome → ℕ → Tokens → (State → Answer ℕ) → Answer ℕ
by_outcome (next st) n ts go = go st
by_outcome empty n ts go = at_end n ts
by_outcome (refused k) n ts go = refusal k n

abbrev pub by_form : Bool → Limits → State → Step → Tokens → (State → Answer ℕ) → Answer ℕ
by_form false lim st s ts go = refusal 14 (st.steps + 1)
by_form true lim st s ts go = by_outcome (perform lim st s) (st.steps + 1) ts go

abbrev pub by_read : StepRead → Limits → State → (Tokens → State → Answer ℕ) → Answer ℕ
by_read misread lim st go = refusal 14 (st.steps + 1)
by_read (read s ts) lim st go = by_form (well_formed lim.last_variable st.highest s) lim st s ts (go ts)

-- steps one by one; k bounds their number
unfoldable pub run : ℕ → Limits → State → Tokens → Answer ℕ
run zero lim st ts = refusal 18 st.steps
run (suc k) lim st stop = refusal 18 st.steps
run (suc k) lim st bad = refusal 14 (st.steps + 1)
run (suc k) lim st (num n ts) = by_read (read_step (num n ts)) lim st (λ ts' st'. run k lim st' ts')

-- each step takes a byte at least, so there are no more steps than bytes
unfoldable pub plain_run : Limits → List (List ℕ) → List ℕ → Answer ℕ
plain_run lim f proof = run (suc (length proof)) lim (start f) (tokens proof)
