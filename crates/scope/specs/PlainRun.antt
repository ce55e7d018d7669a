-- The plain run: refusals 14 to 18, and the answer "no timetable" with the number of steps.
use Rattle.std.specs.Prelude.{Bool, ◌&&◌, List, [], ◌∷◌, ℕ, zero, suc, ◌+◌, length, leb, ltb}
use Rattle.std.proofs.Math.Option.{Option, none, some}
use Rattle.std.proofs.Math.ListN.{get_elem?}
use Rattle.scope.specs.Parsed.{Parsed, got, refused, Answer, answered, refusal, then, provided}
use Rattle.scope.specs.Formula.{words}
use Rattle.scope.specs.Steps.{Step, add, delete, step_at, well_formed, Live, put, either, Shown, follows, not_live, breaks, hints_show, deleted}

-- "Its state: the live clauses with their ids, the highest id so far, words and rows used, steps counted."
pub record State : Type 0 where
  pub live : Live
  pub highest : ℕ
  pub words_used : ℕ
  pub rows_used : ℕ
  pub steps : ℕ

-- the formula's last variable, and the words and rows lent
pub record Limits : Type 0 where
  pub last_variable : ℕ
  pub words_lent : ℕ
  pub rows_lent : ℕ

abbrev pub with_clause : State → ℕ → List ℕ → State
with_clause st id c =
    record {
      live = put st.live id (some c);
      highest = id;
      words_used = st.words_used + length c;
      rows_used = st.rows_used + 1;
      steps = st.steps + 1;
    }

abbrev pub with_live : State → Live → State
with_live st L =
    record { live = L; highest = st.highest; words_used = st.words_used; rows_used = st.rows_used; steps = st.steps + 1 }

-- "it fits if no more are then used than were lent"
abbrev pub fits : Limits → State → List ℕ → Bool
fits lim st c = leb (st.words_used + length c) lim.words_lent && leb (st.rows_used + 1) lim.rows_lent

-- what step n leaves where it is well formed: a state, none where it adds the empty clause
abbrev pub by_shown : Shown → Limits → State → ℕ → ℕ → List ℕ → Answer (Option State)
by_shown not_live lim st n id c = refusal 15 n
by_shown breaks lim st n id c = refusal 16 n
by_shown follows lim st n id [] = answered none
by_shown follows lim st n id (l ∷ ls) = provided (fits lim st (l ∷ ls)) 17 n (answered (some (with_clause st id (l ∷ ls))))

-- "set each literal of the new clause false"
unfoldable pub perform : Limits → State → ℕ → Step → Answer (Option State)
perform lim st n (add id c hs) = by_shown (hints_show st.live c hs) lim st n id c
perform lim st n (delete ids) = either (deleted st.live ids) (refusal 15 n) (λ L. answered (some (with_live st L)))

-- step n is read: 14 where it is misformed
abbrev pub formed : Limits → State → ℕ → Parsed Step → (Step → ℕ → Answer ℕ) → Answer ℕ
formed lim st n (refused k v) go = refusal 14 n
formed lim st n (got x next) go = provided (well_formed lim.last_variable st.highest x) 14 n (go x next)

-- after step n, which ends before an offset: a state goes on; after the empty clause nothing may follow
abbrev pub after : ℕ → List ℕ → ℕ → Option State → (State → Answer ℕ) → Answer ℕ
after n s next o go = either o (provided (leb (length s) next) 18 n (answered n)) go

-- the steps from an offset on, one by one; k bounds their number
unfoldable pub run : ℕ → Limits → List ℕ → ℕ → State → Answer ℕ
run zero lim s at st = refusal 18 st.steps
run (suc k) lim s at st =
    let n = st.steps + 1 in
    provided (ltb at (length s)) 18 st.steps
    (formed lim st n (step_at s at) (λ x next. then (perform lim st n x) (λ o. after n s next o (run k lim s next))))

-- clause n of a formula has the id n
abbrev pub by_id : List (List ℕ) → Live
by_id f zero = none
by_id f (suc n) = get_elem? f n

-- "It starts with the formula alone live, its words and rows used, its last id the highest, no step counted."
unfoldable pub start : List (List ℕ) → State
start f = record { live = by_id f; highest = length f; words_used = words f; rows_used = length f; steps = 0 }

-- each step takes a byte at least, so there are no more steps than bytes
unfoldable pub plain_run : Limits → List (List ℕ) → List ℕ → Answer ℕ
plain_run lim f proof = run (length proof) lim proof 0 (start f)
