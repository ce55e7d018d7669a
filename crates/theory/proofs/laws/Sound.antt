-- The plain run is sound: where it answers "no timetable", no assignment makes every clause of the formula true.
use mathlib.Core.Path.{◌≡◌, refl, ap, ◌∙◌}
use mathlib.Core.Bool.{Bool, true, false, cond, ◌||◌}
use mathlib.Core.List.{List, [], ◌∷◌}
use mathlib.Core.Option.{Option, none, some}
use Prim.Native.Nat.{ℕ, zero, suc, ◌+◌}
use lib.Dec.{ltb, eqb}
use lib.ListN.{length, get_elem?}
use borrow.Author.Tests.{eqb-true}
use Rattle.scope.specs.Parsed.{Parsed, got, refused, Answer, answered, refusal, then, provided}
use Rattle.scope.specs.Kinds.{member, outside}
use Rattle.scope.specs.Cnf.{Assignment, opp, lit, clause, clauses}
use Rattle.scope.specs.Steps.{Step, add, delete, step_at, well_formed, put, Live, either, deleted, Shown, follows, not_live, breaks, by_rest, hints_show}
use Rattle.scope.specs.PlainRun.{State, Limits, with_clause, with_live, fits, by_shown, perform, formed, after, run, by_id, start, plain_run}
use Rattle.laws.specs.Booleans.{impossible, never_true, and-true, or-false}
use Rattle.theory.proofs.laws.Gates.{lit_opp}

-- for one assignment of all variables
module _ (ν : Assignment) where
  -- a literal among false ones is false
  false_member : (l : ℕ) (φ : List ℕ) → clause ν φ ≡ false → member l φ ≡ true → lit ν l ≡ false
  unfolding clause member
  false_member l [] e h = never_true h
  false_member l (k ∷ ks) e h =
      let f = or-false (lit ν k) (clause ν ks) e in
      go f.0 (false_member l ks f.1) (eqb l k) refl h
    where
      go : lit ν k ≡ false → (member l ks ≡ true → lit ν l ≡ false) → (b : Bool) → eqb l k ≡ b → (b || member l ks) ≡ true
          → lit ν l ≡ false
      go z ih true t h = ap (lit ν) (eqb-true l k t) ∙ z
      go z ih false t h = ih h

  -- a clause without them is true where it is
  without-false : (φ : List ℕ) → clause ν φ ≡ false → (c : List ℕ) → clause ν (outside φ c) ≡ clause ν c
  unfolding clause outside
  without-false φ e [] = refl
  without-false φ e (l ∷ ls) = go (member l φ) refl (without-false φ e ls)
    where
      go : (b : Bool) → member l φ ≡ b → clause ν (outside φ ls) ≡ clause ν ls
          → clause ν (cond b (outside φ ls) (l ∷ outside φ ls)) ≡ (lit ν l || clause ν ls)
      go true t ih = rw (false_member l φ e t) ih
      go false t ih = rw ih

  -- every live clause is true
  abbrev Holds : Live → Type 0
  Holds L = (i : ℕ) (c : List ℕ) → L i ≡ some c → clause ν c ≡ true

  -- then no hints lead from false literals to a clause with all literals false
  hints_sound : (L : Live) → Holds L → (φ : List ℕ) → clause ν φ ≡ false → (hs : List ℕ) → hints_show L φ hs ≡ follows → ⊥
  unfolding hints_show clause
  hints_sound L k φ d [] e = impossible (cc)
  hints_sound L k φ d (h ∷ hs) e = by_live (λ l t. hints_sound L k (opp l ∷ φ) (rw (lit_opp ν l, t, d)) hs) (L h) refl e
    where
      Ih : Type 0
      Ih = (l : ℕ) → lit ν l ≡ true → hints_show L (opp l ∷ φ) hs ≡ follows → ⊥

      single : (b : Bool) → (b || false) ≡ true → b ≡ true
      single true t = refl
      single false t = t

      one : Ih → (l : ℕ) → lit ν l ≡ true → (b : Bool) → cond b breaks (hints_show L (opp l ∷ φ) hs) ≡ follows → ⊥
      one ih l t true e = impossible (cc)
      one ih l t false e = ih l t e

      rest : Ih → (r : List ℕ) → clause ν r ≡ true → by_rest φ r hs (λ φ'. hints_show L φ' hs) ≡ follows → ⊥
      rest ih [] t e = never_true t
      rest ih (l ∷ []) t e = one ih l (single (lit ν l) t) (member (opp l) φ) e
      rest ih (l ∷ j ∷ ls) t e = impossible (cc)

      by_live : Ih → (o : Option (List ℕ)) → L h ≡ o
          → either o not_live (λ c. by_rest φ (outside φ c) hs (λ φ'. hints_show L φ' hs)) ≡ follows → ⊥
      by_live ih none t e = impossible (cc)
      by_live ih (some c) t e = rest ih (outside φ c) (without-false φ d c ∙ k h c t) e

  -- a clause that follows by its hints from true clauses is true
  follows_sound : (L : Live) → Holds L → (c hs : List ℕ) → hints_show L c hs ≡ follows → clause ν c ≡ true
  follows_sound L k c hs e = go (clause ν c) refl
    where
      go : (b : Bool) → clause ν c ≡ b → b ≡ true
      go true t = refl
      go false t = absurd (hints_sound L k c t hs e)

  -- they stay true with one more true clause, and with some deleted
  holds_put : (L : Live) → Holds L → (id : ℕ) (o : Option (List ℕ)) → ((c : List ℕ) → o ≡ some c → clause ν c ≡ true)
      → Holds (put L id o)
  holds_put L k id o h i c = go (eqb i id)
    where
      go : (b : Bool) → cond b o (L i) ≡ some c → clause ν c ≡ true
      go true e = h c e
      go false e = k i c e

  holds_deleted : (L : Live) → Holds L → (ds : List ℕ) (L' : Live) → deleted L ds ≡ some L' → Holds L'
  unfolding deleted
  holds_deleted L k [] L' e = let p : L ≡ L' = cc in rw p at k
  holds_deleted L k (d ∷ ds) L' e =
      go (holds_deleted (put L d none) (holds_put L k d none (λ c e. impossible (cc))) ds L') (L d) e
    where
      go : (deleted (put L d none) ds ≡ some L' → Holds L') → (o : Option (List ℕ))
          → either o none (λ c. deleted (put L d none) ds) ≡ some L' → Holds L'
      go ih none e = impossible (cc)
      go ih (some c) e = ih e

  -- a step keeps every live clause true, and never adds the empty clause
  abbrev Kept : Answer (Option State) → Type 0
  Kept (answered (some st)) = Holds st.live
  Kept (answered none) = ⊥
  Kept (refusal k n) = Unit {0}

  perform_sound : (lim : Limits) (st : State) (n : ℕ) → Holds st.live → (x : Step) → Kept (perform lim st n x)
  unfolding perform clause
  perform_sound lim st n k (add id c hs) = go (hints_show st.live c hs) c (follows_sound st.live k c hs)
    where
      fit : (c : List ℕ) → clause ν c ≡ true → (b : Bool) → Kept (provided b 17 n (answered (some (with_clause st id c))))
      fit c t true = holds_put st.live k id (some c) (λ d e. let p : c ≡ d = cc in rw (← p) t)
      fit c t false = tt

      go : (w : Shown) (c : List ℕ) → (w ≡ follows → clause ν c ≡ true) → Kept (by_shown w lim st n id c)
      go not_live c f = tt
      go breaks c f = tt
      go follows [] f = never_true (f refl)
      go follows (l ∷ ls) f = fit (l ∷ ls) (f refl) (fits lim st (l ∷ ls))
  perform_sound lim st n k (delete ids) = go (deleted st.live ids) (holds_deleted st.live k ids)
    where
      go : (o : Option Live) → ((L : Live) → o ≡ some L → Holds L)
          → Kept (either o (refusal 15 n) (λ L. answered (some (with_live st L))))
      go none f = tt
      go (some L) f = f L refl

  -- an answer other than "no timetable"
  abbrev Refuses : Answer ℕ → Type 0
  Refuses (answered n) = ⊥
  Refuses (refusal k n) = Unit {0}

  run_sound : (k : ℕ) (lim : Limits) (s : List ℕ) (at : ℕ) (st : State) → Holds st.live → Refuses (run k lim s at st)
  unfolding run
  run_sound zero lim s at st h = tt
  run_sound (suc k) lim s at st h = go (run_sound k lim s) (ltb at (length s)) (step_at s at)
    where
      n : ℕ
      n = st.steps + 1

      Ih : Type 0
      Ih = (i : ℕ) (st' : State) → Holds st'.live → Refuses (run k lim s i st')

      left : Ih → (i : ℕ) (a : Answer (Option State)) → Kept a → Refuses (then a (λ o. after n s i o (run k lim s i)))
      left ih i (answered (some st')) h = ih i st' h
      left ih i (answered none) h = absurd h
      left ih i (refusal j m) h = tt

      form : Ih → (b : Bool) (x : Step) (i : ℕ)
          → Refuses (provided b 14 n (then (perform lim st n x) (λ o. after n s i o (run k lim s i))))
      form ih false x i = tt
      form ih true x i = left ih i (perform lim st n x) (perform_sound lim st n h x)

      go : Ih → (b : Bool) (p : Parsed Step)
          → Refuses (provided b 18 st.steps
          (formed lim st n p (λ x i. then (perform lim st n x) (λ o. after n s i o (run k lim s i)))))
      go ih false p = tt
      go ih true (refused j m) = tt
      go ih true (got x i) = form ih (well_formed lim.last_variable st.highest x) x i

  -- the formula's clauses by their ids
  holds_formula : (f : List (List ℕ)) → clauses ν f ≡ true → (i : ℕ) (c : List ℕ) → get_elem? f i ≡ some c → clause ν c ≡ true
  unfolding clauses
  holds_formula [] h i c e = impossible (cc)
  holds_formula (d ∷ f) h zero c e = let p : d ≡ c = cc in rw (← p) (and-true (clause ν d) (clauses ν f) h).0
  holds_formula (d ∷ f) h (suc i) c e = holds_formula f (and-true (clause ν d) (clauses ν f) h).1 i c e

  holds_start : (f : List (List ℕ)) → clauses ν f ≡ true → Holds (by_id f)
  holds_start f h zero c e = impossible (cc)
  holds_start f h (suc i) c e = holds_formula f h i c e

-- "no timetable" is never answered for a formula that some assignment makes true, whatever the proof's bytes
pub plain-sound : (lim : Limits) (f : List (List ℕ)) (proof : List ℕ) (n : ℕ) → plain_run lim f proof ≡ answered n
    → (ν : Assignment) → clauses ν f ≡ true → ⊥
unfolding plain_run start
plain-sound lim f proof n e ν h = rw e at (run_sound ν (length proof) lim proof 0 (start f) (holds_start ν f h))
