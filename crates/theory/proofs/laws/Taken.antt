-- The steps that the plain run takes are exactly those of demand 3's words.
use mathlib.Core.Path.{◌≡◌, refl, sym, ap, ◌∙◌, fun_ext}
use mathlib.Core.Logic.{◌↔◌}
use mathlib.Core.Bool.{Bool, true, false, cond}
use mathlib.Core.List.{List, [], ◌∷◌}
use mathlib.Core.Option.{Option, none, some}
use Prim.Native.Nat.{ℕ, ◌+◌, ◌≤◌}
use lib.Dec.{leb, eqb}
use lib.ListN.{length}
use borrow.Author.Tests.{eq-eqb, ne_eqb, eqb-true, eqb-false, le-leb, leb-true}
use Rattle.scope.specs.Parsed.{answered, refusal, provided}
use Rattle.scope.specs.Steps.{Step, add, delete, put, Live, Shown, follows, not_live, breaks, either, hints_show, deleted}
use Rattle.scope.specs.PlainRun.{State, Limits, with_clause, with_live, fits, by_shown, perform}
use Rattle.theory.proofs.laws.Performed.{Taken, ends, goes_on_lem}
use Rattle.laws.specs.Booleans.{impossible, and-true}
use Rattle.theory.proofs.laws.Formed.{formed-exact}
use Rattle.theory.proofs.laws.Hinted.{hints-exact}
use Rattle.scope.specs.Refutation.{Literals, WellFormed, add_form, Follows, Differs, Deletes, no_id, one_id}
use Rattle.scope.specs.Refutation.{Adds, Leaves, added, dropped, Refutes, final, onward}

-- the live clauses with another value at one id
put-at : (L : Live) (d : ℕ) (o : Option (List ℕ)) → put L d o d ≡ o
put-at L d o = rw (eq-eqb d d refl)

put-differs : (L : Live) (d : ℕ) (o : Option (List ℕ)) → Differs d L (put L d o)
put-differs L d o = record { elsewhere = λ j h. rw (ne_eqb j d h) }

is-put : (L L' : Live) (d : ℕ) (o : Option (List ℕ)) → L' d ≡ o → Differs d L L' → L' ≡ put L d o
is-put L L' d o e h = fun_ext (λ j. go j (eqb j d) refl)
  where
    go : (j : ℕ) (b : Bool) → eqb j d ≡ b → L' j ≡ cond b o (L j)
    go j true t = ap L' (eqb-true j d t) ∙ e
    go j false t = h.elsewhere j (eqb-false j d t)

-- deletions
deleted-in-words : (L : Live) (ds : List ℕ) (L'' : Live) → deleted L ds ≡ some L'' → Deletes L ds L''
unfolding deleted
deleted-in-words L [] L'' e = let p : L ≡ L'' = cc in rw (← p) no_id
deleted-in-words L (d ∷ ds) L'' e = go (L d) refl (deleted-in-words (put L d none) ds L'') e
  where
    go : (o : Option (List ℕ)) → L d ≡ o → (deleted (put L d none) ds ≡ some L'' → Deletes (put L d none) ds L'')
        → either o none (λ c. deleted (put L d none) ds) ≡ some L'' → Deletes L (d ∷ ds) L''
    go none t ih e = impossible (cc)
    go (some c) t ih e = one_id t (put-at L d none) (put-differs L d none) (ih e)

words-deleted : {L L'' : Live} {ds : List ℕ} → Deletes L ds L'' → deleted L ds ≡ some L''
unfolding deleted
words-deleted no_id = refl
words-deleted (one_id {L} {L'} {L''} {d} {c} {ds} t e h k) =
    let p : L' ≡ put L d none = is-put L L' d none e h in
    rw (t, ← p) (words-deleted k)

-- states with equal fields are equal
pub same-state : {s t : State} → s.live ≡ t.live → s.highest ≡ t.highest → s.words_used ≡ t.words_used
    → s.rows_used ≡ t.rows_used → s.steps ≡ t.steps → s ≡ t
same-state a b c d e = λ i. record { live = a i; highest = b i; words_used = c i; rows_used = d i; steps = e i }

module _ (lim : Limits) (st : State) where
  abbrev n : ℕ
  n = st.steps + 1

  -- a clause that follows and fits
  added_in_words : (id : ℕ) (c hs : List ℕ) → Follows st.live c hs → fits lim st c ≡ true
      → Adds lim st id c hs (with_clause st id c)
  added_in_words id c hs f e =
      let r = and-true (leb (st.words_used + length c) lim.words_lent) (leb (st.rows_used + 1) lim.rows_lent) e in
      record {
        follows = f;
        live = put-at st.live id (some c);
        others = put-differs st.live id (some c);
        highest = refl;
        words = refl;
        rows = refl;
        word_room = leb-true _ _ r.0;
        row_room = leb-true _ _ r.1;
        steps = refl;
      }

  words_added : (id : ℕ) (c hs : List ℕ) (st' : State) → Adds lim st id c hs st' → with_clause st id c ≡ st'
  words_added id c hs st' a =
      let e = is-put st.live st'.live id (some c) a.live a.others in
      same-state (sym e) (sym a.highest) (sym a.words) (sym a.rows) (sym a.steps)

  words_fit : (id : ℕ) (c hs : List ℕ) (st' : State) → Adds lim st id c hs st' → fits lim st c ≡ true
  words_fit id c hs st' a =
      let w : st.words_used + length c ≤ lim.words_lent = rw a.words at a.word_room in
      let r : st.rows_used + 1 ≤ lim.rows_lent = rw a.rows at a.row_room in
      rw (le-leb (st.words_used + length c) lim.words_lent w, le-leb (st.rows_used + 1) lim.rows_lent r)

  -- a step that leaves a state
  next_in_words : (s : Step) (st' : State) → WellFormed lim.last_variable st.highest s
      → perform lim st n s ≡ answered (some st') → Leaves lim st s st'
  unfolding perform
  next_in_words (add id c hs) st' (add_form h k) e = go (hints_show st.live c hs) c (hints-exact st.live c hs).0 e
    where
      fit : (l : ℕ) (ls : List ℕ) → Follows st.live (l ∷ ls) hs → (b : Bool) → fits lim st (l ∷ ls) ≡ b
          → provided b 17 n (answered (some (with_clause st id (l ∷ ls)))) ≡ answered (some st')
          → Leaves lim st (add id (l ∷ ls) hs) st'
      fit l ls f true t e =
          let p : with_clause st id (l ∷ ls) ≡ st' = cc in
          rw (← p) (added (added_in_words id (l ∷ ls) hs f t))
      fit l ls f false t e = impossible (cc)

      go : (w : Shown) (c : List ℕ) → (w ≡ follows → Follows st.live c hs) → by_shown w lim st n id c ≡ answered (some st')
          → Leaves lim st (add id c hs) st'
      go not_live c f e = impossible (cc)
      go breaks c f e = impossible (cc)
      go follows [] f e = impossible (cc)
      go follows (l ∷ ls) f e = fit l ls (f refl) (fits lim st (l ∷ ls)) refl e
  next_in_words (delete ids) st' k e = go (deleted st.live ids) refl e
    where
      go : (o : Option Live) → deleted st.live ids ≡ o
          → either o (refusal 15 n) (λ L. answered (some (with_live st L))) ≡ answered (some st') → Leaves lim st (delete ids) st'
      go none t e = impossible (cc)
      go (some L) t e =
          let p : with_live st L ≡ st' = cc in
          let d = deleted-in-words st.live ids L t in
          rw (← p) (dropped (record { live = d; highest = refl; words = refl; rows = refl; steps = refl }))

  words_next : {s : Step} {st' : State} → Leaves lim st s st' → perform lim st n s ≡ answered (some st')
  unfolding perform
  words_next (added {id} {l} {ls} {hs} {st'} a) =
      rw ((hints-exact st.live (l ∷ ls) hs).1 a.follows, words_fit id (l ∷ ls) hs st' a)
      (ap (λ x. answered (some x)) (words_added id (l ∷ ls) hs st' a))
  words_next (dropped {ids} {st'} d) =
      rw (words-deleted d.live)
      (ap (λ x. answered (some x)) (same-state refl (sym d.highest) (sym d.words) (sym d.rows) (sym d.steps)))

  -- a step that adds the empty clause
  empty_in_words : (s : Step) → WellFormed lim.last_variable st.highest s → perform lim st n s ≡ answered none
      → Refutes lim st (s ∷ [])
  unfolding perform
  empty_in_words (add id c hs) (add_form h k) e = go (hints_show st.live c hs) c k (hints-exact st.live c hs).0 e
    where
      no : {A : Type 0} (st' : State) (b : Bool) → provided b 17 n (answered (some st')) ≡ answered none → A
      no st' true e = impossible (cc)
      no st' false e = impossible (cc)

      go : (w : Shown) (c : List ℕ) → Literals lim.last_variable c → (w ≡ follows → Follows st.live c hs)
          → by_shown w lim st n id c ≡ answered none → Refutes lim st (add id c hs ∷ [])
      go not_live c k f e = impossible (cc)
      go breaks c k f e = impossible (cc)
      go follows [] k f e = final (add_form h k) (f refl)
      go follows (l ∷ ls) k f e = no (with_clause st id (l ∷ ls)) (fits lim st (l ∷ ls)) e
  empty_in_words (delete ids) k e = go (deleted st.live ids) e
    where
      go : (o : Option Live) → either o (refusal 15 n) (λ L. answered (some (with_live st L))) ≡ answered none
          → Refutes lim st (delete ids ∷ [])
      go none e = impossible (cc)
      go (some L) e = impossible (cc)

  words_empty : (id : ℕ) {hs : List ℕ} → Follows st.live [] hs → perform lim st n (add id [] hs) ≡ answered none
  unfolding perform
  words_empty id {hs} f = rw ((hints-exact st.live [] hs).1 f)

-- all steps, both ways
taken-in-words : {lim : Limits} {st : State} {ss : List Step} → Taken lim st ss → Refutes lim st ss
taken-in-words {lim} {st} (ends {s = s} w e) = empty_in_words lim st s ((formed-exact _ _ s).0 w) e
taken-in-words {lim} {st} (goes_on_lem {st' = st'} {s = s} w e k) =
    let f = (formed-exact lim.last_variable st.highest s).0 w in
    onward f (next_in_words lim st s st' f e) (taken-in-words k)

words-taken : {lim : Limits} {st : State} {ss : List Step} → Refutes lim st ss → Taken lim st ss
words-taken {lim} {st} (final {id = id} {hs = hs} f g) = ends ((formed-exact _ _ (add id [] hs)).1 f) (words_empty lim st id g)
words-taken {lim} {st} (onward {s = s} f g k) = goes_on_lem ((formed-exact _ _ s).1 f) (words_next lim st g) (words-taken k)

-- a list of steps is taken by the plain run exactly where it refutes in demand 3's words
pub taken-exact : (lim : Limits) (st : State) (ss : List Step) → Taken lim st ss ↔ Refutes lim st ss
taken-exact lim st ss = (taken-in-words, words-taken)
