-- The plain run answers "no timetable" exactly in the words of demand 3.
use mathlib.Core.Path.{◌≡◌, refl, sym, ap, ◌∙◌, fun_ext}
use mathlib.Core.Bool.{Bool, true, false}
use mathlib.Core.List.{List, [], ◌∷◌, flat_map}
use mathlib.Core.Option.{none, some}
use Prim.Native.Nat.{ℕ, zero, suc, ◌+◌, ◌≤◌, ◌<◌}
use native.Mathlib.Omega.{arith}
use native.Mathlib.Numerals.{add-one}
use lib.Dec.{ltb}
use lib.ListN.{length, get_or, get_elem?, length-append}
use borrow.Author.Tests.{ltb-true, ltb-false}
use Rattle.scope.specs.Parsed.{answered}
use Rattle.scope.specs.Formula.{words, most_variables}
use Rattle.scope.specs.PlainRun.{State, by_id, start, plain_run}
use Rattle.scope.specs.Operations.{Lent, limits_of}
use Rattle.scope.specs.Refutation.{Starts, Refuted}
use Rattle.theory.proofs.laws.Exact.{plain-exact}
use Rattle.theory.proofs.laws.Taken.{same-state, taken-exact}

-- a word for each literal
words-counted : (f : List (List ℕ)) → words f ≡ length (flat_map (λ c. c) f)
unfolding words flat_map
words-counted [] = refl
words-counted (c ∷ f) = ap (◌+◌ (length c)) (words-counted f) ∙ sym (length-append c (flat_map (λ c. c) f))

-- clause n of a formula, counted from 0
clause-at : (f : List (List ℕ)) (n : ℕ) → n < length f → get_elem? f n ≡ some (get_or f n [])
clause-at [] n h = absurd (omega arith)
clause-at (c ∷ f) zero h = refl
clause-at (c ∷ f) (suc n) h = clause-at f n (omega arith)

no-clause : (f : List (List ℕ)) (n : ℕ) → length f ≤ n → get_elem? f n ≡ none
no-clause [] n h = refl
no-clause (c ∷ f) zero h = absurd (omega arith)
no-clause (c ∷ f) (suc n) h = no-clause f n (omega arith)

-- the plain run starts with the formula alone
start-in-words : (f : List (List ℕ)) → Starts f (start f)
unfolding start
start-in-words f =
    record {
      live = λ n h. rw add-one (clause-at f n h);
      no_zero = refl;
      alone = above;
      highest = refl;
      words = words-counted f;
      rows = refl;
      steps = refl;
    }
  where
    above : (n : ℕ) → length f < n → by_id f n ≡ none
    above zero h = refl
    above (suc n) h = no-clause f n (omega arith)

-- and those words say all of the state
words-start : (f : List (List ℕ)) (st : State) → Starts f st → st ≡ start f
unfolding start
words-start f st s = same-state (fun_ext live) s.highest (s.words ∙ sym (words-counted f)) s.rows s.steps
  where
    live : (n : ℕ) → st.live n ≡ by_id f n
    live zero = s.no_zero
    live (suc n) = go (ltb n (length f)) refl
      where
        go : (b : Bool) → ltb n (length f) ≡ b → st.live (suc n) ≡ get_elem? f n
        go true t = let h = ltb-true n (length f) t in rw (← add-one n) (s.live n h) ∙ sym (clause-at f n h)
        go false t = let h = ltb-false n (length f) t in s.alone (suc n) (omega arith) ∙ sym (no-clause f n h)

-- a formula that keeps its size and fits the stores is refuted exactly where the plain run answers so
module _ (last : ℕ) (f : List (List ℕ)) (proof : List ℕ) (l : Lent) (n : ℕ) where
  pub refuted_words : last ≤ most_variables → words f ≤ l.words → length f ≤ l.rows → last ≤ l.bytes
      → plain_run (limits_of last l) f proof ≡ answered n → Refuted last f proof l n
  refuted_words size word_room row_room byte_room e =
      let k = (plain-exact (limits_of last l) f proof n).0 e in
      record {
        size = size;
        word_room = rw words-counted at word_room;
        row_room = row_room;
        byte_room = byte_room;
        steps = k.0;
        spelt = k.1;
        first = start f;
        starts = start-in-words f;
        refutes = (taken-exact (limits_of last l) (start f) k.0).0 k.2;
        counted = k.3;
      }

  pub words_refuted : Refuted last f proof l n → plain_run (limits_of last l) f proof ≡ answered n
  words_refuted w =
      let e = words-start f w.first w.starts in
      let t = rw e at ((taken-exact (limits_of last l) w.first w.steps).1 w.refutes) in
      (plain-exact (limits_of last l) f proof n).1 (w.steps, w.spelt, t, w.counted)

  -- a word for each literal
  pub words_fit : Refuted last f proof l n → words f ≤ l.words
  words_fit w = rw (words-counted f) w.word_room
