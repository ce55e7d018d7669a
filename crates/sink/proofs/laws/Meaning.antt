-- What a run over a formula's lines comes to, mode by mode: laws.
use mathlib.Core.Path.{◌≡◌, refl, ap, ◌∙◌, sym}
use mathlib.Core.Bool.{Bool, true, false, cond}
use mathlib.Core.List.{List, [], ◌∷◌, ◌++◌, flat_map}
use mathlib.Core.Option.{Option, some}
use Prim.Native.Nat.{ℕ, suc, ◌+◌, ◌≤◌}
use native.Mathlib.Omega.{arith}
use lib.ListN.{length, take, drop, length-append}
use lib.Dec.{eqb}
use borrow.Author.Tests.{eqb-true, ne_eqb}
use Rattle.scope.specs.Cnf.{bit, lit, clause, Item, hard_clauses, soft_units, falsified}
use Rattle.scope.specs.Text.{line}
use Rattle.scope.specs.Operations.{lowest_false}
use Rattle.sink.specs.Run.{run, run_append, Out, out, put, further}
use Rattle.sink.proofs.laws.Run.{run_fits}
use Rattle.sink.specs.Lines.{Line, clause_line, soft_line, lines}
use Rattle.sink.proofs.laws.Lines.{clauses_of, softs_of, clauses-lines, softs-lines}
use Rattle.sink.specs.Block.{mark}
use Rattle.sink.specs.World.{World, placed, moved, in_text, in_words, put_text, put_words, bad_after, judged, charged, step}
use Rattle.sink.specs.declared.Job.{Job}
use Rattle.sink.specs.declared.Mode.TheVariants.{Measure, Text, SoftText, Words, Evaluate}
use Rattle.sink.specs.Meaning.{hard_text, found}

abbrev pub soft_text : List (ℕ × ℕ) → List ℕ
soft_text us = flat_map (λ u. line u.0 (u.1 ∷ [])) us

-- bytes or words put one list after another
text-text : (xs ys : List ℕ) (w : World) → put_text ys (put_text xs w) ≡ put_text (xs ++ ys) w
text-text xs ys w = ap (λ (o : Out). in_text o w) (sym (run_append put xs ys (out w.at w.text)))

words-words : (xs ys : List ℕ) (w : World) → put_words ys (put_words xs w) ≡ put_words (xs ++ ys) w
words-words xs ys w = ap (λ (o : Out). in_words o w) (sym (run_append put xs ys (out w.at w.words)))

-- the world with another position, lowest false clause and falsified weight
abbrev pub evaluated : ℕ → ℕ → ℕ → World → World
evaluated a b n w = record { at = a; text = w.text; words = w.words; bad = b; lost = n; prev = w.prev; row = w.row }

-- the lowest false clause after one clause and then others
bad-step : (t : Bool) (a b : ℕ) (r : Option ℕ)
    → cond (eqb (bad_after t (suc a) b) 0) (found r) (bad_after t (suc a) b) ≡ cond (eqb b 0) (found (cond t r (some (suc a)))) b
bad-step t a b r = go (eqb b 0) refl t
  where
    go : (z : Bool) → eqb b 0 ≡ z → (t : Bool)
        → cond (eqb (bad_after t (suc a) b) 0) (found r) (bad_after t (suc a) b) ≡ cond (eqb b 0) (found (cond t r (some (suc a)))) b
    go true e true = rw e
    go true e false = rw (e, ne_eqb (suc a) 0 (λ q. omega arith))
    go false e t = rw (e, e)

lost-step : (t : Bool) (b n f : ℕ) → further (cond t b (further b n)) f ≡ further b (cond t 0 n + f)
lost-step true b n f = omega arith
lost-step false b n f = omega arith

lost-bound : (t : Bool) (b n : ℕ) → b ≤ 9223372036854775807 → cond t b (further b n) ≤ 9223372036854775807
lost-bound true b n h = h
lost-bound false b n h = omega arith

none_found : (b : ℕ) → cond (eqb b 0) 0 b ≡ b
none_found b = go (eqb b 0) refl
  where
    go : (z : Bool) → eqb b 0 ≡ z → cond z 0 b ≡ b
    go true e = sym (eqb-true b 0 e)
    go false e = refl

module _ (k : Job) (m : List ℕ) where
  -- Text: the hard lines are put into the text
  pub text_run : k.mode ≡ Text → (ls : List Line) (w : World) → run (step k m) ls w ≡ put_text (hard_text k.top (clauses_of ls)) w
  unfolding step clauses_of flat_map
  text_run e [] w = refl
  text_run e (clause_line c ∷ ls) w =
      let one : step k m (clause_line c) w ≡ put_text (line k.top c) w = rw e in
      ap (run (step k m) ls) one ∙ text_run e ls (put_text (line k.top c) w)
      ∙ text-text (line k.top c) (hard_text k.top (clauses_of ls)) w
  text_run e (soft_line n l ∷ ls) w =
      let one : step k m (soft_line n l) w ≡ w = rw e in ap (run (step k m) ls) one ∙ text_run e ls w

  -- SoftText: the soft lines are
  pub soft_text_run : k.mode ≡ SoftText → (ls : List Line) (w : World) → run (step k m) ls w ≡ put_text (soft_text (softs_of ls)) w
  unfolding step softs_of flat_map
  soft_text_run e [] w = refl
  soft_text_run e (clause_line c ∷ ls) w =
      let one : step k m (clause_line c) w ≡ w = rw e in ap (run (step k m) ls) one ∙ soft_text_run e ls w
  soft_text_run e (soft_line n l ∷ ls) w =
      let one : step k m (soft_line n l) w ≡ put_text (line n (l ∷ [])) w = rw e in
      ap (run (step k m) ls) one ∙ soft_text_run e ls (put_text (line n (l ∷ [])) w)
      ∙ text-text (line n (l ∷ [])) (soft_text (softs_of ls)) w

  -- Words: the hard clauses are put into the words
  pub words_run : k.mode ≡ Words → (ls : List Line) (w : World) → run (step k m) ls w ≡ put_words (flat_map mark (clauses_of ls)) w
  unfolding step clauses_of flat_map
  words_run e [] w = refl
  words_run e (clause_line c ∷ ls) w =
      let one : step k m (clause_line c) w ≡ put_words (mark c) w = rw e in
      ap (run (step k m) ls) one ∙ words_run e ls (put_words (mark c) w) ∙ words-words (mark c) (flat_map mark (clauses_of ls)) w
  words_run e (soft_line n l ∷ ls) w =
      let one : step k m (soft_line n l) w ≡ w = rw e in ap (run (step k m) ls) one ∙ words_run e ls w

  -- Measure: the position is moved on by the length of all lines
  pub measure_run : k.mode ≡ Measure → (ls : List Line) (w : World) → w.at ≤ 9223372036854775807
      → run (step k m) ls w ≡ moved (length (hard_text k.top (clauses_of ls)) + length (soft_text (softs_of ls))) w
  unfolding step clauses_of softs_of flat_map
  measure_run e [] w h = ap (λ (a : ℕ). placed a w) (omega arith)
  measure_run e (clause_line c ∷ ls) w h =
      let one : step k m (clause_line c) w ≡ moved (length (line k.top c)) w = rw e in
      ap (run (step k m) ls) one ∙ measure_run e ls (moved (length (line k.top c)) w) (omega arith)
      ∙ ap (λ (a : ℕ). placed a w) (omega (arith, length-append (line k.top c) (hard_text k.top (clauses_of ls))))
  measure_run e (soft_line n l ∷ ls) w h =
      let one : step k m (soft_line n l) w ≡ moved (length (line n (l ∷ []))) w = rw e in
      ap (run (step k m) ls) one ∙ measure_run e ls (moved (length (line n (l ∷ []))) w) (omega arith)
      ∙ ap (λ (a : ℕ). placed a w) (omega (arith, length-append (line n (l ∷ [])) (soft_text (softs_of ls))))

  -- Evaluate: the lowest false clause is found, and the falsified weight is added up
  pub evaluate_run : k.mode ≡ Evaluate → (ls : List Line) (w : World)
      → w.at + length (clauses_of ls) ≤ 9223372036854775807 → w.lost ≤ 9223372036854775807
      → run (step k m) ls w
      ≡ evaluated (w.at + length (clauses_of ls))
      (cond (eqb w.bad 0) (found (lowest_false (bit m) (suc w.at) (clauses_of ls))) w.bad)
      (further w.lost (falsified (bit m) (softs_of ls))) w
  unfolding step clauses_of softs_of lowest_false falsified
  evaluate_run e [] w h g =
      let a : w.at + 0 ≡ w.at = omega arith in
      let n : further w.lost 0 ≡ w.lost = omega arith in
      rw (a, n) (ap (λ (b : ℕ). evaluated w.at b w.lost w) (sym (none_found w.bad)))
  evaluate_run e (clause_line c ∷ ls) w h g =
      let one : step k m (clause_line c) w ≡ judged (clause (bit m) c) w = rw e in
      let u : further w.at 1 ≡ suc w.at = omega arith in
      let a : suc w.at + length (clauses_of ls) ≡ w.at + suc (length (clauses_of ls)) = omega arith in
      ap (run (step k m) ls) one ∙ evaluate_run e ls (judged (clause (bit m) c) w) (omega arith) g
      ∙ rw (u, a)
      (ap (λ (b : ℕ). evaluated (w.at + suc (length (clauses_of ls))) b (further w.lost (falsified (bit m) (softs_of ls))) w)
      (bad-step (clause (bit m) c) w.at w.bad (lowest_false (bit m) (suc (suc w.at)) (clauses_of ls))))
  evaluate_run e (soft_line n l ∷ ls) w h g =
      let one : step k m (soft_line n l) w ≡ charged (lit (bit m) l) n w = rw e in
      let less : cond (lit (bit m) l) w.lost (further w.lost n) ≤ 9223372036854775807 = lost-bound (lit (bit m) l) w.lost n g in
      ap (run (step k m) ls) one ∙ evaluate_run e ls (charged (lit (bit m) l) n w) h less
      ∙ ap (λ (f : ℕ). evaluated (w.at + length (clauses_of ls))
      (cond (eqb w.bad 0) (found (lowest_false (bit m) (suc w.at) (clauses_of ls))) w.bad) f w)
      (lost-step (lit (bit m) l) w.lost n (falsified (bit m) (softs_of ls)))

  -- the same for the items of a formula, where n is the variable of the first gate's output
  module _ (n : ℕ) (is : List Item) (w : World) where
    pub text_lines : k.mode ≡ Text → run (step k m) (lines n is) w ≡ put_text (hard_text k.top (hard_clauses n is)) w
    text_lines e = rw (← clauses-lines n is) (text_run e (lines n is) w)

    pub soft_text_lines : k.mode ≡ SoftText → run (step k m) (lines n is) w ≡ put_text (soft_text (soft_units is)) w
    soft_text_lines e = rw (← softs-lines n is) (soft_text_run e (lines n is) w)

    pub words_lines : k.mode ≡ Words → run (step k m) (lines n is) w ≡ put_words (flat_map mark (hard_clauses n is)) w
    words_lines e = rw (← clauses-lines n is) (words_run e (lines n is) w)

    pub measure_lines : k.mode ≡ Measure → w.at ≤ 9223372036854775807
        → run (step k m) (lines n is) w ≡ moved (length (hard_text k.top (hard_clauses n is)) + length (soft_text (soft_units is))) w
    measure_lines e h = rw (← clauses-lines n is, ← softs-lines n is) (measure_run e (lines n is) w h)

    pub evaluate_lines : k.mode ≡ Evaluate → w.at + length (hard_clauses n is) ≤ 9223372036854775807 → w.lost ≤ 9223372036854775807
        → run (step k m) (lines n is) w
        ≡ evaluated (w.at + length (hard_clauses n is))
        (cond (eqb w.bad 0) (found (lowest_false (bit m) (suc w.at) (hard_clauses n is))) w.bad)
        (further w.lost (falsified (bit m) (soft_units is))) w
    evaluate_lines e h g =
        rw (← clauses-lines n is, ← softs-lines n is)
        (evaluate_run e (lines n is) w (rw (clauses-lines n is) h) g)

-- words that fit stand in the words from the position on, and every other word is as it was
pub words_fit : (xs : List ℕ) (w : World) → w.at + length xs ≤ length w.words → length w.words ≤ 9223372036854775807
    → put_words xs w ≡ in_words (out (w.at + length xs) (take w.at w.words ++ xs ++ drop (w.at + length xs) w.words)) w
words_fit xs w h g = ap (λ (o : Out). in_words o w) (run_fits xs w.words w.at h g)
