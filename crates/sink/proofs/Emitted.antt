-- What is done with a block word by word is the run over its clauses, mode by mode.
use mathlib.Core.Path.{◌≡◌, refl, ap, ◌∙◌, sym}
use mathlib.Core.Bool.{true, false}
use mathlib.Core.List.{List, [], ◌∷◌, map}
use Prim.Native.Nat.{ℕ, ◌+◌}
use lib.ListN.{length}
use Rattle.scope.specs.Cnf.{bit, clause}
use Rattle.scope.specs.Text.{decimal}
use Rattle.sink.specs.Run.{run, Ran, Out, out, put, further}
use Rattle.sink.specs.Lines.{clause_line}
use Rattle.sink.specs.Block.{mark, split, Whole, by_clause, by_words, by-words}
use Rattle.sink.proofs.laws.Block.{mark-split}
use Rattle.sink.specs.World.{World, world, sink_at, in_text, in_words, bad_after, step}
use Rattle.sink.specs.Parts.{text_parts, size_parts, judge_parts}
use Rattle.sink.proofs.laws.Parts.{run-each, text-clause, size-clause, judge-clause}
use Rattle.sink.specs.declared.Sink.{Sink}
use Rattle.sink.specs.declared.Job.{Job}
use Rattle.sink.specs.declared.Judgement.{Judgement}
use Rattle.sink.specs.declared.Mode.TheVariants.{Measure, Text, SoftText, Words, Evaluate, Tail}

-- the sink with another judgement
abbrev pub judged_sink : Sink → Judgement → Sink
judged_sink s j = record { at = j.at; bad = j.bad; lost = s.lost; prev = s.prev; row = s.row }

abbrev between : ℕ → ℕ → Judgement
between a b = record { at = a; bad = b; holds = false }

module _ (k : Job) (m : List ℕ) where
  -- a step that changes one part of the world changes that part in a run
  part_run : {X : Type 0} (into : X → World) (f : List ℕ → X → X) → ((c : List ℕ) (x : X) → step k m (clause_line c) (into x) ≡ into (f c x))
      → (cs : List (List ℕ)) (x : X) → run (step k m) (map clause_line cs) (into x) ≡ into (run f cs x)
  part_run into f h [] x = refl
  part_run into f h (c ∷ cs) x = ap (run (step k m) (map clause_line cs)) (h c x) ∙ part_run into f h cs (f c x)

  module _ (s : Sink) (t w b : List ℕ) (whole : Whole b) where
    pub emit_measure : (n a : ℕ) → k.mode ≡ Measure → n ≡ length (decimal k.top) → a ≡ by_words (size_parts (n + 3)) true b s.at
        → Ran (step k m) (map clause_line (split b)) (world s t w) (world (sink_at a s) t w)
    unfolding step
    emit_measure n a e l p =
        let into : ℕ → World = λ x. world (sink_at x s) t w in
        let one : (c : List ℕ) (x : ℕ) → step k m (clause_line c) (into x) ≡ into (by_clause (size_parts (n + 3)) c x) =
        λ c x. rw e (ap into (sym (size-clause k.top (n + 3) (rw l) c x))) in
        record { eq = ap into (p ∙ by-words (size_parts (n + 3)) b s.at whole) ∙ sym (part_run into _ one (split b) s.at) }

    pub emit_text : (a : ℕ) (t' : List ℕ) → k.mode ≡ Text → out a t' ≡ by_words (text_parts k.top) true b (out s.at t)
        → Ran (step k m) (map clause_line (split b)) (world s t w) (world (sink_at a s) t' w)
    unfolding step
    emit_text a t' e p =
        let into : Out → World = λ o. in_text o (world s t w) in
        let one : (c : List ℕ) (o : Out) → step k m (clause_line c) (into o) ≡ into (by_clause (text_parts k.top) c o) =
        λ c o. rw e (ap into (sym (text-clause k.top c o))) in
        record { eq = ap into (p ∙ by-words (text_parts k.top) b (out s.at t) whole) ∙ sym (part_run into _ one (split b) (out s.at t)) }

    pub emit_words : (a : ℕ) (w' : List ℕ) → k.mode ≡ Words → Ran put b (out s.at w) (out a w')
        → Ran (step k m) (map clause_line (split b)) (world s t w) (world (sink_at a s) t w')
    unfolding step
    emit_words a w' e p =
        let into : Out → World = λ o. in_words o (world s t w) in
        let one : (c : List ℕ) (o : Out) → step k m (clause_line c) (into o) ≡ into (run put (mark c) o) = λ c o. rw e in
        let all : run put b (out s.at w) ≡ run (λ (c : List ℕ). run put (mark c)) (split b) (out s.at w) =
        ap (λ (ws : List ℕ). run put ws (out s.at w)) (sym (mark-split b whole)) ∙ sym (run-each mark (split b) (out s.at w)) in
        record { eq = ap into (p.eq ∙ all) ∙ sym (part_run into _ one (split b) (out s.at w)) }

  -- a judgement between two clauses
  judge_run : (s : Sink) (t w : List ℕ) → k.mode ≡ Evaluate → (cs : List (List ℕ)) (a b : ℕ)
      → run (step k m) (map clause_line cs) (world (judged_sink s (between a b)) t w)
      ≡ world (judged_sink s (run (by_clause (judge_parts m)) cs (between a b))) t w
  unfolding step
  judge_run s t w e [] a b = refl
  judge_run s t w e (c ∷ cs) a b =
      let next : ℕ = bad_after (clause (bit m) c) (further a 1) b in
      let one : step k m (clause_line c) (world (judged_sink s (between a b)) t w) ≡ world (judged_sink s (between (further a 1) next)) t w =
      rw e in
      ap (run (step k m) (map clause_line cs)) one
      ∙ judge_run s t w e cs (further a 1) next
      ∙ ap (λ (j : Judgement). world (judged_sink s (run (by_clause (judge_parts m)) cs j)) t w) (sym (judge-clause m c a b))

  pub emit_evaluate : (s : Sink) (t w b : List ℕ) → Whole b → (j : Judgement) → k.mode ≡ Evaluate
      → j ≡ by_words (judge_parts m) true b (between s.at s.bad)
      → Ran (step k m) (map clause_line (split b)) (world s t w) (world (judged_sink s j) t w)
  emit_evaluate s t w b whole j e p =
      record {
        eq =
            ap (λ (x : Judgement). world (judged_sink s x) t w) (p ∙ by-words (judge_parts m) b (between s.at s.bad) whole)
            ∙ sym (judge_run s t w e (split b) s.at s.bad);
      }

  -- a mode that passes over hard clauses
  module _ (s : Sink) (t w b : List ℕ) where
    passed_over_lem : ((c : List ℕ) (x : World) → step k m (clause_line c) x ≡ x) → Ran (step k m) (map clause_line (split b)) (world s t w) (world s t w)
    passed_over_lem h = record { eq = sym (part_run (λ x. x) (λ c x. x) h (split b) (world s t w) ∙ idle (split b) (world s t w)) }
      where
        idle : (cs : List (List ℕ)) (x : World) → run (λ (c : List ℕ) (y : World). y) cs x ≡ x
        idle [] x = refl
        idle (c ∷ cs) x = idle cs x

    pub emit_soft_text : k.mode ≡ SoftText → Ran (step k m) (map clause_line (split b)) (world s t w) (world s t w)
    unfolding step
    emit_soft_text e = passed_over_lem (λ c x. rw e)

    pub emit_tail : k.mode ≡ Tail → Ran (step k m) (map clause_line (split b)) (world s t w) (world s t w)
    unfolding step
    emit_tail e = passed_over_lem (λ c x. rw e)
