-- Hard clauses written at once, mode by mode.
use mathlib.Core.Path.{◌≡◌, refl, ap, sym, ◌∙◌}
use mathlib.Core.List.{List, [], ◌∷◌, ◌++◌, map, flat_map}
use Prim.Native.Nat.{ℕ, zero, suc, ◌+◌}
use native.Mathlib.Nat.{add-zero, zero-add}
use native.Mathlib.Omega.{arith}
use lib.ListN.{length, length-append}
use Rattle.scope.specs.Text.{line, decimal, space, newline, literal_text}
use Rattle.sink.specs.Run.{run, Ran, Out, out, put, further}
use Rattle.sink.specs.Lines.{clause_line}
use Rattle.sink.proofs.laws.Lines.{clauses_of}
use Rattle.sink.specs.Block.{mark}
use Rattle.sink.specs.World.{world, sink_at, in_text, in_words, step}
use Rattle.sink.specs.Meaning.{hard_text}
use Rattle.sink.proofs.laws.Meaning.{text_run, words_run}
use Rattle.sink.specs.AllTrue.{counted}
use Rattle.sink.proofs.laws.AllTrue.{counted-some}
use Rattle.sink.specs.declared.Sink.{Sink}
use Rattle.sink.specs.declared.Job.{Job}
use Rattle.sink.specs.declared.Mode.TheVariants.{Measure, Text, Words}

clauses-of : (cs : List (List ℕ)) → clauses_of (map clause_line cs) ≡ cs
unfolding clauses_of
clauses-of [] = refl
clauses-of (c ∷ cs) = ap (◌∷◌ c) (clauses-of cs)

-- a line has a byte
line-some : (top : ℕ) (c : List ℕ) → length (line top c) ≡ 0 → ⊥
unfolding line
line-some top c e = omega (arith, length-append (decimal top ++ space ++ flat_map literal_text c) (48 ∷ newline))

counted-sum : (m n a : ℕ) → counted n (counted m a) ≡ counted (m + n) a
counted-sum zero n a = rw zero-add
counted-sum (suc m) zero a = rw add-zero
counted-sum (suc m) (suc n) a =
    let e : further (further a (suc m)) (suc n) ≡ further a (suc m + suc n) = omega arith in
    e ∙ counted-some (suc m + suc n) a (λ z. omega arith)

module _ (k : Job) (m : List ℕ) (s : Sink) (t w : List ℕ) (cs : List (List ℕ)) where
  pub text_at_once : (a : ℕ) (t' : List ℕ) → k.mode ≡ Text → Ran put (hard_text k.top cs) (out s.at t) (out a t')
      → Ran (step k m) (map clause_line cs) (world s t w) (world (sink_at a s) t' w)
  text_at_once a t' e p =
      let all : run (step k m) (map clause_line cs) (world s t w) ≡ in_text (run put (hard_text k.top cs) (out s.at t)) (world s t w) =
      text_run k m e (map clause_line cs) (world s t w)
      ∙ ap (λ (ds : List (List ℕ)). in_text (run put (hard_text k.top ds) (out s.at t)) (world s t w)) (clauses-of cs) in
      record { eq = ap (λ (o : Out). in_text o (world s t w)) p.eq ∙ sym all }

  pub words_at_once : (a : ℕ) (w' : List ℕ) → k.mode ≡ Words → Ran put (flat_map mark cs) (out s.at w) (out a w')
      → Ran (step k m) (map clause_line cs) (world s t w) (world (sink_at a s) t w')
  words_at_once a w' e p =
      let all : run (step k m) (map clause_line cs) (world s t w) ≡ in_words (run put (flat_map mark cs) (out s.at w)) (world s t w) =
      words_run k m e (map clause_line cs) (world s t w)
      ∙ ap (λ (ds : List (List ℕ)). in_words (run put (flat_map mark ds) (out s.at w)) (world s t w)) (clauses-of cs) in
      record { eq = ap (λ (o : Out). in_words o (world s t w)) p.eq ∙ sym all }

module _ (k : Job) (m : List ℕ) (e : k.mode ≡ Measure) (t w : List ℕ) where
  one_size : (c : List ℕ) (s : Sink) → step k m (clause_line c) (world s t w) ≡ world (sink_at (counted (length (line k.top c)) s.at) s) t w
  unfolding step
  one_size c s = rw (e, ← counted-some (length (line k.top c)) s.at (line-some k.top c))

  sizes : (cs : List (List ℕ)) (s : Sink)
      → run (step k m) (map clause_line cs) (world s t w) ≡ world (sink_at (counted (length (hard_text k.top cs)) s.at) s) t w
  unfolding flat_map
  sizes [] s = refl
  sizes (c ∷ cs) s =
      ap (run (step k m) (map clause_line cs)) (one_size c s)
      ∙ sizes cs (sink_at (counted (length (line k.top c)) s.at) s)
      ∙ ap (λ (a : ℕ). world (sink_at a s) t w)
      (counted-sum (length (line k.top c)) (length (hard_text k.top cs)) s.at
      ∙ ap (λ (n : ℕ). counted n s.at) (sym (length-append (line k.top c) (hard_text k.top cs))))

pub measure-at-once : (k : Job) (m : List ℕ) (cs : List (List ℕ)) {s s' : Sink} {t w : List ℕ} {n : ℕ} → k.mode ≡ Measure
    → n ≡ length (hard_text k.top cs) → s' ≡ sink_at (counted n s.at) s → Ran (step k m) (map clause_line cs) (world s t w) (world s' t w)
measure-at-once k m cs {s} {s'} {t} {w} e l q =
    record { eq = ap (λ (x : Sink). world x t w) (q ∙ ap (λ (n : ℕ). sink_at (counted n s.at) s) l) ∙ sym (sizes k m e t w cs s) }
