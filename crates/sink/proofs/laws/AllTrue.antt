-- Clauses that are all true in a model: in the mode Evaluate a run counts them, and nothing else changes: laws.
use mathlib.Core.Path.{◌≡◌, refl, sym, ap, ◌∙◌}
use mathlib.Core.Bool.{true, cond}
use mathlib.Core.List.{List, [], ◌∷◌, map}
use Prim.Native.Nat.{ℕ, zero, suc}
use native.Mathlib.Omega.{arith}
use lib.ListN.{length}
use lib.Dec.{eqb}
use borrow.Author.Tests.{ne_eqb}
use Rattle.laws.specs.Booleans.{never_true, and-true}
use Rattle.scope.specs.Cnf.{bit, clause, clauses}
use Rattle.sink.specs.Run.{run, Ran, further}
use Rattle.sink.specs.Lines.{clause_line}
use Rattle.sink.specs.World.{world, sink_at, step}
use Rattle.sink.specs.declared.Sink.{Sink}
use Rattle.sink.specs.declared.Job.{Job}
use Rattle.sink.specs.declared.Mode.{Mode}
use Rattle.sink.specs.declared.Mode.TheVariants.{Measure, Text, SoftText, Words, Evaluate, Tail}
use Rattle.sink.specs.AllTrue.{evaluating, counted}

evaluating-is : (m : Mode) → evaluating m ≡ true → m ≡ Evaluate
evaluating-is Measure e = never_true e
evaluating-is Text e = never_true e
evaluating-is SoftText e = never_true e
evaluating-is Words e = never_true e
evaluating-is Evaluate e = refl
evaluating-is Tail e = never_true e

pub counted_none : (n : ℕ) {a : ℕ} → n ≡ 0 → a ≡ counted n a
counted_none n e = rw e

pub counted-some : (n a : ℕ) → (n ≡ 0 → ⊥) → further a n ≡ counted n a
counted-some zero a z = absurd (z refl)
counted-some (suc n) a z = refl

counted_more : (n a : ℕ) → counted n (further a 1) ≡ counted (suc n) a
counted_more zero a = refl
counted_more (suc n) a = omega arith

-- the lowest false clause so far stays
bad-stays : (b : ℕ) → cond (eqb b 0) 0 b ≡ b
bad-stays zero = refl
bad-stays (suc b) = rw (ne_eqb (suc b) 0 (λ e. omega arith))

module _ (k : Job) (m : List ℕ) (e : k.mode ≡ Evaluate) (t w : List ℕ) where
  one_true : (c : List ℕ) (s : Sink) → clause (bit m) c ≡ true → step k m (clause_line c) (world s t w) ≡ world (sink_at (further s.at 1) s) t w
  unfolding step
  one_true c s h = rw (e, h, bad-stays s.bad)

  all_true : (cs : List (List ℕ)) (s : Sink) → clauses (bit m) cs ≡ true
      → run (step k m) (map clause_line cs) (world s t w) ≡ world (sink_at (counted (length cs) s.at) s) t w
  unfolding clauses
  all_true [] s h = refl
  all_true (c ∷ cs) s h =
      let b = and-true (clause (bit m) c) (clauses (bit m) cs) h in
      ap (run (step k m) (map clause_line cs)) (one_true c s b.0)
      ∙ all_true cs (sink_at (further s.at 1) s) b.1
      ∙ ap (λ (a : ℕ). world (sink_at a s) t w) (counted_more (length cs) s.at)

-- a run over them
pub true-ran : (k : Job) (m : List ℕ) (cs : List (List ℕ)) {s s' : Sink} {t w : List ℕ} → evaluating k.mode ≡ true → clauses (bit m) cs ≡ true
    → s' ≡ sink_at (counted (length cs) s.at) s → Ran (step k m) (map clause_line cs) (world s t w) (world s' t w)
true-ran k m cs {s} {s'} {t} {w} e h q =
    record { eq = ap (λ (x : Sink). world x t w) q ∙ sym (all_true k m (evaluating-is k.mode e) t w cs s h) }
