-- What a run over a formula's lines in the mode Evaluate finds of a model: laws.
use Prim.Native.Nat.{ℕ, suc, ◌+◌, ◌≤◌}
use mathlib.Core.Path.{◌≡◌, refl, ap, ◌∙◌}
use mathlib.Core.Bool.{Bool, true, false, cond}
use mathlib.Core.List.{List, [], ◌∷◌}
use mathlib.Core.Option.{Option, none, some}
use native.Mathlib.Omega.{arith}
use Rattle.scope.specs.Parsed.{Answer, refusal}
use Rattle.scope.specs.Instance.{Instance}
use Rattle.scope.specs.Cnf.{Assignment, bit, lit, clause, falsified}
use Rattle.scope.specs.Score.{unless_found}
use Rattle.scope.specs.Formula.{primary, formula, hard_of, soft_of}
use Rattle.scope.specs.Text.{sum_weights, top}
use Rattle.scope.specs.Operations.{lowest_false}
use Rattle.sizing.specs.declared.Size.{Size}
use Rattle.sizes.specs.Whole.{Numbers}
use Rattle.sink.specs.Run.{Ran}
use Rattle.sink.specs.World.{World, world, step}
use Rattle.sink.specs.Meaning.{found}
use Rattle.sink.proofs.laws.Meaning.{evaluate_lines}
use Rattle.sink.specs.declared.Job.{Job}
use Rattle.sink.specs.declared.Sink.{Sink}
use Rattle.sink.specs.declared.Mode.TheVariants.{Evaluate}
use Rattle.clauses.specs.Writable.{formula_lines}
use Rattle.model.specs.Truth.{TruthOf}

-- what is falsified weighs no more than all
falsified-most : (ν : Assignment) (us : List (ℕ × ℕ)) → falsified ν us ≤ sum_weights us
unfolding falsified sum_weights
falsified-most ν [] = omega arith
falsified-most ν (u ∷ us) = go (lit ν u.1) (falsified-most ν us)
  where
    go : (b : Bool) → falsified ν us ≤ sum_weights us → cond b 0 u.0 + falsified ν us ≤ u.0 + sum_weights us
    go true h = omega arith
    go false h = omega arith

-- a run that starts with nothing found
abbrev pub start_sink : Sink
start_sink = record { at = 0; bad = 0; lost = 0; prev = 0; row = 0 }

pub truth-run : (i : Instance) (m : List ℕ) (k : Job) → k.mode ≡ Evaluate → {z : Size} → Numbers i z
    → {r : Sink} {t w t' w' : List ℕ} → Ran (step k m) (formula_lines i) (world start_sink t w) (world r t' w')
    → TruthOf i m r
unfolding formula_lines hard_of soft_of top
truth-run i m k e {z} n {r} {t} {w} {t'} {w'} ran =
    let ends = ran.eq
    ∙ evaluate_lines k m (primary i + 1) (formula i) (world start_sink t w) e
    (omega (arith, n.clauses, n.within))
    (omega arith) in
    let most = falsified-most (bit m) (soft_of i) in
    record { bad = ap (λ (w : World). w.bad) ends; lost = ap (λ (w : World). w.lost) ends ∙ omega (arith, most, n.top, n.within) }

-- ids are no lower than the first
lowest-high : (ν : Assignment) (n : ℕ) (cs : List (List ℕ)) {v : ℕ} → lowest_false ν n cs ≡ some v → n ≤ v
unfolding lowest_false
lowest-high ν n [] e = let z : ◌≡◌ {A = ℕ} 0 1 = cc in omega arith
lowest-high ν n (c ∷ cs) {v} e = go (clause ν c) (λ f. lowest-high ν (suc n) cs f) e
  where
    go : (b : Bool) → (lowest_false ν (suc n) cs ≡ some v → suc n ≤ v)
        → cond b (lowest_false ν (suc n) cs) (some n) ≡ some v
        → n ≤ v
    go true h f = omega (arith, h f)
    go false h f = let z : n ≡ v = cc in omega arith

-- 13 where an id was found, and no refusal where none was
module _ {A : Type 0} (a : Answer A) {i : Instance} {m : List ℕ} {s : Sink} (t : TruthOf i m s) where
  pub clause_false : (s.bad ≡ 0 → ⊥) → refusal 13 s.bad ≡ unless_found 13 (lowest_false (bit m) 1 (hard_of i)) a
  clause_false h = go (lowest_false (bit m) 1 (hard_of i)) t.bad
    where
      go : (o : Option ℕ) → s.bad ≡ found o → refusal 13 s.bad ≡ unless_found 13 o a
      go none e = absurd (h e)
      go (some v) e = rw e

  pub clauses_true : s.bad ≡ 0 → a ≡ unless_found 13 (lowest_false (bit m) 1 (hard_of i)) a
  clauses_true h = go (lowest_false (bit m) 1 (hard_of i)) refl t.bad
    where
      go : (o : Option ℕ) → lowest_false (bit m) 1 (hard_of i) ≡ o → s.bad ≡ found o → a ≡ unless_found 13 o a
      go none f e = refl
      go (some v) f e = let low = lowest-high (bit m) 1 (hard_of i) f in let z : ⊥ = omega arith in absurd z
