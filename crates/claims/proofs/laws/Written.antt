-- What the writers leave in the words: laws.
use mathlib.Core.Path.{◌≡◌, ap, ◌∙◌}
use mathlib.Core.List.{List, flat_map}
use Prim.Native.Nat.{ℕ, ◌+◌, ◌*◌, ◌≤◌, ◌<◌}
use native.Mathlib.Omega.{arith}
use lib.ListN.{length}
use Rattle.scope.specs.Instance.{Instance}
use Rattle.scope.specs.Formula.{primary, formula, hard_of, soft_of}
use Rattle.sink.specs.Run.{Ran, out, put}
use Rattle.sink.specs.Block.{mark}
use Rattle.sink.specs.World.{World, world, step}
use Rattle.sink.proofs.laws.Meaning.{words_lines}
use Rattle.sink.proofs.laws.Tails.{tail_lines}
use Rattle.sink.specs.declared.Job.{Job}
use Rattle.sink.specs.declared.Sink.{Sink}
use Rattle.sink.specs.declared.Mode.TheVariants.{Words, Tail}
use Rattle.clauses.specs.Writable.{formula_lines}
use Rattle.claims.specs.Written.{RowsPut}

-- runs over the lines of a formula
module _ (i : Instance) (k : Job) (m : List ℕ) {s r : Sink} {t t' ws ws' : List ℕ}
    (p : Ran (step k m) (formula_lines i) (world s t ws) (world r t' ws')) where
  pub hard_written : k.mode ≡ Words → Ran put (flat_map mark (hard_of i)) (out s.at ws) (out r.at ws')
  unfolding formula_lines hard_of
  hard_written e =
      record {
        eq = ap (λ (w : World). out w.at w.words)
            (p.eq ∙ words_lines k m (primary i + 1) (formula i) (world s t ws) e);
      }

  pub rows_written : k.mode ≡ Tail → s.prev ≡ 0 → 0 < s.row → s.row + length (soft_of i) * k.cols ≤ 1073741824
      → RowsPut (soft_of i) k.cols s.row s.at ws r ws'
  unfolding formula_lines soft_of
  rows_written e z h f =
      let q = p.eq ∙ tail_lines k m e (primary i + 1) (formula i) (world s t ws) h (omega arith) f in
      record {
        ran = record { eq = ap (λ (w : World). out w.at w.words) q ∙ rw z };
        last = ap (λ (w : World). w.prev) q ∙ rw z;
      }
