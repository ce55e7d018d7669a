-- Clauses that were put into the words stand there.
use mathlib.Core.Path.{◌≡◌, ap, ◌∙◌}
use mathlib.Core.List.{List, ◌++◌, flat_map}
use Prim.Native.Nat.{ℕ, ◌+◌, ◌≤◌}
use native.Mathlib.Omega.{arith}
use lib.ListN.{length, drop}
use Rattle.scope.specs.Formula.{words}
use Rattle.sink.specs.Run.{Ran, Out, out, put}
use Rattle.sink.proofs.laws.Run.{run_fits}
use Rattle.sink.specs.Block.{mark}
use Rattle.building.proofs.laws.Marked.{length-marks}

-- where the words are long enough, the clauses stand from their start on
pub stands : (f : List (List ℕ)) {ws ws' : List ℕ} {b : ℕ} → Ran put (flat_map mark f) (out 0 ws) (out b ws')
    → words f ≤ length ws → length ws ≤ 9223372036854775807 → ws' ≡ flat_map mark f ++ drop (words f) ws
stands f {ws} p h g =
    let e : 0 + length (flat_map mark f) ≡ words f = omega (arith, length-marks f) in
    ap (λ (o : Out). o.buf) (p.eq ∙ run_fits (flat_map mark f) ws 0 (omega arith) g)
    ∙ ap (λ (n : ℕ). flat_map mark f ++ drop n ws) e
