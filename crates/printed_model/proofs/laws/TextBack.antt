-- A model's text reads back as that model.
use mathlib.Core.Path.{◌≡◌}
use mathlib.Core.List.{List}
use Prim.Native.Nat.{ℕ, ◌≤◌}
use native.Mathlib.Omega.{arith}
use lib.ListN.{length, get_or}
use Rattle.scope.specs.Parsed.{answered}
use Rattle.scope.specs.Kinds.{up_to}
use Rattle.scope.specs.Formula.{most_variables}
use Rattle.scope.specs.SolverText.{times_given, model_in, literals_from, model_text}
use Rattle.theory.proofs.laws.Ranges.{from_all}
use Rattle.printed_model.proofs.laws.Words.{text-read}
use Rattle.printed_model.proofs.laws.ReadBack.{literals-within, given_once, none-not-once, model_back}

module _ (m : List ℕ) (few : length m ≤ most_variables) (bytes : (k : ℕ) → get_or m k 0 ≤ 1) where
  pub reads_back : model_in (length m) (model_text m) ≡ answered m
  unfolding model_in model_text
  reads_back =
      let n = length m in
      let ls = literals_from 1 m in
      rw (
        text-read n ls few (literals-within n 1 m (omega arith) (omega arith)),
        none-not-once ls (up_to n) (from_all (λ v. times_given v ls ≡ 1) 1 n (λ v a b. given_once v 1 m a b)),
        model_back m few bytes,
      )
