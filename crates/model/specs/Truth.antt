-- What a run over a formula's lines in the mode Evaluate finds of a model.
use Rattle.std.specs.Prelude.{ℕ, ◌≡◌, List}
use Rattle.scope.specs.Instance.{Instance}
use Rattle.scope.specs.Cnf.{bit, falsified}
use Rattle.scope.specs.Formula.{hard_of, soft_of}
use Rattle.scope.specs.Operations.{lowest_false}
use Rattle.sink.specs.Meaning.{found}
use Rattle.sink.specs.declared.Sink.{Sink}

-- the lowest false clause's id, or 0, and the falsified weight
pub record TruthOf (i : Instance) (m : List ℕ) (s : Sink) : Type 0 where
  pub bad : s.bad ≡ found (lowest_false (bit m) 1 (hard_of i))
  pub lost : s.lost ≡ falsified (bit m) (soft_of i)
