-- What the answer of reading a file says of the operations' answers: laws.
use Prim.Native.Nat.{ℕ}
use mathlib.Core.Path.{◌≡◌, sym}
use mathlib.Core.List.{List}
use Rattle.scope.specs.Instance.{parse}
use Rattle.scope.specs.Operations.{score_of, same_sheet_of}
use Rattle.scope.specs.Answers.{given, refused_by}
use Rattle.scope.specs.declared.refusal.Refusal.{Refusal}

-- a file that is refused
module _ (s : List ℕ) (x : Refusal) (e : refused_by x ≡ parse s) where
  pub score_file : (b : List ℕ) → given x ≡ score_of s b
  unfolding score_of
  score_file b = rw (sym e)

  pub sheet_file : (a b : List ℕ) → given x ≡ same_sheet_of s a b
  unfolding same_sheet_of
  sheet_file a b = rw (sym e)
