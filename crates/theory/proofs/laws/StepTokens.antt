-- The numbers of a proof's bytes one after the other, and the steps that they spell, as the code reads them.
use mathlib.Core.Bool.{cond}
use mathlib.Core.List.{List, [], ◌∷◌}
use Prim.Native.Nat.{ℕ, zero, suc, ◌-◌}
use lib.Dec.{eqb}
use Rattle.scope.specs.Number.{Front, broken, whole, front, within}
use Rattle.scope.specs.Steps.{Step, add, delete}

-- What is left of a proof: its end; a number that is cut short, overlong or too large; a number and what follows.
-- The first byte of a step, 97 or 100, is such a number too
pub data Tokens : Type 0 where
  stop : Tokens
  bad : Tokens
  num : ℕ → Tokens → Tokens

abbrev pub by_front : Front → (ℕ → Tokens) → Tokens
by_front broken rest = bad
by_front (whole v n) rest = num v (rest n)

-- the tokens of some bytes, the first k of which belong to a number that was read
unfoldable pub tokens_after : ℕ → List ℕ → Tokens
tokens_after k [] = stop
tokens_after zero (b ∷ bs) = by_front (within (front (b ∷ bs))) (λ n. tokens_after (n - 1) bs)
tokens_after (suc k) (b ∷ bs) = tokens_after k bs

abbrev pub tokens : List ℕ → Tokens
tokens bs = tokens_after 0 bs

-- the numbers up to a 0 and what follows it; cut where no 0 comes
pub data Numbers : Type 0 where
  up_to0 : List ℕ → Tokens → Numbers
  cut : Numbers

abbrev pub before : ℕ → Numbers → Numbers
before n (up_to0 ns ts) = up_to0 (n ∷ ns) ts
before n cut = cut

unfoldable pub numbers : Tokens → Numbers
numbers stop = cut
numbers bad = cut
numbers (num zero ts) = up_to0 [] ts
numbers (num (suc n) ts) = before (suc n) (numbers ts)

pub data StepRead : Type 0 where
  read : Step → Tokens → StepRead
  misread : StepRead

abbrev pub read_hints : ℕ → List ℕ → Numbers → StepRead
read_hints id ls cut = misread
read_hints id ls (up_to0 hs ts) = read (add id ls hs) ts

abbrev pub read_literals : ℕ → Numbers → StepRead
read_literals id cut = misread
read_literals id (up_to0 ls ts) = read_hints id ls (numbers ts)

abbrev pub read_add : Tokens → StepRead
read_add stop = misread
read_add bad = misread
read_add (num id ts) = read_literals id (numbers ts)

abbrev pub read_delete : Numbers → StepRead
read_delete cut = misread
read_delete (up_to0 ids ts) = read (delete ids) ts

-- "byte 97 (a), an id .., literals, 0, hint ids, 0; or byte 100 (d), ids to delete, 0"
unfoldable pub read_step : Tokens → StepRead
read_step stop = misread
read_step bad = misread
read_step (num k ts) = cond (eqb k 97) (read_add ts) (cond (eqb k 100) (read_delete (numbers ts)) misread)
