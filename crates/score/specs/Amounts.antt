-- The sums over the constraints of an accepted file.
use Rattle.std.specs.Prelude.{ℕ, ◌+◌, ◌*◌, ◌≤◌, ◌≡◌, cond, List, [], ◌∷◌, length, eqb}
use Rattle.scope.specs.Parsed.{Parsed, got, refused, repeat}
use Rattle.scope.specs.Kinds.{Kind, Constraint}
use Rattle.constraint.specs.declared.kinds.Head.{Head}
use Rattle.constraint.specs.Answers.{counts_in}
use Rattle.constraint.specs.Decoded.{decoded_at}
use Rattle.deviation.specs.Charge.{SheetIn}

-- the list that was read, none of a refusal
abbrev pub list_of : {A : Type 0} → Parsed (List A) → List A
list_of (got xs end) = xs
list_of (refused k v) = []

-- the constraints of a file whose head is known
unfoldable pub decoded_of : List ℕ → Head → List Constraint
decoded_of s h = list_of (repeat h.constraints (decoded_at (counts_in h) s) h.start)

-- the charges of hard constraints, and weight times charge of all
unfoldable pub hard_sum : (Kind → ℕ) → List Constraint → ℕ
hard_sum f [] = 0
hard_sum f (c ∷ cs) = cond (eqb c.weight 0) (f c.kind) 0 + hard_sum f cs

unfoldable pub soft_sum : (Kind → ℕ) → List Constraint → ℕ
soft_sum f [] = 0
soft_sum f (c ∷ cs) = c.weight * f c.kind + soft_sum f cs

-- the constraints of a file can be walked and charged
pub record Walkable (s : List ℕ) (h : Head) (b u x gs l : List ℕ) : Type 0 where
  pub count : h.constraints ≤ 4096
  pub events : h.events ≤ 2048
  pub groups : h.groups ≤ 2048
  pub room : length l ≡ 2048
  pub whole : repeat h.constraints (decoded_at (counts_in h) s) h.start ≡ got (decoded_of s h) (length s)
  pub sheet : SheetIn (counts_in h) b u x gs
