-- Clauses among the words, and the marks of their variables.
use Rattle.std.specs.Prelude.{List, [], ◌∷◌, ℕ, ◌/◌, take, drop}
use Rattle.theory.specs.Marked as steps
use Rattle.standing.specs.declared.Standing.{Standing}
use Rattle.standing.specs.declared.Standing.TheVariants.{Falsified, OneOpen, Other}
use Rattle.marks.specs.Marks.{put_mark}

-- the clause of len words from the word first on
abbrev pub part : ℕ → ℕ → List ℕ → List ℕ
part first len ws = take len (drop first ws)

-- what an answer on a clause stands for
abbrev pub stands : Standing → steps.Standing
stands Falsified = steps.falsified
stands (OneOpen l) = steps.one_open l
stands Other = steps.other

-- the marks with the variables of a clause open
unfoldable pub wiped : List ℕ → List ℕ → List ℕ
wiped ms [] = ms
wiped ms (l ∷ ls) = wiped (put_mark ms (l / 2) 0) ls
