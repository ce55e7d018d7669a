-- Clauses of two literals with the same second one, as a block.
use Rattle.std.specs.Prelude.{List, [], ◌∷◌, ℕ}
use Rattle.scope.specs.Cnf.{opp}

-- the words of the clauses (opposite of l, p) for each l, where last is p marked
abbrev pub pair_words : ℕ → List ℕ → List ℕ
pair_words last [] = []
pair_words last (l ∷ ls) = opp l ∷ last ∷ pair_words last ls
