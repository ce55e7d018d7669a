-- Kind 8's list: for each member of a group but first and last G over those before, H over those after, and I, which is counted.
use Rattle.std.specs.Prelude.{ℕ, zero, suc, ◌+◌, ◌-◌, List, [], ◌∷◌, length, get_or, take, drop}
use Rattle.scope.specs.Cnf.{pos, opp, Gate, or, and}

-- the gates of n idle times from member k on, of a group whose X literals are xs
unfoldable pub gap_gates : (xs : List ℕ) (k n v : ℕ) → List Gate
gap_gates xs k zero v = []
gap_gates xs k (suc n) v =
    or (take k xs) ∷ or (drop (suc k) xs) ∷ and (opp (get_or xs k 0) ∷ pos v ∷ pos (v + 1) ∷ []) ∷ gap_gates xs (suc k) n (v + 3)

-- how many these are
unfoldable pub inner_count : List (List ℕ) → ℕ
inner_count [] = 0
inner_count (xs ∷ xss) = (length xs - 2) + inner_count xss
