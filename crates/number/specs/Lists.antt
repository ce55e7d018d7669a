-- Lists in a store: the elements from its front, and the turns of a loop that reads a list of references into it, from the
-- offset o of the store on.
use Rattle.std.specs.Prelude.{ℕ, zero, suc, List, [], ◌∷◌}

-- n elements from the front of a store, 0 past its end
unfoldable pub leading : ℕ → List ℕ → List ℕ
leading zero l = []
leading (suc n) [] = 0 ∷ leading n []
leading (suc n) (x ∷ l) = x ∷ leading n l
