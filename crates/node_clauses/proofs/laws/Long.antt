-- A long clause as a block of words: literals and then the last, marked.
use mathlib.Core.Path.{◌≡◌, refl, ap, ◌∙◌}
use mathlib.Core.List.{List, [], ◌∷◌, ◌++◌, flat_map, append-nil}
use Prim.Native.Nat.{ℕ, ◌+◌, ◌<◌}
use Rattle.sink.specs.Block.{mark, Small, Plain, Marks}
use Rattle.sink.proofs.laws.Block.{marks}

small-append : (ls : List ℕ) (l : ℕ) → Small ls → l < 2147483648 → Small (ls ++ l ∷ [])
small-append [] l h g = (g, tt)
small-append (k ∷ ks) l h g = (h.0, small-append ks l h.1 g)

mark-append : (ls : List ℕ) (l : ℕ) → mark (ls ++ l ∷ []) ≡ ls ++ (l + 2147483648) ∷ []
unfolding mark
mark-append [] l = refl
mark-append (k ∷ []) l = refl
mark-append (k ∷ j ∷ js) l = ap (◌∷◌ k) (mark-append (j ∷ js) l)

plain-one : (ls : List ℕ) (l : ℕ) → Small ls → l < 2147483648 → Plain ((ls ++ l ∷ []) ∷ [])
plain-one [] l h g = ((g, tt), tt)
plain-one (k ∷ ks) l h g = ((h.0, small-append ks l h.1 g), tt)

-- literals and then the last
pub long-block : (ls : List ℕ) (p : ℕ) → Small ls → p < 2147483648 → Marks (ls ++ (p + 2147483648) ∷ []) ((ls ++ p ∷ []) ∷ [])
unfolding flat_map
long-block ls p h s =
    let e : flat_map mark ((ls ++ p ∷ []) ∷ []) ≡ ls ++ (p + 2147483648) ∷ [] = append-nil (mark (ls ++ p ∷ [])) ∙ mark-append ls p in
    rw e at (marks ((ls ++ p ∷ []) ∷ []) (plain-one ls p h s))
