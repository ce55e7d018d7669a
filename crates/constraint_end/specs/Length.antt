-- The length of a kind's counted list by arithmetic, as the reader computes it.
use Rattle.std.specs.Prelude.{ℕ, ◌+◌, ◌-◌, ◌*◌, List, [], ◌∷◌, length}
use Rattle.scope.specs.Kinds.{Kind, clash, unavailable, preferred, split, spread, busy, cluster, idle, distribute, lengths, precedence, group_at}

-- the members but first and last of each of some groups
unfoldable pub inner_length : List (List ℕ) → List ℕ → ℕ
inner_length gs [] = 0
inner_length gs (h ∷ hs) = (length (group_at gs h) - 2) + inner_length gs hs

-- for T times, where used says how many events use a resource. For kind 3, which has at most as many members as there are times and
-- is allowed none, every check passes: 0 stands for its length
unfoldable pub list_length : ℕ → (ℕ → ℕ) → List (List ℕ) → Kind → ℕ
list_length T used gs (clash r) = used r
list_length T used gs (unavailable r g) = length (group_at gs g)
list_length T used gs (preferred e g) = 0
list_length T used gs (split e lo hi) = T
list_length T used gs (spread vs g lo hi) = length vs * length (group_at gs g)
list_length T used gs (busy r g lo hi) = length (group_at gs g)
list_length T used gs (cluster r hs lo hi) = length hs
list_length T used gs (idle r hs lo hi) = inner_length gs hs
list_length T used gs (distribute e n lo hi) = T
list_length T used gs (lengths e a b) = T
list_length T used gs (precedence a b lo hi) = 1
