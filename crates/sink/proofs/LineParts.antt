-- A line of two or three literals, from its first part, what stands between, and its last part.
use mathlib.Core.Path.{◌≡◌}
use mathlib.Core.List.{List, [], ◌∷◌, ◌++◌, flat_map, append-nil, append_assoc}
use Prim.Native.Nat.{ℕ}
use Rattle.scope.specs.Text.{decimal, space, newline, literal_text, line}

two : (d a b e : List ℕ) → d ++ (a ++ (b ++ [])) ++ e ≡ d ++ a ++ (b ++ e)
two d a b e = simp (append-nil, append_assoc)

three : (d a b c e : List ℕ) → d ++ (a ++ (b ++ (c ++ []))) ++ e ≡ d ++ a ++ b ++ (c ++ e)
three d a b c e = simp (append-nil, append_assoc)

pub pair_parts : (top k l : ℕ) → line top (k ∷ l ∷ []) ≡ ((decimal top ++ space) ++ literal_text k) ++ (literal_text l ++ 48 ∷ newline)
unfolding line flat_map
pair_parts top k l = two (decimal top ++ space) (literal_text k) (literal_text l) (48 ∷ newline)

pub triple-parts : (top k l m : ℕ)
    → line top (k ∷ l ∷ m ∷ []) ≡ (((decimal top ++ space) ++ literal_text k) ++ literal_text l) ++ (literal_text m ++ 48 ∷ newline)
unfolding line flat_map
triple-parts top k l m = three (decimal top ++ space) (literal_text k) (literal_text l) (literal_text m) (48 ∷ newline)
