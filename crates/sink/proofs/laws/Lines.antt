-- The lines of a formula: its items flattened in order to hard clauses and soft units: laws.
use mathlib.Core.Path.{◌≡◌, refl, ap, ◌∙◌, sym}
use mathlib.Core.List.{List, [], ◌∷◌, ◌++◌, map, flat_map, append_assoc}
use Prim.Native.Nat.{ℕ, suc, ◌+◌}
use native.Mathlib.Nat.{add-zero}
use native.Mathlib.Omega.{arith}
use lib.ListN.{length}
use Rattle.scope.specs.Cnf.{Gate, gate_clauses, Item, gate, hard, soft, hard_clauses, soft_units}
use Rattle.sink.specs.Lines.{Line, lines, gates_clauses, clause_line, soft_line}

-- the clauses among some lines, and the soft units
unfoldable pub clauses_of : List Line → List (List ℕ)
clauses_of [] = []
clauses_of (clause_line c ∷ ls) = c ∷ clauses_of ls
clauses_of (soft_line w l ∷ ls) = clauses_of ls

unfoldable pub softs_of : List Line → List (ℕ × ℕ)
softs_of [] = []
softs_of (clause_line c ∷ ls) = softs_of ls
softs_of (soft_line w l ∷ ls) = (w, l) ∷ softs_of ls

-- map and flat_map over an append
pub map-append : {A B : Type 0} (f : A → B) (xs ys : List A) → map f (xs ++ ys) ≡ map f xs ++ map f ys
map-append f [] ys = refl
map-append f (x ∷ xs) ys = ap (◌∷◌ (f x)) (map-append f xs ys)

pub flat_append : {A B : Type 0} (f : A → List B) (xs ys : List A) → flat_map f (xs ++ ys) ≡ flat_map f xs ++ flat_map f ys
unfolding flat_map
flat_append f [] ys = refl
flat_append f (x ∷ xs) ys = ap (◌++◌ (f x)) (flat_append f xs ys) ∙ sym (append_assoc (f x) (flat_map f xs) (flat_map f ys))

clauses-map : (cs : List (List ℕ)) (ls : List Line) → clauses_of (map clause_line cs ++ ls) ≡ cs ++ clauses_of ls
unfolding clauses_of
clauses-map [] ls = refl
clauses-map (c ∷ cs) ls = ap (◌∷◌ c) (clauses-map cs ls)

softs-map : (cs : List (List ℕ)) (ls : List Line) → softs_of (map clause_line cs ++ ls) ≡ softs_of ls
unfolding softs_of
softs-map [] ls = refl
softs-map (c ∷ cs) ls = softs-map cs ls

-- the clauses of a formula's lines are its hard clauses, the soft units its soft units
pub clauses-lines : (n : ℕ) (is : List Item) → clauses_of (lines n is) ≡ hard_clauses n is
unfolding lines clauses_of hard_clauses
clauses-lines n [] = refl
clauses-lines n (gate g ∷ is) =
    clauses-map (gate_clauses g n) (lines (suc n) is) ∙ ap (◌++◌ (gate_clauses g n)) (clauses-lines (suc n) is)
clauses-lines n (hard c ∷ is) = ap (◌∷◌ c) (clauses-lines n is)
clauses-lines n (soft w l ∷ is) = clauses-lines n is

pub softs-lines : (n : ℕ) (is : List Item) → softs_of (lines n is) ≡ soft_units is
unfolding lines softs_of soft_units
softs-lines n [] = refl
softs-lines n (gate g ∷ is) = softs-map (gate_clauses g n) (lines (suc n) is) ∙ softs-lines (suc n) is
softs-lines n (hard c ∷ is) = softs-lines n is
softs-lines n (soft w l ∷ is) = ap (◌∷◌ (w, l)) (softs-lines n is)

pub gates-append : (n : ℕ) (gs hs : List Gate) → gates_clauses n (gs ++ hs) ≡ gates_clauses n gs ++ gates_clauses (n + length gs) hs
unfolding gates_clauses hard_clauses
gates-append n [] hs = rw add-zero
gates-append n (g ∷ gs) hs =
    let e : n + suc (length gs) ≡ suc n + length gs = omega arith in
    rw e (ap (◌++◌ (gate_clauses g n)) (gates-append (suc n) gs hs)
    ∙ sym (append_assoc (gate_clauses g n) (gates_clauses (suc n) gs) (gates_clauses (suc n + length gs) hs)))

-- the lines of gates alone
pub lines-gates : (n : ℕ) (gs : List Gate) → lines n (map gate gs) ≡ map clause_line (gates_clauses n gs)
unfolding lines gates_clauses hard_clauses
lines-gates n [] = refl
lines-gates n (g ∷ gs) = ap (◌++◌ (map clause_line (gate_clauses g n))) (lines-gates (suc n) gs) ∙ sym (map-append clause_line (gate_clauses g n) (gates_clauses (suc n) gs))
