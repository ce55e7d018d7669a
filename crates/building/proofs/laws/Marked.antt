-- Clauses in the words, the last word of each marked, and the rows that are made of them: laws.
use mathlib.Core.Path.{◌≡◌, refl, sym, ap, ◌∙◌}
use mathlib.Core.Bool.{Bool, true, false, cond}
use mathlib.Core.List.{List, [], ◌∷◌, ◌++◌, flat_map, append_assoc, append-nil}
use Prim.Native.Nat.{ℕ, suc, ◌+◌, ◌-◌, ◌<◌}
use native.Mathlib.Omega.{arith}
use lib.Dec.{leb}
use lib.ListN.{length, length-append, set, drop}
use lib.Seq.{sets}
use Rattle.scope.specs.Formula.{words}
use Rattle.directory.specs.declared.Row.{Row}
use Rattle.directory.specs.Rows.{new_row}
use Rattle.sink.specs.Block.{mark}
use Rattle.building.specs.Marked.{flat, rows_for, first_clause, joined, parted}

length-mark : (c : List ℕ) → length (mark c) ≡ length c
unfolding mark
length-mark [] = refl
length-mark (l ∷ []) = refl
length-mark (l ∷ k ∷ ks) = ap suc (length-mark (k ∷ ks))

-- a word for each literal
pub length-marks : (f : List (List ℕ)) → length (flat_map mark f) ≡ words f
unfolding flat_map words
length-marks [] = refl
length-marks (c ∷ cs) = length-append (mark c) (flat_map mark cs) ∙ rw (length-mark, length-marks cs)

-- the rows from k on
unfoldable pub RowsAre : (ℕ → Row) → ℕ → List Row → Type 0
RowsAre R k [] = Unit
RowsAre R k (r ∷ rs) = (R k ≡ r) × RowsAre R (suc k) rs

-- the first clause of words that stand, and those after it
parted-first : (w : ℕ) (ws : List ℕ) → parted (w ∷ ws) ≡ first_clause (w ∷ ws) ∷ parted (drop (length (first_clause (w ∷ ws))) (w ∷ ws))
unfolding parted first_clause
parted-first w [] = go (leb 2147483648 w)
  where
    go : (t : Bool) → cond t (((w - 2147483648) ∷ []) ∷ []) ((w ∷ []) ∷ [])
        ≡ cond t ((w - 2147483648) ∷ []) (w ∷ []) ∷ parted (drop (length (cond t ((w - 2147483648) ∷ []) (w ∷ []))) (w ∷ []))
    go true = refl
    go false = refl
parted-first w (v ∷ vs) = go (parted-first v vs) (leb 2147483648 w)
  where
    go : parted (v ∷ vs) ≡ first_clause (v ∷ vs) ∷ parted (drop (length (first_clause (v ∷ vs))) (v ∷ vs)) → (t : Bool)
        → cond t (((w - 2147483648) ∷ []) ∷ parted (v ∷ vs)) (joined w (parted (v ∷ vs)))
        ≡ cond t ((w - 2147483648) ∷ []) (w ∷ first_clause (v ∷ vs))
        ∷ parted (drop (length (cond t ((w - 2147483648) ∷ []) (w ∷ first_clause (v ∷ vs)))) (w ∷ v ∷ vs))
    go e true = refl
    go e false = rw e

pub parted-head : (ws : List ℕ) → 0 < length ws → parted ws ≡ first_clause ws ∷ parted (drop (length (first_clause ws)) ws)
parted-head [] h = absurd (omega arith)
parted-head (w ∷ ws) h = parted-first w ws

-- clauses and rows with one more at the end
pub flat-snoc : (f : List (List ℕ)) (c : List ℕ) → flat (f ++ c ∷ []) ≡ flat f ++ c
unfolding flat_map
flat-snoc [] c = append-nil c
flat-snoc (d ∷ ds) c = ap (λ x. d ++ x) (flat-snoc ds c) ∙ sym (append_assoc d (flat ds) c)

pub length-flat : (f : List (List ℕ)) → length (flat f) ≡ words f
unfolding flat_map words
length-flat [] = refl
length-flat (c ∷ cs) = length-append c (flat cs) ∙ rw (length-flat cs)

pub length_rows : (id first : ℕ) (f : List (List ℕ)) → length (rows_for id first f) ≡ length f
unfolding rows_for
length_rows id first [] = refl
length_rows id first (c ∷ cs) = ap suc (length_rows (suc id) (first + length c) cs)

pub rows_snoc : (id first : ℕ) (f : List (List ℕ)) (c : List ℕ)
    → rows_for id first (f ++ c ∷ []) ≡ rows_for id first f ++ new_row (id + length f) (first + words f) (length c) ∷ []
unfolding rows_for words
rows_snoc id first [] c = let e : (n : ℕ) → n + 0 ≡ n = λ n. omega arith in rw (e id, e first)
rows_snoc id first (d ∷ ds) c =
    let e : id + suc (length ds) ≡ suc id + length ds = omega arith in
    let g : first + (length d + words ds) ≡ first + length d + words ds = omega arith in
    rw (e, g) (ap (λ x. new_row id first (length d) ∷ x) (rows_snoc (suc id) (first + length d) ds c))

pub sets-snoc : {A : Type 0} (ys : List A) (i : ℕ) (rs : List A) (r : A) → sets ys i (rs ++ r ∷ []) ≡ set (sets ys i rs) (i + length rs) r
sets-snoc ys i [] r = let e : i + 0 ≡ i = omega arith in rw e
sets-snoc ys i (x ∷ xs) r = let e : i + suc (length xs) ≡ suc i + length xs = omega arith in rw e (sets-snoc (set ys i x) (suc i) xs r)

-- what the building of the directory leaves, for clauses that stand marked in the words
pub record BuiltFor (f : List (List ℕ)) (rest ws' : List ℕ) (R : ℕ → Row) (n : ℕ) : Type 0 where
  pub unmarked : ws' ≡ flat f ++ rest
  pub rows : RowsAre R 0 (rows_for 1 0 f)
  pub count : n ≡ length f
