-- A directory that was built holds its formula: laws.
use mathlib.Core.Path.{◌≡◌, refl, sym, ap, ◌∙◌, fun_ext}
use mathlib.Core.Bool.{Bool, true, false}
use mathlib.Core.List.{List, [], ◌∷◌, ◌++◌, flat_map, append_assoc}
use mathlib.Core.Option.{none, some}
use Prim.Native.Nat.{ℕ, zero, suc, ◌+◌, ◌-◌, ◌≤◌, ◌<◌}
use native.Mathlib.Omega.{arith}
use lib.Dec.{ltb}
use lib.ListN.{length, get_or, get_elem?, set, take, drop, length-append, length-set, get_or-append}
use lib.Seq.{sets, take_at, drop_at, drop-append-add, get_or-set_same, get_or-set_other}
use borrow.Author.Tests.{ne_eqb, ltb-true, ltb-false, le-leb, lt-leb}
use Rattle.scope.specs.Formula.{words}
use Rattle.scope.specs.PlainRun.{by_id}
use Rattle.directory.specs.declared.Row.{Row}
use Rattle.standing.specs.Clauses.{part}
use Rattle.directory.specs.Rows.{no_row, new_row}
use Rattle.directory.proofs.laws.Rows.{Rising}
use Rattle.directory.proofs.Exact.{Exact, row-exact}
use Rattle.directory.specs.Directory.{rows_of}
use Rattle.holding.proofs.laws.Live.{live_rows, row-found, row-missing}
use Rattle.holding.specs.Holding.{All, Good}
use Rattle.holding.proofs.laws.Holding.{all-at, Holding}
use Rattle.building.specs.Marked.{mark, Small, Plain, flat, parted, rows_for, Built}
use Rattle.building.proofs.laws.Marked.{length-marks, length_rows, length-flat, RowsAre, BuiltFor}
use Rattle.holding.specs.Built.{Each, Narrow}

-- clause i of a formula, and the words before it
abbrev clause_at : List (List ℕ) → ℕ → List ℕ
clause_at f i = get_or f i []

abbrev words_before : List (List ℕ) → ℕ → ℕ
words_before f i = words (take i f)

row-at : (R : ℕ → Row) (k id first : ℕ) (f : List (List ℕ)) → RowsAre R k (rows_for id first f) → (i : ℕ) → i < length f
    → R (k + i) ≡ new_row (id + i) (first + words_before f i) (length (clause_at f i))
unfolding RowsAre rows_for words
row-at R k id first [] h i l = absurd (omega arith)
row-at R k id first (c ∷ cs) h zero l =
    let e : (n : ℕ) → n + 0 ≡ n = λ n. omega arith in rw (e k, e id, e first) h.0
row-at R k id first (c ∷ cs) h (suc i) l =
    let e : (n : ℕ) → n + suc i ≡ suc n + i = λ n. omega arith in
    let g : first + (length c + words (take i cs)) ≡ first + length c + words (take i cs) = omega arith in
    rw (e k, e id, g) (row-at R (suc k) (suc id) (first + length c) cs h.1 i (omega arith))

words-within : (f : List (List ℕ)) (i : ℕ) → i < length f → words_before f i + length (clause_at f i) ≤ words f
unfolding words
words-within [] i l = absurd (omega arith)
words-within (c ∷ cs) zero l = omega arith
words-within (c ∷ cs) (suc i) l = omega (arith, words-within cs i (omega arith))

part-flat : (f : List (List ℕ)) (rest : List ℕ) (i : ℕ) → i < length f
    → part (words_before f i) (length (clause_at f i)) (flat f ++ rest) ≡ clause_at f i
unfolding words flat_map
part-flat [] rest i l = absurd (omega arith)
part-flat (c ∷ cs) rest zero l = rw append_assoc (take_at c (flat cs ++ rest) (length c) refl)
part-flat (c ∷ cs) rest (suc i) l =
    rw (append_assoc, drop-append-add c (flat cs ++ rest) (words (take i cs))) (part-flat cs rest i (omega arith))

elem_at : (f : List (List ℕ)) (i : ℕ) → i < length f → get_elem? f i ≡ some (clause_at f i)
elem_at [] i l = absurd (omega arith)
elem_at (c ∷ cs) zero l = refl
elem_at (c ∷ cs) (suc i) l = elem_at cs i (omega arith)

elem_past : (f : List (List ℕ)) (i : ℕ) → length f ≤ i → get_elem? f i ≡ none
elem_past [] i l = refl
elem_past (c ∷ cs) zero l = absurd (omega arith)
elem_past (c ∷ cs) (suc i) l = elem_past cs i (omega arith)

all_append : (P : ℕ → Type 0) (xs ys : List ℕ) → All P xs → All P ys → All P (xs ++ ys)
all_append P [] ys a b = b
all_append P (x ∷ xs) ys a b = (a.0, all_append P xs ys a.1 b)

all_flat : (P : ℕ → Type 0) (f : List (List ℕ)) → Each P f → All P (flat f)
unfolding flat_map
all_flat P [] a = tt
all_flat P (c ∷ cs) a = all_append P c (flat cs) a.0 (all_flat P cs a.1)

-- the marked words of clauses part into the clauses
parted-mark : (c rest : List ℕ) (l : ℕ) → Small (l ∷ c) → parted (mark (l ∷ c) ++ rest) ≡ (l ∷ c) ∷ parted rest
unfolding parted mark
parted-mark [] rest l s =
    let e : l + 2147483648 - 2147483648 ≡ l = omega arith in rw (le-leb 2147483648 (l + 2147483648) (omega arith), e)
parted-mark (k ∷ ks) rest l s = rw (lt-leb 2147483648 l s.0, parted-mark ks rest k s.1)

parted-marks : (f : List (List ℕ)) → Plain f → parted (flat_map mark f) ≡ f
unfolding parted flat_map
parted-marks [] p = refl
parted-marks ([] ∷ f) p = absurd p
parted-marks ((l ∷ ls) ∷ f) p = parted-mark ls (flat_map mark f) l p.0 ∙ ap (λ cs. (l ∷ ls) ∷ cs) (parted-marks f p.1)

-- rows that are stored one after the other
row_before : (rs : List Row) (at k : ℕ) (ys : List Row) → k < at → get_or (sets ys at rs) k no_row ≡ get_or ys k no_row
row_before [] at k ys h = refl
row_before (r ∷ rs) at k ys h =
    row_before rs (suc at) k (set ys at r) (omega arith) ∙ get_or-set_other ys at k r no_row (λ e. omega arith)

rows-stored : (rs : List Row) (k : ℕ) (ys : List Row) → k + length rs ≤ length ys → RowsAre (rows_of (sets ys k rs)) k rs
unfolding RowsAre
rows-stored [] k ys h = tt
rows-stored (r ∷ rs) k ys h = (
  row_before rs (suc k) k (set ys k r) (omega arith) ∙ get_or-set_same ys k r no_row (omega arith),
  rows-stored rs (suc k) (set ys k r) (rw length-set (omega arith)),
)

-- a formula that stood in the words with each clause's last word marked, of which the directory was built
pub built-for : {ws ws' : List ℕ} {ys ys' : List Row} {n : ℕ} (f : List (List ℕ)) (rest : List ℕ) → Built ws ws' ys ys' (words f) n → Plain f
    → ws ≡ flat_map mark f ++ rest → length f ≤ length ys → BuiltFor f rest ws' (rows_of ys') n
built-for {ws} {ys = ys} f rest b p e h =
    let t : parted (take (words f) ws) ≡ f =
    rw (e, take_at (flat_map mark f) rest (words f) (length-marks f)) (parted-marks f p) in
    let d : drop (words f) ws ≡ rest = rw e (drop_at (flat_map mark f) rest (words f) (length-marks f)) in
    record {
      unmarked = b.words ∙ rw (t, d);
      rows = rw (b.rows, t) (rows-stored (rows_for 1 0 f) 0 ys (rw (length_rows 1 0 f) (omega arith)));
      count = b.count ∙ rw t;
    }

-- of a directory with room for such a formula, whose literals are good
module _ (f : List (List ℕ)) (rest ws : List ℕ) (R : ℕ → Row) (n : ℕ) (b : BuiltFor f rest ws R n) (few : Narrow f) where
  the_row : (i : ℕ) → i < length f → R i ≡ new_row (1 + i) (words_before f i) (length (clause_at f i))
  the_row i l =
      let e : 0 + i ≡ i = omega arith in
      let g : 0 + words_before f i ≡ words_before f i = omega arith in
      rw (e, g) at (row-at R 0 1 0 f b.rows i l)

  exact : (i : ℕ) → i < length f → Exact (1 + i) (words_before f i) (length (clause_at f i)) (R i)
  exact i l =
      let inside = words-within f i l in
      rw (the_row i l)
      (row-exact (1 + i) (words_before f i) (length (clause_at f i)) (omega (arith, few.few_clauses)) (omega (arith, few.few_words))
      (omega (arith, few.few_words)))

  the_id : (i : ℕ) → i < length f → (R i).id ≡ 1 + i
  the_id i l = (exact i l).named

  rows_rise : Rising R (length f)
  rows_rise = record { up = λ i j l h. rw (the_id i (omega arith), the_id j h) (omega arith) }

  pub built_holding : (last cap : ℕ) → Each (Good last) f → length f ≤ cap → Holding last cap R ws (length f) (words f) (length f)
  built_holding last cap good fits =
      record {
        rising = rows_rise;
        below = λ i l. rw (the_id i l) (omega arith);
        within = λ i l. rw ((exact i l).begins, (exact i l).long) (words-within f i l);
        good = λ k l. rw (b.unmarked, get_or-append (flat f) rest 0 k (rw (length-flat f) l))
            (all-at (Good last) (flat f) (all_flat (Good last) f good) k (rw (length-flat f) l));
        room = rw (b.unmarked, length-append, length-flat f) (omega arith);
        fit = fits;
      }

  -- its live clauses are those of the formula, under the ids 1, 2, ..
  pub built_live : live_rows R ws (length f) ≡ by_id f
  built_live = fun_ext go
    where
      none_there : (i : ℕ) → length f ≤ i → live_rows R ws (length f) (suc i) ≡ none
      none_there i h = row-missing R ws (length f) (suc i) (λ k l e. omega (arith, the_id k l))

      by : (i : ℕ) (t : Bool) → ltb i (length f) ≡ t → live_rows R ws (length f) (suc i) ≡ get_elem? f i
      by i true t =
          let l = ltb-true i (length f) t in
          row-found R ws (length f) i (suc i) rows_rise l (the_id i l ∙ omega arith)
          ∙ rw (ne_eqb (R i).live 0 (exact i l).alive, (exact i l).begins, (exact i l).long, b.unmarked, part-flat f rest i l, elem_at f i l)
      by i false t = let l = ltb-false i (length f) t in none_there i l ∙ sym (elem_past f i l)

      go : (j : ℕ) → live_rows R ws (length f) j ≡ by_id f j
      go zero = row-missing R ws (length f) 0 (λ k l e. omega (arith, the_id k l))
      go (suc i) = by i (ltb i (length f)) refl
