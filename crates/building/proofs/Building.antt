-- The directory is built of marked words, with no code: what holds between the words of a clause, and between the clauses.
use mathlib.Core.Path.{◌≡◌, refl, sym, ap, ◌∙◌}
use mathlib.Core.List.{List, [], ◌∷◌, ◌++◌, flat_map, append_assoc, append-nil}
use mathlib.Core.Bool.{Bool, true, false, cond}
use Prim.Native.Nat.{ℕ, suc, ◌+◌, ◌-◌, ◌≤◌, ◌<◌}
use native.Mathlib.Omega.{arith}
use native.Mathlib.Numerals.{add-one}
use lib.Dec.{leb}
use lib.ListN.{length, get_or, set, take, drop, length-append, take-append-drop}
use lib.Seq.{sets, slice, slice-cons, slice_empty, append_snoc, length-take-le, length-slice, take_at, drop-append-le, drop-append-add, drop-drop, take-take, take-suc, set_split}
use borrow.Author.Tests.{le-leb, lt-leb}
use Rattle.scope.specs.Formula.{words}
use Rattle.directory.specs.declared.Row.{Row}
use Rattle.standing.proofs.laws.Clauses.{drop-take, slice-past}
use Rattle.building.specs.Marked.{flat, first_clause, parted, rows_for, row_between}
use Rattle.building.proofs.laws.Marked.{flat-snoc, length-flat, parted-head, length_rows, rows_snoc, sets-snoc}

-- words up to j, where first ≤ j
module _ (ws : List ℕ) (first : ℕ) where
  slice_next : (j : ℕ) → first ≤ j → j < length ws → slice first (suc j) ws ≡ slice first j ws ++ get_or ws j 0 ∷ []
  slice_next j h l =
      ap (drop first) (take-suc ws j 0 l)
      ∙ drop-append-le first (take j ws) (get_or ws j 0 ∷ []) (rw (length-take-le j ws (omega arith)) h)

  front : (j : ℕ) → first ≤ j → take j ws ≡ take first ws ++ slice first j ws
  front j h = sym (ap (λ x. x ++ slice first j ws) (sym (take-take first j ws h)) ∙ take-append-drop first (take j ws))

  slice_later : (j : ℕ) → first ≤ j → slice first j ws ≡ take (j - first) (drop first ws)
  slice_later j h = let e : first + (j - first) ≡ j = omega arith in rw e at (drop-take ws first (j - first))

-- Between the words of one clause: none from first up to i is marked
pub record Passing (ws₀ ws : List ℕ) (first end i : ℕ) : Type 0 where
  pub same : ws ≡ ws₀
  pub from : first ≤ i
  pub upto : i ≤ end
  pub clause : first_clause (slice first end ws₀) ≡ slice first i ws₀ ++ first_clause (slice i end ws₀)

pub pass-start : (ws : List ℕ) (first end : ℕ) → first ≤ end → Passing ws ws first end first
pass-start ws first end h = record { same = refl; from = omega arith; upto = h; clause = rw (slice_empty first ws) }

module _ (ws₀ ws : List ℕ) (first end i : ℕ) (p : Passing ws₀ ws first end i) (k : end ≤ length ws₀) where
  pub pass_next : i < end → get_or ws i 0 < 2147483648 → Passing ws₀ ws first end (i + 1)
  unfolding first_clause
  pass_next h u =
      let w = get_or ws₀ i 0 in
      let small : get_or ws₀ i 0 < 2147483648 = rw p.same at u in
      let more : first_clause (slice i end ws₀) ≡ w ∷ first_clause (slice (suc i) end ws₀) =
      rw (slice-cons i end ws₀ 0 h k, lt-leb 2147483648 (get_or ws₀ i 0) small) in
      record {
        same = p.same;
        from = omega (arith, p.from);
        upto = omega arith;
        clause =
            p.clause
            ∙ rw (more, add-one, slice_next ws₀ first i p.from (omega arith))
            (sym (append_snoc (slice first i ws₀) w (first_clause (slice (suc i) end ws₀))));
      }

  pub pass_marked : i < end → 2147483648 ≤ get_or ws i 0
      → (i + 1 ≡ first + length (first_clause (slice first end ws₀)))
      × (set ws i (get_or ws i 0 - 2147483648) ≡ take first ws₀ ++ (first_clause (slice first end ws₀) ++ drop (i + 1) ws₀))
  unfolding first_clause
  pass_marked h m =
      let x = get_or ws₀ i 0 - 2147483648 in
      let big : 2147483648 ≤ get_or ws₀ i 0 = rw p.same at m in
      let c : first_clause (slice first end ws₀) ≡ slice first i ws₀ ++ x ∷ [] =
      p.clause ∙ rw (slice-cons i end ws₀ 0 h k, le-leb 2147483648 (get_or ws₀ i 0) big) in (
        rw (c, length-append) (omega (arith, length-slice first i ws₀ (omega arith), p.from)),
        rw (p.same, c, add-one, append_snoc (slice first i ws₀) x (drop (suc i) ws₀), ← append_assoc (take first ws₀) (slice first i ws₀) (x ∷ drop (suc i) ws₀), ← front ws₀ first i p.from)
            (set_split ws₀ i x (omega arith)),
      )

  pub pass_end : end ≤ i
      → (end ≡ first + length (first_clause (slice first end ws₀)))
      × (ws ≡ take first ws₀ ++ (first_clause (slice first end ws₀) ++ drop end ws₀))
  unfolding first_clause
  pass_end h =
      let c : first_clause (slice first end ws₀) ≡ slice first i ws₀ =
      p.clause ∙ rw (slice-past ws₀ i end h) (append-nil (slice first i ws₀)) in
      let e : i ≡ end = omega (arith, p.upto) in (
        rw c (omega (arith, length-slice first i ws₀ (omega (arith, p.upto)), p.from)),
        rw (p.same, c, ← e, ← append_assoc (take first ws₀) (slice first i ws₀) (drop i ws₀), ← front ws₀ first i p.from)
            (sym (take-append-drop i ws₀)),
      )

-- the first clause of words has one at least, and no more than there are
pub clause-long : (ws : List ℕ) → 0 < length ws → (0 < length (first_clause ws)) × (length (first_clause ws) ≤ length ws)
unfolding first_clause
clause-long [] h = absurd (omega arith)
clause-long (w ∷ []) h = go (leb 2147483648 w)
  where
    go : (t : Bool) → (0 < length (cond t ((w - 2147483648) ∷ []) (w ∷ []))) × (length (cond t ((w - 2147483648) ∷ []) (w ∷ [])) ≤ 1)
    go true = (omega arith, omega arith)
    go false = (omega arith, omega arith)
clause-long (w ∷ v ∷ vs) h = go (clause-long (v ∷ vs) (omega arith)) (leb 2147483648 w)
  where
    go : (0 < length (first_clause (v ∷ vs))) × (length (first_clause (v ∷ vs)) ≤ length (v ∷ vs)) → (t : Bool)
        → (0 < length (cond t ((w - 2147483648) ∷ []) (w ∷ first_clause (v ∷ vs)))) × (length (cond t ((w - 2147483648) ∷ []) (w ∷ first_clause (v ∷ vs))) ≤ suc (length (v ∷ vs)))
    go e true = (omega arith, omega arith)
    go e false = (omega arith, omega (arith, e.1))

-- Between the clauses: those in done have their rows, and stand unmarked before the word first
pub record Building (ws₀ ws : List ℕ) (ys₀ ys : List Row) (end n first : ℕ) : Type 0 where
  pub done : List (List ℕ)
  pub begun : length (flat done) ≡ first
  pub count : n ≡ length done
  pub now : ws ≡ flat done ++ drop first ws₀
  pub rows : ys ≡ sets ys₀ 0 (rows_for 1 0 done)
  pub whole : parted (take end ws₀) ≡ done ++ parted (slice first end ws₀)

pub build-start : (ws₀ : List ℕ) (ys₀ : List Row) (end : ℕ) → Building ws₀ ws₀ ys₀ ys₀ end 0 0
unfolding rows_for flat_map
build-start ws₀ ys₀ end = record { done = []; begun = refl; count = refl; now = refl; rows = refl; whole = refl }

module _ (ws₀ ws : List ℕ) (ys₀ ys : List Row) (end n first : ℕ) (b : Building ws₀ ws ys₀ ys end n first) where
  -- the words from first on are as they were
  here : (j : ℕ) → drop (first + j) ws ≡ drop (first + j) ws₀
  here j =
      rw (b.now, ← b.begun) (drop-append-add (flat b.done) (drop (length (flat b.done)) ws₀) j
      ∙ drop-drop j (length (flat b.done)) ws₀)

  -- one clause more
  module _ (h : first < end) (k : end ≤ length ws₀) (next : ℕ) (ws' : List ℕ) (ys' : List Row) (row : Row)
      (to : next ≡ first + length (first_clause (slice first end ws)))
      (u : ws' ≡ take first ws ++ (first_clause (slice first end ws) ++ drop next ws))
      (r : row ≡ row_between n first next) (a : ys' ≡ set ys n row) where
    same_slice : slice first end ws ≡ slice first end ws₀
    same_slice = slice_later ws first end (omega arith) ∙ ap (take (end - first)) (rw e at (here 0)) ∙ sym (slice_later ws₀ first end (omega arith))
      where
        e : first + 0 ≡ first
        e = omega arith

    abbrev c : List ℕ
    c = first_clause (slice first end ws₀)

    next_is : next ≡ first + length c
    next_is = rw same_slice at to

    parts : parted (slice first end ws₀) ≡ c ∷ parted (slice next end ws₀)
    parts =
        parted-head (slice first end ws₀) (rw (length-slice first end ws₀ k) (omega arith))
        ∙ ap (λ x. c ∷ parted x) (drop-drop (length c) first (take end ws₀) ∙ ap (λ j. drop j (take end ws₀)) (sym next_is))

    pre_same : take first ws ≡ flat b.done
    pre_same = rw b.now (take_at (flat b.done) (drop first ws₀) first b.begun)

    rest_same : drop next ws ≡ drop next ws₀
    rest_same = rw next_is (here (length c))

    pub build_next : Building ws₀ ws' ys₀ ys' end (n + 1) next
    build_next =
        record {
          done = b.done ++ c ∷ [];
          begun = rw (flat-snoc b.done c, length-append) (omega (arith, b.begun, next_is));
          count = rw length-append (omega (arith, b.count));
          now = u ∙ rw (same_slice, pre_same, rest_same, flat-snoc b.done c) (sym (append_assoc (flat b.done) c (drop next ws₀)));
          rows =
              let e : 0 + length b.done ≡ n = omega (arith, b.count) in
              let i : 1 + length b.done ≡ n + 1 = omega (arith, b.count) in
              let f : 0 + words b.done ≡ first = omega (arith, length-flat b.done, b.begun) in
              let z : length c ≡ next - first = omega (arith, next_is) in
              a ∙ rw (rows_snoc 1 0 b.done c, sets-snoc ys₀ 0 (rows_for 1 0 b.done) _, length_rows 1 0 b.done, ← b.rows, e, i, f, z, r);
          whole = b.whole ∙ rw parts (sym (append_snoc b.done c (parted (slice next end ws₀))));
        }

  pub build_end : end ≤ first → first ≤ end
      → (n ≡ length (parted (take end ws₀)))
      × ((ws ≡ flat (parted (take end ws₀)) ++ drop end ws₀) × (ys ≡ sets ys₀ 0 (rows_for 1 0 (parted (take end ws₀)))))
  unfolding parted
  build_end h l =
      let all : parted (take end ws₀) ≡ b.done = b.whole ∙ rw (slice-past ws₀ first end h) (append-nil b.done) in
      let e : first ≡ end = omega arith in
      (rw all b.count, (rw (all, ← e) b.now, rw all b.rows))
