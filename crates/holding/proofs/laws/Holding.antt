-- What holds of a store between two steps: rows in order over words that are used, and literals of the formula's variables: laws.
use mathlib.Core.Path.{◌≡◌, refl, sym, ap, ◌∙◌}
use mathlib.Core.Bool.{Bool, true, false, cond}
use mathlib.Core.List.{List, [], ◌∷◌, ◌++◌, append_assoc}
use mathlib.Core.Option.{none, some}
use Prim.Native.Nat.{ℕ, zero, suc, ◌+◌, ◌-◌, ◌/◌, ◌≤◌, ◌<◌}
use native.Mathlib.Omega.{arith}
use lib.Dec.{eqb, ltb}
use lib.ListN.{length, get_or, set, take, drop, get_or-append}
use lib.Seq.{sets, sets-eq, length-sets, length-take-le, drop-cons, take_at, drop_at, take-set-le, get_or-set_other, get_or-append-add}
use borrow.Author.Tests.{ne_eqb, eqb-true, eqb-false, ltb-true, ltb-false}
use Rattle.theory.specs.Marked as steps
use Rattle.scope.specs.Steps.{put}
use Rattle.theory.specs.Marked.{Marks, Standing, also_open, also_literal, standing}
use Rattle.directory.specs.declared.Row.{Row}
use Rattle.lookup.specs.declared.Probe.{Probe}
use Rattle.standing.specs.Clauses.{part}
use Rattle.standing.proofs.laws.Clauses.{drop-take}
use Rattle.directory.specs.Rows.{first_word, row_clause, dying}
use Rattle.directory.proofs.laws.Rows.{Rising}
use Rattle.directory.proofs.Exact.{Exact, dying-begins}
use Rattle.lookup.proofs.laws.Lookup.{Found, hit, miss}
use Rattle.holding.proofs.laws.Live.{live_rows, rising_append, rising_dead, live_append, row-missing, same_id}
use Rattle.holding.specs.Holding.{All, Good}

-- n rows of cap, used words, ids up to the highest
pub record Holding (last cap : ℕ) (R : ℕ → Row) (ws : List ℕ) (n used highest : ℕ) : Type 0 where
  pub rising : Rising R n
  pub below : (i : ℕ) → i < n → (R i).id ≤ highest
  pub within : (i : ℕ) → i < n → first_word (R i) + (R i).len ≤ used
  pub good : (k : ℕ) → k < used → Good last (get_or ws k 0)
  pub room : used ≤ length ws
  pub fit : n ≤ cap

-- a clause among words that P holds of
pub all-part : (P : ℕ → Type 0) (ws : List ℕ) (used : ℕ) → used ≤ length ws → ((k : ℕ) → k < used → P (get_or ws k 0))
    → (first len : ℕ) → first + len ≤ used → All P (part first len ws)
all-part P ws used r h first zero l = tt
all-part P ws used r h first (suc len) l =
    rw (drop-cons ws first 0 (omega arith)) (h first (omega arith), all-part P ws used r h (suc first) len (omega arith))

pub all-at : (P : ℕ → Type 0) (ls : List ℕ) → All P ls → (i : ℕ) → i < length ls → P (get_or ls i 0)
all-at P [] a i h = absurd (omega arith)
all-at P (l ∷ ls) a zero h = a.0
all-at P (l ∷ ls) a (suc i) h = all-at P ls a.1 i (omega arith)

-- the open literal of a clause is one of its literals
abbrev OpenIs : (ℕ → Type 0) → Standing → Type 0
OpenIs P steps.falsified = Unit {0}
OpenIs P (steps.one_open l) = P l
OpenIs P steps.other = Unit {0}

open_is : (P : ℕ → Type 0) (m : Marks) (s : Standing) (ls : List ℕ) → OpenIs P s → All P ls → OpenIs P (standing m s ls)
unfolding standing
open_is P m s [] h a = h
open_is P m s (l ∷ ls) h a =
    open_is P m (also_literal s (m (l / 2)) l) ls (go s h (eqb (m (l / 2)) 0) (eqb (m (l / 2)) _)) a.1
  where
    go : (s : Standing) → OpenIs P s → (x y : Bool) → OpenIs P (cond x (also_open s l) (cond y steps.other s))
    go steps.falsified h true y = a.0
    go (steps.one_open k) h true y = tt
    go steps.other h true y = tt
    go s h false true = tt
    go s h false false = h

pub open_in : (P : ℕ → Type 0) (m : Marks) (c : List ℕ) {l : ℕ} → All P c → standing m steps.falsified c ≡ steps.one_open l → P l
open_in P m c a e = rw e at (open_is P m steps.falsified c tt a)

-- words that are stored after the used ones
module _ (ws : List ℕ) (used : ℕ) where
  take_sets : (at m : ℕ) (ls : List ℕ) → m ≤ at → (vs : List ℕ) → take m (sets vs at ls) ≡ take m vs
  take_sets at m [] h vs = refl
  take_sets at m (l ∷ ls) h vs = take_sets (suc at) m ls (omega arith) (set vs at l) ∙ take-set-le m vs at l h

  pub part_before : (ls : List ℕ) (first len : ℕ) → first + len ≤ used → part first len (sets ws used ls) ≡ part first len ws
  part_before ls first len h =
      sym (drop-take (sets ws used ls) first len)
      ∙ ap (drop first) (take_sets used (first + len) ls h ws)
      ∙ drop-take ws first len

  word_before : (ls : List ℕ) (at k : ℕ) (vs : List ℕ) → k < at → get_or (sets vs at ls) k 0 ≡ get_or vs k 0
  word_before [] at k vs h = refl
  word_before (l ∷ ls) at k vs h =
      word_before ls (suc at) k (set vs at l) (omega arith) ∙ get_or-set_other vs at k l 0 (λ e. omega arith)

  module _ (ls : List ℕ) (h : used + length ls ≤ length ws) where
    front_long : length (take used ws) ≡ used
    front_long = length-take-le used ws (omega arith)

    stored : sets ws used ls ≡ take used ws ++ (ls ++ drop (used + length ls) ws)
    stored = sets-eq ls ws used h ∙ append_assoc (take used ws) ls (drop (used + length ls) ws)

    pub part_stored : part used (length ls) (sets ws used ls) ≡ ls
    part_stored =
        rw (stored, drop_at (take used ws) (ls ++ drop (used + length ls) ws) used front_long)
        (take_at ls (drop (used + length ls) ws) (length ls) refl)

    word_stored : (i : ℕ) → i < length ls → get_or (sets ws used ls) (used + i) 0 ≡ get_or ls i 0
    word_stored i l =
        rw stored
        (ap (λ n. get_or (take used ws ++ (ls ++ drop (used + length ls) ws)) (n + i) 0) (sym front_long)
        ∙ get_or-append-add (take used ws) (ls ++ drop (used + length ls) ws) i 0
        ∙ get_or-append ls (drop (used + length ls) ws) 0 i l)

-- P of each row where one is put
put-elim : (P : Row → Type 0) (R : ℕ → Row) (i k : ℕ) (x : Row) → (k ≡ i → P x) → ((k ≡ i → ⊥) → P (R k)) → P (put R i x k)
put-elim P R i k x f g = go (eqb k i) refl
  where
    go : (t : Bool) → eqb k i ≡ t → P (cond t x (R k))
    go true t = f (eqb-true k i t)
    go false t = g (eqb-false k i t)

-- a clause is kept
module _ (last cap : ℕ) (R : ℕ → Row) (ws : List ℕ) (n used highest : ℕ) (b : Holding last cap R ws n used highest) where
  module _ (row : Row) (id : ℕ) (ls : List ℕ) (fresh : highest < id) (x : Exact id used (length ls) row) where
    kept_below : (i : ℕ) → i < suc n → (put R n row i).id ≤ id
    kept_below i h =
        put-elim (λ r. r.id ≤ id) R n i row (λ e. omega (arith, x.named)) (λ d. omega (arith, b.below i (omega arith)))

    kept_within : (i : ℕ) → i < suc n → first_word (put R n row i) + (put R n row i).len ≤ used + length ls
    kept_within i h =
        put-elim (λ r. first_word r + r.len ≤ used + length ls) R n i row (λ e. omega (arith, x.begins, x.long))
        (λ d. omega (arith, b.within i (omega arith)))

    module _ (fits : used + length ls ≤ length ws) (free : n < cap) (good : All (Good last) ls) where
      kept_good : (k : ℕ) → k < used + length ls → Good last (get_or (sets ws used ls) k 0)
      kept_good k h = go (ltb k used) refl
        where
          go : (t : Bool) → ltb k used ≡ t → Good last (get_or (sets ws used ls) k 0)
          go true t = let l = ltb-true k used t in rw (word_before ws used ls used k ws l) (b.good k l)
          go false t =
              let l = ltb-false k used t in
              let e : k ≡ used + (k - used) = omega arith in
              let w = word_stored ws used ls fits (k - used) (omega arith) in
              rw (ap (λ i. get_or (sets ws used ls) i 0) e ∙ w) (all-at (Good last) ls good (k - used) (omega arith))

      pub holding_kept : Holding last cap (put R n row) (sets ws used ls) (suc n) (used + length ls) id
      holding_kept =
          record {
            rising = rising_append R n row b.rising (λ i h. omega (arith, b.below i h, x.named));
            below = kept_below;
            within = kept_within;
            good = kept_good;
            room = rw (length-sets ws used ls) fits;
            fit = omega arith;
          }

      pub live_kept : live_rows (put R n row) (sets ws used ls) (suc n) ≡ put (live_rows R ws n) id (some ls)
      live_kept =
          live_append R n row ws (sets ws used ls) ls (λ i h. part_before ws used ls (first_word (R i)) (R i).len (b.within i h))
          (rw (ne_eqb row.live 0 x.alive, x.begins, x.long, part_stored ws used ls fits))
          ∙ ap (λ k. put (live_rows R ws n) k (some ls)) x.named

  -- an id above the highest names no clause
  pub id_free : (id : ℕ) → highest < id → live_rows R ws n id ≡ none
  id_free id h = row-missing R ws n id (λ k l e. omega (arith, b.below k l))

  -- a clause dies
  pub holding_dead : (i : ℕ) → Holding last cap (put R i (dying (R i))) ws n used highest
  holding_dead i =
      record {
        rising = rising_dead R i n b.rising;
        below = λ k h. rw (same_id R i k) (b.below k h);
        within = λ k h. put-elim (λ r. first_word r + r.len ≤ used) R i k (dying (R i)) (λ e. omega (arith, dying-begins (R i), rw e at (b.within k h)))
            (λ d. b.within k h);
        good = b.good;
        room = b.room;
        fit = b.fit;
      }

  -- the clause that a search finds has good literals
  pub found_good : (id : ℕ) (p : Probe) → Found R n id p → (p.hit.live ≡ 0 → ⊥) → All (Good last) (row_clause p.hit ws)
  found_good id p (hit h e i) l =
      rw e (all-part (Good last) ws used b.room b.good (first_word (R p.at)) (R p.at).len (b.within p.at h))
  found_good id p (miss e f) l = absurd (l (ap (λ r. r.live) e))
