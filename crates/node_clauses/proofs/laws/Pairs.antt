-- Clauses of two literals with the same second one, as a block: laws.
use mathlib.Core.Path.{◌≡◌, refl, ap, ◌∙◌, sym}
use mathlib.Core.List.{List, [], ◌∷◌, ◌++◌, map, flat_map, append_assoc}
use Prim.Native.Nat.{ℕ, suc, ◌+◌, ◌-◌, ◌*◌, ◌≤◌, ◌<◌}
use native.Mathlib.Numerals.{add-one}
use native.Mathlib.Omega.{arith}
use lib.ListN.{length, take, drop, get_or, set, length-set, length-drop, take-append-drop, drop_of_length-le}
use lib.Seq.{length-take-le, get_or-drop, take_all, take-suc, take-suc-set, drop-drop}
use Rattle.scope.specs.Cnf.{opp, pairs}
use Rattle.sink.specs.Lines.{clause_line}
use Rattle.sink.proofs.laws.Lines.{map-append}
use Rattle.sink.specs.Block.{mark, Small, Plain, Marks}
use Rattle.sink.proofs.laws.Block.{marks}
use Rattle.counters.specs.Literals.{Literals}
use Rattle.counters.proofs.laws.Literals.{small_all, literals-take}
use Rattle.node_clauses.specs.Pairs.{pair_words}

pub pair-length : (last : ℕ) (ls : List ℕ) → length (pair_words last ls) ≡ 2 * length ls
pair-length last [] = refl
pair-length last (l ∷ ls) = omega (arith, pair-length last ls)

pairs-append : (last : ℕ) (ls ks : List ℕ) → pair_words last (ls ++ ks) ≡ pair_words last ls ++ pair_words last ks
pairs-append last [] ks = refl
pairs-append last (l ∷ ls) ks = ap (λ (xs : List ℕ). opp l ∷ last ∷ xs) (pairs-append last ls ks)

-- two words stored more
pub pairs-stored : (last : ℕ) (ls block : List ℕ) (i x : ℕ) → i < length ls → 2 * i + 2 ≤ length block → x ≡ opp (get_or ls i 0)
    → take (2 * i) block ≡ pair_words last (take i ls)
    → take (2 * (i + 1)) (set (set block (2 * i) x) (2 * i + 1) last) ≡ pair_words last (take (i + 1) ls)
pairs-stored last ls block i x h g e q =
    let n : 2 * (i + 1) ≡ suc (2 * i + 1) = omega arith in
    let m : 2 * i + 1 ≡ suc (2 * i) = omega arith in
    let one : take (2 * i + 1) (set block (2 * i) x) ≡ take (2 * i) block ++ x ∷ [] = rw m (take-suc-set block (2 * i) x (omega arith)) in
    let two : take (2 * (i + 1)) (set (set block (2 * i) x) (2 * i + 1) last) ≡ take (2 * i + 1) (set block (2 * i) x) ++ last ∷ [] =
    rw n (take-suc-set (set block (2 * i) x) (2 * i + 1) last (rw length-set (omega arith))) in
    two ∙ rw (one, q, e, append_assoc)
    (sym (rw (add-one i, take-suc ls i 0 h) (pairs-append last (take i ls) (get_or ls i 0 ∷ []))))

-- all stored
pub pairs-all : (last : ℕ) (ls block : List ℕ) (i : ℕ) → i ≡ length ls → take (2 * i) block ≡ pair_words last (take i ls)
    → take (2 * length ls) block ≡ pair_words last ls
pairs-all last ls block i e q = rw (← e) q ∙ ap (pair_words last) (take_all i ls (omega arith))

-- they are the block of those clauses
pairs-words : (p : ℕ) (ls : List ℕ) → flat_map mark (pairs (map opp ls) p) ≡ pair_words (p + 2147483648) ls
unfolding pairs mark flat_map
pairs-words p [] = refl
pairs-words p (l ∷ ls) = ap (λ (xs : List ℕ). opp l ∷ (p + 2147483648) ∷ xs) (pairs-words p ls)

opposite-small : (l : ℕ) → l < 2147483648 → opp l < 2147483648
opposite-small l h = omega arith

pairs-plain : (p : ℕ) (ls : List ℕ) → p < 2147483648 → Small ls → Plain (pairs (map opp ls) p)
unfolding pairs
pairs-plain p [] s h = tt
pairs-plain p (l ∷ ls) s h = ((opposite-small l h.0, (s, tt)), pairs-plain p ls s h.1)

pub pairs-block : (last : ℕ) (ls : List ℕ) → Literals ls → 2147483648 ≤ last → last < 4294967296
    → Marks (pair_words last ls) (pairs (map opp ls) (last - 2147483648))
pairs-block last ls h m s =
    let p : ℕ = last - 2147483648 in
    let e : p + 2147483648 ≡ last = omega arith in
    rw e at (rw (pairs-words p ls) at (marks (pairs (map opp ls) p) (pairs-plain p ls (omega arith) (small_all ls h))))

-- the clauses of some literals and then of others
clauses_append : (p : ℕ) (ls ks : List ℕ) → pairs (map opp (ls ++ ks)) p ≡ pairs (map opp ls) p ++ pairs (map opp ks) p
unfolding pairs
clauses_append p [] ks = refl
clauses_append p (l ∷ ls) ks = ap (◌∷◌ (opp l ∷ p ∷ [])) (clauses_append p ls ks)

-- the clauses that are left from i on: those up to e, and those from e on
pub pairs-turn : (p : ℕ) (ls : List ℕ) (i e : ℕ) → i ≤ e
    → map clause_line (pairs (map opp (drop i ls)) p)
    ≡ map clause_line (pairs (map opp (take (e - i) (drop i ls))) p) ++ map clause_line (pairs (map opp (drop e ls)) p)
pairs-turn p ls i e h =
    let n : i + (e - i) ≡ e = omega arith in
    let two : drop i ls ≡ take (e - i) (drop i ls) ++ drop e ls = sym (take-append-drop (e - i) (drop i ls)) ∙ rw (drop-drop (e - i) i ls, n) in
    ap (λ (xs : List ℕ). map clause_line (pairs (map opp xs) p)) two
    ∙ ap (map clause_line) (clauses_append p (take (e - i) (drop i ls)) (drop e ls))
    ∙ map-append clause_line (pairs (map opp (take (e - i) (drop i ls))) p) (pairs (map opp (drop e ls)) p)

-- no clause is left
pub pairs_end : (p : ℕ) (ls : List ℕ) (i : ℕ) → length ls ≤ i → map clause_line (pairs (map opp (drop i ls)) p) ≡ []
unfolding pairs
pairs_end p ls i h = rw (drop_of_length-le ls h)

-- the literals from i up to e, and the block of their clauses
module _ (ls : List ℕ) (i e : ℕ) (h : Literals ls) (le : i ≤ e) (few : e ≤ length ls) where
  pub part_length_lem : length (take (e - i) (drop i ls)) ≡ e - i
  part_length_lem = length-take-le (e - i) (drop i ls) (rw length-drop (omega arith))

  pub part_literals : Literals (take (e - i) (drop i ls))
  part_literals = literals-take (e - i) (drop i ls) (rw length-drop (omega arith)) (λ j g. rw (get_or-drop i ls j 0) (h (i + j) (omega arith)))

  pub part_block : (last n : ℕ) (block : List ℕ) → 2147483648 ≤ last → last < 4294967296 → n ≡ 2 * (e - i)
      → take (2 * length (take (e - i) (drop i ls))) block ≡ pair_words last (take (e - i) (drop i ls))
      → Marks (take n block) (pairs (map opp (take (e - i) (drop i ls))) (last - 2147483648))
  part_block last n block m s q p =
      let k : take n block ≡ pair_words last (take (e - i) (drop i ls)) =
      rw q (ap (λ (j : ℕ). take (2 * j) block) (sym part_length_lem) ∙ p) in
      rw k (pairs-block last (take (e - i) (drop i ls)) part_literals m s)
