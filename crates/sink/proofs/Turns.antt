-- One turn of a loop over a block, and its end.
use mathlib.Core.Path.{◌≡◌, refl, ◌∙◌, sym}
use mathlib.Core.Bool.{Bool, true}
use mathlib.Core.List.{List}
use Prim.Native.Nat.{ℕ, suc, ◌+◌, ◌≤◌, ◌<◌}
use native.Mathlib.Numerals.{add-one}
use native.Mathlib.Omega.{arith}
use lib.ListN.{length, drop, get_or, set, drop_of_length-le}
use lib.Seq.{drop-cons, sets}
use lib.Dec.{leb}
use Rattle.sink.specs.Block.{Parts, by_word, by_words}
use Rattle.sink.specs.Parts.{size_parts, judge_parts}
use Rattle.sink.proofs.laws.Parts.{size-first, judge-first}
use Rattle.sink.specs.declared.Judgement.{Judgement}

-- the words that are left take the state s to e: what a loop keeps
pub record Left {S : Type 0} (p : Parts S) (first : Bool) (ws : List ℕ) (s e : S) : Type 0 where
  pub eq : by_words p first ws s ≡ e

module _ {S : Type 0} {p : Parts S} where
  pub start : {f : Bool} {ws : List ℕ} {s : S} → Left p f ws s (by_words p f ws s)
  start = record { eq = refl }

  pub turn : {s s' e : S} (f : Bool) (ws : List ℕ) (i : ℕ) → i < length ws → s' ≡ by_word p f (get_or ws i 0) s → Left p f (drop i ws) s e
      → Left p (leb 2147483648 (get_or ws i 0)) (drop (i + 1) ws) s' e
  turn f ws i h q g = record { eq = rw (q, add-one) (rw (drop-cons ws i 0 h) at g.eq) }

  pub finish : {s e : S} {f : Bool} (ws : List ℕ) (i : ℕ) → length ws ≤ i → Left p f (drop i ws) s e → s ≡ e
  finish ws i h g = rw (drop_of_length-le ws h) at g.eq

-- the same where it does not matter which word is the first of its clause
pub size-turn : {a a' e : ℕ} (n : ℕ) (ws : List ℕ) (i : ℕ) → i < length ws → a' ≡ by_word (size_parts n) true (get_or ws i 0) a
    → Left (size_parts n) true (drop i ws) a e → Left (size_parts n) true (drop (i + 1) ws) a' e
size-turn n ws i h q g = record { eq = sym (size-first n (leb 2147483648 (get_or ws i 0)) (drop (i + 1) ws) _) ∙ (turn true ws i h q g).eq }

pub judge-turn : {j j' e : Judgement} (m ws : List ℕ) (i : ℕ) → i < length ws → j' ≡ by_word (judge_parts m) true (get_or ws i 0) j
    → Left (judge_parts m) true (drop i ws) j e → Left (judge_parts m) true (drop (i + 1) ws) j' e
judge-turn m ws i h q g = record { eq = sym (judge-first m (leb 2147483648 (get_or ws i 0)) (drop (i + 1) ws) _) ∙ (turn true ws i h q g).eq }

-- copied one by one
pub copy-turn : (l ws : List ℕ) (a i : ℕ) → i < length ws → sets l (a + i) (drop i ws) ≡ sets (set l (a + i) (get_or ws i 0)) (a + (i + 1)) (drop (i + 1) ws)
copy-turn l ws a i h = let e : a + (i + 1) ≡ suc (a + i) = omega arith in rw (e, drop-cons ws i 0 h, add-one i)
