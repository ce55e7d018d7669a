-- The tokens of a proof from an offset on, by the number that stands there.
use mathlib.Core.Path.{◌≡◌, refl, ◌∙◌}
use mathlib.Core.Bool.{Bool, true, false, cond}
use mathlib.Core.List.{List, [], ◌∷◌}
use Prim.Native.Nat.{ℕ, zero, suc, ◌+◌, ◌-◌, ◌*◌, ◌%◌, ◌≤◌, ◌<◌}
use native.Mathlib.Omega.{arith}
use lib.Dec.{leb, ltb, eqb}
use lib.ListN.{length, drop, length-drop, drop_of_length-le}
use lib.Seq.{drop-drop}
use Rattle.scope.specs.Parsed.{got, refused}
use Rattle.scope.specs.Number.{Front, broken, whole, group, front, most, within, number_from, number}
use Rattle.theory.proofs.laws.StepTokens.{stop, bad, num, tokens_after, tokens}
use Rattle.laws.specs.Booleans.{impossible}

-- the bytes of a number that was read are passed over
pub tokens-after : (k : ℕ) (bs : List ℕ) → tokens_after k bs ≡ tokens (drop k bs)
unfolding tokens_after
tokens-after zero bs = refl
tokens-after (suc k) [] = refl
tokens-after (suc k) (b ∷ bs) = tokens-after k bs

-- a number takes a byte at least, and no more than there are
abbrev Inside : ℕ → Front → Type 0
Inside k broken = Unit {0}
Inside k (whole v n) = (1 ≤ n) × (n ≤ k)

inside-cond : (k v n : ℕ) → 1 ≤ n → n ≤ k → (t : Bool) → Inside k (cond t (whole v n) broken)
inside-cond k v n h l true = (h, l)
inside-cond k v n h l false = tt

front-inside : (bs : List ℕ) → Inside (length bs) (front bs)
unfolding front group
front-inside [] = tt
front-inside (b ∷ bs) = go (ltb b 128) (front bs) (front-inside bs)
  where
    longer : (v n : ℕ) → n ≤ length bs → (t : Bool) → Inside (suc (length bs)) (cond t broken (whole v (suc n)))
    longer v n h true = tt
    longer v n h false = omega arith

    go : (t : Bool) (f : Front) → Inside (length bs) f → Inside (suc (length bs)) (cond t (whole b 1) (group b f))
    go true f h = omega arith
    go false broken h = tt
    go false (whole v n) h = longer (b % 128 + 128 * v) n h.1 (eqb v 0)

within-inside : (k : ℕ) (f : Front) → Inside k f → Inside k (within f)
unfolding within
within-inside k broken h = tt
within-inside k (whole v n) h = inside-cond k v n h.0 h.1 (leb v most)

-- a number that is not too large takes a byte at least, and no more than there are
pub number-inside : (bs : List ℕ) (v n : ℕ) → within (front bs) ≡ whole v n → (1 ≤ n) × (n ≤ length bs)
number-inside bs v n e = rw e at (within-inside (length bs) (front bs) (front-inside bs))

-- the tokens of some bytes, by the number at their front
pub tokens-whole : (bs : List ℕ) (v n : ℕ) → within (front bs) ≡ whole v n → tokens bs ≡ num v (tokens (drop n bs))
unfolding tokens_after front within
tokens-whole [] v n e = impossible (cc)
tokens-whole (b ∷ bs) v zero e = absurd (omega (arith, number-inside (b ∷ bs) v zero e))
tokens-whole (b ∷ bs) v (suc n) e =
    let d : suc n - 1 ≡ n = omega arith in
    rw (e, d, tokens-after n bs)

-- no number stands there
pub tokens-broken : (bs : List ℕ) → 1 ≤ length bs → within (front bs) ≡ broken → tokens bs ≡ bad
unfolding tokens_after
tokens-broken [] h e = absurd (omega arith)
tokens-broken (b ∷ bs) h e = rw e

-- what a number that was read at an offset says of the tokens there
pub record TokenAt (s : List ℕ) (at v next : ℕ) : Type 0 where
  pub first : tokens (drop at s) ≡ num v (tokens (drop next s))
  pub forward : at < next
  pub inside : next ≤ length s

-- a number was read at the offset
pub tokens-got : (s : List ℕ) (at v next : ℕ) → number s at ≡ got v next → TokenAt s at v next
unfolding number
tokens-got s at v next = go (within (front (drop at s))) refl
  where
    go : (f : Front) → within (front (drop at s)) ≡ f → number_from at f ≡ got v next → TokenAt s at v next
    go broken e h = impossible (cc)
    go (whole w n) e h =
        let p : w ≡ v = cc in
        let q : at + n ≡ next = cc in
        let l : n ≤ length s - at = rw length-drop at (number-inside (drop at s) w n e).1 in
        let g : 1 ≤ n = (number-inside (drop at s) w n e).0 in
        record {
          first = tokens-whole (drop at s) w n e ∙ rw (drop-drop, p, q);
          forward = omega arith;
          inside = omega arith;
        }

-- bytes, and no number that can be read
pub tokens-bad : (s : List ℕ) (at k o : ℕ) → number s at ≡ refused k o → at < length s → tokens (drop at s) ≡ bad
unfolding number
tokens-bad s at k o h l = go (within (front (drop at s))) refl h
  where
    go : (f : Front) → within (front (drop at s)) ≡ f → number_from at f ≡ refused k o → tokens (drop at s) ≡ bad
    go broken e h = tokens-broken (drop at s) (rw length-drop (omega arith)) e
    go (whole w n) e h = impossible (cc)

-- no byte is left
pub tokens-stop : (s : List ℕ) (at : ℕ) → length s ≤ at → tokens (drop at s) ≡ stop
unfolding tokens_after
tokens-stop s at h = rw (drop_of_length-le s h)
