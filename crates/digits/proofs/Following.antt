-- The bytes of the number after one whose last digit is not a 9: only that digit's byte is another.
use mathlib.Core.Path.{◌≡◌, refl, ap, sym, ◌∙◌}
use mathlib.Core.List.{List, [], ◌∷◌, ◌++◌, append_assoc}
use Prim.Native.Nat.{ℕ, zero, suc, ◌+◌, ◌-◌, ◌/◌, ◌%◌, ◌^◌, ◌≤◌, ◌<◌}
use native.Mathlib.Nat.{one-le-pow}
use native.Mathlib.Omega.{arith}
use lib.ListN.{length, take, drop, get_or, length-append}
use lib.Seq.{drop_at}
use Rattle.scope.specs.Text.{digits, decimal, space}
use Rattle.digits.proofs.laws.Decimal.{digits-some, digits-small, digits_more}
use Rattle.digits.specs.Spelled.{four_bytes, Spelt}
use Rattle.digits.proofs.Spelling.{all-four, first-four}

-- a number from 10 ^ k on has more than k digits
digits-least : (k f n : ℕ) → k ≤ f → 10 ^ k ≤ n → k < length (digits f n)
digits-least zero f n h a = digits-some f n
digits-least (suc k) zero n h a = absurd (omega arith)
digits-least (suc k) (suc f) n h a =
    let p : 0 < 10 ^ k = one-le-pow k 10 (omega arith) in
    let ih : k < length (digits f (n / 10)) = digits-least k f (n / 10) (omega arith) (omega arith) in
    rw (digits_more f n (omega arith)) (omega (arith, ih, length-append (digits f (n / 10)) ((48 + n % 10) ∷ [])))

-- the digits before the last three, and those with a space
abbrev front : ℕ → List ℕ
front v = digits 16 (v / 10 / 10 / 10)

abbrev back : ℕ → ℕ → List ℕ
back v d = (48 + v / 10 / 10 % 10) ∷ (48 + v / 10 % 10) ∷ (48 + d) ∷ 32 ∷ []

in_two : (v : ℕ) → 1000 ≤ v → decimal v ++ space ≡ front v ++ back v (v % 10)
in_two v h =
    let a : decimal v ≡ digits 18 (v / 10) ++ (48 + v % 10) ∷ [] = digits_more 18 v (omega arith) in
    let b : digits 18 (v / 10) ≡ digits 17 (v / 10 / 10) ++ (48 + v / 10 % 10) ∷ [] = digits_more 17 (v / 10) (omega arith) in
    let c : digits 17 (v / 10 / 10) ≡ front v ++ (48 + v / 10 / 10 % 10) ∷ [] = digits_more 16 (v / 10 / 10) (omega arith) in
    rw (a, b, c, append_assoc, append_assoc, append_assoc)

-- of the number after it
in-two-next : (v : ℕ) → 1000 ≤ v → v % 10 < 9 → decimal (v + 1) ++ space ≡ front v ++ back v (v % 10 + 1)
in-two-next v h g =
    let a : (v + 1) / 10 ≡ v / 10 = omega arith in
    let b : (v + 1) % 10 ≡ v % 10 + 1 = omega arith in
    rw (in_two (v + 1) (omega arith), a, b)

front_length : (v : ℕ) (d : ℕ) → length (front v ++ back v d) ≡ length (front v) + 4
front_length v d = length-append (front v) (back v d)

-- one more in the third byte, and in the fourth
third-more : (l a b d e n : ℕ) → four_bytes l ≡ a ∷ b ∷ d ∷ e ∷ [] → d < 255 → n ≡ d + 1 → four_bytes (l + 65536) ≡ a ∷ b ∷ n ∷ e ∷ []
third-more l a b d e n q h g =
    let qa : l % 256 ≡ a = ap (λ (xs : List ℕ). get_or xs 0 0) q in
    let qb : l / 256 % 256 ≡ b = ap (λ (xs : List ℕ). get_or xs 1 0) q in
    let qd : l / 65536 % 256 ≡ d = ap (λ (xs : List ℕ). get_or xs 2 0) q in
    let qe : l / 16777216 % 256 ≡ e = ap (λ (xs : List ℕ). get_or xs 3 0) q in
    let ra : (l + 65536) % 256 ≡ a = omega arith in
    let nb : (l + 65536) / 256 ≡ l / 256 + 256 = omega arith in
    let rb : (l + 65536) / 256 % 256 ≡ b = rw nb (omega arith) in
    let next : (l + 65536) / 65536 ≡ l / 65536 + 1 = omega arith in
    let rd : (l + 65536) / 65536 % 256 ≡ n = rw next (omega arith) in
    let high : (l + 65536) / 16777216 ≡ (l + 65536) / 65536 / 256 = omega arith in
    let same : (l / 65536 + 1) / 256 ≡ l / 65536 / 256 = omega arith in
    let was : l / 16777216 ≡ l / 65536 / 256 = omega arith in
    let re : (l + 65536) / 16777216 % 256 ≡ e = rw (high, next, same, ← was) qe in
    rw (ra, rb, rd, re)

fourth-more : (l a b d e n : ℕ) → four_bytes l ≡ a ∷ b ∷ d ∷ e ∷ [] → e < 255 → n ≡ e + 1 → four_bytes (l + 16777216) ≡ a ∷ b ∷ d ∷ n ∷ []
fourth-more l a b d e n q h g =
    let qa : l % 256 ≡ a = ap (λ (xs : List ℕ). get_or xs 0 0) q in
    let qb : l / 256 % 256 ≡ b = ap (λ (xs : List ℕ). get_or xs 1 0) q in
    let qd : l / 65536 % 256 ≡ d = ap (λ (xs : List ℕ). get_or xs 2 0) q in
    let qe : l / 16777216 % 256 ≡ e = ap (λ (xs : List ℕ). get_or xs 3 0) q in
    let ra : (l + 16777216) % 256 ≡ a = omega arith in
    let nb : (l + 16777216) / 256 ≡ l / 256 + 65536 = omega arith in
    let rb : (l + 16777216) / 256 % 256 ≡ b = rw nb (omega arith) in
    let nd : (l + 16777216) / 65536 ≡ l / 65536 + 256 = omega arith in
    let rd : (l + 16777216) / 65536 % 256 ≡ d = rw nd (omega arith) in
    let ne : (l + 16777216) / 16777216 ≡ l / 16777216 + 1 = omega arith in
    let re : (l + 16777216) / 16777216 % 256 ≡ n = rw ne (omega arith) in
    rw (ra, rb, rd, re)

-- the first four bytes of a longer number do not have its last digit
early : (xs : List ℕ) (a b d e : ℕ) (ys : List ℕ) → 2 ≤ length xs → take 4 (xs ++ a ∷ b ∷ d ∷ ys) ≡ take 4 (xs ++ a ∷ b ∷ e ∷ ys)
early [] a b d e ys h = absurd (omega arith)
early (x ∷ []) a b d e ys h = absurd (omega arith)
early (x ∷ y ∷ []) a b d e ys h = refl
early (x ∷ y ∷ z ∷ []) a b d e ys h = refl
early (x ∷ y ∷ z ∷ u ∷ xs) a b d e ys h = refl

module _ {v x y n : ℕ} (s : Spelt v x y n) (h : 1000 ≤ v) where
  long : n ≡ length (front v) + 4
  long = s.size ∙ ap length (in_two v h) ∙ front_length v (v % 10)

  back_now : four_bytes y ≡ back v (v % 10)
  back_now =
      s.last (omega (arith, long)) ∙ ap (drop (n - 4)) (in_two v h)
      ∙ drop_at (front v) (back v (v % 10)) (n - 4) (omega (arith, long))

  -- the last digit by its byte, and room for one more
  pub last_digit : y / 65536 % 256 ≡ 48 + v % 10
  last_digit = ap (λ (xs : List ℕ). get_or xs 2 0) back_now

  pub last_byte : y / 16777216 % 256 ≡ 32
  last_byte = ap (λ (xs : List ℕ). get_or xs 3 0) back_now

  module _ (m : v + 1 < 10000000) (g : v % 10 < 9) where
    -- what is said of the number after it, by its first four bytes
    next_spelt : (f : ℕ) → four_bytes f ≡ take 4 (front v ++ back v (v % 10 + 1))
        → Spelt (v + 1) f (y + 65536) n
    next_spelt f q =
        let e : decimal (v + 1) ++ space ≡ front v ++ back v (v % 10 + 1) = in-two-next v h g in
        let l : four_bytes (y + 65536) ≡ back v (v % 10 + 1) = third-more y _ _ _ _ (48 + (v % 10 + 1)) back_now (omega arith) (omega arith) in
        record {
          small = m;
          size = long ∙ sym (ap length e ∙ front_length v (v % 10 + 1));
          least = s.least;
          most = s.most;
          first = all-four n f (omega (arith, long)) ∙ q ∙ ap (take 4) (sym e);
          last = λ _.
              l ∙ sym (drop_at (front v) (back v (v % 10 + 1)) (n - 4) (omega (arith, long)))
              ∙ ap (drop (n - 4)) (sym e);
        }

    pub next_long : 10000 ≤ v → Spelt (v + 1) x (y + 65536) n
    next_long k =
        let f : 1 < length (front v) = digits-least 1 16 (v / 10 / 10 / 10) (omega arith) (omega arith) in
        next_spelt x (first-four s (omega (arith, long)) ∙ ap (take 4) (in_two v h) ∙ early (front v) _ _ _ _ _ f)

    -- a number of four digits
    module _ (k : v < 10000) where
      one_front : front v ≡ (48 + v / 10 / 10 / 10 % 10) ∷ []
      one_front = digits-small 16 (v / 10 / 10 / 10) (omega arith)

      four_now : four_bytes x ≡ (48 + v / 10 / 10 / 10 % 10) ∷ (48 + v / 10 / 10 % 10) ∷ (48 + v / 10 % 10) ∷ (48 + v % 10) ∷ []
      four_now = first-four s (omega (arith, long)) ∙ ap (take 4) (in_two v h ∙ ap (λ (xs : List ℕ). xs ++ back v (v % 10)) one_front)

      pub next_four : Spelt (v + 1) (x + 16777216) (y + 65536) n
      next_four =
          next_spelt (x + 16777216)
          (fourth-more x _ _ _ _ (48 + (v % 10 + 1)) four_now (omega arith) (omega arith) ∙ ap (λ (xs : List ℕ). take 4 (xs ++ back v (v % 10 + 1))) (sym one_front))

      pub first_byte : x / 16777216 % 256 ≡ 48 + v % 10
      first_byte = ap (λ (xs : List ℕ). get_or xs 3 0) four_now
