-- The bytes of numbers of up to seven digits, and what storing them leaves.
use mathlib.Core.Path.{◌≡◌, refl, ap, sym, ◌∙◌}
use mathlib.Core.List.{List, [], ◌∷◌, ◌++◌}
use Prim.Native.Nat.{ℕ, suc, ◌+◌, ◌-◌, ◌*◌, ◌/◌, ◌%◌, ◌^◌, ◌≤◌, ◌<◌}
use native.Mathlib.Omega.{arith}
use native.Mathlib.Numerals.{add-one}
use lib.ListN.{length, length-append, set, take, drop}
use lib.Seq.{sets, take_all, drop_at}
use Rattle.scope.specs.Text.{decimal, space}
use Rattle.digits.specs.Run.{Ran}
use Rattle.digits.specs.Store.{out, put}
use Rattle.digits.proofs.laws.Store.{ran-sets}
use Rattle.digits.specs.Decimal.{last_digits}
use Rattle.digits.proofs.laws.Decimal.{digits_last, digits-length, digits-small, digits_more}
use Rattle.digits.specs.Spelled.{four_bytes, Spelt}
use Rattle.digits.proofs.Overlap.{overlap}

pub four-sum : (a b c d : ℕ) → a < 256 → b < 256 → c < 256 → d < 256 → four_bytes (a + 256 * b + 65536 * c + 16777216 * d) ≡ a ∷ b ∷ c ∷ d ∷ []
four-sum a b c d ha hb hc hd =
    let n : ℕ = a + 256 * b + 65536 * c + 16777216 * d in
    let qb : n / 256 ≡ b + 256 * c + 65536 * d = omega arith in
    let qc : n / 65536 ≡ c + 256 * d = omega arith in
    let qd : n / 16777216 ≡ d = omega arith in
    let ea : n % 256 ≡ a = omega arith in
    let eb : n / 256 % 256 ≡ b = rw qb (omega arith) in
    let ec : n / 65536 % 256 ≡ c = rw qc (omega arith) in
    let ed : n / 16777216 % 256 ≡ d = rw qd (omega arith) in
    rw (ea, eb, ec, ed)

-- digits two by two
pub two-twos : (u : ℕ) → (48 + u / 100 % 100 / 10) ∷ (48 + u / 100 % 100 % 10) ∷ (48 + u % 100 / 10) ∷ (48 + u % 100 % 10) ∷ [] ≡ last_digits 4 u
two-twos u =
    let ea : u / 100 % 100 / 10 ≡ u / 10 / 10 / 10 % 10 = omega arith in
    let eb : u / 100 % 100 % 10 ≡ u / 10 / 10 % 10 = omega arith in
    let ec : u % 100 / 10 ≡ u / 10 % 10 = omega arith in
    let ed : u % 100 % 10 ≡ u % 10 = omega arith in
    rw (ea, eb, ec, ed)

-- the last three digits and a space
pub last-three : (v : ℕ) → (48 + v / 100 % 10) ∷ (48 + v % 100 / 10) ∷ (48 + v % 100 % 10) ∷ 32 ∷ [] ≡ last_digits 3 v ++ space
last-three v =
    let ea : v / 100 % 10 ≡ v / 10 / 10 % 10 = omega arith in
    let eb : v % 100 / 10 ≡ v / 10 % 10 = omega arith in
    let ec : v % 100 % 10 ≡ v % 10 = omega arith in
    rw (ea, eb, ec)

-- all digits are the last ones
pub all-last : (k v : ℕ) → k ≤ 19 → 10 ^ k ≤ v → v < 10 ^ suc k → decimal v ++ space ≡ last_digits (suc k) v ++ space
all-last k v h a b = ap (λ (xs : List ℕ). xs ++ space) (digits_last 19 v ∙ ap (λ (n : ℕ). last_digits n v) (digits-length k 19 v h a b))

-- a number of one digit, and of two
pub one-digit : (v : ℕ) → v < 10 → decimal v ++ space ≡ (48 + v) ∷ 32 ∷ []
one-digit v h = let e : v % 10 ≡ v = omega arith in rw (digits-small 19 v h, e)

pub two_digits : (v : ℕ) → 10 ≤ v → v < 100 → decimal v ++ space ≡ (48 + v / 10) ∷ (48 + v % 10) ∷ 32 ∷ []
two_digits v h g =
    let e : v / 10 % 10 ≡ v / 10 = omega arith in
    rw (digits_more 18 v h, digits-small 18 (v / 10) (omega arith), e)

-- four bytes are all of them
pub all-four : (n f : ℕ) → 4 ≤ n → take n (four_bytes f) ≡ four_bytes f
all-four n f h = take_all n (four_bytes f) h

pub spelt : (v n f l : ℕ) (xs : List ℕ) → v < 10000000 → decimal v ++ space ≡ xs → n ≡ length xs → 4 ≤ n → n ≤ 8 → four_bytes f ≡ take 4 xs → four_bytes l ≡ drop (n - 4) xs
    → Spelt v f l n
spelt v n f l xs m e s a b p q = record {
  small = m;
  size = rw e s;
  least = omega arith;
  most = b;
  first = rw e (all-four n f a ∙ p);
  last = λ _. rw e q;
}

-- where they are two or three, all stand in the first four bytes
pub spelt-short : (v n f : ℕ) (xs : List ℕ) → v < 10000000 → decimal v ++ space ≡ xs → n ≡ length xs → 2 ≤ n → n < 4 → take n (four_bytes f) ≡ take 4 xs
    → Spelt v f 0 n
spelt-short v n f xs m e s a b p = record {
  small = m;
  size = rw e s;
  least = a;
  most = omega arith;
  first = rw e p;
  last = λ (h : 4 ≤ n). absurd (omega arith);
}

pub first-four : {v x y n : ℕ} → Spelt v x y n → 4 ≤ n → four_bytes x ≡ take 4 (decimal v ++ space)
first-four {v} {x} {y} {n} s h = sym (all-four n x h) ∙ s.first

-- the two stores of a number leave its digits and a space
pub spelt-ran : {v x y n : ℕ} (a : ℕ) (t : List ℕ) {t₁ t₂ : List ℕ} → Spelt v x y n → 4 ≤ n → a + 8 ≤ 9223372036854775807
    → t₁ ≡ sets t a (four_bytes x) → t₂ ≡ sets t₁ (a + n - 4) (four_bytes y)
    → Ran put (decimal v ++ space) (out a t) (out (a + n) t₂)
spelt-ran {v} {x} {y} {n} a t {t₁} {t₂} s b h p q =
    let xs : List ℕ = decimal v ++ space in
    let i : ℕ = n - 4 in
    let e : a + n - 4 ≡ a + i = omega arith in
    let start : t₁ ≡ sets t a (take 4 xs) = p ∙ ap (sets t a) (first-four s b) in
    let all : t₂ ≡ sets t a xs =
    q ∙ ap (sets t₁ (a + n - 4)) (s.last b) ∙ ap (λ (k : ℕ). sets t₁ k (drop i xs)) e
    ∙ ap (λ (l : List ℕ). sets l (a + i) (drop i xs)) start ∙ overlap i 4 xs t a (omega (arith, s.most)) in
    rw all (ran-sets xs t a (a + n) (omega (arith, s.size, s.most)) (ap (λ (m : ℕ). a + m) s.size))

-- the first two of two or more elements
first_two : (m a b : ℕ) (ys : List ℕ) → take 2 (take (suc (suc m)) (a ∷ b ∷ ys)) ≡ a ∷ b ∷ []
first_two m a b ys = refl

-- the three stores of a number of one or two digits
pub short-ran : {v x y n : ℕ} (a : ℕ) (t : List ℕ) → Spelt v x y n → n < 4 → a + 8 ≤ 9223372036854775807
    → Ran put (decimal v ++ space) (out a t) (out (a + n) (set (set (set t a (x % 256)) (a + 1) (x / 256 % 256)) (a + n - 1) 32))
short-ran {v} {x} {y} {n} a t s b h =
    let xs : List ℕ = decimal v ++ space in
    let i : ℕ = n - 1 in
    let m : ℕ = n - 2 in
    let f : ℕ = x in
    let l : n ≡ suc (suc m) = omega (arith, s.least) in
    let whole : take 4 xs ≡ xs = take_all 4 xs (omega (arith, s.size)) in
    let two : take 2 xs ≡ f % 256 ∷ f / 256 % 256 ∷ [] =
    ap (take 2) (sym whole ∙ sym s.first ∙ ap (λ (k : ℕ). take k (four_bytes f)) l) ∙ first_two m (f % 256) (f / 256 % 256) (f / 65536 % 256 ∷ f / 16777216 % 256 ∷ []) in
    let long : length xs ≡ length (decimal v) + 1 = length-append (decimal v) space in
    let end : drop i xs ≡ 32 ∷ [] = drop_at (decimal v) space i (omega (arith, s.size, s.least, long)) in
    let e : a + n - 1 ≡ a + i = omega (arith, s.least) in
    let all : set (set (set t a (f % 256)) (a + 1) (f / 256 % 256)) (a + n - 1) 32 ≡ sets t a xs =
    ap (λ (k : ℕ). set (set (set t a (f % 256)) (a + 1) (f / 256 % 256)) k 32) e
    ∙ ap (λ (k : ℕ). set (set (set t a (f % 256)) k (f / 256 % 256)) (a + i) 32) (add-one a)
    ∙ ap (λ (ys : List ℕ). sets (sets t a ys) (a + i) (32 ∷ [])) (sym two)
    ∙ ap (sets (sets t a (take 2 xs)) (a + i)) (sym end)
    ∙ overlap i 2 xs t a (omega arith) in
    rw all (ran-sets xs t a (a + n) (omega (arith, s.size, s.most)) (ap (λ (k : ℕ). a + k) s.size))
