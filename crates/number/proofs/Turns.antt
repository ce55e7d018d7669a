-- The loop of `number_at`: what the groups that are left come to once some bytes were read.
use Prim.Native.Nat.{ℕ, zero, suc, ◌+◌, ◌*◌, ◌%◌, ◌-◌, ◌≤◌, ◌<◌}
use mathlib.Core.Path.{◌≡◌, refl, ap, ◌∙◌}
use mathlib.Core.List.{List}
use mathlib.Core.Bool.{Bool, true, false, cond}
use mathlib.Core.Logic.{⊎_elim, ◌⊎◌, inl, inr}
use lib.ListN.{length, get_or, drop, drop_of_length-le}
use lib.Seq.{drop-cons}
use lib.Dec.{ltb, eqb}
use native.Mathlib.Numerals.{add-one}
use native.Mathlib.Omega.{arith}
use native.Mathlib.Nat.{mul_comm, mul_assoc, add-mul, mul-le-mul_right, mod-eq_of_lt}
use borrow.Author.Tests.{lt-ltb, le-ltb, le-leb, lt-leb, ne_eqb, ltb-true, ltb-false}
use Rattle.scope.specs.Parsed.{Parsed, got, refused}
use Rattle.scope.specs.Number.{Front, broken, whole, group, front, within, number_from, number}

-- k bytes were read, of value v, and the next group counts m
unfoldable pub after : ℕ → ℕ → ℕ → Front → Front
after v m k broken = broken
after v m k (whole w n) = cond (eqb w 0) broken (whole (v + w * m) (k + n))

-- a number at an offset, of these groups
unfoldable pub number_of : ℕ → Front → Parsed ℕ
number_of at f = number_from at (within f)

-- a further byte with its top bit set
after-group : (v m k b : ℕ) (f : Front) → after v m k (group b f) ≡ after (v + b % 128 * m) (m * 128) (k + 1) f
unfolding after group
after-group v m k b broken = refl
after-group v m k b (whole zero n) = refl
after-group v m k b (whole (suc w) n) =
    simp (ne_eqb (suc w) 0 (λ h. omega arith), ne_eqb (b % 128 + 128 * suc w) 0 (λ h. omega arith))
    (let h : 128 * suc w * m ≡ suc w * (m * 128) = rw (mul_comm 128 (suc w), mul_assoc, mul_comm 128 m) in
    let p : v + (b % 128 + 128 * suc w) * m ≡ v + b % 128 * m + suc w * (m * 128) =
    omega (arith, add-mul (b % 128) (128 * suc w) m)
    in
    let q : k + suc n ≡ k + 1 + n = omega arith in
    cc)

group-after : (b : ℕ) (f : Front) → group b f ≡ after (b % 128) 128 1 f
unfolding after group
group-after b broken = refl
group-after b (whole w n) =
    let p : b % 128 + 128 * w ≡ b % 128 + w * 128 = omega arith in
    let q : suc n ≡ 1 + n = omega arith in
    rw (p, q)

-- a value that is too large already, and a next group that would be
after-large : (at v m k : ℕ) (f : Front) → 4294967295 < v → number_of at (after v m k f) ≡ refused 1 at
unfolding after number_of within
after-large at v m k broken h = refl
after-large at v m k (whole zero n) h = refl
after-large at v m k (whole (suc w) n) h =
    simp (ne_eqb (suc w) 0 (λ h. omega arith), lt-leb (v + suc w * m) 4294967295 (omega arith))

after-scale : (at v m k : ℕ) (f : Front) → 33554431 < m → number_of at (after v (m * 128) k f) ≡ refused 1 at
unfolding after number_of within
after-scale at v m k broken h = refl
after-scale at v m k (whole zero n) h = refl
after-scale at v m k (whole (suc w) n) h =
    simp (
      ne_eqb (suc w) 0 (λ h. omega arith),
      lt-leb (v + suc w * (m * 128)) 4294967295 (omega (arith, mul-le-mul_right {m = 1} {n = suc w} (m * 128) (omega arith))),
    )

-- the groups at an offset begin with the byte there
front_at : (s : List ℕ) (i : ℕ)
    → i < length s
    → front (drop i s) ≡ cond (ltb (get_or s i 0) 128) (whole (get_or s i 0) 1) (group (get_or s i 0) (front (drop (i + 1) s)))
unfolding front
front_at s i h = rw (add-one, drop-cons s i 0)

pub number_past : (s : List ℕ) (at : ℕ) → length s ≤ at → number s at ≡ refused 1 at
unfolding number front within
number_past s at h = rw (drop_of_length-le s h)

-- the first byte, alone and with others after it
module _ (s : List ℕ) (at b : ℕ) (h : at < length s) (eb : b ≡ get_or s at 0) where
  pub first_last : b < 128 → number s at ≡ got b (at + 1)
  unfolding number within
  first_last hb = rw (front_at s at h, ← eb, lt-ltb b 128 hb, le-leb b 4294967295 (omega arith))

  pub first_more : 128 ≤ b → number s at ≡ number_of at (after (b % 128) 128 (at + 1 - at) (front (drop (at + 1) s)))
  unfolding number number_of
  first_more hb =
      let e : at + 1 - at ≡ 1 = omega arith in
      rw (front_at s at h, ← eb, le-ltb b 128 hb, e) (ap (number_of at) (group-after b (front (drop (at + 1) s))))

lt-or-ge : (t : Bool) (a b : ℕ) → ltb a b ≡ t → (a < b) ⊎ (b ≤ a)
lt-or-ge true a b e = inl (ltb-true a b e)
lt-or-ge false a b e = inr (ltb-false a b e)

-- a turn of the loop: v and m as `after` has them, b the byte at i
module _
    (s : List ℕ)
    (at v m i b : ℕ)
    (lo : at < i)
    (so_far : number s at ≡ number_of at (after v m (i - at) (front (drop i s))))
    (h : i < length s)
    (eb : b ≡ get_or s i 0) where
  here : number s at ≡ number_of at (after v m (i - at) (cond (ltb b 128) (whole b 1) (group b (front (drop (i + 1) s)))))
  here = rw (eb, ← (front_at s i h)) so_far

  pub turn_more : 128 ≤ b → number s at ≡ number_of at (after (v + b % 128 * m) (m * 128) (i + 1 - at) (front (drop (i + 1) s)))
  turn_more hb = let e : i + 1 - at ≡ i - at + 1 = omega arith in here ∙ rw (le-ltb b 128 hb, after-group, e)

  pub turn_zero : b ≡ 0 → number s at ≡ refused 1 at
  unfolding after number_of within
  turn_zero hb = here ∙ rw hb

  pub turn_last : b < 128 → (b ≡ 0 → ⊥) → v + b % 128 * m ≤ 4294967295 → number s at ≡ got (v + b % 128 * m) (i + 1)
  unfolding after number_of within
  turn_last hb hz hl =
      let e : at + (i - at + 1) ≡ i + 1 = omega arith in
      let l : v + b * m ≤ 4294967295 = rw (mod-eq_of_lt hb) at hl in
      here ∙ simp (lt-ltb b 128 hb, ne_eqb b 0 hz, mod-eq_of_lt hb, le-leb (v + b * m) 4294967295 l, e)

  pub turn_large : (b ≡ 0 → ⊥) → 4294967295 < v + b % 128 * m → number s at ≡ refused 1 at
  unfolding after number_of within
  turn_large hz hl =
      ⊎_elim
      (λ hb. here ∙ simp (lt-ltb b 128 hb, ne_eqb b 0 hz, lt-leb (v + b * m) 4294967295 (rw (mod-eq_of_lt hb) at hl)))
      (λ hb. turn_more hb ∙ after-large at (v + b % 128 * m) (m * 128) (i + 1 - at) (front (drop (i + 1) s)) hl)
      (lt-or-ge (ltb b 128) b 128 refl)

  pub turn_scale : 128 ≤ b → 33554431 < m → number s at ≡ refused 1 at
  turn_scale hb hm = turn_more hb ∙ after-scale at (v + b % 128 * m) m (i + 1 - at) (front (drop (i + 1) s)) hm

pub part_small : (b m : ℕ) → b % 128 * m ≤ 127 * m
part_small b m = mul-le-mul_right m (omega arith)

pub turn_end : (s : List ℕ) (at v m i : ℕ)
    → number s at ≡ number_of at (after v m (i - at) (front (drop i s)))
    → length s ≤ i
    → number s at ≡ refused 1 at
unfolding after number_of within front
turn_end s at v m i e h = e ∙ rw (drop_of_length-le s h)
