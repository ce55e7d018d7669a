-- The number at the front of some bytes is exactly the one that they spell.
use mathlib.Core.Path.{◌≡◌, refl, ap, ◌∙◌}
use mathlib.Core.Logic.{◌↔◌}
use mathlib.Core.Bool.{Bool, true, false, cond}
use mathlib.Core.List.{List, [], ◌∷◌, ◌++◌}
use Prim.Native.Nat.{ℕ, suc, ◌+◌, ◌*◌, ◌%◌, ◌≤◌}
use native.Mathlib.Omega.{arith}
use lib.Dec.{ltb, eqb}
use lib.ListN.{length}
use borrow.Author.Tests.{lt-ltb, le-ltb, ne_eqb, ltb-true, ltb-false, eqb-false}
use Rattle.scope.specs.Number.{Front, broken, whole, group, front, most}
use Rattle.scope.specs.Spelling.{Spells, last, more}
use Rattle.laws.specs.Booleans.{impossible}

-- the bytes begin with n bytes that spell v
abbrev pub Spelt : List ℕ → ℕ → ℕ → Type 0
Spelt bs v n = (p : List ℕ) × (r : List ℕ) × (bs ≡ p ++ r) × Spells v p × (length p ≡ n)

-- a number that stands at the front was spelt
pub front-spelt : (bs : List ℕ) (v n : ℕ) → front bs ≡ whole v n → Spelt bs v n
unfolding front group
front-spelt [] v n e = impossible (cc)
front-spelt (b ∷ bs) v n e = go (ltb b 128) refl (front bs) (front-spelt bs) e
  where
    longer : 128 ≤ b → (w m : ℕ) → Spelt bs w m → (t : Bool) → eqb w 0 ≡ t
        → cond t broken (whole (b % 128 + 128 * w) (suc m)) ≡ whole v n → Spelt (b ∷ bs) v n
    longer h w m k true f e = impossible (cc)
    longer h w m k false f e =
        let z : w ≡ 0 → ⊥ = eqb-false w 0 f in
        let g : Spells (b % 128 + w * 128) (b ∷ k.0) = more {b = b} {n = w} h (omega arith) k.3 in
        let p : b % 128 + 128 * w ≡ v = cc in
        let q : suc m ≡ n = cc in
        let r : b % 128 + w * 128 ≡ v = omega arith in
        (b ∷ k.0, k.1, ap (◌∷◌ b) k.2, rw r at g, ap suc k.4 ∙ q)

    go : (t : Bool) → ltb b 128 ≡ t → (f : Front) → ((w m : ℕ) → f ≡ whole w m → Spelt bs w m)
        → cond t (whole b 1) (group b f) ≡ whole v n → Spelt (b ∷ bs) v n
    go true t f ih e =
        let p : b ≡ v = cc in
        let q : 1 ≡ n = cc in
        (b ∷ [], bs, refl, rw (← p) (last (ltb-true b 128 t)), q)
    go false t broken ih e = impossible (cc)
    go false t (whole w m) ih e = longer (ltb-false b 128 t) w m (ih w m refl) (eqb w 0) refl e

-- and a number that is spelt stands at the front
pub spelt-front : {v : ℕ} {p : List ℕ} → Spells v p → (r : List ℕ) → front (p ++ r) ≡ whole v (length p)
unfolding front group
spelt-front (last {b} h) r = rw (lt-ltb b 128 h, front)
spelt-front (more {b} {n} {bs} h l s) r =
    let e : b % 128 + 128 * n ≡ b % 128 + n * 128 = omega arith in
    rw (le-ltb b 128 h, front, spelt-front s r, ne_eqb n 0 (λ z. omega arith), e)

-- the number at the front of some bytes is v with n bytes exactly where the first n spell v
pub front-exact : (bs : List ℕ) (v n : ℕ) → (front bs ≡ whole v n) ↔ Spelt bs v n
front-exact bs v n = (front-spelt bs v n, back)
  where
    back : Spelt bs v n → front bs ≡ whole v n
    back k = rw (k.2, ← k.4) (spelt-front k.3 k.1)

-- the largest number, as document 01 writes it
pub largest : most ≡ 4294967295
largest = refl
