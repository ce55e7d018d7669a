-- The byte of a variable after some literals are noted, and how often the variable is given.
use Prim.Native.Nat.{ℕ, zero, suc, ◌+◌, ◌-◌, ◌/◌, ◌%◌, ◌≤◌, ◌<◌}
use mathlib.Core.Path.{◌≡◌, refl, ap, ◌∙◌}
use mathlib.Core.Bool.{Bool, true, false, not, ◌||◌, cond}
use mathlib.Core.List.{List, [], ◌∷◌}
use native.Mathlib.Omega.{arith}
use lib.Dec.{eqb}
use lib.ListN.{length, get_or, length-set}
use lib.Seq.{get_or-set_same, get_or-set_other}
use borrow.Author.Tests.{ne_eqb, eqb-true, eqb-false}
use Rattle.scope.specs.Cnf.{pos}
use Rattle.scope.specs.Kinds.{member}
use Rattle.scope.specs.SolverText.{times_given}
use Rattle.solver_lines.specs.Noting.{noted_literal}
use Rattle.solver_model.proofs.laws.Gathered.{Ranged, nothing, more, noted_all}

-- the byte b of variable v, after a literal and after some
abbrev byte_next : ℕ → ℕ → ℕ → ℕ
byte_next v b l = cond (eqb (l / 2) v) (cond (eqb b 0) (2 - l % 2) 3) b

unfoldable pub byte_after : ℕ → ℕ → List ℕ → ℕ
byte_after v b [] = b
byte_after v b (l ∷ ls) = byte_after v (byte_next v b l) ls

pub length-noted : (st ls : List ℕ) → length (noted_all st ls) ≡ length st
unfolding noted_all
length-noted st [] = refl
length-noted st (l ∷ ls) = length-noted (noted_literal st l) ls ∙ simp length-set

-- one literal changes the byte of its variable alone
noted-byte : (st : List ℕ) (l k : ℕ) → 1 ≤ l / 2 → k < length st → get_or (noted_literal st l) k 0 ≡ byte_next (suc k) (get_or st k 0) l
noted-byte st l k low h = go (eqb (l / 2) (suc k)) refl
  where
    go : (t : Bool) → eqb (l / 2) (suc k) ≡ t
        → get_or (noted_literal st l) k 0 ≡ cond t (cond (eqb (get_or st k 0) 0) (2 - l % 2) 3) (get_or st k 0)
    go true e =
        let q = eqb-true (l / 2) (suc k) e in
        let z : l / 2 - 1 ≡ k = omega arith in
        rw z (get_or-set_same st k _ 0 h)
    go false e =
        let q = eqb-false (l / 2) (suc k) e in
        get_or-set_other st (l / 2 - 1) k _ 0 (λ f. q (omega arith))

pub noted-bytes : {n : ℕ} (st ls : List ℕ) (k : ℕ) → Ranged n ls → k < length st → get_or (noted_all st ls) k 0 ≡ byte_after (suc k) (get_or st k 0) ls
unfolding noted_all byte_after
noted-bytes st [] k nothing h = refl
noted-bytes st (l ∷ ls) k (more low high r) h =
    noted-bytes (noted_literal st l) ls k r (simp length-set h)
    ∙ ap (λ (b : ℕ). byte_after (suc k) b ls) (noted-byte st l k low h)

module _ (v : ℕ) where
  -- never given: the byte is kept, and no literal is the variable's
  pub never_given : (b : ℕ) (ls : List ℕ) → times_given v ls ≡ 0 → byte_after v b ls ≡ b
  unfolding times_given byte_after
  never_given b [] e = refl
  never_given b (l ∷ ls) e = go (eqb (l / 2) v) (λ f. never_given b ls f) e
    where
      go : (t : Bool) → (times_given v ls ≡ 0 → byte_after v b ls ≡ b) → cond t 1 0 + times_given v ls ≡ 0
          → byte_after v (cond t (cond (eqb b 0) (2 - l % 2) 3) b) ls ≡ b
      go true ih f = let z : ⊥ = omega arith in absurd z
      go false ih f = ih (omega arith)

  pub never_member : (ls : List ℕ) → times_given v ls ≡ 0 → member (pos v) ls ≡ false
  unfolding times_given member
  never_member [] e = refl
  never_member (l ∷ ls) e = go (eqb (l / 2) v) refl (λ f. never_member ls f) e
    where
      go : (t : Bool) → eqb (l / 2) v ≡ t → (times_given v ls ≡ 0 → member (pos v) ls ≡ false) → cond t 1 0 + times_given v ls ≡ 0
          → (eqb (pos v) l || member (pos v) ls) ≡ false
      go true q ih f = let z : ⊥ = omega arith in absurd z
      go false q ih f =
          let d = eqb-false (l / 2) v q in
          let other : pos v ≡ l → ⊥ = λ p. d (omega arith) in
          rw (ne_eqb (pos v) l other, ih (omega arith))

  -- given once more than once
  pub given_again : (b : ℕ) (ls : List ℕ) → (b ≡ 0 → ⊥) → 1 ≤ times_given v ls → byte_after v b ls ≡ 3
  unfolding times_given byte_after
  given_again b [] d h = let z : ⊥ = omega arith in absurd z
  given_again b (l ∷ ls) d h = go (eqb (l / 2) v) (λ f. given_again b ls d f) (third ls) h
    where
      third : (xs : List ℕ) → byte_after v 3 xs ≡ 3
      third [] = refl
      third (x ∷ xs) = again (eqb (x / 2) v) (third xs)
        where
          again : (t : Bool) → byte_after v 3 xs ≡ 3 → byte_after v (cond t (cond (eqb 3 0) (2 - x % 2) 3) 3) xs ≡ 3
          again true e = e
          again false e = e

      go : (t : Bool) → (1 ≤ times_given v ls → byte_after v b ls ≡ 3) → byte_after v 3 ls ≡ 3 → 1 ≤ cond t 1 0 + times_given v ls
          → byte_after v (cond t (cond (eqb b 0) (2 - l % 2) 3) b) ls ≡ 3
      go true ih e f = rw (ne_eqb b 0 d) e
      go false ih e f = ih (omega arith)

  -- given once: 2 without a minus, 1 with one
  pub given_once : (ls : List ℕ) → times_given v ls ≡ 1 → byte_after v 0 ls ≡ cond (member (pos v) ls) 2 1
  unfolding times_given byte_after member
  given_once [] e = let z : ⊥ = omega arith in absurd z
  given_once (l ∷ ls) e = go (eqb (l / 2) v) refl (λ f. given_once ls f) e
    where
      sign : (t : Bool) → eqb (pos v) l ≡ t → l / 2 ≡ v → 2 - l % 2 ≡ cond (t || false) 2 1
      sign true q h = let p = eqb-true (pos v) l q in omega arith
      sign false q h = odd (l % 2) refl
        where
          odd : (r : ℕ) → l % 2 ≡ r → 2 - r ≡ 1
          odd zero f = absurd (eqb-false (pos v) l q (omega arith))
          odd (suc r) f = omega arith

      go : (t : Bool) → eqb (l / 2) v ≡ t → (times_given v ls ≡ 1 → byte_after v 0 ls ≡ cond (member (pos v) ls) 2 1)
          → cond t 1 0 + times_given v ls ≡ 1
          → byte_after v (cond t (2 - l % 2) 0) ls ≡ cond (eqb (pos v) l || member (pos v) ls) 2 1
      go true q ih f =
          let none_left : times_given v ls ≡ 0 = omega arith in
          never_given (2 - l % 2) ls none_left ∙ rw (never_member ls none_left) (sign (eqb (pos v) l) refl (eqb-true (l / 2) v q))
      go false q ih f =
          let d = eqb-false (l / 2) v q in
          let other : pos v ≡ l → ⊥ = λ p. d (omega arith) in
          rw (ne_eqb (pos v) l other) (ih (omega arith))

  pub given_twice : (ls : List ℕ) → 2 ≤ times_given v ls → byte_after v 0 ls ≡ 3
  unfolding times_given byte_after
  given_twice [] e = let z : ⊥ = omega arith in absurd z
  given_twice (l ∷ ls) e = go (eqb (l / 2) v) (λ f. given_twice ls f) e
    where
      go : (t : Bool) → (2 ≤ times_given v ls → byte_after v 0 ls ≡ 3) → 2 ≤ cond t 1 0 + times_given v ls
          → byte_after v (cond t (2 - l % 2) 0) ls ≡ 3
      go true ih f = given_again (2 - l % 2) ls (λ z. omega arith) (omega arith)
      go false ih f = ih (omega arith)

  -- so a byte is 0 or 3 just where the variable is not given once
  pub settles : (ls : List ℕ) → (eqb (byte_after v 0 ls) 0 || eqb (byte_after v 0 ls) 3) ≡ not (eqb (times_given v ls) 1)
  settles ls = go (times_given v ls) refl
    where
      once : (m : Bool) → (eqb (cond m 2 1) 0 || eqb (cond m 2 1) 3) ≡ false
      once true = refl
      once false = refl

      go : (t : ℕ) → times_given v ls ≡ t → (eqb (byte_after v 0 ls) 0 || eqb (byte_after v 0 ls) 3) ≡ not (eqb t 1)
      go zero e = rw (never_given 0 ls e)
      go (suc zero) e = rw (given_once ls e) (once (member (pos v) ls))
      go (suc (suc t)) e = rw (given_twice ls (omega arith), ne_eqb (suc (suc t)) 1 (λ f. omega arith))
