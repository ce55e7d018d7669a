-- Loops over a reader, with no code: what is left of one between its turns; each number takes a byte at least.
use mathlib.Core.Path.{◌≡◌, refl, sym, ◌∙◌}
use mathlib.Core.Bool.{Bool, true, false, cond}
use mathlib.Core.List.{List}
use Prim.Native.Nat.{ℕ, zero, suc, ◌-◌, ◌≤◌, ◌<◌}
use native.Mathlib.Omega.{arith}
use lib.ListN.{length}
use Rattle.scope.specs.Parsed.{got}
use Rattle.scope.specs.Number.{number}
use Rattle.parsing.proofs.laws.Numbers.{number-got}
use Rattle.reader.specs.Loop.{while_more}

-- a loop that does not go on
pub closed_same : {S : Type 0} (more : S → Bool) (turn : S → S) (k : ℕ) (x : S) → more x ≡ false → while_more more turn k x ≡ x
unfolding while_more
closed_same more turn zero x e = refl
closed_same more turn (suc k) x e = rw e

-- what is left of a loop that comes to g, whose measure falls with each turn
module _ {S : Type 0} (more : S → Bool) (turn : S → S) (μ : S → ℕ) (g : S) where
  pub record Left (x : S) : Type 0 where
    pub fuel : ℕ
    pub enough : μ x ≤ fuel
    pub todo : while_more more turn fuel x ≡ g

  pub left_over : (x : S) → Left x → more x ≡ false → x ≡ g
  left_over x l e = sym (closed_same more turn l.fuel x e) ∙ l.todo

  pub left_more : (x : S) → Left x → more x ≡ true → μ (turn x) < μ x → Left (turn x)
  unfolding while_more
  left_more x l e f = go l.fuel l.enough l.todo
    where
      go : (k : ℕ) → μ x ≤ k → while_more more turn k x ≡ g → Left (turn x)
      go zero n t = absurd (omega arith)
      go (suc k) n t = record { fuel = k; enough = omega arith; todo = rw e at t }

pub either : {A : Type 0} (f : A → ℕ) (t : Bool) (a b : A) (m : ℕ) → f a < m → f b < m → f (cond t a b) < m
either f true a b m x y = x
either f false a b m x y = y

module _ (s : List ℕ) where
  pub nearer : (at n next : ℕ) → number s at ≡ got n next → suc (length s - next) < suc (length s - at)
  nearer at n next e = let k = number-got s at e in omega (arith, k.ahead, k.inside)
