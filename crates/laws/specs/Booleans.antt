-- Booleans as tests of facts.
use Rattle.std.specs.Prelude.{◌≡◌, refl, Bool, true, false, cond, ◌&&◌, ◌||◌, ◌↔◌, ℕ, ◌≤◌, leb}
use Rattle.std.proofs.Common.{sym, true≢false, arith, leb-true, le-leb}
use Rattle.std.specs.Bool.{beq}
use Rattle.std.proofs.Math.Option.{Option, none, some}

-- Booleans that are true together are equal
pub bool-ext : (a b : Bool) → (a ≡ true ↔ b ≡ true) → a ≡ b
bool-ext true b h = sym (h.0 refl)
bool-ext false true h = h.1 refl
bool-ext false false h = refl

-- the test of equality says whether they are equal
pub beq-iff : (a b : Bool) → beq a b ≡ true ↔ a ≡ b
beq-iff true true = (λ _. refl, λ _. refl)
beq-iff true false = (sym, sym)
beq-iff false true = (λ e. e, λ e. e)
beq-iff false false = (λ _. refl, λ _. refl)

-- equivalent comparisons are equal tests
pub leb-same : (a b c d : ℕ) → (a ≤ b ↔ c ≤ d) → leb a b ≡ leb c d
leb-same a b c d h =
    bool-ext (leb a b) (leb c d) (λ e. le-leb c d (h.0 (leb-true a b e)), λ e. le-leb a b (h.1 (leb-true c d e)))

-- something found is not nothing
pub some≢none : {A : Type 0} {a : A} → some a ≡ none → ⊥
some≢none e = let z : ◌≡◌ {A = ℕ} 0 1 = cc in omega arith

-- a search that goes on while the tests hold finds nothing exactly where they all hold
pub cond-none : {A : Type 0} (test : Bool) (a : A) (found : Option A)
    → (cond test found (some a) ≡ none) ↔ ((test ≡ true) × (found ≡ none))
cond-none true a found = (λ n. (refl, n), λ h. h.1)
cond-none false a found = (λ n. absurd (some≢none n), λ h. absurd (true≢false (sym h.0)))

-- what follows where two constructors would be equal: `impossible (cc)`
pub impossible : {A : Type 0} → ◌≡◌ {A = ℕ} 0 1 → A
impossible e = absurd (omega arith)

-- false is not true
pub never_true : {A : Type 0} → false ≡ true → A
never_true e = impossible (cc)

-- both parts of a true "and"
pub and-true : (a b : Bool) → (a && b) ≡ true → (a ≡ true) × (b ≡ true)
and-true true b e = (refl, e)
and-true false b e = never_true e

-- both parts of a false "or"
pub or-false : (a b : Bool) → (a || b) ≡ false → (a ≡ false) × (b ≡ false)
or-false true b e = never_true (sym e)
or-false false b e = (refl, e)
