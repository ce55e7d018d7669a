-- The sizes of an instance's formula, without and with its tail, in the terms of document 01: laws.
use Prim.Native.Nat.{ℕ}
use mathlib.Core.Path.{◌≡◌, sym, ap, ◌∙◌}
use native.Mathlib.Omega.{arith}
use Rattle.scope.specs.Instance.{Instance}
use Rattle.scope.specs.Text.{top as top_of}
use Rattle.scope.specs.Operations.{formula_size}
use Rattle.scope.specs.declared.FormulaSize.{FormulaSize}
use Rattle.theory.specs.Accepted.{ValidInstance}
use Rattle.sizing.specs.declared.Size.{Size}
use Rattle.sizing.specs.Sums.{sum, Within, Fits64}
use Rattle.sizing.proofs.laws.Sums.{within_more, within-sum}
use Rattle.sizing.specs.Whole.{stored}
use Rattle.measuring.specs.Whole.{whole_size}
use Rattle.measuring.proofs.laws.Whole.{formula_of, whole-size, bounded_size}
use Rattle.part_sizes.specs.declared.walk.Total.{Total}
use Rattle.sizes.specs.Whole.{WholeOf, Numbers}

-- both together are numbers of 64 bits
pub total-fits : {i : Instance} {B : ℕ} {t : Total} → WholeOf i B t → Fits64 (sum t.formula t.tail)
total-fits {t = t} w =
    within_more (omega arith)
    (within-sum 1101659111424 8796093022208 t.formula t.tail w.within w.tail_within)

module _ (i : Instance) (v : ValidInstance i) where
  pub whole_numbers : {z : Size} → z ≡ whole_size i → Within 1101659111424 z → Numbers i z
  unfolding formula_of top_of
  whole_numbers {z} e w =
      let f : z ≡ formula_of i = e ∙ sym (whole-size i v) in
      record {
        variables = ap (λ (z : Size). z.variables) f;
        clauses = ap (λ (z : Size). z.clauses) f;
        words = ap (λ (z : Size). z.words) f;
        units = ap (λ (z : Size). z.units) f;
        top = omega (arith, ap (λ (z : Size). z.weight) f);
        within = w;
      }

  -- with the tail
  module _ (B : ℕ) {t : Total} (w : WholeOf i B t) where
    pub total_size : {s : Size} {z : FormulaSize} → s ≡ sum t.formula t.tail → z ≡ stored s → z ≡ formula_size i B
    total_size e f = f ∙ rw (e, w.formula, w.tail) (sym (bounded_size i B v))
