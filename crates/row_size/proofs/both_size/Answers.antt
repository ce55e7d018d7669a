use mathlib.Core.Path.{◌≡◌, ap, ◌∙◌}
use Prim.Native.Nat.{ℕ}
use native.Mathlib.Omega.{arith}
use lib.ListN.{length}
use Rattle.scope.specs.Cnf.{opp}
use Rattle.scope.specs.Text.{literal_text}
use Rattle.row_size.proofs.RowSize.{literal-most, opposite-most}
use Rattle.row_size.proofs.both_size.Goals as goal

pub overflow_add-result : goal.overflow_add-result
overflow_add-result c = let x = c.args.x in
    let e : c.literal_size-2.result ≡ length (literal_text (opp x)) = c.literal_size-2.ensures ∙ ap (λ (l : ℕ). length (literal_text l)) c.opposite.ensures in
    omega (arith, literal-most x c.requires, opposite-most x c.requires, c.literal_size.ensures)

pub returns : goal.returns
returns c = let x = c.args.x in
    let e : c.literal_size-2.result ≡ length (literal_text (opp x)) = c.literal_size-2.ensures ∙ ap (λ (l : ℕ). length (literal_text l)) c.opposite.ensures in
    (omega (arith, c.literal_size.ensures), omega (arith, literal-most x c.requires, opposite-most x c.requires, c.literal_size.ensures))
