-- `fields::field::second_at` meets its contract: by the kind.
use mathlib.Core.Logic.{⊎_elim}
use borrow.Author.Tests.{le-ltb, ne_eqb}
use native.Mathlib.Omega.{arith}
use Prim.Native.Nat.{◌≤◌}
use Rattle.fields.specs.declared.kind.KindName.{KindName}
use Rattle.fields.specs.Kind.{number_of}
use Rattle.fields.specs.Table.{second_of}
use Rattle.fields.proofs.KindNumbers.{other_number, number_high}
use Rattle.fields.proofs.laws.Flat.{reference_read, list_read, number_read}
use Rattle.fields.proofs.field.second_at.Goals as goal

pub returns-in-Precedence : goal.returns-in-Precedence
unfolding second_of
returns-in-Precedence c = rw c.in-Precedence.is (reference_read _ _ _ _ _ c.reference.ensures)

pub returns-in-Distribute : goal.returns-in-Distribute
unfolding second_of
returns-in-Distribute c = let r = number_read _ _ _ _ _ _ c.limited.ensures in
    ⊎_elim (λ e. rw e r) (λ e. rw e r) c.in-Distribute.is

pub returns-in-Cluster : goal.returns-in-Cluster
unfolding second_of
returns-in-Cluster c = let r = list_read _ _ _ _ _ _ c.list_at.ensures in
    ⊎_elim (λ e. rw e r) (λ e. rw e r) c.in-Cluster.is

pub returns-in-Split : goal.returns-in-Split
unfolding second_of
returns-in-Split c = rw c.in-Split.is (number_read _ _ _ _ _ _ c.limited-in-Split.ensures)

pub returns-in_default : goal.returns-in_default
unfolding second_of
returns-in_default c =
    let k = c.args.kind in
    let n = c.in_default in
    let h : number_of k ≤ 6 = omega (arith, number_high k, other_number k KindName.Precedence n.not-Precedence, other_number k KindName.Lengths n.not-Lengths, other_number k KindName.Distribute n.not-Distribute, other_number k KindName.Idle n.not-Idle, other_number k KindName.Cluster n.not-Cluster) in
    let g : number_of k ≤ 8 = omega (arith, h) in
    rw (le-ltb 8 _ g, le-ltb 6 _ h, ne_eqb _ 4 (other_number k KindName.Split n.not-Split)) (reference_read _ _ _ _ _ c.reference-in_default.ensures)
