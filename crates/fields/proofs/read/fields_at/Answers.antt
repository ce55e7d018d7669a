-- `fields::read::fields_at` meets its contract: the first field is taken from all of them.
use mathlib.Core.Path.{refl, sym, ◌∙◌}
use Rattle.fields.proofs.laws.Table.{first_field, count-one}
use Rattle.fields.proofs.laws.Flat.{put_first}
use Rattle.fields.proofs.Left.{left_start, left_more, left_refused}
use Rattle.fields.proofs.read.fields_at.Goals as goal

pub returns-in_err-v : goal.returns-in_err-v
returns-in_err-v c = left_refused 0 _ _ _ _ _ _ _ _ _ _ refl (count-one _) (first_field _ _) c.first_at.ensures _ _ _ c.in_err-v.was c.from_residual.ensures
    ∙ sym (left_start _ _ _ _ _)

pub returns : goal.returns
returns c = c.more_at.ensures
    ∙ left_more 0 _ _ _ _ _ _ _ _ _ _ refl (count-one _) (first_field _ _) c.first_at.ensures _ _ _ c.in_ok-v.was (c.put-one.ensures ∙ rw c.first_listed.ensures (put_first _ _ _ _))
    ∙ sym (left_start _ _ _ _ _)
