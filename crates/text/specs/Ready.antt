-- A file read into stores and sized: the length of its text, and its text put together from header, hard lines and soft lines.
use Rattle.std.specs.Prelude.{List, ℕ}
use Rattle.constraint.specs.declared.kinds.Head.{Head}
use Rattle.instance.specs.Stores.{Stores}
use Rattle.sizing.specs.declared.Size.{Size}
use Rattle.sizes.specs.Measured.{SizedBy}

pub record Ready (s d te tg list : List ℕ) (h : Head) (z : Size) : Type 0 where
  pub sized : SizedBy s d te tg h z
  pub stores : Stores s d te tg list
