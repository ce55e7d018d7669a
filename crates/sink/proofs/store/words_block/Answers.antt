use mathlib.Core.Path.{refl}
use native.Mathlib.Omega.{arith}
use Rattle.sink.proofs.laws.Run.{ran-sets}
use Rattle.sink.proofs.store.words_block.Goals as goal

pub copy_words-requires : goal.copy_words-requires
copy_words-requires c = c.room.ensures c.if-room.true

pub overflow_add-result : goal.overflow_add-result
overflow_add-result c = omega (arith, c.room.ensures c.if-room.true)

pub returns-then-room : goal.returns-then-room
returns-then-room c = rw c.copy_words.ensures
    (ran-sets _ _ _ _ (omega (arith, c.room.ensures c.if-room.true)) refl)
