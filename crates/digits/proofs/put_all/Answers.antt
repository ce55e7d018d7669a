use mathlib.Core.Path.{◌≡◌}
use mathlib.Core.List.{List, [], ◌∷◌, ◌++◌}
use Prim.Native.Nat.{ℕ, ◌+◌, ◌<◌}
use native.Mathlib.Numerals.{add-one}
use lib.ListN.{length, drop, get_or, drop_of_length-le}
use lib.Seq.{drop-cons}
use Rattle.digits.specs.Run.{todo_start, todo_turn, todo_done}
use Rattle.digits.proofs.put_all.Goals as goal

-- the element at a place is the first of those left there
next : {A : Type 0} (xs : List A) (i : ℕ) (x : A) → i < length xs → x ≡ get_or xs i x → drop i xs ≡ (x ∷ []) ++ drop (i + 1) xs
next xs i x h e = rw (drop-cons xs i x h, add-one, ← e)

pub loop-x-init : goal.loop-x-init
loop-x-init g c = todo_start

pub loop-x-preserved : goal.loop-x-preserved
loop-x-preserved g c = todo_turn (next _ _ _ c.loop-x-test.true c.x-item.is) c.loop-x.invariant c.put-p.ensures

pub returns : goal.returns
returns g c = todo_done (drop_of_length-le _ c.loop-x-test.false) c.loop-x.invariant
