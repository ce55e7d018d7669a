-- What the writer of a formula is lent: an accepted file with its tables, and a formula within its limit: laws.
use Prim.Native.Nat.{ℕ}
use mathlib.Core.Path.{◌≡◌, ◌∙◌}
use mathlib.Core.List.{List}
use lib.ListN.{length}
use Rattle.constraint.specs.declared.kinds.Head.{Head}
use Rattle.clauses.specs.Writable.{Writable}

-- a list of the same length in the store changes nothing
pub writable-kept : {s d te tg list after : List ℕ} {h : Head} → Writable s d te tg list h → length after ≡ length list → Writable s d te tg after h
writable-kept w e =
    record {
      accepted = w.accepted;
      stores = record { tables = w.stores.tables; list_long = e ∙ w.stores.list_long };
      few = w.few;
    }
