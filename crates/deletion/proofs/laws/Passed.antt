-- An id to delete is passed, with the row that was found for it: laws.
use mathlib.Core.Path.{◌≡◌, refl}
use mathlib.Core.Bool.{Bool, true, false, cond}
use mathlib.Core.List.{List}
use Prim.Native.Nat.{ℕ}
use lib.Dec.{eqb}
use borrow.Author.Tests.{eqb-true, eqb-false}
use Rattle.scope.specs.Parsed.{Parsed, got, refused}
use Rattle.scope.specs.Number.{number}
use Rattle.scope.specs.declared.refusal.Reason.{Reason}
use Rattle.directory.specs.declared.Row.{Row}
use Rattle.hints.specs.declared.machine.Phase.TheVariants.{Delete, Refused}
use Rattle.hints.specs.declared.machine.Machine.{Machine}
use Rattle.hints.specs.Machine.{stopped}
use Rattle.hints.proofs.laws.Machine.{Advances, gone, broken, deletes}
use Rattle.deletion.specs.Passed.{id_on, passed_id}

-- it is the turn of a machine that deletes
pub passes-id : (s : List ℕ) (m : Machine) (row : Row) (ws ms tr : List ℕ) → m.phase ≡ Delete
    → Advances s m row ws ms tr (passed_id (number s m.at) m row) ms tr
unfolding passed_id
passes-id s m row ws ms tr p = go (eqb row.live 0) refl
  where
    by_number : (row.live ≡ 0 → ⊥) → (x : Parsed ℕ) → number s m.at ≡ x → Advances s m row ws ms tr (id_on m x) ms tr
    by_number l (refused k v) e = broken k v e refl
    by_number l (got id next) e = deletes id next l e p refl refl

    go : (t : Bool) → eqb row.live 0 ≡ t
        → Advances s m row ws ms tr (cond t (stopped (Refused Reason.NotLive) m.at) (id_on m (number s m.at))) ms tr
    go true t = gone (eqb-true row.live 0 t) refl
    go false t = by_number (eqb-false row.live 0 t) (number s m.at) refl
