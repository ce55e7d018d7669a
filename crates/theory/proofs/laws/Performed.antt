-- The steps that the plain run performs, one after the other.
use mathlib.Core.Path.{◌≡◌}
use mathlib.Core.Bool.{true}
use mathlib.Core.List.{List, [], ◌∷◌}
use mathlib.Core.Option.{none, some}
use Prim.Native.Nat.{◌+◌}
use Rattle.scope.specs.Parsed.{answered}
use Rattle.scope.specs.Steps.{Step, well_formed}
use Rattle.scope.specs.PlainRun.{State, Limits, perform}

-- each step is well formed and performed on what the one before it left; the last, and no earlier one, adds the empty clause
pub data Taken (lim : Limits) : State → List Step → Type 0 where
  ends : {st : State} {s : Step} → well_formed lim.last_variable st.highest s ≡ true
      → perform lim st (st.steps + 1) s ≡ answered none → Taken lim st (s ∷ [])
  goes_on_lem : {st st' : State} {s : Step} {ss : List Step} → well_formed lim.last_variable st.highest s ≡ true
      → perform lim st (st.steps + 1) s ≡ answered (some st') → Taken lim st' ss → Taken lim st (s ∷ ss)
