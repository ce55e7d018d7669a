-- What the checks at a constraint's end look at besides its list.
use Rattle.std.specs.Prelude.{ℕ, Bool, cond, leb, Option, Some, None}
use Rattle.scope.specs.Parsed.{Parsed, got, refused, unless}
use Rattle.scope.specs.Reason.{number_of}
use Rattle.scope.specs.declared.refusal.Reason.{Reason}
use Rattle.scope.specs.Kinds.{Kind}
use Rattle.scope.specs.Instance.{distinct, ordered}
use Rattle.constraint.specs.Bounds.{low_of, high_of}
use Rattle.constraint_end.specs.declared.end.End.{End}

-- the refusal of fields, by whether two events are not one and whether lengths or gaps are in order: 19, then 5
abbrev pub fault : Bool → Bool → Option Reason
fault d o = cond d (cond o None (Some Reason.BadBounds)) (Some Reason.SameEvent)

abbrev pub end_of : Kind → End
end_of k = record { fault = fault (distinct k) (ordered k); lo = low_of k; hi = high_of k }

-- what is read where the fields have no fault, else its refusal with a value
abbrev pub faultless : {A : Type 0} → Option Reason → ℕ → Parsed A → Parsed A
faultless None v p = p
faultless (Some r) v p = refused (number_of r) v

-- where a constraint ends whose kind stands at an offset and whose list has n members, by what the checks look at
unfoldable pub ends_at : (at : ℕ) → End → (n end : ℕ) → Parsed ℕ
ends_at at e n end =
    unless (leb n 255) 4 at
    (faultless e.fault at (unless (leb e.lo e.hi) 5 at (unless (leb e.lo n) 5 at (got 0 end))))
