-- The checks at a constraint's end by one reason at most for its fields come to what the definitions say.
use Prim.Native.Nat.{ℕ}
use mathlib.Core.Path.{◌≡◌, refl}
use mathlib.Core.Bool.{Bool, true, false}
use lib.Dec.{leb}
use Rattle.scope.specs.Parsed.{Parsed, got, unless}
use Rattle.scope.specs.Kinds.{Kind, Constraint}
use Rattle.scope.specs.Instance.{distinct, ordered, ended}
use Rattle.constraint.specs.Bounds.{low_of, high_of}
use Rattle.constraint_end.specs.End.{fault, faultless, end_of, ends_at}
use Rattle.constraint_end.specs.Ends.{ends}

pub ends_same : (at : ℕ) (k : Kind) (n weight end : ℕ)
    → ends_at at (end_of k) n end ≡ ends (ended at (distinct k) (ordered k) (low_of k) (high_of k) n weight k end)
unfolding ends_at ended
ends_same at k n weight end = go (leb n 255) (distinct k) (ordered k) (leb (low_of k) (high_of k)) (leb (low_of k) n)
  where
    -- whether the list is short, the events are two, the lengths or gaps in order, lo at most hi and at most n
    go : (a d o b c : Bool)
        → ◌≡◌ {A = Parsed ℕ} (unless a 4 at (faultless (fault d o) at (unless b 5 at (unless c 5 at (got 0 end)))))
        (ends {A = Constraint} (unless a 4 at (unless d 19 at (unless o 5 at (unless b 5 at (unless c 5 at (got (record { weight = weight; kind = k }) end)))))))
    go false d o b c = refl
    go true false o b c = refl
    go true true false b c = refl
    go true true true false c = refl
    go true true true true false = refl
    go true true true true true = refl
