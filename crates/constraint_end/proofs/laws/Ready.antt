-- What the functions that check constraints are lent: how many events use each resource, the groups, a store for a list: laws.
use Prim.Native.Nat.{ℕ, zero, suc}
use mathlib.Core.Path.{◌≡◌, refl, ◌∙◌}
use mathlib.Core.List.{List}
use lib.ListN.{length, get_or, replicate}
use Rattle.scope.specs.Parsed.{Parsed, got, refused, and_then}
use Rattle.scope.specs.Kinds.{Kind, Constraint}
use Rattle.scope.specs.Instance.{Counts}
use Rattle.tables.specs.Rows.{rows}
use Rattle.constraint.specs.declared.kinds.Head.{Head}
use Rattle.constraint.specs.Answers.{counts_in}
use Rattle.constraint.specs.Decoded.{decoded_at, ended_by, checked_at}
use Rattle.constraint.proofs.laws.Decoded.{checked-same}
use Rattle.constraint_end.proofs.laws.Length.{Alike, length-same}
use Rattle.constraint_end.specs.Ready.{Ready, length_by, checked_by}

-- a list of the same length in the store changes nothing
pub ready-kept : {loads groups list after : List ℕ} {h : Head} → Ready loads groups list h → length after ≡ length list → Ready loads groups after h
ready-kept r e =
    record {
      counts = r.counts;
      room = e ∙ r.room;
      resources = r.resources;
      numbers = r.numbers;
      events = r.events;
      rows = r.rows;
    }

-- two measures of the list that the checks cannot tell apart check alike
pub checked-alike : (n : Counts) (len len' : Kind → ℕ) (s : List ℕ) (at : ℕ)
    → ((k : Kind) → Alike k (len k) (len' k))
    → checked_at n len s at ≡ checked_at n len' s at
unfolding checked_at
checked-alike n len len' s at h = by (decoded_at n s at)
  where
    by : (p : Parsed Constraint) → and_then p (ended_by len at) ≡ and_then p (ended_by len' at)
    by (got c end) = (h c.kind).ends at c.weight end
    by (refused k v) = refl

-- the same counts check alike
pub checked_by-same : (used used' : ℕ → ℕ) (groups : List ℕ) (h : Head) (s : List ℕ)
    → ((r : ℕ) → used r ≡ used' r)
    → (at : ℕ) → checked_by used groups h s at ≡ checked_by used' groups h s at
checked_by-same used used' groups h s e at =
    checked-same (counts_in h) (length_by used groups h) (length_by used' groups h) s at
    (λ k. length-same h.times used used' (rows groups h.groups) k e)

-- counts of 0
pub zeros : (n x : ℕ) → ◌≡◌ {A = ℕ} (get_or (replicate n 0) x 0) 0
zeros zero x = refl
zeros (suc n) zero = refl
zeros (suc n) (suc x) = zeros n x
