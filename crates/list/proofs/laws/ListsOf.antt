-- How many lists a kind has: it goes by its fields alone: laws.
use Prim.Native.Nat.{ℕ}
use mathlib.Core.Path.{◌≡◌, refl, sym, ◌∙◌}
use mathlib.Core.List.{List, map}
use lib.ListN.{length, length-map}
use Rattle.scope.specs.Kinds.{clash, Y, atom, entries, up_to, counted_of}
use Rattle.constraint.specs.declared.clash.Clash.{Clash}
use Rattle.constraint.specs.declared.kinds.Kind.{Kind}
use Rattle.list.specs.ListsOf.{ListsOf}
use Rattle.list_nodes.proofs.laws.Runs.{length_from_lem}

-- those of a clash
pub clash-lists : (T : ℕ) (dur : ℕ → ℕ) (us group : ℕ → List ℕ) (r : ℕ) → T ≡ length (counted_of T dur us group (clash r)).lists
unfolding counted_of
clash-lists T dur us group r =
    sym (length-map (up_to T) (λ t. entries (map (λ e. atom (Y e t)) (us r))) ∙ length_from_lem 1 T)

-- one of each other kind
pub one-list : (k : Kind) (T : ℕ) → ((x : Clash) → k ≡ Kind.Clash x → ⊥) → ListsOf k T 1
unfolding counted_of
one-list (Kind.Clash x) T h = absurd (h x refl)
one-list (Kind.Unavailable x) T h = record { eq = λ dur us group l. refl }
one-list (Kind.Preferred x) T h = record { eq = λ dur us group l. refl }
one-list (Kind.Split x) T h = record { eq = λ dur us group l. refl }
one-list (Kind.Spread x) T h = record { eq = λ dur us group l. refl }
one-list (Kind.Busy x) T h = record { eq = λ dur us group l. refl }
one-list (Kind.Cluster x) T h = record { eq = λ dur us group l. refl }
one-list (Kind.Idle x) T h = record { eq = λ dur us group l. refl }
one-list (Kind.Distribute x) T h = record { eq = λ dur us group l. refl }
one-list (Kind.Lengths x) T h = record { eq = λ dur us group l. refl }
one-list (Kind.Precedence x) T h = record { eq = λ dur us group l. refl }
