-- The loop that copies a clause's literals into the words: what is left falls, and what it comes to.
use mathlib.Core.Path.{◌≡◌, refl, sym, ap, subst}
use mathlib.Core.Bool.{true, cond}
use mathlib.Core.List.{List}
use Prim.Native.Nat.{ℕ, suc, ◌+◌, ◌-◌, ◌≤◌, ◌<◌}
use lib.Dec.{eqb, leb}
use native.Mathlib.Omega.{arith}
use lib.ListN.{length, set}
use lib.Seq.{set_out}
use borrow.Author.Tests.{eq-eqb, ne_eqb, le-leb, lt-leb}
use Rattle.scope.specs.Parsed.{Parsed, got, refused}
use Rattle.scope.specs.Number.{number}
use Rattle.reader.proofs.Loops.{Left, left_over, left_more, either, nearer}
use Rattle.copying.specs.Copies.{Copying, copying, copied, copied_by, Copied, copy_turn, copied_from, copied_at}

module _ (s : List ℕ) where
  abbrev pub to_copy : Copied → ℕ
  to_copy x = cond x.state.more (suc (length s - x.state.at)) 0

  abbrev reach : Copying → ℕ
  reach p = cond p.more (suc (length s - p.at)) 0

  copy_less : (p : Copying) (ws : List ℕ) (x : Parsed ℕ) → number s p.at ≡ x → reach (copied_by ws p x) < suc (length s - p.at)
  copy_less p ws (refused k v) e = omega arith
  copy_less p ws (got l next) e =
      either reach (eqb l 0) _ _ (suc (length s - p.at)) (omega arith)
      (either reach (leb (length ws) p.to) _ (copying next (p.to + 1)) (suc (length s - p.at)) (omega arith) (nearer s p.at l next e))

  pub copy_falls : (x : Copied) → x.state.more ≡ true → to_copy (copy_turn s x) < to_copy x
  copy_falls x e =
      subst (λ t. to_copy (copy_turn s x) < cond t (suc (length s - x.state.at)) 0) (sym e)
      (copy_less x.state x.words (number s x.state.at) refl)

  abbrev going : ℕ → ℕ → List ℕ → Copied
  going at to ws = record { state = copying at to; words = ws }

  -- the literals at an offset, of which those before at were copied, with the words ws
  abbrev pub Going : ℕ → List ℕ → ℕ → ℕ → ℕ → List ℕ → Type 0
  Going from ws₀ first at to ws =
      Left (λ x. x.state.more) (copy_turn s) to_copy (copied_from s (suc (length s)) (going from first ws₀)) (going at to ws)

  pub going-start : (at : ℕ) (ws : List ℕ) (first : ℕ) → Going at ws first at first ws
  going-start at ws first = record { fuel = suc (length s); enough = omega arith; todo = refl }

  module _ (from : ℕ) (ws₀ : List ℕ) (first at to : ℕ) (ws : List ℕ) (g : Going from ws₀ first at to ws) where
    turn : (q : Copied) → copy_turn s (going at to ws) ≡ q
        → Left (λ x. x.state.more) (copy_turn s) to_copy (copied_from s (suc (length s)) (going from first ws₀)) q
    turn q e = rw e at (left_more (λ x. x.state.more) (copy_turn s) to_copy _ (going at to ws) g refl (copy_falls (going at to ws) refl))

    stop : (next : ℕ) (us : List ℕ) → copy_turn s (going at to ws) ≡ record { state = copied next to; words = us } → us ≡ copied_at s from ws₀ first
    unfolding copied_at
    stop next us e =
        ap (λ x. x.words) (left_over (λ x. x.state.more) (copy_turn s) to_copy _ (record { state = copied next to; words = us }) (turn _ e) refl)

    pub going-cut : (k v : ℕ) → number s at ≡ refused k v → ws ≡ copied_at s from ws₀ first
    going-cut k v e = stop at ws (rw e)

    module _ (l next : ℕ) (e : number s at ≡ got l next) where
      pub going-end : l ≡ 0 → ws ≡ copied_at s from ws₀ first
      going-end z = stop next ws (rw (e, eq-eqb l 0 z))

      module _ (z : l ≡ 0 → ⊥) where
        pub going-full : length ws ≤ to → ws ≡ copied_at s from ws₀ first
        going-full h = stop next ws (rw (e, ne_eqb l 0 z, le-leb (length ws) to h, set_out ws to l h))

        pub going-more : to < length ws → Going from ws₀ first next (to + 1) (set ws to l)
        going-more h = turn (going next (to + 1) (set ws to l)) (rw (e, ne_eqb l 0 z, lt-leb (length ws) to h))
