-- The loop that reads a clause's literals: what is left falls, and what it comes to.
use mathlib.Core.Path.{◌≡◌, refl, sym, ap, subst}
use mathlib.Core.Bool.{true, false, cond}
use mathlib.Core.List.{List}
use Prim.Native.Nat.{ℕ, suc, ◌+◌, ◌-◌, ◌/◌, ◌%◌, ◌≤◌, ◌<◌}
use native.Mathlib.Omega.{arith}
use lib.Dec.{eqb}
use lib.ListN.{length}
use borrow.Author.Tests.{eq-eqb, ne_eqb}
use Rattle.std.specs.Prelude.{Option, Some, None}
use Rattle.scope.specs.Parsed.{Parsed, got, refused}
use Rattle.scope.specs.Number.{number}
use Rattle.parsing.proofs.laws.Numbers.{number-got}
use Rattle.marks.specs.Marks.{marks_of, put_mark}
use Rattle.reader.proofs.Loops.{Left, left_over, left_more, either, nearer}
use Rattle.spelling.specs.Spelt.{literal_ok, Spelling, spelling, spelt, spelt_by, Spelled, spell_turn, spelt_from, literals_at}

module _ (s : List ℕ) where
  -- literals that are read
  module _ (last : ℕ) where
    abbrev pub to_spell : Spelled → ℕ
    to_spell x = cond x.state.more (suc (length s - x.state.at)) 0

    abbrev reach : Spelling → ℕ
    reach p = cond p.more (suc (length s - p.at)) 0

    spell_less : (p : Spelling) (ms : List ℕ) (x : Parsed ℕ) → number s p.at ≡ x → reach (spelt_by last ms p x) < suc (length s - p.at)
    spell_less p ms (refused k v) e = omega arith
    spell_less p ms (got l next) e =
        either reach (eqb l 0) _ _ (suc (length s - p.at)) (omega arith)
        (either reach (literal_ok last (marks_of ms) l) (spelling next (p.size + 1)) _ (suc (length s - p.at)) (nearer s p.at l next e) (omega arith))

    pub spell_falls : (x : Spelled) → x.state.more ≡ true → to_spell (spell_turn s last x) < to_spell x
    spell_falls x e =
        subst (λ t. to_spell (spell_turn s last x) < cond t (suc (length s - x.state.at)) 0) (sym e)
        (spell_less x.state x.marks (number s x.state.at) refl)

    abbrev going : ℕ → ℕ → List ℕ → Spelled
    going at size ms = record { state = spelling at size; marks = ms }

    abbrev over : ℕ → ℕ → Option (ℕ × ℕ) → List ℕ → Spelled
    over at size found ms = record { state = spelt at size found; marks = ms }

    -- the literals at an offset, of which size were read, with the marks ms; those are no more than the bytes
    pub record Going (from : ℕ) (ms₀ : List ℕ) (at size : ℕ) (ms : List ℕ) : Type 0 where
      pub early : size ≤ at
      pub few : size ≤ length s
      pub left : Left (λ x. x.state.more) (spell_turn s last) to_spell (spelt_from s last (suc (length s)) (going from 0 ms₀)) (going at size ms)

    pub going-start : (at : ℕ) (ms : List ℕ) → Going at ms at 0 ms
    going-start at ms =
        record { early = omega arith; few = omega arith; left = record { fuel = suc (length s); enough = omega arith; todo = refl } }

    module _ (from : ℕ) (ms₀ : List ℕ) (at size : ℕ) (ms : List ℕ) (g : Going from ms₀ at size ms) where
      turn : (q : Spelled) → spell_turn s last (going at size ms) ≡ q
          → Left (λ x. x.state.more) (spell_turn s last) to_spell (spelt_from s last (suc (length s)) (going from 0 ms₀)) q
      turn q e =
          rw e at (left_more (λ x. x.state.more) (spell_turn s last) to_spell _ (going at size ms) g.left refl (spell_falls (going at size ms) refl))

      -- what is found, and the marks then
      abbrev pub Found : Option (ℕ × ℕ) → List ℕ → Type 0
      Found x us = (x ≡ (literals_at s from last ms₀).found) × (us ≡ (literals_at s from last ms₀).marks)

      stop : (to : ℕ) (x : Option (ℕ × ℕ)) (us : List ℕ) → spell_turn s last (going at size ms) ≡ over to size x us → Found x us
      unfolding literals_at
      stop to x us e =
          let z = left_over (λ x. x.state.more) (spell_turn s last) to_spell _ (over to size x us) (turn _ e) refl in
          (ap (λ x. x.state.found) z, ap (λ x. x.marks) z)

      pub going-cut : (k v : ℕ) → number s at ≡ refused k v → Found None ms
      going-cut k v e = stop at None ms (rw e)

      module _ (l next : ℕ) (e : number s at ≡ got l next) where
        pub going-end : l ≡ 0 → Found (Some (size, next)) ms
        going-end z = stop next (Some (size, next)) ms (rw (e, eq-eqb l 0 z))

        module _ (z : l ≡ 0 → ⊥) where
          pub going-bad : literal_ok last (marks_of ms) l ≡ false → Found None ms
          going-bad b = stop next None ms (rw (e, ne_eqb l 0 z, b))

          pub going-more : literal_ok last (marks_of ms) l ≡ true → Going from ms₀ next (size + 1) (put_mark ms (l / 2) (2 - l % 2))
          going-more b =
              let k = number-got s at e in
              record {
                early = omega (arith, g.early, k.ahead);
                few = omega (arith, g.early, k.ahead, k.inside);
                left = turn (going next (size + 1) (put_mark ms (l / 2) (2 - l % 2))) (rw (e, ne_eqb l 0 z, b));
              }
