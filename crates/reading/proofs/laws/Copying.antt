-- What the loop that copies a clause's literals comes to.
use mathlib.Core.Path.{◌≡◌, refl, sym, ap, ◌∙◌}
use mathlib.Core.Bool.{Bool, true, false, cond}
use mathlib.Core.List.{List, [], ◌∷◌}
use Prim.Native.Nat.{ℕ, zero, suc, ◌+◌, ◌-◌, ◌≤◌, ◌<◌}
use lib.Dec.{eqb, leb}
use borrow.Author.Tests.{eqb-true, eqb-false, leb-true}
use native.Mathlib.Omega.{arith}
use native.Mathlib.Numerals.{add-one}
use lib.ListN.{length, set}
use lib.Seq.{sets, set_out}
use Rattle.scope.specs.Parsed.{Parsed, got, refused}
use Rattle.scope.specs.Number.{number}
use Rattle.theory.proofs.laws.StepTokens.{Tokens, up_to0}
use Rattle.laws.specs.Booleans.{impossible}
use Rattle.reader.specs.Loop.{while_more}
use Rattle.reader.proofs.Loops.{closed_same, nearer}
use Rattle.copying.specs.Copies.{Copying, copying, copied, copied_by, copied_words, copy_turn, copied_from, copied_at}
use Rattle.reading.proofs.laws.Reading.{numbers_at}
use Rattle.reading.proofs.laws.Listing.{list-cut, list_more, list_end, consed}

-- what is copied where literals stand
pub record Copies (s : List ℕ) (at : ℕ) (ws : List ℕ) (first : ℕ) (ws' : List ℕ) : Type 0 where
  pub copies : (ls : List ℕ) (ts : Tokens) → numbers_at s at ≡ up_to0 ls ts → ws' ≡ sets ws first ls

-- past the words nothing is stored
sets-past : (ws ls : List ℕ) (k : ℕ) → length ws ≤ k → sets ws k ls ≡ ws
sets-past ws [] k h = refl
sets-past ws (l ∷ ls) k h = rw (set_out ws k l h) (sets-past ws ls (suc k) (omega arith))

pub copies-cut : (s : List ℕ) (at k o : ℕ) (ws : List ℕ) (first : ℕ) → number s at ≡ refused k o → Copies s at ws first ws
copies-cut s at k o ws first e = record { copies = λ ls ts f. let c = list-cut s at k o e in impossible (cc) }

pub copies-past : (s : List ℕ) (at : ℕ) (ws : List ℕ) (first : ℕ) → length ws ≤ first → Copies s at ws first ws
copies-past s at ws first h = record { copies = λ ls ts f. sym (sets-past ws ls first h) }

module _ (s : List ℕ) (at n next : ℕ) (e : number s at ≡ got n next) (ws : List ℕ) (first : ℕ) where
  pub copies_end : n ≡ 0 → Copies s at ws first ws
  copies_end h =
      record {
        copies =
            λ ls ts f.
            let l = (list_end s at n next e h).listed in
            let z : ls ≡ [] = cc in
            rw z;
      }

  pub copies_more : (n ≡ 0 → ⊥) → (ws' : List ℕ) → Copies s next (set ws first n) (first + 1) ws' → Copies s at ws first ws'
  copies_more h ws' t =
      record {
        copies =
            λ ls ts f.
            let c = consed (numbers_at s next) (sym (list_more s at n next e h) ∙ f) in
            rw c.2 (rw add-one at (t.copies c.0 ts c.1));
      }

module _ (s : List ℕ) where
  abbrev from : ℕ → Copying → List ℕ → List ℕ
  from k p ws = (copied_from s k (record { state = p; words = ws })).words

  copies_from : (k at : ℕ) (ws : List ℕ) (to : ℕ) → length s - at < k → Copies s at ws to (from k (copying at to) ws)
  unfolding while_more
  copies_from zero at ws to h = absurd (omega arith)
  copies_from (suc k) at ws to h = go (λ next ws'. copies_from k next ws' (to + 1)) (number s at) refl
    where
      same : (p : Copying) (ws : List ℕ) → p.more ≡ false → from k p ws ≡ ws
      same p ws e = ap (λ x. x.words) (closed_same (λ x. x.state.more) (copy_turn s) k (record { state = p; words = ws }) e)

      room_or : (l next : ℕ) → number s at ≡ got l next → (l ≡ 0 → ⊥) → Copies s next (set ws to l) (to + 1) (from k (copying next (to + 1)) (set ws to l))
          → (t : Bool) → leb (length ws) to ≡ t → Copies s at ws to (from k (cond t (copied next to) (copying next (to + 1))) (set ws to l))
      room_or l next e n ih true t =
          rw (same (copied next to) (set ws to l) refl, set_out ws to l (leb-true (length ws) to t)) (copies-past s at ws to (leb-true (length ws) to t))
      room_or l next e n ih false t = copies_more s at l next e ws to n _ ih

      zero_or : (l next : ℕ) → number s at ≡ got l next → Copies s next (set ws to l) (to + 1) (from k (copying next (to + 1)) (set ws to l))
          → (t : Bool) → eqb l 0 ≡ t
          → Copies s at ws to (from k (cond t (copied next to) (cond (leb (length ws) to) (copied next to) (copying next (to + 1)))) (cond t ws (set ws to l)))
      zero_or l next e ih true t = rw (same (copied next to) ws refl) (copies_end s at l next e ws to (eqb-true l 0 t))
      zero_or l next e ih false t = room_or l next e (eqb-false l 0 t) ih (leb (length ws) to) refl

      go : ((next : ℕ) (ws' : List ℕ) → length s - next < k → Copies s next ws' (to + 1) (from k (copying next (to + 1)) ws')) → (x : Parsed ℕ) → number s at ≡ x
          → Copies s at ws to (from k (copied_by ws (copying at to) x) (copied_words ws (copying at to) x))
      go ih (refused j v) e = rw (same (copied at to) ws refl) (copies-cut s at j v ws to e)
      go ih (got l next) e = zero_or l next e (ih next (set ws to l) (omega (arith, nearer s at l next e))) (eqb l 0) refl

  pub copies_at : (at : ℕ) (ws : List ℕ) (first : ℕ) → Copies s at ws first (copied_at s at ws first)
  unfolding copied_at
  copies_at at ws first = copies_from (suc (length s)) at ws first (omega arith)
