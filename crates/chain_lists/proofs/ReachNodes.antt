-- Kind 3's nodes in the words, time by time.
use Prim.Native.Nat.{ℕ, zero, suc, ◌+◌, ◌-◌, ◌≤◌}
use mathlib.Core.Path.{◌≡◌, refl, sym}
use mathlib.Core.List.{List, [], ◌∷◌, ◌++◌, append_assoc, append-nil}
use mathlib.Core.Bool.{true, false}
use native.Mathlib.Omega.{arith}
use native.Mathlib.Nat.{add-zero}
use native.Mathlib.Numerals.{add-one}
use lib.ListN.{length, take}
use Rattle.scope.specs.Cnf.{pos, neg, or, and}
use Rattle.scope.specs.Kinds.{started, carried, both}
use Rattle.literals.specs.Words.{Holds}
use Rattle.literals.proofs.laws.Words.{holds_as}
use Rattle.literals.specs.Outputs.{every}
use Rattle.literals.specs.NodeWords.{node_words, nodes_words}
use Rattle.list_nodes.proofs.Nodes.{holds_then, holds_kept}
use Rattle.chain_lists.specs.declared.carried.Walk.{Walk}
use Rattle.chain_lists.specs.Reach.{reaches_gates, last_variable, reach_at, near_after}
use Rattle.chain_lists.specs.Walk.{Went}

-- the walk after a time that can be reached
module _ (y s t : ℕ) (w : Walk) (out : List ℕ) where
  pub went_carried : {o1 o2 : List ℕ} {a b : ℕ}
      → Holds o1 a (take w.at out ++ node_words (and (pos (y + t) ∷ every 1 (s + t) 0 ++ neg (s + t + 0) ∷ [])) w.next)
      → Holds o2 b (take a o1 ++ node_words (and (pos w.last ∷ every 1 w.next 1)) (w.next + 1))
      → b ≡ w.at + 8
      → Went y s (w.near - 1) (carried t ∷ []) w out
      (record { near = w.near - 1; next = w.next + 2; last = w.next + 1; at = b; members = w.members + 1 })
      o2
  unfolding reaches_gates last_variable nodes_words every
  went_carried h q e =
      let o = w.next in
      let M = node_words (and (pos (y + t) ∷ neg (s + t) ∷ [])) o in
      let C = node_words (and (pos w.last ∷ pos o ∷ [])) (o + 1) in
      let k : take w.at out ++ nodes_words o (reaches_gates y s (carried t ∷ []) o w.last) ≡ (take w.at out ++ M) ++ C =
      rw (← (add-one o)) (simp (append_assoc, append-nil)) in
      record {
        holds = holds_as (sym k) (holds_then C (rw (add-zero (s + t)) at h) q);
        words = omega arith;
        near = refl;
        next = refl;
        last = refl;
        members = refl;
      }

  -- and where a subevent can also start there
  pub went_both : {later after : ℕ} {c : Walk} {o1 o2 : List ℕ} {b : ℕ} → Went y s later (carried t ∷ []) w out c o1
      → Holds o2 b (take c.at o1 ++ node_words (or (pos (s + t) ∷ pos c.last ∷ [])) c.next)
      → b ≡ c.at + 4
      → Went y s after (both t ∷ []) w out (record { near = after; next = c.next + 1; last = c.next; at = b; members = c.members }) o2
  unfolding reaches_gates last_variable nodes_words
  went_both {c = c} h q e =
      let o = w.next in
      let D = node_words (or (pos (s + t) ∷ pos (o + 1) ∷ [])) (o + 2) in
      let i : suc (suc o) ≡ o + 2 = omega arith in
      let k : take w.at out ++ nodes_words o (reaches_gates y s (both t ∷ []) o w.last)
      ≡ (take w.at out ++ nodes_words o (reaches_gates y s (carried t ∷ []) o w.last)) ++ D = rw i (simp (append_assoc, append-nil)) in
      record {
        holds = holds_as (sym k) (holds_then D h.holds (rw (h.last, h.next) at q));
        words = omega (arith, h.words);
        near = refl;
        next = omega (arith, h.next);
        last = h.next;
        members = h.members;
      }

-- by whether a time can be reached, and whether it is in the group
reach-none : (near t : ℕ) → near ≡ 0 → reach_at near true t ≡ []
unfolding reach_at
reach-none near t e = rw e

reach-started : (near t : ℕ) → near ≡ 0 → reach_at near false t ≡ started t ∷ []
unfolding reach_at
reach-started near t e = rw e

pub reach-carried : (near t : ℕ) → (near ≡ 0 → ⊥) → reach_at near true t ≡ carried t ∷ []
unfolding reach_at
reach-carried zero t h = absurd (h refl)
reach-carried (suc n) t h = refl

pub reach-both : (near t : ℕ) → (near ≡ 0 → ⊥) → reach_at near false t ≡ both t ∷ []
unfolding reach_at
reach-both zero t h = absurd (h refl)
reach-both (suc n) t h = refl

-- the walk after a time that cannot be reached
module _ (y s after t : ℕ) (w : Walk) (out : List ℕ) (e : w.near ≡ 0) (l : w.at ≤ length out) where
  pub went_past : Went y s (near_after after w.near true) (reach_at w.near true t) w out w out
  unfolding reaches_gates last_variable nodes_words
  went_past =
      rw (reach-none w.near t e)
      (record {
        holds = holds_as (sym (append-nil (take w.at out))) (holds_kept out w.at l);
        words = omega arith;
        near = omega arith;
        next = omega arith;
        last = refl;
        members = omega arith;
      })

  pub went_started : Went y s (near_after after w.near false) (reach_at w.near false t) w out
      (record { near = after; next = w.next; last = s + t; at = w.at; members = w.members + 1 })
      out
  unfolding reaches_gates last_variable nodes_words
  went_started =
      rw (reach-started w.near t e)
      (record {
        holds = holds_as (sym (append-nil (take w.at out))) (holds_kept out w.at l);
        words = omega arith;
        near = refl;
        next = omega arith;
        last = refl;
        members = refl;
      })
