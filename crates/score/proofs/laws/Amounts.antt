-- The sums over the constraints of an accepted file: laws.
use Prim.Native.Nat.{ℕ, ◌+◌, ◌*◌, ◌<◌, ◌≤◌}
use mathlib.Core.Path.{◌≡◌, refl, ◌∙◌}
use Rattle.std.proofs.Common.{Result, Ok, Err}
use Rattle.std.specs.Result.{IsOk}
use mathlib.Core.Bool.{Bool, true, false, cond}
use mathlib.Core.List.{List}
use lib.ListN.{length, drop}
use lib.Dec.{eqb}
use native.Mathlib.Omega.{arith}
use native.Mathlib.Nat.{add-zero, zero-add, add_assoc, mul-le-mul}
use Rattle.scope.specs.Kinds.{Kind}
use Rattle.constraint.specs.declared.kinds.Head.{Head}
use Rattle.scope.specs.declared.refusal.Refusal.{Refusal}
use Rattle.constraint.specs.declared.kinds.Constraint as decl
use Rattle.constraint.specs.Answers.{counts_in, kind_of, constraint_of, said_next}
use Rattle.constraint.proofs.laws.Valid.{DecodedAt}
use Rattle.constraint.specs.Walk.{Walk}
use Rattle.constraint.proofs.laws.Walk.{walk_start, Turn, walk_read, walk_refused, walk_end}
use Rattle.constraint.specs.Decoded.{decoded_at}
use Rattle.score.specs.Amounts.{decoded_of, hard_sum, soft_sum, Walkable}

cond-most : (t : Bool) (n : ℕ) → cond t n 0 ≤ n
cond-most true n = omega arith
cond-most false n = omega arith

-- the state of a walk that has charged i constraints, f of each: the amounts so far, and with what is left the whole
pub record Charged (s : List ℕ) (h : Head) (f : Kind → ℕ) (l : List ℕ) (next hard soft i : ℕ) : Type 0 where
  pub passed : i ≤ h.constraints
  pub room : length l ≡ 2048
  pub hard_most : hard ≤ i * 4294967296
  pub soft_most : soft ≤ i * 4294967296000
  pub walk : Walk (counts_in h) s h.constraints i next (decoded_of s h)
  pub hard_left : hard + hard_sum f (drop i (decoded_of s h)) ≡ hard_sum f (decoded_of s h)
  pub soft_left : soft + soft_sum f (drop i (decoded_of s h)) ≡ soft_sum f (decoded_of s h)

module _ {s : List ℕ} {h : Head} {b u x gs l₀ : List ℕ} (w : Walkable s h b u x gs l₀) where
  pub charged_start : (f : Kind → ℕ) → Charged s h f l₀ h.start 0 0 0
  charged_start f =
      record {
        passed = omega arith;
        room = w.room;
        hard_most = omega arith;
        soft_most = omega arith;
        walk = walk_start (counts_in h) s h.constraints h.start (decoded_of s h) w.whole;
        hard_left = zero-add (hard_sum f (decoded_of s h));
        soft_left = zero-add (soft_sum f (decoded_of s h));
      }

  module _ {f : Kind → ℕ} {l : List ℕ} {next hard soft i : ℕ} (a : Charged s h f l next hard soft i) where
    -- the next constraint, which the call put into the store l'
    module _ (t : i < h.constraints) (l' : List ℕ) (y : Result (decl.Constraint × ℕ) Refusal) (e : said_next l' y ≡ decoded_at (counts_in h) s next) where
      pub never_refused : IsOk y
      never_refused = by y refl
        where
          by : (r : Result (decl.Constraint × ℕ) Refusal) → y ≡ r → IsOk r
          by (Ok p) q = refl
          by (Err g) q = absurd (walk_refused a.walk t l' y e q)

      module _ {c : decl.Constraint} {after : ℕ} (r : y ≡ Ok (c, after)) where
        turn : Turn a.walk t l' y e (constraint_of l' c) after
        turn = walk_read a.walk t l' y e r

        pub next_valid : DecodedAt (counts_in h) s next (constraint_of l' c) after
        next_valid = turn.valid

        pub charged_more : {d hard' soft' : ℕ} → length l' ≡ length l → d ≡ f (kind_of l' c.kind) → d < 4294967296
            → hard' ≡ hard + cond (eqb c.weight 0) d 0 → soft' ≡ soft + c.weight * d → Charged s h f l' after hard' soft' (i + 1)
        unfolding hard_sum soft_sum
        charged_more {d} {hard'} {soft'} k ed small eh es =
            let small' : d ≤ 4294967296 = omega arith in
            record {
              passed = omega arith;
              room = k ∙ a.room;
              hard_most = omega (arith, a.hard_most, cond-most (eqb c.weight 0) d);
              soft_most = omega (arith, a.soft_most, mul-le-mul {n₁ = c.weight} {m₁ = d} {n₂ = 1000} {m₂ = 4294967296} next_valid.weight small');
              walk = turn.walk;
              hard_left = rw (eh, ed, add_assoc) (rw turn.whole at a.hard_left);
              soft_left = rw (es, ed, add_assoc) (rw turn.whole at a.soft_left);
            }

    pub amounts_small : (hard ≤ 17592186044416) × (soft ≤ 17592186044416000)
    amounts_small = (omega (arith, a.passed, a.hard_most, w.count), omega (arith, a.passed, a.soft_most, w.count))

    pub charged_end : h.constraints ≤ i → (hard ≡ hard_sum f (decoded_of s h)) × (soft ≡ soft_sum f (decoded_of s h))
    unfolding hard_sum soft_sum
    charged_end k =
        let none = walk_end a.walk k in
        (rw (none, add-zero) at a.hard_left, rw (none, add-zero) at a.soft_left)
