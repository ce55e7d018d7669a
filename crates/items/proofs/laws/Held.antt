-- Gathered literals as the writers want them.
use mathlib.Core.Path.{◌≡◌, ap, ◌∙◌, sym}
use mathlib.Core.List.{List}
use Prim.Native.Nat.{ℕ, ◌≤◌, ◌<◌}
use native.Mathlib.Omega.{arith}
use lib.ListN.{length, take, get_or}
use lib.Seq.{get_or-take}
use Rattle.parsing.specs.Each.{Each}
use Rattle.parsing.proofs.laws.Each.{each_at}
use Rattle.literals.specs.Words.{Holds}
use Rattle.literals.specs.Proper.{Proper}
use Rattle.counters.specs.Literals.{LiteralsTo, Literals}
use Rattle.counters.proofs.laws.Literals.{literals-take}

-- as many as were gathered
pub held-length : {words : List ℕ} {n : ℕ} {xs : List ℕ} → Holds words n xs → length (take n words) ≡ n
held-length h = ap length h.front ∙ sym h.count

module _ {words : List ℕ} {n : ℕ} {xs : List ℕ} (h : Holds words n xs) (p : Each Proper xs) where
  -- the first n words are literals
  pub held_literals : LiteralsTo n words
  held_literals i l =
      let k : i < length xs = omega (arith, h.count) in
      let e : get_or words i 0 ≡ get_or xs i 0 = sym (get_or-take n words i 0 l) ∙ ap (λ (ys : List ℕ). get_or ys i 0) h.front in
      let q = each_at i 0 p k in
      rw e (record { some = q.low; small = q.high })

  -- and so are they by themselves
  pub front_literals : n ≤ length words → Literals (take n words)
  front_literals l = literals-take n words l held_literals
