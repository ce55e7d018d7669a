-- What a check answers, from what is ready and what the driver leaves: laws.
use mathlib.Core.Path.{◌≡◌, sym, ap, ◌∙◌}
use mathlib.Core.List.{List}
use Prim.Native.Nat.{ℕ, ◌≤◌}
use native.Mathlib.Omega.{arith}
use lib.ListN.{length, drop, replicate, length-replicate}
use Rattle.std.specs.Prelude.{Result}
use Rattle.scope.specs.Parsed.{Answer, answered, refusal}
use Rattle.scope.specs.Formula.{words}
use Rattle.scope.specs.Answers.{given, means}
use Rattle.scope.specs.Operations.{Lent}
use Rattle.scope.specs.declared.refusal.Refusal.{Refusal}
use Rattle.laws.specs.Booleans.{impossible}
use Rattle.theory.proofs.laws.Answered.{answered-value}
use Rattle.marks.proofs.laws.Marks.{marks-cleared}
use Rattle.run_meaning.proofs.laws.Meaning.{check-means}
use Rattle.claims.specs.declared.claim.Claim.{Claim}
use Rattle.claims.specs.declared.prepare.Ready.{Ready}
use Rattle.claims.specs.Prepared.{lent, asked, formula_for, ready_of, words_with}
use Rattle.claims.proofs.laws.Asked.{asked-for, formula-fits}
use Rattle.checker.specs.Checked.{Followed}

-- zeros, where a store is as long as it was
pub zeros-kept : {X : Type 0} (x : X) {xs : List X} {m n : ℕ} → xs ≡ replicate m x → m ≡ n → xs ≡ replicate n x
zeros-kept x e long = e ∙ ap (λ (n : ℕ). replicate n x) long

-- a refusal of what comes first is the answer
pub refused-checked : (file : List ℕ) (c : Claim) (s : List ℕ) (l : Lent) (a : Answer (ℕ × List (List ℕ))) (f : Refusal)
    → formula_for file c l ≡ a → given f ≡ ready_of a → given f ≡ asked file c l s
refused-checked file c s l (answered x) f e told = impossible (cc)
refused-checked file c s l (refusal k v) f e told =
    let q : given {A = ℕ} f ≡ refusal k v = cc in q ∙ sym (asked-for file c l s ∙ rw e)

-- the stores are lent as us, as many rows as cap and b bytes; ws and ms are what is ready in them
module _ (file : List ℕ) (c : Claim) (s us ws : List ℕ) (cap : ℕ) (ms : List ℕ) (b : ℕ) (r : Result ℕ Refusal)
    (cleared : ms ≡ replicate b 0) (same : length ws ≡ length us) (short : length us ≤ 9223372036854775807) where
  formula_checked : (f : ℕ × List (List ℕ)) → formula_for file c (lent (length us) cap b) ≡ answered f → ws ≡ words_with (answered f) us
      → Followed s ws cap ms (words f.1) f.0 r → means r ≡ asked file c (lent (length us) cap b) s
  formula_checked f e stand q =
      let p = formula-fits file c (lent (length us) cap b) e in
      let long : length q.words ≡ length us = q.long ∙ same in
      let bytes : length ms ≡ b = ap length cleared ∙ length-replicate b 0 in
      let m = check-means s f.0 q.count q.lent q.rows ws q.words ms r f.1 (drop (words f.1) us)
      p.storable.plain p.storable.good p.storable.narrow (omega (arith, p.storable.few)) (omega arith)
      stand (omega (arith, p.rows_fit_lem, q.room)) (omega (arith, p.bytes_fit)) (rw cleared (marks-cleared b)) q.built q.same q.few q.driven in
      rw (long, q.room) at m ∙ sym (asked-for file c (lent (length us) cap b) s ∙ rw e)

  pub checked : (d : Ready) (a : Answer (ℕ × List (List ℕ))) → formula_for file c (lent (length us) cap b) ≡ a → answered d ≡ ready_of a
      → ws ≡ words_with a us → Followed s ws cap ms d.used d.last r → means r ≡ asked file c (lent (length us) cap b) s
  checked d (answered f) e told stand q = formula_checked f e stand (rw (answered-value told) at q)
  checked d (refusal k v) e told stand q = impossible (cc)
