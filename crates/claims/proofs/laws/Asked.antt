-- What is answered for a claim goes by the formula that is ready: the plain run over its clauses, which can stand in the stores.
use mathlib.Core.Path.{◌≡◌, refl, sym, ap, ◌∙◌}
use mathlib.Core.Bool.{Bool, true, false, ◌&&◌}
use mathlib.Core.List.{List}
use Prim.Native.Nat.{ℕ, ◌≤◌}
use lib.Dec.{leb}
use lib.ListN.{length}
use borrow.Author.Tests.{leb-true}
use Rattle.laws.specs.Booleans.{and-true, impossible}
use Rattle.scope.specs.Parsed.{Parsed, got, refused, Answer, answered, refusal, with, then, provided}
use Rattle.scope.specs.Instance.{Instance, parse}
use Rattle.scope.specs.Formula.{words, variables, hard_of, bounded_variables, bounded_hard, most_bound, most_variables}
use Rattle.scope.specs.PlainRun.{plain_run}
use Rattle.scope.specs.Operations.{Lent, of_size, of_bound, formula_fits, limits_of, against, check_of, check_hard_of}
use Rattle.theory.proofs.laws.Accepted.{gives-instance}
use Rattle.theory.proofs.laws.Answered.{answered-value, provided_answers}
use Rattle.sizes.specs.Measured.{sized_of, bounded_of}
use Rattle.sizes.proofs.laws.Measured.{size-then, bound-then}
use Rattle.claims.specs.declared.claim.Claim.{Claim}
use Rattle.claims.proofs.laws.Prepared.{bounded_for, hard_for}
use Rattle.claims.proofs.laws.Storable.{Storable, hard_storable, bounded_storable}
use Rattle.claims.specs.Prepared.{asked, fitting, formula_for}

-- the plain run over a formula
abbrev pub judged_by : List ℕ → Lent → ℕ × List (List ℕ) → Answer ℕ
judged_by proof l f = plain_run (limits_of f.0 l) f.1 proof

-- a proof is judged against clauses that fit
against-fitting : (last : ℕ) (f : List (List ℕ)) (proof : List ℕ) (l : Lent)
    → against last f proof l ≡ then (fitting last f l) (judged_by proof l)
against-fitting last f proof l = go (formula_fits last f l)
  where
    go : (b : Bool) → provided b 9 0 (judged_by proof l (last, f)) ≡ then (provided b 9 0 (answered (last, f))) (judged_by proof l)
    go true = refl
    go false = refl

-- an operation that goes on in two parts
then-parts : {A B C : Type 0} (a : Answer A) (f : A → Answer C) (g : A → Answer B) (h : B → Answer C)
    → ((x : A) → f x ≡ then (g x) h) → then a f ≡ then (then a g) h
then-parts (answered x) f g h e = e x
then-parts (refusal k v) f g h e = refl

-- the formula first, and then the plain run
pub asked-for : (s : List ℕ) (c : Claim) (l : Lent) (proof : List ℕ) → asked s c l proof ≡ then (formula_for s c l) (judged_by proof l)
unfolding check_of check_hard_of
asked-for s (Claim.Bound B) l proof =
    let f : Instance → Answer ℕ = λ i. against (bounded_variables i B) (bounded_hard i B) proof l in
    let g : Instance → Answer (ℕ × List (List ℕ)) = λ i. fitting (bounded_variables i B) (bounded_hard i B) l in
    bound-then s B f
    ∙ then-parts (bounded_of s B) f g (judged_by proof l) (λ i. against-fitting (bounded_variables i B) (bounded_hard i B) proof l)
    ∙ ap (λ (a : Answer (ℕ × List (List ℕ))). then a (judged_by proof l)) (sym (bounded_for s B l))
asked-for s Claim.AnyCost l proof =
    let f : Instance → Answer ℕ = λ i. against (variables i) (hard_of i) proof l in
    let g : Instance → Answer (ℕ × List (List ℕ)) = λ i. fitting (variables i) (hard_of i) l in
    size-then s f
    ∙ then-parts (sized_of s) f g (judged_by proof l) (λ i. against-fitting (variables i) (hard_of i) proof l)
    ∙ ap (λ (a : Answer (ℕ × List (List ℕ))). then a (judged_by proof l)) (sym (hard_for s l))

-- clauses that can stand in the stores, with rows and bytes enough
pub record Fits (l : Lent) (f : ℕ × List (List ℕ)) : Type 0 where
  pub storable : Storable f.0 f.1
  pub rows_fit_lem : length f.1 ≤ l.rows
  pub bytes_fit : f.0 ≤ l.bytes

fitting-fits : (last : ℕ) (f : List (List ℕ)) (l : Lent) {x : ℕ × List (List ℕ)} → Storable last f → fitting last f l ≡ answered x
    → Fits l x
unfolding formula_fits
fitting-fits last f l g e =
    let a : Answer (ℕ × List (List ℕ)) = answered (last, f) in
    let p = (provided_answers (formula_fits last f l) 9 0 a).0 e in
    let t = and-true (leb (words f) l.words && leb (length f) l.rows) (leb last l.bytes) p.0 in
    let u = and-true (leb (words f) l.words) (leb (length f) l.rows) t.0 in
    rw (← answered-value p.1)
    (record {
      storable = g;
      rows_fit_lem = leb-true (length f) l.rows u.1;
      bytes_fit = leb-true last l.bytes t.1;
    })

-- the formula that is ready
pub formula-fits : (s : List ℕ) (c : Claim) (l : Lent) {f : ℕ × List (List ℕ)} → formula_for s c l ≡ answered f → Fits l f
unfolding formula_for
formula-fits s (Claim.Bound B) l {f} e = go (parse s) refl e
  where
    go : (p : Parsed Instance) → parse s ≡ p
        → with p (λ i. of_bound i B (fitting (bounded_variables i B) (bounded_hard i B) l)) ≡ answered f → Fits l f
    go (got i end) q e =
        let a = fitting (bounded_variables i B) (bounded_hard i B) l in
        let p = (provided_answers (leb B most_bound) 7 B (provided (leb (bounded_variables i B) most_variables) 8 0 a)).0 e in
        let r = (provided_answers (leb (bounded_variables i B) most_variables) 8 0 a).0 p.1 in
        fitting-fits (bounded_variables i B) (bounded_hard i B) l
        (bounded_storable i ((gives-instance s).known i end q) B (leb-true (bounded_variables i B) most_variables r.0)) r.1
    go (refused k v) q e = impossible (cc)
formula-fits s Claim.AnyCost l {f} e = go (parse s) refl e
  where
    go : (p : Parsed Instance) → parse s ≡ p → with p (λ i. of_size i (fitting (variables i) (hard_of i) l)) ≡ answered f → Fits l f
    go (got i end) q e =
        let p = (provided_answers (leb (variables i) most_variables) 8 0 (fitting (variables i) (hard_of i) l)).0 e in
        fitting-fits (variables i) (hard_of i) l
        (hard_storable i ((gives-instance s).known i end q) (leb-true (variables i) most_variables p.0)) p.1
    go (refused k v) q e = impossible (cc)
