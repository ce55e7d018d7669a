-- The turns of the loops that read a step, by the number at an offset.
use mathlib.Core.Path.{◌≡◌, refl, sym, ap, ◌∙◌}
use mathlib.Core.Bool.{true, false, ◌&&◌}
use mathlib.Core.List.{List, [], ◌∷◌}
use Prim.Native.Nat.{ℕ, ◌+◌, ◌-◌, ◌/◌, ◌%◌, ◌≤◌}
use native.Mathlib.Omega.{arith}
use lib.Dec.{leb, eqb}
use lib.ListN.{length}
use borrow.Author.Tests.{leb-true}
use Rattle.scope.specs.Parsed.{got, refused}
use Rattle.scope.specs.Number.{number}
use Rattle.theory.proofs.laws.StepTokens.{before}
use Rattle.theory.proofs.laws.Marked.{make_false, all_false, literals_ok}
use Rattle.marks.specs.Marks.{marks_of, put_mark}
use Rattle.marks.proofs.laws.Marks.{mark-put, put-length}
use Rattle.laws.specs.Booleans.{impossible, and-true}
use Rattle.theory.proofs.laws.Tokens.{tokens-got}
use Rattle.std.specs.Prelude.{Option, Some, None}
use Rattle.reading.proofs.laws.Reading.{numbers_at, Passes, ends, cut, ReadsLiterals, reads, bad_literals}
use Rattle.spelling.specs.Spelt.{literal_ok}
use Rattle.reading.proofs.laws.Listing.{list-cut, list_more, list_end, listed_more, consed}

module _ (s : List ℕ) (at n next : ℕ) (e : number s at ≡ got n next) where
  pub passes_end : n ≡ 0 → Passes s at (Some next)
  passes_end h = ends [] next (list_end s at n next e h)

  pub passes_more : (n ≡ 0 → ⊥) → (r : Option ℕ) → Passes s next r → Passes s at r
  passes_more h r (ends ns end l) = ends (n ∷ ns) end (listed_more s at n next e h l)
  passes_more h r (cut c) = cut (list_more s at n next e h ∙ ap (before n) c)

pub passes-cut : (s : List ℕ) (at k o : ℕ) → number s at ≡ refused k o → Passes s at None
passes-cut s at k o e = cut (list-cut s at k o e)

-- the literals of a new clause
pub literals-cut : (s : List ℕ) (at last : ℕ) (ms : List ℕ) (j k o : ℕ) → number s at ≡ refused k o
    → ReadsLiterals s at last ms j ms None
literals-cut s at last ms j k o e = bad_literals (λ h ls ts f. let c = list-cut s at k o e in impossible (cc))

module _ (s : List ℕ) (at n next : ℕ) (e : number s at ≡ got n next) (last : ℕ) (ms : List ℕ) (k : ℕ) where
  pub literals_end : n ≡ 0 → ReadsLiterals s at last ms k ms (Some (k, next))
  unfolding literals_ok all_false
  literals_end h =
      let t = tokens-got s at n next e in
      reads k next t.forward t.inside
      (λ _. record { literals = []; stand = list_end s at n next e h; count = omega arith; good = refl; marks = refl })

  module _ (h : n ≡ 0 → ⊥) where
    pub literals_bad : (ms' : List ℕ) → literal_ok last (marks_of ms) n ≡ false → ReadsLiterals s at last ms k ms' None
    unfolding literals_ok
    literals_bad ms' b =
        bad_literals (λ _ ls ts f. let c = consed (numbers_at s next) (sym (list_more s at n next e h) ∙ f) in rw (c.2, b))

    pub literals_more : literal_ok last (marks_of ms) n ≡ true → (ms₁ ms' : List ℕ) (r : Option (ℕ × ℕ))
        → ms₁ ≡ put_mark ms (n / 2) (2 - n % 2)
        → ReadsLiterals s next last ms₁ (k + 1) ms' r → ReadsLiterals s at last ms k ms' r
    unfolding literals_ok all_false
    literals_more b ms₁ ms' r p t = go r t
      where
        two : leb 2 n ≡ true
        two = (and-true (leb 2 n) (leb (n / 2) last) (and-true (leb 2 n && leb (n / 2) last) (eqb (marks_of ms (n / 2)) 0) b).0).0

        most : leb (n / 2) last ≡ true
        most = (and-true (leb 2 n) (leb (n / 2) last) (and-true (leb 2 n && leb (n / 2) last) (eqb (marks_of ms (n / 2)) 0) b).0).1

        same : last ≤ length ms → marks_of ms₁ ≡ make_false (marks_of ms) n
        same l = rw p (mark-put ms (n / 2) (2 - n % 2) (omega (arith, leb-true 2 n two))
            (omega (arith, leb-true (n / 2) last most)))

        room : last ≤ length ms → last ≤ length ms₁
        room l = rw (p, put-length ms (n / 2) (2 - n % 2)) l

        go : (r : Option (ℕ × ℕ)) → ReadsLiterals s next last ms₁ (k + 1) ms' r → ReadsLiterals s at last ms k ms' r
        go r (reads size end a i f) =
            reads size end (omega (arith, (tokens-got s at n next e).forward)) i
            (λ l.
            let a = f (room l) in
            record {
              literals = n ∷ a.literals;
              stand = listed_more s at n next e h a.stand;
              count = omega (arith, a.count);
              good = rw b (rw (same l) at a.good);
              marks = rw (same l) at a.marks;
            })
        go r (bad_literals f) =
            bad_literals
            (λ l ls ts g.
            let c = consed (numbers_at s next) (sym (list_more s at n next e h) ∙ g) in
            rw (c.2, b) (rw (same l) at (f (room l) c.0 ts c.1)))
