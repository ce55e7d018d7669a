-- What is told of lines: one by its first byte, and all of them.
use Prim.Native.Nat.{ℕ, ◌+◌, ◌≤◌, ◌<◌}
use mathlib.Core.Path.{◌≡◌, refl, sym, ap, ◌∙◌}
use mathlib.Core.Bool.{Bool, true, false, cond}
use mathlib.Core.List.{List, []}
use native.Mathlib.Omega.{arith}
use Rattle.std.specs.Prelude.{Ok, Err}
use native.Mathlib.Numerals.{add-one}
use lib.Dec.{ltb, eqb}
use lib.ListN.{length, get_or}
use borrow.Author.Tests.{eq-eqb, ne_eqb, eqb-true, eqb-false, ltb-false}
use Rattle.scope.specs.SolverText.{after_v, passed_over, line_tokens}
use Rattle.solver_words.proofs.laws.Words.{until_here, until_on}
use Rattle.solver_lines.specs.Noting.{Left, left, stopped, then_left, noting}
use Rattle.solver_lines.specs.Reading.{Line, line_rest, end_of, after_end, tokens_from, WordsRead, ValuesRead, LineRead}
use Rattle.solver_lines.proofs.laws.Noting.{noting-append}
use Rattle.solver_lines.proofs.laws.Pieces.{end_on, lines_left, lines_none, lines_next}

-- what follows a v
module _ (n : ℕ) (s : List ℕ) (at : ℕ) (closed : Bool) (st : List ℕ) where
  pub values_none : line_rest s at ≡ [] → ValuesRead n s at closed st st (Ok (at, closed))
  unfolding noting
  values_none e = record { said = rw e; ends = omega (arith, ap length e) }

  module _ (h : at < length s) (d : get_or s at 0 ≡ 10 → ⊥) where
    pub values_fault : (get_or s at 0 ≡ 32 → ⊥) → ValuesRead n s at closed st st (Err at)
    unfolding noting
    values_fault e = record { said = rw (until_on 10 s at h d, ne_eqb (get_or s at 0) 32 e); ends = refl }

    space_first : get_or s at 0 ≡ 32 → after_v at (line_rest s at) ≡ tokens_from s at
    space_first e = rw (until_on 10 s at h d, eq-eqb (get_or s at 0) 32 e)

    pub values_words : get_or s at 0 ≡ 32 → {st' : List ℕ} {r : Line} → WordsRead n s at closed st st' r → ValuesRead n s at closed st st' r
    values_words e g = record { said = rw (space_first e) g.said; ends = g.ends }

-- a line by its first byte
not-line-end : (b : ℕ) → passed_over b ≡ true → b ≡ 10 → ⊥
not-line-end b h e = let f : false ≡ true = rw e at h in let z : ◌≡◌ {A = ℕ} 0 1 = cc in omega arith

module _ (n : ℕ) (s : List ℕ) (at : ℕ) (h : at < length s) (closed : Bool) (st : List ℕ) where
  pub line_passed : passed_over (get_or s at 0) ≡ true → {end : ℕ} → end ≡ end_of s (at + 1) → LineRead n s at closed st st (Ok (end, closed))
  unfolding noting
  line_passed p e =
      let d = not-line-end (get_or s at 0) p in
      record { said = rw (until_on 10 s at h d, p); ends = e ∙ sym (end_on s at (end_of s at) refl h d) }

  module _ (p : passed_over (get_or s at 0) ≡ false) where
    pub line_other : (get_or s at 0 ≡ 118 → ⊥) → LineRead n s at closed st st (Err at)
    unfolding noting
    line_other v = go (eqb (get_or s at 0) 10) refl
      where
        go : (t : Bool) → eqb (get_or s at 0) 10 ≡ t → LineRead n s at closed st st (Err at)
        go true e = record { said = rw (until_here 10 s at h (eqb-true (get_or s at 0) 10 e)); ends = refl }
        go false e = record { said = rw (until_on 10 s at h (eqb-false (get_or s at 0) 10 e), p, ne_eqb (get_or s at 0) 118 v); ends = refl }

    pub line_values : get_or s at 0 ≡ 118 → {st' : List ℕ} {r : Line} → ValuesRead n s (at + 1) closed st st' r → LineRead n s at closed st st' r
    line_values v {st'} {r} g =
        let d : get_or s at 0 ≡ 10 → ⊥ = λ f. omega arith in
        let e : end_of s at ≡ end_of s (at + 1) = end_on s at (end_of s at) refl h d in
        record {
          said = rw (until_on 10 s at h d, p, eq-eqb (get_or s at 0) 118 v, ← add-one at) g.said;
          ends = rw e g.ends;
        }

-- the next line begins further on
pub after_on : (s : List ℕ) (at : ℕ) {end next : ℕ} → at < length s → end ≡ end_of s at → next ≡ after_end s end → at < next
after_on s at {end} {next} h e q = go (ltb end (length s)) refl q
  where
    go : (t : Bool) → ltb end (length s) ≡ t → next ≡ cond t (end + 1) end → at < next
    go true l f = omega arith
    go false l f = omega (arith, ltb-false end (length s) l)

-- the turns of the walk over the lines, with what is noted so far
module _ (n : ℕ) (s : List ℕ) (whole : Left) (at : ℕ) (closed : Bool) (st : List ℕ) (so_far : whole ≡ noting n st closed (lines_left s at)) where
  pub lines_end : length s ≤ at → left st closed ≡ whole
  unfolding noting
  lines_end h = sym (so_far ∙ rw (lines_none s at h))

  module _ (h : at < length s) where
    first_line : whole ≡ then_left (noting n st closed (line_tokens at (line_rest s at))) (λ st' c. noting n st' c (lines_left s (after_end s (end_of s at))))
    first_line = so_far ∙ rw (lines_next s at h) (noting-append n st closed (line_tokens at (line_rest s at)) (lines_left s (after_end s (end_of s at))))

    pub lines_fault : {st' : List ℕ} {v : ℕ} → LineRead n s at closed st st' (Err v) → stopped v ≡ whole
    lines_fault g = sym (first_line ∙ rw (← g.said))

    pub lines_more : {st' : List ℕ} {end next : ℕ} {c : Bool} → LineRead n s at closed st st' (Ok (end, c)) → next ≡ after_end s end
        → whole ≡ noting n st' c (lines_left s next)
    lines_more g e = first_line ∙ rw (← g.said, ← g.ends, e)
