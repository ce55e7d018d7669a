-- What is told of words: one that is taken, and all of a line.
use Prim.Native.Nat.{ℕ, ◌+◌, ◌*◌, ◌/◌, ◌%◌, ◌≤◌, ◌<◌}
use mathlib.Core.Path.{◌≡◌, refl, sym, ap, ◌∙◌}
use mathlib.Core.Bool.{Bool, true, false}
use mathlib.Core.List.{List, [], ◌∷◌}
use native.Mathlib.Omega.{arith}
use Rattle.std.specs.Prelude.{Some, None, Ok, Err}
use lib.ListN.{length, get_or}
use Rattle.solver_words.specs.Reading.{word_from, WordRead}
use Rattle.solver_words.specs.declared.word.Word.{Word}
use Rattle.solver_words.proofs.laws.Words.{until_on, word_more}
use Rattle.solver_words.proofs.laws.Literals.{word-range}
use Rattle.solver_lines.specs.Noting.{then_left, noted, noting}
use Rattle.solver_lines.specs.Reading.{Turn, line_rest, end_of, word_token, word_end, tokens_from, turn_said, turn_next, WordTaken, step_said, Stepped, WordsRead}
use Rattle.solver_lines.proofs.laws.Noting.{noting-append}
use Rattle.solver_lines.proofs.laws.Pieces.{end_later, end-within, word-short, tokens_none, tokens_space, tokens_word}

-- a literal's variable is within the store
module _ (n : ℕ) (s : List ℕ) (at : ℕ) where
  pub positive_range : {v next : ℕ} → WordRead n s at (Word.Positive v next) → (1 ≤ v) × (v ≤ n)
  positive_range {v} w = let r = word-range n (word_from s at) (sym w.said) in (omega arith, omega arith)

  pub negative_range : {v next : ℕ} → WordRead n s at (Word.Negative v next) → (1 ≤ v) × (v ≤ n)
  negative_range {v} w = let r = word-range n (word_from s at) (sym w.said) in (omega arith, omega arith)

module _ (n : ℕ) (s : List ℕ) (at : ℕ) (st : List ℕ) where
  -- no word follows the closing 0
  pub taken_late : WordTaken n s at true st st None
  unfolding noting
  taken_late = record { said = refl; ends = refl }

  -- a literal
  pub taken_positive : {v next : ℕ} {st' : List ℕ} → WordRead n s at (Word.Positive v next) → st' ≡ noted st v 2
      → WordTaken n s at false st st' (Some (next, false))
  unfolding noting
  taken_positive {v} {next} w e =
      let half : 2 * v / 2 ≡ v = omega arith in
      let even : 2 * v % 2 ≡ 0 = omega arith in
      record { said = rw (e, ← w.said, half, even); ends = w.ends }

  pub taken_negative : {v next : ℕ} {st' : List ℕ} → WordRead n s at (Word.Negative v next) → st' ≡ noted st v 1
      → WordTaken n s at false st st' (Some (next, false))
  unfolding noting
  taken_negative {v} {next} w e =
      let half : (2 * v + 1) / 2 ≡ v = omega arith in
      let odd : (2 * v + 1) % 2 ≡ 1 = omega arith in
      record { said = rw (e, ← w.said, half, odd); ends = w.ends }

  pub taken_closing : {next : ℕ} → WordRead n s at (Word.Closing next) → WordTaken n s at false st st (Some (next, true))
  unfolding noting
  taken_closing w = record { said = rw (← w.said); ends = w.ends }

  pub taken_malformed : WordRead n s at Word.Malformed → WordTaken n s at false st st None
  unfolding noting
  taken_malformed w = record { said = rw (← w.said); ends = refl }

-- a space or a word is passed
module _ (n : ℕ) (s : List ℕ) (at : ℕ) (h : at < length s) (d : get_or s at 0 ≡ 10 → ⊥) (closed : Bool) (st : List ℕ) where
  longer : 1 ≤ length (line_rest s at)
  longer = rw (until_on 10 s at h d) (omega arith)

  pub stepped_space : get_or s at 0 ≡ 32 → Stepped n s at closed st st (Some (at + 1, closed))
  stepped_space e =
      record {
        said = rw (tokens_space s at h e);
        ends = end_later s at 1 longer;
        on = λ next c t.
            let q : ◌≡◌ {A = ℕ × Bool} (at + 1, closed) (next, c) = cc in
            let z : at + 1 ≡ next = ap (λ (p : ℕ × Bool). p.0) q in
            (omega arith, omega arith);
      }

  module _ (e : get_or s at 0 ≡ 32 → ⊥) where
    on_word : (at < word_end s at) × (word_end s at < length s + 1)
    on_word =
        let l : 1 ≤ length (word_from s at) = rw (word_more s at h e d) (omega arith) in
        (omega arith, omega (arith, end-within s at (omega arith), word-short s at))

    told : {st' : List ℕ} (r : Turn) → WordTaken n s at closed st st' r → step_said n s r at st' ≡ then_left (turn_said r at st') (λ st'' c. noting n st'' c (tokens_from s (word_end s at)))
    told (Some (next, c)) w = rw w.ends
    told None w = refl

    ended : {st' : List ℕ} (r : Turn) → WordTaken n s at closed st st' r → end_of s (turn_next r at) ≡ end_of s at
    ended (Some (next, c)) w = rw w.ends (end_later s at (length (word_from s at)) (word-short s at))
    ended None w = refl

    pub stepped_word : {st' : List ℕ} {r : Turn} → WordTaken n s at closed st st' r → Stepped n s at closed st st' r
    stepped_word {r} w =
        record {
          said =
              told r w
              ∙ ap (λ x. then_left x (λ st'' c. noting n st'' c (tokens_from s (word_end s at)))) w.said
              ∙ sym (rw (tokens_word s at h e d) (noting-append n st closed (word_token s at ∷ []) (tokens_from s (word_end s at))));
          ends = ended r w;
          on = λ next c t. let z : next ≡ word_end s at = rw t at w.ends in rw z on_word;
        }

-- the turns of the walk over a line's words, from an offset, with what is noted so far
module _ (n : ℕ) (s : List ℕ) (from : ℕ) (before : Bool) (st₀ : List ℕ) (at : ℕ) (closed : Bool) (st : List ℕ)
    (so_far : noting n st₀ before (tokens_from s from) ≡ noting n st closed (tokens_from s at)) (same_end : end_of s from ≡ end_of s at) where
  pub words_end : line_rest s at ≡ [] → WordsRead n s from before st₀ st (Ok (at, closed))
  unfolding noting
  words_end e =
      record { said = sym (so_far ∙ rw (tokens_none s at e)); ends = omega (arith, ap length e) }

  pub words_fault : {st' : List ℕ} → Stepped n s at closed st st' None → WordsRead n s from before st₀ st' (Err at)
  words_fault g = record { said = g.said ∙ sym so_far; ends = refl }

  pub words_more : {st' : List ℕ} {next : ℕ} {c : Bool} → Stepped n s at closed st st' (Some (next, c))
      → (noting n st₀ before (tokens_from s from) ≡ noting n st' c (tokens_from s next)) × (end_of s from ≡ end_of s next)
  words_more g = (so_far ∙ sym g.said, same_end ∙ sym g.ends)
