-- The literals of a new clause that are read, and the marks afterwards, for any bytes, offsets and marks.
use Rattle.std.specs.Prelude.{Bool, true, false, cond, ◌&&◌, List, ℕ, suc, ◌+◌, ◌-◌, ◌/◌, ◌%◌, leb, eqb, length, Option, Some, None}
use Rattle.scope.specs.Parsed.{Parsed, got, refused}
use Rattle.scope.specs.Number.{number}
use Rattle.theory.specs.Marked.{Marks}
use Rattle.marks.specs.Marks.{marks_of, put_mark}
use Rattle.reader.specs.Loop.{while_more}

-- a literal of a new clause, of a variable that those before it leave open
abbrev pub literal_ok : ℕ → Marks → ℕ → Bool
literal_ok last m l = leb 2 l && leb (l / 2) last && eqb (m (l / 2)) 0

-- literals that are being read: whether it goes on, where the next one stands, how many there were, and what is found: their
-- number, and where what follows their 0 stands
pub record Spelling : Type 0 where
  pub more : Bool
  pub at : ℕ
  pub size : ℕ
  pub found : Option (ℕ × ℕ)

-- literals are read up to a 0, and made false: at an offset after k others, and after a number
abbrev pub spelling : ℕ → ℕ → Spelling
spelling at k = record { more = true; at = at; size = k; found = None }

abbrev pub spelt : ℕ → ℕ → Option (ℕ × ℕ) → Spelling
spelt at k x = record { more = false; at = at; size = k; found = x }

abbrev pub spelt_by : ℕ → List ℕ → Spelling → Parsed ℕ → Spelling
spelt_by last ms p (refused k v) = spelt p.at p.size None
spelt_by last ms p (got l next) =
    cond (eqb l 0) (spelt next p.size (Some (p.size, next)))
    (cond (literal_ok last (marks_of ms) l) (spelling next (p.size + 1)) (spelt next p.size None))

abbrev pub spelt_marks : ℕ → List ℕ → Parsed ℕ → List ℕ
spelt_marks last ms (refused k v) = ms
spelt_marks last ms (got l next) =
    cond (eqb l 0) ms (cond (literal_ok last (marks_of ms) l) (put_mark ms (l / 2) (2 - l % 2)) ms)

-- with the marks
pub record Spelled : Type 0 where
  pub state : Spelling
  pub marks : List ℕ

abbrev pub spell_turn : List ℕ → ℕ → Spelled → Spelled
spell_turn s last x =
    record {
      state = spelt_by last x.marks x.state (number s x.state.at);
      marks = spelt_marks last x.marks (number s x.state.at);
    }

abbrev pub spelt_from : List ℕ → ℕ → ℕ → Spelled → Spelled
spelt_from s last k x = while_more (λ x. x.state.more) (spell_turn s last) k x

pub record LiteralsRead : Type 0 where
  pub found : Option (ℕ × ℕ)
  pub marks : List ℕ

abbrev pub literals_of : Spelled → LiteralsRead
literals_of x = record { found = x.state.found; marks = x.marks }

unfoldable pub literals_at : List ℕ → ℕ → ℕ → List ℕ → LiteralsRead
literals_at s at last ms = literals_of (spelt_from s last (suc (length s)) (record { state = spelling at 0; marks = ms }))
