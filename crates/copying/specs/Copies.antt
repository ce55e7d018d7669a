-- The literals of a clause, copied from a proof into the words.
use Rattle.std.specs.Prelude.{Bool, true, false, cond, List, ℕ, suc, ◌+◌, eqb, leb, length, set}
use Rattle.scope.specs.Parsed.{Parsed, got, refused}
use Rattle.scope.specs.Number.{number}
use Rattle.reader.specs.Loop.{while_more}

-- literals that are being copied: whether it goes on, where the next one stands, and the word that it goes to
pub record Copying : Type 0 where
  pub more : Bool
  pub at : ℕ
  pub to : ℕ

-- Literals are copied up to a 0, as far as there are words: at an offset, into the words from one on, and after a number
abbrev pub copying : ℕ → ℕ → Copying
copying at to = record { more = true; at = at; to = to }

abbrev pub copied : ℕ → ℕ → Copying
copied at to = record { more = false; at = at; to = to }

abbrev pub copied_by : List ℕ → Copying → Parsed ℕ → Copying
copied_by ws p (refused k v) = copied p.at p.to
copied_by ws p (got l next) =
    cond (eqb l 0) (copied next p.to) (cond (leb (length ws) p.to) (copied next p.to) (copying next (p.to + 1)))

abbrev pub copied_words : List ℕ → Copying → Parsed ℕ → List ℕ
copied_words ws p (refused k v) = ws
copied_words ws p (got l next) = cond (eqb l 0) ws (set ws p.to l)

-- with the words
pub record Copied : Type 0 where
  pub state : Copying
  pub words : List ℕ

abbrev pub copy_turn : List ℕ → Copied → Copied
copy_turn s x =
    record {
      state = copied_by x.words x.state (number s x.state.at);
      words = copied_words x.words x.state (number s x.state.at);
    }

abbrev pub copied_from : List ℕ → ℕ → Copied → Copied
copied_from s k x = while_more (λ x. x.state.more) (copy_turn s) k x

unfoldable pub copied_at : List ℕ → ℕ → List ℕ → ℕ → List ℕ
copied_at s at ws first = (copied_from s (suc (length s)) (record { state = copying at first; words = ws })).words
