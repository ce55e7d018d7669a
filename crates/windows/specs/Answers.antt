-- What the answers of this crate stand for.
use Rattle.std.specs.Prelude.{ℕ, Result}
use Rattle.scope.specs.Answers.{said}
use Rattle.scope.specs.Parsed.{Parsed}
use Rattle.scope.specs.declared.refusal.Refusal.{Refusal}

-- a window, by its day, from and to
abbrev pub said_window : Result ((ℕ × ℕ × ℕ) × ℕ) Refusal → Parsed (ℕ × ℕ × ℕ)
said_window = said
