-- What the answers of this crate stand for; a list stands in the store l.
use Rattle.std.specs.Prelude.{ℕ, List, Result, Ok, Err}
use Rattle.scope.specs.Parsed.{Parsed, got}
use Rattle.scope.specs.Kinds.{Kind}
use Rattle.scope.specs.Answers.{refused_by}
use Rattle.scope.specs.declared.refusal.Refusal.{Refusal}
use Rattle.number.specs.Lists.{leading}
use Rattle.fields.specs.declared.flat.Flat.{Flat}
use Rattle.fields.specs.Made.{kind_from}

-- a list whose length the answer has
abbrev pub said_list : List ℕ → Result (ℕ × ℕ) Refusal → Parsed (List ℕ)
said_list l (Ok r) = got (leading r.0 l) r.1
said_list l (Err f) = refused_by f

-- the kind that the fields make
abbrev pub said_flat : ℕ → List ℕ → Result (Flat × ℕ) Refusal → Parsed Kind
said_flat kind l (Ok r) = got (kind_from kind r.0 (leading r.0.list l)) r.1
said_flat kind l (Err f) = refused_by f
