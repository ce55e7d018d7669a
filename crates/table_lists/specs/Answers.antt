-- What the answers of this crate stand for: a list in a row, lists in the rows of a table, an event, and events in two tables.
use Rattle.std.specs.Prelude.{ℕ, List, Result, Ok, Err}
use Rattle.scope.specs.Parsed.{Parsed, got}
use Rattle.scope.specs.Kinds.{Event}
use Rattle.scope.specs.Answers.{refused_by}
use Rattle.scope.specs.declared.refusal.Refusal.{Refusal}
use Rattle.tables.specs.Rows.{row_of, rows, events_of}

abbrev pub said_row : List ℕ → Result (ℕ × ℕ) Refusal → Parsed (List ℕ)
said_row row (Ok r) = got (row_of row) r.1
said_row row (Err f) = refused_by f

abbrev pub said_rows : List ℕ → Result (ℕ × ℕ) Refusal → Parsed (List (List ℕ))
said_rows t (Ok r) = got (rows t r.0) r.1
said_rows t (Err f) = refused_by f

-- the number is the duration
abbrev pub said_event : List ℕ → Result (ℕ × ℕ) Refusal → Parsed Event
said_event row (Ok r) = got (record { duration = r.0; resources = row_of row }) r.1
said_event row (Err f) = refused_by f

abbrev pub said_events : ℕ → List ℕ → List ℕ → Result (ℕ × ℕ) Refusal → Parsed (List Event)
said_events count d t (Ok r) = got (events_of d t count) r.1
said_events count d t (Err f) = refused_by f
