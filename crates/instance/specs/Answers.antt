-- What the answers of this crate stand for.
use Rattle.std.specs.Prelude.{ℕ, List, Result, Ok, Err}
use Rattle.scope.specs.Parsed.{Parsed, got, repeat}
use Rattle.scope.specs.Kinds.{Constraint}
use Rattle.scope.specs.Instance.{Instance}
use Rattle.scope.specs.Answers.{refused_by}
use Rattle.scope.specs.declared.refusal.Refusal.{Refusal}
use Rattle.parsing.specs.Parsing.{list_of}
use Rattle.tables.specs.Rows.{rows, events_of}
use Rattle.constraint.specs.declared.kinds.Head.{Head}
use Rattle.instance.specs.declared.reader.Sizes.{Sizes}
use Rattle.constraint_end.specs.Ends.{end_of}
use Rattle.instance.specs.File.{Start, with_constraints, constraint_in}

-- times, events and resources
abbrev pub said_sizes : Result (Sizes × ℕ) Refusal → Parsed (ℕ × ℕ × ℕ)
said_sizes (Ok r) = got (r.0.times, r.0.events, r.0.resources) r.1
said_sizes (Err f) = refused_by f

-- an instance without its constraints: its events and groups stand in the tables
abbrev pub start_of : List ℕ → List ℕ → List ℕ → Sizes → Start
start_of d te tg w =
    record { times = w.times; resources = w.resources; events = events_of d te w.events; groups = rows tg w.groups }

abbrev pub said_tables : List ℕ → List ℕ → List ℕ → Result (Sizes × ℕ) Refusal → Parsed Start
said_tables d te tg (Ok r) = got (start_of d te tg r.0) r.1
said_tables d te tg (Err f) = refused_by f

-- a file that was accepted: its constraints stand in the file, from an offset on
abbrev pub head_start : List ℕ → List ℕ → List ℕ → Head → Start
head_start d te tg h =
    record { times = h.times; resources = h.resources; events = events_of d te h.events; groups = rows tg h.groups }

unfoldable pub constraints_of : List ℕ → List ℕ → List ℕ → List ℕ → Head → Parsed (List Constraint)
constraints_of s d te tg h = repeat h.constraints (constraint_in (head_start d te tg h) s) h.start

abbrev pub instance_of : List ℕ → List ℕ → List ℕ → List ℕ → Head → Instance
instance_of s d te tg h = with_constraints (head_start d te tg h) (list_of (constraints_of s d te tg h))

abbrev pub said_file : List ℕ → List ℕ → List ℕ → List ℕ → Result Head Refusal → Parsed Instance
said_file s d te tg (Ok h) = got (instance_of s d te tg h) (end_of (constraints_of s d te tg h))
said_file s d te tg (Err f) = refused_by f

-- the head of a file with these sizes, so many constraints and the first of them at an offset
abbrev pub head_of : Sizes → ℕ → ℕ → Head
head_of w count start =
    record {
      times = w.times;
      events = w.events;
      resources = w.resources;
      groups = w.groups;
      constraints = count;
      start = start;
    }
