-- What the answers of this crate stand for; a list stands in the store l.
use Rattle.std.specs.Prelude.{ℕ, List, Result, Ok, Err}
use Rattle.scope.specs.Parsed.{Parsed, got}
use Rattle.scope.specs.Instance.{Counts}
use Rattle.scope.specs.Kinds as kinds
use Rattle.scope.specs.Answers.{refused_by}
use Rattle.scope.specs.declared.refusal.Refusal.{Refusal}
use Rattle.number.specs.Lists.{leading}
use Rattle.constraint.specs.declared.kinds.Kind.{Kind}
use Rattle.constraint.specs.declared.kinds.Constraint.{Constraint}
use Rattle.constraint.specs.declared.kinds.Head.{Head}
use Rattle.constraint.specs.declared.flat.FlatConstraint.{FlatConstraint}
use Rattle.fields.specs.Kind.{number_of}
use Rattle.fields.specs.Made.{kind_from}

-- a kind with its fields
abbrev pub kind_of : List ℕ → Kind → kinds.Kind
kind_of l (Kind.Clash f) = kinds.clash f.resource
kind_of l (Kind.Unavailable f) = kinds.unavailable f.resource f.group
kind_of l (Kind.Preferred f) = kinds.preferred f.event f.group
kind_of l (Kind.Split f) = kinds.split f.event f.lo f.hi
kind_of l (Kind.Spread f) = kinds.spread (leading f.events l) f.group f.lo f.hi
kind_of l (Kind.Busy f) = kinds.busy f.resource f.group f.lo f.hi
kind_of l (Kind.Cluster f) = kinds.cluster f.resource (leading f.groups l) f.lo f.hi
kind_of l (Kind.Idle f) = kinds.idle f.resource (leading f.groups l) f.lo f.hi
kind_of l (Kind.Distribute f) = kinds.distribute f.event f.length f.lo f.hi
kind_of l (Kind.Lengths f) = kinds.lengths f.event f.shortest f.longest
kind_of l (Kind.Precedence f) = kinds.precedence f.first f.second f.lo f.hi

abbrev pub constraint_of : List ℕ → Constraint → kinds.Constraint
constraint_of l c = record { weight = c.weight; kind = kind_of l c.kind }

abbrev pub said_next : List ℕ → Result (Constraint × ℕ) Refusal → Parsed kinds.Constraint
said_next l (Ok r) = got (constraint_of l r.0) r.1
said_next l (Err f) = refused_by f

-- the kind of a constraint in plain numbers, and the constraint
abbrev pub flat_kind : List ℕ → FlatConstraint → kinds.Kind
flat_kind l c = kind_from (number_of c.kind) c.fields (leading c.fields.list l)

abbrev pub flat_of : List ℕ → FlatConstraint → kinds.Constraint
flat_of l c = record { weight = c.weight; kind = flat_kind l c }

abbrev pub said_flat_next : List ℕ → Result (FlatConstraint × ℕ) Refusal → Parsed kinds.Constraint
said_flat_next l (Ok r) = got (flat_of l r.0) r.1
said_flat_next l (Err f) = refused_by f

-- how many things there are to refer to
abbrev pub counts_in : Head → Counts
counts_in h = record { times = h.times; events = h.events; resources = h.resources; groups = h.groups }
