-- What the answers of this crate stand for: how many periods a day and a calendar have, and how many times a file.
use Rattle.std.specs.Prelude.{ℕ, ◌+◌, List, length, Result, Ok, Err}
use Rattle.scope.specs.Parsed.{Parsed, got, refused}
use Rattle.scope.specs.Calendar.{Period, period_count}
use Rattle.scope.specs.Instance.{Times}
use Rattle.scope.specs.Answers.{refused_by}
use Rattle.scope.specs.declared.refusal.Refusal.{Refusal}

-- a period, by its start and end
abbrev pub said_period : Result ((ℕ × ℕ) × ℕ) Refusal → Parsed Period
said_period (Ok r) = got (record { start = r.0.0; end = r.0.1 }) r.1
said_period (Err f) = refused_by f

-- after n periods so many more
unfoldable pub counted_on : ℕ → Parsed (List Period) → Parsed ℕ
counted_on n (got ps end) = got (n + length ps) end
counted_on n (refused k v) = refused k v

abbrev pub counted : Parsed (List Period) → Parsed ℕ
counted p = counted_on 0 p

unfoldable pub totalled_on : ℕ → Parsed (List (List Period)) → Parsed ℕ
totalled_on n (got days end) = got (n + period_count days) end
totalled_on n (refused k v) = refused k v

abbrev pub totalled : Parsed (List (List Period)) → Parsed ℕ
totalled p = totalled_on 0 p

unfoldable pub times_counted : Parsed Times → Parsed ℕ
times_counted (got t end) = got t.count end
times_counted (refused k v) = refused k v
