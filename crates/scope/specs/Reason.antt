-- The numbers of document 01's table of refusals.
use Rattle.std.specs.Prelude.{ℕ}
use Rattle.scope.specs.declared.refusal.Reason.{Reason}

-- a reason's number
abbrev pub number_of : Reason → ℕ
number_of Reason.BadNumber = 1
number_of Reason.OutsideLimit = 2
number_of Reason.BadReference = 3
number_of Reason.ListTooLong = 4
number_of Reason.BadBounds = 5
number_of Reason.BytesLeft = 6
number_of Reason.BoundTooHigh = 7
number_of Reason.TooManyVariables = 8
number_of Reason.TooShort = 9
number_of Reason.WrongLength = 10
number_of Reason.AboveOne = 11
number_of Reason.NotATimetable = 12
number_of Reason.ClauseFalse = 13
number_of Reason.BadStep = 14
number_of Reason.NotLive = 15
number_of Reason.BadHint = 16
number_of Reason.ClauseTooLong = 17
number_of Reason.BadEnd = 18
number_of Reason.SameEvent = 19
number_of Reason.BadSolverText = 20
number_of Reason.NotGivenOnce = 21
number_of Reason.BadCalendar = 22
