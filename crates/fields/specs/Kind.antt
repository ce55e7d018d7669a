-- The numbers of the kinds of constraint.
use Rattle.std.specs.Prelude.{ℕ}
use Rattle.fields.specs.declared.kind.KindName.{KindName}

abbrev pub number_of : KindName → ℕ
number_of KindName.Clash = 1
number_of KindName.Unavailable = 2
number_of KindName.Preferred = 3
number_of KindName.Split = 4
number_of KindName.Spread = 5
number_of KindName.Busy = 6
number_of KindName.Cluster = 7
number_of KindName.Idle = 8
number_of KindName.Distribute = 9
number_of KindName.Lengths = 10
number_of KindName.Precedence = 11
