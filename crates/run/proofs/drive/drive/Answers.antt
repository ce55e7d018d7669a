-- The trail that is passed is `no_trail`.
use Rattle.run.specs.Turned.{no_trail}
use Rattle.run.proofs.drive.drive.Goals as goal

pub returns : goal.returns
unfolding no_trail
returns c = c.drive_with.ensures
