-- `members::levels::bucket_level` meets its contract: a bucket's item number is in range. Assumes nothing.
use Rattle.members.specs.Levels.{bucket-item}
use Rattle.members.proofs.levels.bucket_level.Goals as goal

pub look_up-requires : goal.look_up-requires
look_up-requires c = (c.requires.0, rw c.bucket.ensures (bucket-item c.args.b c.requires.1))

pub returns : goal.returns
returns c = rw c.bucket.ensures at c.look_up.ensures
