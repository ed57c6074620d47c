-- `lockstep::descents::meet` calls itself on the bucket that both drew, whose type is smaller: the measure is the bucket's type.
use Rattle.hierarchy.specs.Arrays.{bucket_type_in}
use Rattle.lockstep.proofs.descents.+meet.Given as goal

abbrev pub decreases-meet : goal.decreases-meet
decreases-meet l = bucket_type_in l.plan.now l.b
