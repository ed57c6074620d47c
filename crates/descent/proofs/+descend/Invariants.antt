-- `descent::descend` calls itself on the bucket drawn, whose type is smaller: the measure is the bucket's type.
use Rattle.hierarchy.specs.Arrays.{bucket_type_in}
use Rattle.descent.proofs.+descend.Given as goal

abbrev pub decreases-descend : goal.decreases-descend
decreases-descend l = bucket_type_in l.plan.now l.b
