-- The buckets as the code has them.
use Rattle.weights.specs.declared.Buckets.{Buckets}
use Rattle.weights.specs.Weights.{Arrays, arrays}

abbrev pub arrays_of : Buckets → Arrays
arrays_of b = arrays b.first.now b.count.now b.items.now b.devices.now
