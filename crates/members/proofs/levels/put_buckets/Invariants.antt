use mathlib.Core.Path.{◌≡◌}
use Rattle.definitions.specs.Map.{map_of}
use Rattle.members.specs.Levels.{bucket_level, bucket_own, buckets_to}
use Rattle.members.proofs.levels.put_buckets.Given as goal

abbrev pub invariant-loop-k : goal.invariant-loop-k
invariant-loop-k l =
    (l.levels ≡ buckets_to bucket_level (map_of l.t) l.initial.levels l.k) × (l.weights ≡ buckets_to bucket_own (map_of l.t) l.initial.weights l.k)
