use Rattle.definitions.specs.Map.{map_of}
use Rattle.compile.specs.Reading.{TypesFrom, KindsFrom}
use Rattle.compile.proofs.buckets.buckets_of.Given as goal

abbrev pub invariant-loop-k : goal.invariant-loop-k
invariant-loop-k l = TypesFrom (map_of l.text) l.types l.k × KindsFrom (map_of l.text) l.kinds l.k
