-- `members::levels::items_of` meets its contract: the two loops' tables have each item's level and weight. Assumes nothing.
use Rattle.std.proofs.Common.{ap, ◌∙◌, length}
use Rattle.definitions.specs.Map.{map_of}
use Rattle.members.specs.Levels.{bucket_level, bucket_own, buckets_to, levels-are}
use Rattle.members.specs.Weights.{weights-are}
use Rattle.members.proofs.levels.items_of.Goals as goal

pub returns : goal.returns
returns c =
    let m = map_of c.args.t.now in
    let b = c.put_buckets.ensures in
    let d = c.put_devices.ensures in
    record {
      levels = levels-are m c.requires.0 c.requires.1 _ (b.levels_value ∙ ap (λ t. buckets_to bucket_level m t (length m.buckets)) d.levels_value);
      weights = weights-are m c.requires.0 c.requires.1 _ (b.weights_value ∙ ap (λ t. buckets_to bucket_own m t (length m.buckets)) d.weights_value);
    }
