-- A rank of both makes turns of both, a turn tests what both drew, and the tests of a select through make an inner walk of both, which is a
-- rank of an independent search: the measure falls from `part_rank` to `part_turn` to `part_landed` to `part_tests`, and from the tests of a
-- select through to the rank of an independent one.
use Rattle.std.proofs.Common.{◌+◌, ◌-◌, ◌*◌, ◌<◌, ◌≤◌}
use Rattle.hierarchy.specs.Arrays.{view_in}
use Rattle.walk.specs.Searches.{inward, rank_at}
use Rattle.lockstep.specs.Lockstep.{Leads}
use Rattle.lockstep.proofs.ranks.+part_landed_part_rank_part_tests_part_turn.Given as goal

abbrev pub decreases-part_landed : goal.decreases-part_landed
decreases-part_landed l = 4 * inward l.search.wanted.mode + 1

abbrev pub decreases-part_rank : goal.decreases-part_rank
decreases-part_rank l = 4 * inward l.search.wanted.mode + 3

abbrev pub decreases-part_tests : goal.decreases-part_tests
decreases-part_tests l = 4 * inward l.search.wanted.mode

abbrev pub decreases-part_turn : goal.decreases-part_turn
decreases-part_turn l = 4 * inward l.search.wanted.mode + 2

-- what holds of what is left of both ranks, from here, holds of the whole
abbrev pub invariant-part_rank-loop-s : goal.invariant-part_rank-loop-s
invariant-part_rank-loop-s l =
    let v = view_in l.plan l.old in
    let v' = view_in l.plan l.new in
    (l.s.at < 256) × (l.s.fr ≤ 50) × (l.s.f ≤ 1000 + l.s.fr) × (l.s.inner ≤ 50 * l.s.fr)
    × Leads v v' l.x l.search l.olds l.news (rank_at v l.x l.search l.olds l.f0) (rank_at v' l.x l.search l.news l.f0) (50 - l.s.fr) l.s

abbrev pub decreases-part_rank-loop-s : goal.decreases-part_rank-loop-s
decreases-part_rank-loop-s l = 50 - l.s.fr
