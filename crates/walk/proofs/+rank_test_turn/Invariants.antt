-- A rank makes turns, a turn tests what it drew, and the test of a select through makes an inner walk, which is a rank of an independent
-- search: the measure falls from `rank` to `turn` to `test`, and from the test of a select through to the rank of an independent one.
use Rattle.std.proofs.Common.{◌≡◌, ◌+◌, ◌-◌, ◌*◌, ◌<◌, ◌≤◌}
use Rattle.hierarchy.specs.Arrays.{view_in}
use Rattle.laws.specs.Walk.{Comes}
use Rattle.walk.specs.Searches.{inward, test_at, rank_at}
use Rattle.walk.proofs.+rank_test_turn.Given as goal

abbrev pub decreases-rank : goal.decreases-rank
decreases-rank l = 3 * inward l.search.wanted.mode + 2

abbrev pub decreases-test : goal.decreases-test
decreases-test l = 3 * inward l.search.wanted.mode

abbrev pub decreases-turn : goal.decreases-turn
decreases-turn l = 3 * inward l.search.wanted.mode + 1

-- what is left of the rank, from here, comes to the whole
abbrev pub invariant-rank-loop-s : goal.invariant-rank-loop-s
invariant-rank-loop-s l =
    let v = view_in l.plan l.values in
    let k = l.search in
    (l.s.at < 256) × (l.s.fr ≤ 50) × (l.s.f ≡ l.f0 + l.s.fr) × (l.s.inner ≤ 50 * l.s.fr)
    × Comes v l.x k.wanted.mode k.wanted.n k.wanted.t (test_at v l.x k l.held) k.start k.r (rank_at v l.x k l.held l.f0).ranked l.s

abbrev pub decreases-rank-loop-s : goal.decreases-rank-loop-s
decreases-rank-loop-s l = 50 - l.s.fr
