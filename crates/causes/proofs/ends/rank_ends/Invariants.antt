use Rattle.std.specs.Prelude.{◌≡◌, ◌+◌, ◌-◌, ◌*◌, ◌<◌, ◌≤◌}
use Rattle.hierarchy.specs.Arrays.{view_in}
use Rattle.laws.specs.Walk.{Comes}
use Rattle.walk.specs.Searches.{test_at, rank_at}
use Rattle.causes.proofs.ends.rank_ends.Given as goal

abbrev pub invariant-loop-s : goal.invariant-loop-s
invariant-loop-s l =
    let v = view_in l.plan l.old in
    let w = view_in l.plan l.new in
    (l.s.at < 256) × (l.s.fr ≤ 50) × (l.s.f ≡ l.f0 + l.s.fr) × (l.s.inner ≤ 50 * l.s.fr)
    × Comes v l.x l.search.wanted.mode l.search.wanted.n l.search.wanted.t (test_at v l.x l.search l.held) l.search.start l.search.r (rank_at v l.x l.search l.held l.f0).ranked l.s
    × Comes w l.x l.search.wanted.mode l.search.wanted.n l.search.wanted.t (test_at w l.x l.search l.held) l.search.start l.search.r (rank_at w l.x l.search l.held l.f0).ranked l.s

abbrev pub decreases-loop-s : goal.decreases-loop-s
decreases-loop-s l = 50 - l.s.fr
