use Rattle.std.specs.Prelude.{◌≡◌, length, take, drop}
use Rattle.hierarchy.specs.Arrays.{view_in}
use Rattle.causes.specs.Under.{TellsTo}
use Rattle.causes.proofs.causes_of.Given as goal

abbrev pub invariant-loop-k : goal.invariant-loop-k
invariant-loop-k l =
    (length l.causes ≡ 16)
    × TellsTo (view_in l.plan l.old) (view_in l.plan l.new) l.x l.wanted.mode l.wanted.n l.wanted.t (take l.e l.olds) (take l.e2 l.news)
    (drop l.e l.olds) (drop l.e2 l.news) l.above l.working l.k l.causes
