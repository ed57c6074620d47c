-- `compile::weigh_by` meets its contract, of any such map. Assumes nothing.
use Rattle.compile.specs.Living.{flagged-is}
use Rattle.compile.proofs.weigh_by.Goals as goal

pub bucket_weights-loads-requires : goal.bucket_weights-loads-requires
bucket_weights-loads-requires c = let (m, w, a) = c.requires in (m, w)

pub live_weights-lives-requires : goal.live_weights-lives-requires
live_weights-lives-requires c = c.requires

pub values_of-values-requires : goal.values_of-values-requires
values_of-values-requires c =
    let (m, w, a) = c.requires in
    (m, w, c.bucket_weights-loads.ensures m w)

pub returns : goal.returns
returns c m w a =
    let l = c.bucket_weights-loads.ensures m w in
    let o = c.values_of-values.ensures in
    let e = o.result_value m w l a in
    (e, l, flagged-is _ w.loadable _ _ e (rw o.result_value_2 (c.live_weights-lives.ensures m w a).0))
