-- What was read behind the map, then what the input still has, then its end. Assumes nothing.
use Rattle.std.proofs.Common.{List, ℕ, [], ◌++◌, ◌∙◌, take, inl, inr}
use Rattle.std.specs.Io.KnownBytes.{Consumes}
use Rattle.report.specs.Edits.{site_of, session}
use Rattle.report.specs.Reads.{Ended, led-more, ended}
use Rattle.console.specs.Leaving.{Left}
use Rattle.console.proofs.Outcomes.{on_ok, on_err}
use Rattle.console.proofs.take_lines.Goals as goal

pub returns-in_err-take_bytes-clause-err : goal.returns-in_err-take_bytes-clause-err
returns-in_err-take_bytes-clause-err g c =
    let a = c.args in
    let t = c.take_bytes in
    let came = c.in_err-take_bytes.ensures.err [] c.new-line.ensures in
    let left : Left a.p a.space.now (site_of a.map.now a.table.now a.states.now) (site_of t.new.map t.new.table t.new.states) =
    (take came.0 (take a.n a.buffer.now), inl came.1) in
    on_err _ left

pub returns-in_err-take_input-clause-err : goal.returns-in_err-take_input-clause-err
returns-in_err-take_input-clause-err g c =
    let a = c.args in
    let t = c.take_bytes in
    let i = c.take_input in
    let here = site_of a.map.now a.table.now a.states.now in
    let read = site_of t.new.map t.new.table t.new.states in
    let next = site_of i.new.map i.new.table i.new.states in
    let bytes = take a.n a.buffer.now in
    let e = c.in_ok-take_bytes.ensures.led [] c.new-line.ensures in
    let came = c.in_err-take_input.ensures.err _ e.line in
    let l = came.1.0 in
    let left : Left a.p a.space.now here next =
    (bytes ++ came.0, inl (l, led-more a.p a.space.now t.new.space t.auto.space (session here []) bytes came.0 t.new.line l read next e came.1.1)) in
    on_err _ left

pub returns-clause-ended : goal.returns-clause-ended
returns-clause-ended g c =
    let a = c.args in
    let t = c.take_bytes in
    let i = c.take_input in
    let o = c.on_end-said in
    let here = site_of a.map.now a.table.now a.states.now in
    let read = site_of t.new.map t.new.table t.new.states in
    let behind = site_of i.new.map i.new.table i.new.states in
    let last = site_of o.new.map o.new.table o.new.states in
    let bytes = take a.n a.buffer.now in
    let e = c.in_ok-take_bytes.ensures.led [] c.new-line.ensures in
    let d = c.in_ok-take_input.ensures.led _ e.line in
    let all : (bs : List ℕ) × Consumes (g.R.Read.remaining a.stdin.now) (g.R.Read.remaining i.new.stdin) bs × Ended a.p a.space.now here (bytes ++ bs) last = (
      d.0,
      d.1,
      ended a.p a.space.now i.new.space (i.auto.space ∙ t.auto.space) here (bytes ++ d.0) i.new.line behind
          (led-more a.p a.space.now t.new.space t.auto.space (session here []) bytes d.0 t.new.line i.new.line read behind e d.2)
          o.result last o.new.space o.ensures.1,
    ) in
    on_ok _ all

pub returns-clause-err : goal.returns-clause-err
returns-clause-err g c =
    let a = c.args in
    let t = c.take_bytes in
    let i = c.take_input in
    let o = c.on_end-said in
    let here = site_of a.map.now a.table.now a.states.now in
    let read = site_of t.new.map t.new.table t.new.states in
    let behind = site_of i.new.map i.new.table i.new.states in
    let last = site_of o.new.map o.new.table o.new.states in
    let bytes = take a.n a.buffer.now in
    let e = c.in_ok-take_bytes.ensures.led [] c.new-line.ensures in
    let d = c.in_ok-take_input.ensures.led _ e.line in
    let left : Left a.p a.space.now here last = (
      bytes ++ d.0,
      inr
          (ended a.p a.space.now i.new.space (i.auto.space ∙ t.auto.space) here (bytes ++ d.0) i.new.line behind
          (led-more a.p a.space.now t.new.space t.auto.space (session here []) bytes d.0 t.new.line i.new.line read behind e d.2)
          o.result last o.new.space o.ensures.1),
    ) in
    on_err _ left
