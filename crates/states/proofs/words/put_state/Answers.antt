-- `states::words::put_state` meets its contract. The invariant: the words of the drives so far are written. Assumes nothing.
use Rattle.std.proofs.Common.{◌≡◌, ℕ, ◌+◌, ◌*◌, ◌≤◌, length, set, ap, ◌∙◌, arith, length-set}
use Rattle.std.proofs.Math.Seq.{paste, paste-zero}
use Rattle.definitions.specs.Map.{map_of}
use Rattle.definitions.specs.States.{drive_words}
use Rattle.states.specs.Stored.{drive-more, name-ahead}
use Rattle.states.proofs.words.put_state.Goals as goal

pub loop-i-init : goal.loop-i-init
loop-i-init c =
    let a = c.args in
    paste-zero (set a.s.now a.a a.name) (a.a + 1) (drive_words (map_of a.text.now).devices)

pub loop-i-preserved : goal.loop-i-preserved
loop-i-preserved c =
    let a = c.args in
    let e = c.count-i-end.ensures in
    let inside : a.a + 1 + 3 * c.loop-i.i + 3 ≤ length a.s.now = omega arith in
    drive-more (set a.s.now a.a a.name) (a.a + 1) (map_of a.text.now).devices c.loop-i.s c.loop-i.i c.read-d.result
    (omega arith) (omega (arith, inside, length-set a.s.now a.a a.name)) c.read-d.ensures c.loop-i.invariant

pub returns : goal.returns
returns c =
    let a = c.args in
    let ds = (map_of a.text.now).devices in
    let e : c.loop-i.i ≡ length ds = omega (arith, c.count-i-end.ensures) in
    c.loop-i.invariant ∙ ap (λ (k : ℕ). paste (set a.s.now a.a a.name) (a.a + 1) (drive_words ds) (3 * k)) e
    ∙ name-ahead a.s.now (drive_words ds) a.a a.name (3 * length ds) c.requires.0
