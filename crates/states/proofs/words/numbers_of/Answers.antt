-- `states::words::numbers_of` meets its contract. The invariant: the numbers so far are those of the first drives. Assumes nothing.
use Rattle.std.proofs.Common.{◌≡◌, ℕ, length, take, refl, sym, ap, ◌∙◌, arith, length-set}
use Rattle.std.proofs.lemmas.List.{length-map}
use lib.Seq.{take-length}
use Rattle.definitions.specs.declared.Device.{Device}
use Rattle.definitions.specs.Map.{map_of}
use Rattle.definitions.specs.States.{numbers_of}
use Rattle.states.specs.Words.{number_more}
use Rattle.states.proofs.words.numbers_of.Goals as goal

pub loop-i-init : goal.loop-i-init
loop-i-init c = (refl, refl)

pub loop-i-preserved : goal.loop-i-preserved
loop-i-preserved c =
    let l = c.loop-i in
    let e = c.count-i-end.ensures in
    let number = λ (d : Device). d.number in (
      length-set l.own l.i c.read.result.number ∙ l.invariant.0,
      number_more (map_of c.args.text.now).devices l.own l.i c.read.result.number (omega arith) (omega arith) (ap number c.read.ensures) l.invariant.1,
    )

pub returns : goal.returns
returns c =
    let l = c.loop-i in
    let ds = (map_of c.args.text.now).devices in
    let e : l.i ≡ length ds = omega (arith, c.count-i-end.ensures) in
    let f : length ds ≡ length (numbers_of ds) = sym (length-map ds (λ (d : Device). d.number)) in
    ap (λ (k : ℕ). take k l.own) (sym e) ∙ l.invariant.1 ∙ ap (λ (k : ℕ). take k (numbers_of ds)) (e ∙ f) ∙ take-length (numbers_of ds)
