-- `crush_place::listed` meets its contract: 16, then the list in bytes. Assumes nothing.
use Rattle.std.proofs.Common.{◌≡◌, refl, sym, ◌∙◌, List, ℕ, length, take, arith, leb-true, leb-false, length-take-le, replicate}
use Rattle.laws.specs.Loadable.{in_blocks_lem}
use Rattle.text.specs.Loading.{loaded}
use Rattle.engine.specs.Rows.{stopped}
use Rattle.crush_place.specs.Calls.{daemon-16, daemon-done}
use Rattle.crush_place.proofs.listed.Goals as goal

pub width-w-requires : goal.width-w-requires
width-w-requires c =
    let l = loaded _ c.requires.0 in
    record { ranged = l.ranged; t_len_bound = ((in_blocks_lem _ l.in_blocks).most, l.slim) }

pub returns-in_err-ask : goal.returns-in_err-ask
returns-in_err-ask c =
    let h = c.in_err-ask.ensures in
    stopped _ _ _ _ c.from_residual.result c.from_residual.ensures.1 h.1
    (sym (daemon-16 _ _ _ c.requires.0 c.requires.1 (omega (arith, leb-false _ _ h.0, c.width-w.ensures.0))))

pub slice_bounds-place_bytes-end : goal.slice_bounds-place_bytes-end
slice_bounds-place_bytes-end c = sym (length-take-le _ _ (omega (arith, c.width-w.ensures.1)))

pub place_bytes-tries-requires : goal.place_bytes-tries-requires
place_bytes-tries-requires c =
    let row : List ℕ = replicate 32 0 in
    let l : length (take c.width-w.result row) ≡ c.width-w.result = length-take-le c.width-w.result row (omega (arith, c.width-w.ensures.1)) in
    record { map_value = (c.requires.0, l ∙ c.width-w.ensures.0); map_in_bounds = rw (← c.width-w.ensures.0) (leb-true _ _ c.in_ok-ask.ensures) }

pub returns : goal.returns
returns c =
    let a = c.args in (
      refl,
      daemon-done a.text.now a.group a.out.now _ _ c.width-w.result _ c.requires.0 c.requires.1 c.width-w.ensures.0
          (leb-true _ _ c.in_ok-ask.ensures) refl c.place_bytes-tries.ensures.1 c.place_bytes-tries.ensures.0,
    )
