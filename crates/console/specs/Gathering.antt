-- What was read for the map, read by read. Assumes nothing.
use Rattle.std.specs.Prelude.{◌≡◌, refl, List, ◌++◌, ℕ, ◌+◌, ◌≤◌, length, take, drop}
use Rattle.std.proofs.Common.{sym, ap, ◌∙◌, arith, length-take-le, take-add}
use Rattle.protocol.specs.declared.input.Spot.{Spot}
use Rattle.protocol.specs.declared.input.Spot.TheVariants.{Start}
use Rattle.protocol.specs.Input.{map_from, map_length, spot_after, map_bytes, map-from-start, spot-cut, map-cut, map-within}
use Rattle.console.specs.declared.Gathered.{Gathered}

-- of the bytes read, which stand at the front of the space, those of the map are counted, and where it stands is known
pub record Gathers (g : Gathered) (space : List ℕ) : Type 0 where
  pub within : g.read ≤ length space
  pub own : g.map ≤ g.read
  pub map_is : g.map ≡ map_length (take g.read space)
  pub spot_is : g.spot ≡ spot_after Start (take g.read space)

module _ (g : Gathered) (space : List ℕ) (h : Gathers g space) where
  -- k bytes more, as j were asked for, were read behind those that were there, and c of them are the map's
  pub gathers-more : (r : Gathered) (space' : List ℕ) (j k c : ℕ) → j ≡ k → take g.read space' ≡ take g.read space → r.read ≤ length space'
      → r.read ≡ g.read + k → r.map ≡ g.map + c → c ≡ map_bytes g.spot (take j (drop g.read space'))
      → r.spot ≡ spot_after g.spot (take j (drop g.read space')) → Gathers r space'
  gathers-more r space' j k c asked same within read map count spot =
      let new = take j (drop g.read space') in
      let old = take g.read space in
      let all : take r.read space' ≡ old ++ new = rw (read, ← asked) (take-add g.read j space' ∙ ap (λ (l : List ℕ). l ++ new) same) in
      let all_map : r.map ≡ map_bytes Start (old ++ new) =
      omega (arith, map, count, h.map_is, map-from-start old, map-cut Start old new, ap (λ (s : Spot). map_bytes s new) h.spot_is) in
      record {
        within = within;
        own = omega (arith, all_map, map-within Start (old ++ new), ap length all, length-take-le r.read space' within);
        map_is = rw all (all_map ∙ map-from-start (old ++ new));
        spot_is = rw all (spot ∙ ap (λ (s : Spot). spot_after s new) h.spot_is ∙ sym (spot-cut Start old new));
      }

-- nothing is read yet
pub gathers-none : (space : List ℕ) → Gathers (record { spot = Start; map = 0; read = 0 }) space
unfolding map_length map_from spot_after
gathers-none space = record { within = omega arith; own = omega arith; map_is = refl; spot_is = refl }
