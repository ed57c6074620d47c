-- A map returned to a state whose drives words spell: that load takes it, and how its text is written. Assumes nothing.
use Rattle.std.specs.Prelude.{◌≡◌, true, List, ℕ, ◌+◌, ◌*◌, ◌≤◌, length, drop}
use Rattle.std.proofs.Common.{◌∙◌, arith}
use Rattle.std.proofs.Math.Path.{ap}
use Rattle.definitions.specs.declared.Device.{Device}
use Rattle.definitions.specs.Lists.{every}
use Rattle.definitions.specs.Map.{Map, map_of, bucket_item}
use Rattle.definitions.specs.Rule.{width_of}
use Rattle.definitions.specs.Load.{bucket_ranged, device_ranged, ranged}
use Rattle.definitions.specs.Edit.{with_devices, with_sum, with_sums}
use Rattle.definitions.specs.Writing.{map_text}
use Rattle.definitions.specs.States.{drives_in, numbers_of, put_state}
use Rattle.definitions.specs.Calls.{independent}
use Rattle.laws.specs.Lists.{every-at}
use Rattle.laws.specs.Members.{map-ext}
use Rattle.laws.specs.Loadable.{Loadable, numbers, ranged-is, bucket-ranged, sums-leave-weights}
use Rattle.keeping.specs.Returned.{state-groups, state-width, state-independent, state-loadable}
use Rattle.keeping.specs.States.{drives-count}
use Rattle.text.specs.Records.{no_bucket, counts_of}
use Rattle.text.specs.Edit.{with_buckets, bearing, borne_by, bearing_all, Edited}
use Rattle.edit_frame.specs.Sums.{Numbered}
use Rattle.hierarchy.specs.Tables.{Tabled}
use Rattle.compile.specs.Weighing.{bucket_weight}
use Rattle.editing.specs.Paired.{Asked}

-- as many drives as the map has, from word a on
abbrev pub drives_at : Map → List ℕ → ℕ → List Device
drives_at m ws a = drives_in (length m.devices) (drop a ws)

-- the map with their values
abbrev pub returned_to : Map → List ℕ → ℕ → Map
returned_to m ws a = put_state m (drives_at m ws a)

-- the words are there, and spell the map's drives with values that load takes
pub record Spelt (m : Map) (ws : List ℕ) (a : ℕ) : Type 0 where
  pub inside : a + 3 * length m.devices ≤ length ws
  pub short : length ws ≤ 24586
  pub drives : numbers_of (drives_at m ws a) ≡ numbers m
  pub values : every device_ranged (drives_at m ws a) ≡ true

module _ (m : Map) (ws : List ℕ) (a : ℕ) (S : Spelt m ws a) where
  abbrev ds : List Device
  ds = drives_at m ws a

  abbrev m' : Map
  m' = returned_to m ws a

  pub returned-loadable : Loadable m → Loadable m'
  returned-loadable L = state-loadable m ds S.drives L S.values

  -- what is known of the map before and after
  pub asked-return : (k w : ℕ) → Loadable m → independent m ≡ true → k ≡ m.groups → w ≡ width_of m → Asked m m' k w
  asked-return k w L i g e =
      record {
        loadable = L;
        loadable' = returned-loadable L;
        only = i;
        only' = state-independent m ds;
        groups = g;
        groups' = state-groups m ds;
        width = e;
        width' = state-width m ds;
      }

  -- what writing the weights of the buckets asks of the text with the drives' values
  pub values-counts : counts_of (with_devices m ds) ≡ counts_of m
  unfolding counts_of
  values-counts = rw (drives-count (length m.devices) (drop a ws))

  pub values-numbered : ranged m ≡ true → (n : ℕ) (x : Map) → n ≡ 256 → x ≡ with_devices m ds → Numbered n x
  values-numbered g n x p q =
      rw (p, q) (record { below = λ j l. omega (arith, (bucket-ranged _ (every-at bucket_ranged m.buckets j no_bucket (ranged-is m g).buckets l)).number) })

  -- and what it leaves
  bear-all : (loads : List ℕ) → Tabled loads 256 (bucket_weight m') → bearing_all loads (with_devices m ds) ≡ m'
  unfolding bearing_all put_state with_sums
  bear-all loads W =
      let n = with_devices m ds in
      ap (with_buckets n)
      (map-ext (borne_by loads) (with_sum n) m.buckets (λ b q. ap (bearing b) (W.at b.number ∙ sums-leave-weights n (bucket_item b.number))))

  pub values-put : (u v loads : List ℕ) → Edited u (with_devices m ds) → Tabled loads 256 (bucket_weight m') → Edited v (bearing_all loads (map_of u)) → v ≡ map_text m'
  values-put u v loads D W E = E.text ∙ ap (λ (x : Map). map_text (bearing_all loads x)) D.holds ∙ ap map_text (bear-all loads W)
