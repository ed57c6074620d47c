-- `ranges::ranged::ranged` meets its contract: of its five questions four are put to every record. Assumes nothing.
use Rattle.std.proofs.Common.{◌≡◌, refl, ◌&&◌}
use Rattle.definitions.specs.Lists.{every}
use Rattle.definitions.specs.Map.{map_of}
use Rattle.definitions.specs.Load.{within, device_ranged, bucket_ranged, link_ranged, step_ranged, ranged}
use Rattle.laws.specs.Chains.{and-yes, and-no}
use Rattle.ranges.proofs.ranged.ranged.Goals as goal
use Rattle.ranges.proofs.ranged.ranged.Goals.{then-groups_ranged, else-groups_ranged, then-every, else-every, then-every-2, else-every-2}

pub returns-then-every-3 : goal.returns-then-every-3
unfolding ranged
returns-then-every-3 c =
    let m = map_of c.args.t.now in
    let groups : c.groups_ranged.result ≡ within 1 65536 m.groups = rw (← c.t.view_is, ← c.groups.ensures) c.groups_ranged.ensures in
    let devices : c.if-groups_ranged.value ≡ within 1 65536 m.groups && every device_ranged m.devices =
    elim c.if-groups_ranged.branch [
      | then-groups_ranged w ↦ and-yes groups w.if-groups_ranged.true w.value-is (w.every.ensures device_ranged (λ k l b q. q))
      | else-groups_ranged w ↦ and-no _ groups w.if-groups_ranged.false w.value-is
    ] in
    let buckets : c.if-every.value ≡ within 1 65536 m.groups && every device_ranged m.devices && every bucket_ranged m.buckets =
    elim c.if-every.branch [
      | then-every w ↦ and-yes devices w.if-every.true w.value-is (w.every-then-every.ensures bucket_ranged (λ k l b q. q))
      | else-every w ↦ and-no _ devices w.if-every.false w.value-is
    ] in
    and-yes
    (elim c.if-every-2.branch [
      | then-every-2 w ↦ and-yes buckets w.if-every-2.true w.value-is (w.every-then-every-2.ensures link_ranged (λ k l b q. q))
      | else-every-2 w ↦ and-no _ buckets w.if-every-2.false w.value-is
    ])
    c.if-every-3.true refl (c.every-then-every-3.ensures step_ranged (λ k l b q. q))

pub returns-else-every-3 : goal.returns-else-every-3
unfolding ranged
returns-else-every-3 c =
    let m = map_of c.args.t.now in
    let groups : c.groups_ranged.result ≡ within 1 65536 m.groups = rw (← c.t.view_is, ← c.groups.ensures) c.groups_ranged.ensures in
    let devices : c.if-groups_ranged.value ≡ within 1 65536 m.groups && every device_ranged m.devices =
    elim c.if-groups_ranged.branch [
      | then-groups_ranged w ↦ and-yes groups w.if-groups_ranged.true w.value-is (w.every.ensures device_ranged (λ k l b q. q))
      | else-groups_ranged w ↦ and-no _ groups w.if-groups_ranged.false w.value-is
    ] in
    let buckets : c.if-every.value ≡ within 1 65536 m.groups && every device_ranged m.devices && every bucket_ranged m.buckets =
    elim c.if-every.branch [
      | then-every w ↦ and-yes devices w.if-every.true w.value-is (w.every-then-every.ensures bucket_ranged (λ k l b q. q))
      | else-every w ↦ and-no _ devices w.if-every.false w.value-is
    ] in
    and-no _
    (elim c.if-every-2.branch [
      | then-every-2 w ↦ and-yes buckets w.if-every-2.true w.value-is (w.every-then-every-2.ensures link_ranged (λ k l b q. q))
      | else-every-2 w ↦ and-no _ buckets w.if-every-2.false w.value-is
    ])
    c.if-every-3.false refl
