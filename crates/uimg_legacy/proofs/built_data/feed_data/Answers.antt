use Rattle.std.proofs.Common.{◌≡◌, ◌++◌, map, append_assoc}
use Rattle.uimg_legacy.specs.{Building.{size_table, joined, data_of}, Devices.bytes_of}
use Rattle.uimg_legacy.proofs.{DevicesLaws.{honest_then, uses_then}, ResultLaws.OnOk-then}
use Rattle.uimg_legacy.proofs.built_data.feed_data.Goals as goal

pub returns : goal.returns
returns g c =
    let device = g.S.Source.device in
    let bytes = bytes_of (map device c.args.parts.now) in
    let table = c.in_ok-feed_table.ensures in
    record {
      uses = uses_then table.uses c.feed_joined-2.ensures.uses;
      fed = λ honest.
          let now = honest_then (map device c.args.parts.now) (map device c.feed_table.new.parts) table.uses.same honest in
          OnOk-then c.feed_joined-2.result _ _ (λ more fed before.
          let all : (fed ++ size_table bytes) ++ joined (bytes_of (map device c.feed_table.new.parts)) ≡ fed ++ data_of c.args.has_parts bytes =
          rw (c.if-not-has_parts.false, table.uses.same.bytes) (append_assoc fed (size_table bytes) (joined bytes)) in
          rw all at (more _ (table.fed tt fed before))) (c.feed_joined-2.ensures.fed now);
    }
