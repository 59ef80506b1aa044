use Rattle.std.proofs.Common.{rules, map}
use Rattle.uimg_base.proofs.WritingLaws.{written_then}
use Rattle.uimg_legacy.specs.{Building.{size_table, joined}, Devices.bytes_of}
use Rattle.uimg_legacy.proofs.{DevicesLaws.{honest_then, uses_then}, PartStepsLaws.puts_by}
use Rattle.uimg_legacy.proofs.built_data.put_data.Goals as goal

pub returns : goal.returns
returns g c =
    let old = map g.S.Source.device c.args.parts.now in
    let table = c.in_ok-put_table.ensures in
    puts_by (uses_then table.uses c.put_joined-2.ensures.uses) (search rules) (search rules) (λ honest.
    let more = rw table.uses.same.bytes at c.put_joined-2.ensures.written (honest_then _ _ table.uses.same honest) in
    rw c.if-not-has_parts.false (written_then _ c.args.out.now c.put_table.new.out c.put_joined-2.new.out (size_table (bytes_of old)) (joined (bytes_of old)) (table.written tt).all more))
