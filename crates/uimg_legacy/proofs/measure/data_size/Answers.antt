use Rattle.std.proofs.Common.{◌≡◌, ◌+◌, ◌*◌, List, length, map, Bool, true, length-append, ◌∙◌, sym, arith}
use Rattle.uimg_base.specs.Device.{Device}
use Rattle.uimg_legacy.specs.{Building.{joined, size_table, data_of}, Devices.bytes_of}
use Rattle.uimg_legacy.proofs.{DevicesLaws.count_bytes, TableLaws.length-table}
use Rattle.uimg_legacy.proofs.measure.data_size.Goals as goal

-- the table of sizes and the parts
length-data : {X : Type 0} (device : X → Device) (xs : List X) (has : Bool) → has ≡ true → length (data_of has (bytes_of (map device xs))) ≡ 4 * (length xs + 1) + length (joined (bytes_of (map device xs)))
length-data device xs has is =
    let bytes = bytes_of (map device xs) in
    let all = length-append (size_table bytes) (joined bytes) in
    rw is (omega (arith, all, length-table bytes, count_bytes device xs))

pub returns-then-has_parts : goal.returns-then-has_parts
returns-then-has_parts g c = record {
  uses = c.end_of_parts.ensures.uses;
  answer = rw (length-data g.S.Source.device c.args.parts.now _ (sym c.has_parts.ensures ∙ c.if-has_parts.true)) c.end_of_parts.ensures.answer;
}
