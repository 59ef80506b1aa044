use Rattle.std.proofs.Common.{rules, ◌≡◌, ◌++◌, map, take, append_assoc, arith}
use Rattle.std.specs.Int.{to_be_bytes, w32}
use Rattle.uimg_legacy.specs.{Building.size_table, Devices.bytes_of}
use Rattle.uimg_legacy.proofs.{DevicesLaws.count_bytes, TableLaws.size_words}
use Rattle.uimg_legacy.proofs.JoinedLaws.{words_all, table_whole}
use Rattle.uimg_legacy.proofs.built_data.feed_table.Goals as goal

pub returns : goal.returns
returns g c =
    let bytes = bytes_of (map g.S.Source.device c.args.parts.now) in
    let all : size_words (take c.loop-i.i bytes) ≡ size_words bytes = words_all bytes c.loop-i.i (omega (arith, count_bytes g.S.Source.device c.args.parts.now)) in
    record {
      uses = search rules;
      fed = λ sure fed held.
          let joined : (fed ++ size_words (take c.loop-i.i bytes)) ++ c.to_be_bytes.result ≡ fed ++ size_table bytes =
          rw (all, c.to_be_bytes.ensures, table_whole bytes) (append_assoc fed (size_words bytes) (to_be_bytes w32 0)) in
          rw joined at (c.feed-2.ensures _ (c.loop-i.invariant.fed fed held));
    }
