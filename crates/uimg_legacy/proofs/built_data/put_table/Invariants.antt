use Rattle.std.proofs.Common.{◌≡◌, length, map, take}
use Rattle.uimg_base.specs.Sink.{AppendsAll}
use Rattle.uimg_legacy.specs.Devices.{bytes_of, SameDevices}
use Rattle.uimg_legacy.proofs.TableLaws.{size_words}
use Rattle.uimg_legacy.proofs.built_data.put_table.Given as goal

-- the sizes before the index were written
abbrev pub invariant-loop-i : goal.invariant-loop-i
invariant-loop-i g l =
    let before = map g.S.Source.device l.fn.parts in
    let now = map g.S.Source.device l.parts in
    record {
      count : length l.parts ≡ length l.fn.parts;
      same : SameDevices before now;
      failures : map (λ d. d.failures) now ≡ map (λ d. d.failures) before;
      faults : l.out.faults ≡ l.fn.out.faults;
      written : AppendsAll l.fn.out l.out (size_words (take l.i (bytes_of before)));
    }
