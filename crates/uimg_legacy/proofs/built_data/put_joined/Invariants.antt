use Rattle.std.proofs.Common.{◌≡◌, ◌<◌, ◌%◌, length, map, take}
use Rattle.uimg_base.specs.Sink.{AppendsAll}
use Rattle.uimg_legacy.specs.{Building.joined, Devices.{bytes_of, AreHonest, SameDevices}}
use Rattle.uimg_legacy.proofs.built_data.put_joined.Given as goal

-- the parts before the index were written, and the number of their bytes has this remainder by 4
abbrev pub invariant-loop-i : goal.invariant-loop-i
invariant-loop-i g l =
    let before = map g.S.Source.device l.fn.parts in
    let now = map g.S.Source.device l.parts in
    record {
      count : length l.parts ≡ length l.fn.parts;
      same : SameDevices before now;
      failures : map (λ d. d.failures) now ≡ map (λ d. d.failures) before;
      faults : l.out.faults ≡ l.fn.out.faults;
      small : l.remainder < 4;
      remainder : length (joined (take l.i (bytes_of before))) % 4 ≡ l.remainder;
      written : AreHonest before → AppendsAll l.fn.out l.out (joined (take l.i (bytes_of before)));
    }
