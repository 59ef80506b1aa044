use Rattle.std.proofs.Common.{◌≡◌, length, map, take, false}
use Rattle.uimg_legacy.specs.{Building.has_empty, Devices.{bytes_of, asked_of, SameDevices}}
use Rattle.uimg_legacy.proofs.measure.has_empty.Given as goal

-- no part before the index is empty
abbrev pub invariant-loop-i : goal.invariant-loop-i
invariant-loop-i g l =
    let before = map g.S.Source.device l.fn.parts in
    let now = map g.S.Source.device l.parts in
    record {
      count : length l.parts ≡ length l.fn.parts;
      same : SameDevices before now;
      asked : asked_of now ≡ asked_of before;
      failures : map (λ d. d.failures) now ≡ map (λ d. d.failures) before;
      full : has_empty (take l.i (bytes_of before)) ≡ false;
    }
