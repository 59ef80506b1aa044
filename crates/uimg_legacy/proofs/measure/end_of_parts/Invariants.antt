use Rattle.std.proofs.Common.{◌≡◌, ◌≤◌, ◌<◌, ◌+◌, ◌^◌, length, map, take}
use Rattle.uimg_legacy.specs.{Building.joined, Devices.{bytes_of, asked_of, SameDevices}}
use Rattle.uimg_legacy.proofs.measure.end_of_parts.Given as goal

-- the parts before the index end there
abbrev pub invariant-loop-i : goal.invariant-loop-i
invariant-loop-i g l =
    let before = map g.S.Source.device l.fn.parts in
    let now = map g.S.Source.device l.parts in
    record {
      count : length l.parts ≡ length l.fn.parts;
      same : SameDevices before now;
      asked : asked_of now ≡ asked_of before;
      failures : map (λ d. d.failures) now ≡ map (λ d. d.failures) before;
      most : l.end ≤ l.start + length (joined (take l.i (bytes_of before)));
      exact : l.end < 2 ^ 32 → l.end ≡ l.start + length (joined (take l.i (bytes_of before)));
    }
