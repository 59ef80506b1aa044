use Rattle.std.proofs.Common.{◌≡◌, ◌++◌, ℕ, List, length, map, take}
use Rattle.uimg_legacy.specs.Devices.{bytes_of, SameDevices}
use Rattle.uimg_legacy.proofs.TableLaws.{size_words}
use Rattle.uimg_legacy.proofs.built_data.feed_table.Given as goal

-- the sizes before the index were fed
abbrev pub invariant-loop-i : goal.invariant-loop-i
invariant-loop-i g l =
    let before = map g.S.Source.device l.fn.parts in
    let now = map g.S.Source.device l.parts in
    record {
      count : length l.parts ≡ length l.fn.parts;
      same : SameDevices before now;
      failures : map (λ d. d.failures) now ≡ map (λ d. d.failures) before;
      fed : (fed : List ℕ) → g.M.Summer.holds l.fn.sum fed → g.M.Summer.holds l.sum (fed ++ size_words (take l.i (bytes_of before)));
    }
