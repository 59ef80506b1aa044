use Rattle.std.proofs.Common.{◌≡◌, ◌++◌, drop}
use Rattle.uimg_unpacking.specs.Objects.{parts_told}
use Rattle.uimg_unpacking.proofs.part_folder.add_lines.Given as goal

-- only lines were added; with those of the parts that are left, they are those of all
abbrev pub invariant-loop-part : goal.invariant-loop-part
invariant-loop-part g l =
    (l.taker.staging ≡ l.fn.taker.staging) × (l.taker.begun ≡ l.fn.taker.begun) × (l.taker.json ≡ l.fn.taker.json)
    × (l.taker.lines.items ++ parts_told l.fn.taker.json l.dcrc (drop l.part-index l.parts) ≡ l.fn.taker.lines.items ++ parts_told l.fn.taker.json l.dcrc l.parts)
