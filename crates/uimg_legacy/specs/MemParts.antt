-- The parts of a taker in memory.
use Rattle.std.specs.Prelude.{List, [], map, Bool, true, false}
use Rattle.uimg_legacy.specs.{declared.unpacking.mem_parts.MemPart.MemPart, Unpacking.Part}

-- a part as its number and its bytes
abbrev pub mem_part : {A : Type 0} → MemPart A → Part
mem_part part = record { number = part.number; bytes = part.bytes.items }

-- the parts if a test holds, else none
abbrev pub parts_if : {A : Type 0} → Bool → List (MemPart A) → List Part
parts_if true parts = map mem_part parts
parts_if false parts = []
