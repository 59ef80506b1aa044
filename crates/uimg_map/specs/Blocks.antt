-- The blocks of a devicetree blob (Devicetree Specification, section 5.1).
use Rattle.std.specs.{Prelude.{ℕ, ◌+◌, ◌-◌, ◌^◌, min, max, List, [], ◌∷◌, Option}, Option.unwrap_or}
use Rattle.uimg_map.specs.declared.{fdt_header.FdtHeader.FdtHeader, thing.Thing.Thing}

-- The header and the three blocks by its numbers, in a file of `size` bytes; `end` is the end of
-- the reservation block inside the file. Without one the block ends 16 bytes after its start or
-- after the file's end, whichever is later, so outside the file.
abbrev pub blocks_by : FdtHeader → Option ℕ → ℕ → List Thing
blocks_by n end size =
    record { place = 0; end = 40; number = 0 }
    ∷ record {
      place = n.off_mem_rsvmap;
      end = unwrap_or end
          (min (max n.off_mem_rsvmap size + 16) (2 ^ 64 - 1));
      number = 1;
    }
    ∷ record { place = n.off_dt_struct; end = n.off_dt_struct + n.size_dt_struct; number = 2 }
    ∷ record { place = n.off_dt_strings; end = n.off_dt_strings + n.size_dt_strings; number = 3 }
    ∷ []
