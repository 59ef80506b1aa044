-- The header of a devicetree blob (Devicetree Specification, section 5.2).
use Rattle.std.specs.Prelude.{ℕ, List, length, take, nat_lt, ◌==◌, if◌then◌else◌, Option, Some}
use Rattle.std.specs.Prelude.{None}
use Rattle.uimg_texts.specs.Numbers.{be32}
use Rattle.uimg_map.specs.declared.fdt_header.FdtHeader.{FdtHeader}

-- the numbers at their offsets: magic, totalsize, off_dt_struct, off_dt_strings, off_mem_rsvmap,
-- version, last_comp_version, boot_cpuid_phys, size_dt_strings, size_dt_struct
abbrev pub fdt_header_at_start : List ℕ → FdtHeader
fdt_header_at_start bytes = record {
  magic = be32 bytes 0;
  totalsize = be32 bytes 4;
  off_dt_struct = be32 bytes 8;
  off_dt_strings = be32 bytes 12;
  off_mem_rsvmap = be32 bytes 16;
  version = be32 bytes 20;
  last_comp_version = be32 bytes 24;
  boot_cpuid_phys = be32 bytes 28;
  size_dt_strings = be32 bytes 32;
  size_dt_struct = be32 bytes 36;
}

-- the numbers of a file, if it has 40 bytes and begins with the magic number
unfoldable pub fdt_header_of : List ℕ → Option FdtHeader
fdt_header_of file =
    if nat_lt (length file) 40 then None
    else if be32 (take 40 file) 0 == 0xd00dfeed then Some (fdt_header_at_start (take 40 file))
    else None
