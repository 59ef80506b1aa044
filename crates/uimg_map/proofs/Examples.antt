-- What the definitions find in small files.
use Rattle.std.proofs.Common.{◌≡◌, [], ◌∷◌, replicate, codes, Some, None, refl}
use Rattle.uimg_fit_base.specs.declared.fault.Fault.TheVariants as of
use Rattle.uimg_fit_base.specs.declared.fault.FitFault.TheVariants.{DataOutside, NoData}
use Rattle.uimg_fit_base.specs.Files.{number}
use Rattle.uimg_legacy.specs.declared.fault.LegacyFault.TheVariants.{TooShort, BadHeaderCrc, NoTableEnd, PartOutside}
use Rattle.uimg_legacy.specs.Header.{head}
use Rattle.uimg_map.specs.{declared.fault.MapFault.TheVariants.Fit, Reservations.block_end}
use Rattle.uimg_map.specs.Images.{ImageTold}
use Rattle.uimg_map.specs.{FitContents.{is_value, image_told, images_told}, Reservations.end_among}
use Rattle.uimg_map.specs.Found.{the_header, payload_of, embedded_of, the_table, part_at, the_padding, fault_of, refused_behind}
use Rattle.uimg_map.specs.LegacyContents.{legacy_fault, refused_header, endless_told, parts_told, legacy_contents}

-- an image whose payload is the value of `data`, and one whose payload stands behind it, both of three bytes; one without a payload
inner : ImageTold
inner = record {
  name = codes "a";
  payload = record { embedded = Some (record { place = 90; length = 3 }); size = None; offset = None; position = None };
  covered = None;
}

outer : ImageTold
outer = record inner {
  name = codes "b";
  covered = Some (codes "c");
  payload = record { embedded = None; size = Some (0 ∷ 0 ∷ 0 ∷ 3 ∷ []); offset = Some (0 ∷ 0 ∷ 0 ∷ 1 ∷ []); position = None };
}

bare : ImageTold
bare = record inner { payload = record { embedded = None; size = None; offset = None; position = None } }

-- the first fault counts: a payload that ends behind the file, and not that the next image has none
payloads : images_told 103 97 (inner ∷ outer ∷ bare ∷ []) ≡ record {
  found = record { what = embedded_of (codes "a") None; place = 90; end = 93 } ∷ record { what = payload_of (codes "b") (Some (codes "c")); place = 101; end = 104 } ∷ [];
  fault = Some (Fit (of.Fit DataOutside));
}
unfolding inner outer bare is_value refused_behind number
payloads = refl

no_payload : image_told 103 97 bare ≡ record { found = []; fault = Some (Fit (of.Fit NoData)) }
unfolding inner bare
no_payload = refl

-- three parts, of which the first is padded, and the last ends with the data
three : parts_told 93 80 0 (3 ∷ 4 ∷ 5 ∷ []) ≡ record {
  found = record { what = part_at 0; place = 80; end = 83 } ∷ record { what = the_padding; place = 83; end = 84 }
      ∷ record { what = part_at 1; place = 84; end = 88 } ∷ record { what = part_at 2; place = 88; end = 93 } ∷ [];
  fault = None;
}
unfolding parts_told
three = refl

-- no part is behind the first that ends behind the data
outside : parts_told 84 80 0 (3 ∷ 100 ∷ 1 ∷ []) ≡ record {
  found = record { what = part_at 0; place = 80; end = 83 } ∷ record { what = the_padding; place = 83; end = 84 }
      ∷ record { what = part_at 1; place = 84; end = 184 } ∷ record { what = fault_of (legacy_fault PartOutside); place = 84; end = 84 } ∷ [];
  fault = Some (legacy_fault PartOutside);
}
unfolding parts_told
outside = refl

-- a table without an end: of data that the file has, and of data that are cut
endless : endless_told 68 4 NoTableEnd ≡ record {
  found = record { what = the_table; place = 64; end = 68 } ∷ record { what = fault_of (legacy_fault NoTableEnd); place = 68; end = 68 } ∷ [];
  fault = Some (legacy_fault NoTableEnd);
}
endless = refl

endless_cut : endless_told 67 4 NoTableEnd ≡ record { found = record { what = the_table; place = 64; end = 68 } ∷ []; fault = None }
endless_cut = refl

-- a header whose CRC is wrong, and a file that is too short for one
bad_crc : refused_header BadHeaderCrc ≡ record {
  found = record { what = the_header; place = 0; end = 64 } ∷ record { what = fault_of (legacy_fault BadHeaderCrc); place = 4; end = 4 } ∷ [];
  fault = Some (legacy_fault BadHeaderCrc);
}
bad_crc = refl

short : legacy_contents (0x27 ∷ []) ≡ record {
  found = record { what = fault_of (legacy_fault TooShort); place = 0; end = 0 } ∷ [];
  fault = Some (legacy_fault TooShort);
}
unfolding legacy_contents head
short = refl

-- a reservation block ends with its entry of zeros, or nowhere
ended : block_end (1 ∷ replicate 31 0) 0 ≡ Some 32
unfolding block_end end_among
ended = refl

unended : block_end (1 ∷ replicate 30 0) 0 ≡ None
unfolding block_end end_among
unended = refl
