-- Worked cases, so that a wrong rule in a definition does not check.
use Rattle.std.{proofs.Common.{◌≡◌, ℕ, List, [], ◌∷◌, ◌++◌, Ok, Err, refl}, specs.Prelude.codes}
use Rattle.hex.specs.Hex.{encode_with}
use Rattle.uimg_sums.specs.Crc.{crc, bits, number_of, xor_bits, polynomial, rem_by, rem, dividend, invert_prefix}
use Rattle.uimg_base.specs.Outcome.{done, refused, told, after, line}
use Rattle.uimg_texts.specs.{Calendar.civil_date, Times.time_text, Numbers.be32}
use Rattle.uimg_texts.specs.Nul.{before_nul, text}
use Rattle.uimg_legacy.specs.declared.fault.LegacyFault.TheVariants.{NoTableEnd, PartOutside, NoSuchPart, EmptyPart}
use Rattle.uimg_legacy.specs.{Words.whole_words, Image.has_right_data, Report.verify_of}
use Rattle.uimg_legacy.specs.Header.{head, has_right_crc, fields, header, spelled_with}
use Rattle.uimg_legacy.specs.Parts.{has_parts, sizes, part_sizes, start, is_outside}
use Rattle.uimg_legacy.specs.Extraction.{listed_part, single, extract_of}
use Rattle.uimg_legacy.specs.Building.{joined, size_table, has_empty, data_to_build, legacy_built}
use Rattle.uimg_texts.specs.{declared.naming.Naming.TheVariants.Profile, Naming.code_text}
use Rattle.uimg_legacy.specs.Listing.{name_line, time_line, type_line, load_line, entry_line, head_text, part_line, part_lines, list_of}

-- parts of 3, 4 and 5 bytes, each but the last padded to a multiple of 4
abbrev three : List ℕ
three = 0 ∷ 0 ∷ 0 ∷ 3 ∷ 0 ∷ 0 ∷ 0 ∷ 4 ∷ 0 ∷ 0 ∷ 0 ∷ 5 ∷ 0 ∷ 0 ∷ 0 ∷ 0 ∷ 97 ∷ 98 ∷ 99 ∷ 0 ∷ 100 ∷ 101 ∷ 102 ∷ 103 ∷ 104 ∷ 105 ∷ 106 ∷ 107 ∷ 108 ∷ []

pub three_parts : (part_sizes three ≡ Ok (3 ∷ 4 ∷ 5 ∷ [])) × (start (3 ∷ 4 ∷ 5 ∷ []) 0 ≡ 16) × (start (3 ∷ 4 ∷ 5 ∷ []) 1 ≡ 20) × (start (3 ∷ 4 ∷ 5 ∷ []) 2 ≡ 24)
unfolding part_sizes sizes whole_words be32 start
three_parts = (refl, refl, refl, refl)

pub three_listed : (listed_part three (3 ∷ 4 ∷ 5 ∷ []) 1 ≡ Ok (codes "defg")) × (listed_part three (3 ∷ 4 ∷ 5 ∷ []) 2 ≡ Ok (codes "hijkl")) × (listed_part three (3 ∷ 4 ∷ 5 ∷ []) 3 ≡ Err NoSuchPart)
unfolding listed_part is_outside start
three_listed = (refl, refl, refl)

-- a part of 3 bytes, and one of 100 in 17 bytes of data
abbrev outside : List ℕ
outside = 0 ∷ 0 ∷ 0 ∷ 3 ∷ 0 ∷ 0 ∷ 0 ∷ 100 ∷ 0 ∷ 0 ∷ 0 ∷ 0 ∷ 97 ∷ 98 ∷ 99 ∷ 0 ∷ 100 ∷ []

pub part_outside : (part_sizes outside ≡ Ok (3 ∷ 100 ∷ [])) × (part_lines outside (3 ∷ 100 ∷ []) 2 0 ≡ after (part_line 0 3) (told [] (refused PartOutside)))
unfolding part_sizes sizes whole_words be32 part_lines is_outside start
part_outside = (refl, refl)

-- a table without a zero word
pub no_table_end : part_sizes (0 ∷ 0 ∷ 0 ∷ 3 ∷ []) ≡ Err NoTableEnd
unfolding part_sizes sizes whole_words be32
no_table_end = refl

-- the 67 bytes of a kernel of `abc`
abbrev kernel : List ℕ
kernel = 39 ∷ 5 ∷ 25 ∷ 86 ∷ 249 ∷ 241 ∷ 65 ∷ 222 ∷ 101 ∷ 83 ∷ 241 ∷ 0 ∷ 0 ∷ 0 ∷ 0 ∷ 3 ∷ 0 ∷ 8 ∷ 0 ∷ 0 ∷ 0 ∷ 8 ∷ 0 ∷ 0 ∷ 53 ∷ 36 ∷ 65 ∷ 194 ∷ 5 ∷ 22 ∷ 2 ∷ 0 ∷ 48 ∷ 49 ∷ 50 ∷ 51 ∷ 52 ∷ 53 ∷ 54 ∷ 55 ∷ 56 ∷ 57 ∷ 48 ∷ 49 ∷ 50 ∷ 51 ∷ 52 ∷ 53 ∷ 54 ∷ 55 ∷ 56 ∷ 57 ∷ 48 ∷ 49 ∷ 50 ∷ 51 ∷ 52 ∷ 53 ∷ 54 ∷ 55 ∷ 56 ∷ 57 ∷ 48 ∷ 49 ∷ 97 ∷ 98 ∷ 99 ∷ []

pub kernel_header : header kernel ≡ Ok (record { time = 1700000000; size = 3; load = 524288; ep = 524288; dcrc = 891568578; os = 5; arch = 22; kind = 2; comp = 0; name = codes "01234567890123456789012345678901" })
unfolding head has_right_crc be32 crc bits number_of xor_bits polynomial rem_by rem dividend invert_prefix
kernel_header = refl

pub kernel_report : verify_of kernel ≡ told (codes "header crc32 ok" ++ 10 ∷ [] ++ (codes "data crc32 ok" ++ 10 ∷ [])) done
unfolding head has_right_crc has_right_data be32 crc bits number_of xor_bits polynomial rem_by rem dividend invert_prefix
kernel_report = refl

pub kernel_positions : (extract_of kernel 0 ≡ told (codes "abc") done) × (extract_of kernel 1 ≡ told [] (refused NoSuchPart))
unfolding head has_right_crc has_right_data has_parts single be32 crc bits number_of xor_bits polynomial rem_by rem dividend invert_prefix
kernel_positions = (refl, refl)

-- the image whose data are those 17 bytes
abbrev outside_image : List ℕ
outside_image = 39 ∷ 5 ∷ 25 ∷ 86 ∷ 70 ∷ 56 ∷ 204 ∷ 175 ∷ 0 ∷ 0 ∷ 0 ∷ 0 ∷ 0 ∷ 0 ∷ 0 ∷ 17 ∷ 0 ∷ 0 ∷ 0 ∷ 0 ∷ 0 ∷ 0 ∷ 0 ∷ 0 ∷ 88 ∷ 177 ∷ 193 ∷ 33 ∷ 5 ∷ 7 ∷ 4 ∷ 1 ∷ 0 ∷ 0 ∷ 0 ∷ 0 ∷ 0 ∷ 0 ∷ 0 ∷ 0 ∷ 0 ∷ 0 ∷ 0 ∷ 0 ∷ 0 ∷ 0 ∷ 0 ∷ 0 ∷ 0 ∷ 0 ∷ 0 ∷ 0 ∷ 0 ∷ 0 ∷ 0 ∷ 0 ∷ 0 ∷ 0 ∷ 0 ∷ 0 ∷ 0 ∷ 0 ∷ 0 ∷ 0 ∷ 0 ∷ 0 ∷ 0 ∷ 3 ∷ 0 ∷ 0 ∷ 0 ∷ 100 ∷ 0 ∷ 0 ∷ 0 ∷ 0 ∷ 97 ∷ 98 ∷ 99 ∷ 0 ∷ 100 ∷ []

pub outside_listing : list_of Profile outside_image ≡ after (head_text Profile (fields outside_image)) (after (line (codes "Contents:")) (after (part_line 0 3) (told [] (refused PartOutside))))
unfolding head has_right_crc has_right_data has_parts part_sizes sizes whole_words be32 start is_outside part_lines crc bits number_of xor_bits polynomial rem_by rem dividend invert_prefix
outside_listing = refl

-- lines of the kernel, and of an image of the first second of 1970
pub known_lines : (name_line (fields kernel) ≡ line (codes "Image Name:   01234567890123456789012345678901"))
    × (time_line (fields outside_image) ≡ line (codes "Created:      Thu Jan  1 00:00:00 1970"))
    × (type_line Profile (fields kernel) ≡ line (codes "Image Type:   AArch64 Linux Kernel Image (uncompressed)"))
    × (load_line (fields kernel) ≡ line (codes "Load Address: 00080000"))
    × (entry_line (fields outside_image) ≡ line (codes "Entry Point:  00000000"))
unfolding before_nul text name_line time_line type_line code_text load_line entry_line be32 time_text civil_date encode_with
known_lines = (refl, refl, refl, refl, refl)

-- the data of three parts, and of one that is empty
pub three_built : (data_to_build 4 (codes "abc" ∷ codes "defg" ∷ codes "hijkl" ∷ []) ≡ Ok three)
    × (data_to_build 6 (codes "abc" ∷ [] ∷ []) ≡ Err EmptyPart)
    × (data_to_build 2 ([] ∷ []) ≡ Ok [])
unfolding data_to_build has_parts has_empty joined size_table
three_built = (refl, refl, refl)

-- the kernel is what is built of `abc`
pub kernel_built : legacy_built
    (record { time = 1700000000; load = 524288; ep = 524288; os = 5; arch = 22; kind = 2; comp = 0; name = codes "01234567890123456789012345678901" })
    (codes "abc" ∷ []) ≡ kernel
unfolding has_parts joined spelled_with crc bits number_of xor_bits polynomial rem_by rem dividend invert_prefix
kernel_built = refl
