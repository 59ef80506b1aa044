-- What some words of -D request, and the source that some words of -f auto make.
use Rattle.std.proofs.Common.{◌≡◌, ◌++◌, [], ◌∷◌, Some, None, Ok, Err, codes, true, refl, replicate}
use Rattle.std.specs.{Fmt.digits, Prelude.⊤}
use Rattle.uimg_texts.specs.Naming.{code_text}
use Rattle.uimg_compat.specs.Asked.{Auto}
use Rattle.uimg_compat.specs.AutoSource.{auto_text, base_name, trees_of}
use Rattle.uimg_compat.specs.Dtc.{dtc_asked, dtc_rows, no_options}
use Rattle.uimg_compat.specs.DtcChecks.{dtc_checks, is_check}
use Rattle.uimg_compat.specs.Getopt.{lettered}
use Rattle.uimg_compat.specs.ImageTree.{escaped, item_text, source_text, title}
use Rattle.uimg_compat.specs.Mkimage.{mkimage_rows}
use Rattle.uimg_compat.specs.Wrong.{dtc_end, dtc_pad_and_space, dtc_word}

-- ---- the words of -D

unfoldable dtc_on_literals : ⊤
unfolding lettered dtc_rows dtc_checks is_check lib.Count.ones
dtc_on_literals = tt

no_words : dtc_asked [] ≡ Ok no_options
unfolding dtc_on_literals
no_words = refl

two_folders : dtc_asked (codes "-i first -qi second  --include=third") ≡ Ok (record no_options { folders = codes "first" ∷ codes "second" ∷ codes "third" ∷ [] })
unfolding dtc_on_literals
two_folders = refl

numbers : dtc_asked (codes "-I dts -O dtb -p 500 -p0x40 -S 0 -a 010 -b 0 -R4") ≡ Ok (record no_options { pad = 64 })
unfolding dtc_on_literals
numbers = refl

-- dtc reads `064` as 52.
no_power_of_two : dtc_asked (codes "-a 064") ≡ Err dtc_word
unfolding dtc_on_literals
no_power_of_two = refl

pad_and_space : dtc_asked (codes "-S 3000 -p 10") ≡ Err dtc_pad_and_space
unfolding dtc_on_literals
pad_and_space = refl

no_value : dtc_asked (codes "-q -i") ≡ Err dtc_end
unfolding dtc_on_literals
no_value = refl

cut_names : dtc_asked (codes "--sym --pa 3") ≡ Ok (record no_options { has_symbols = true; pad = 3 })
unfolding dtc_on_literals
cut_names = refl

ambiguous_name : dtc_asked (codes "--s 3") ≡ Err dtc_word
unfolding dtc_on_literals
ambiguous_name = refl

checks : dtc_asked (codes "-W no-unit_address_vs_reg -Eno-duplicate_node_names") ≡ Ok (record no_options { equal_nodes = true })
unfolding dtc_on_literals
checks = refl

no_check : dtc_asked (codes "-W nosuch") ≡ Err dtc_word
unfolding dtc_on_literals
no_check = refl

for_the_shell : dtc_asked (codes "-i $HOME -i") ≡ Err dtc_word
unfolding dtc_on_literals
for_the_shell = refl

-- ---- -f auto

trees : trees_of (codes "-f" ∷ codes "auto" ∷ codes "-b" ∷ codes "a.dtb" ∷ codes "-Ebdtb/b.dtb" ∷ codes "out" ∷ []) ≡ codes "a.dtb" ∷ codes "dtb/b.dtb" ∷ []
unfolding lettered mkimage_rows
trees = refl

names : base_name (codes "a.b/dtb/sun7i.a20.dtb") ≡ codes "sun7i.a20"
names = refl

no_suffix : base_name (codes "a.b/dtb") ≡ codes "dtb"
no_suffix = refl

-- a kernel for ARM with one device tree and a RAM disk
abbrev auto : Auto
auto = record {
  options = record { time = 0; load = 32768; ep = 32832; os = 5; arch = 2; kind = 2; comp = 1; name = replicate 32 0 };
  name = codes "a \"b\"";
  file = codes "zImage";
  ramdisk = Some (codes "initrd");
  signature = None;
  words = codes "-f" ∷ codes "auto" ∷ codes "-b" ∷ codes "x/board.dtb" ∷ codes "out" ∷ [];
}

source : auto_text auto ≡ codes "/dts-v1/;\n/ {\ndescription = \"Kernel Image image with one or more FDT blobs\";\ncreator = \"U-Boot mkimage 2023.01\";\n#address-cells = <1>;\nimages {\n"
    ++ codes "kernel-1 {\ndescription = \"a \\x22b\\x22\";\ntype = \"kernel\";\narch = \"arm\";\nos = \"linux\";\ncompression = \"gzip\";\nload = <32768>;\nentry = <32832>;\ndata = /incbin/(\"zImage\");\nhash-1 {\nalgo = \"crc32\";\n};\n};\n"
    ++ codes "fdt-1 {\ndescription = \"board\";\ndata = /incbin/(\"x/board.dtb\");\ntype = \"flat_dt\";\narch = \"arm\";\ncompression = \"none\";\nhash-1 {\nalgo = \"crc32\";\n};\n};\n"
    ++ codes "ramdisk-1 {\ntype = \"ramdisk\";\nos = \"linux\";\narch = \"arm\";\ndata = /incbin/(\"initrd\");\nhash-1 {\nalgo = \"crc32\";\n};\n};\n};\nconfigurations {\ndefault = \"conf-1\";\n"
    ++ codes "conf-1 {\ndescription = \"board\";\nkernel = \"kernel-1\";\nloadables = \"kernel-1\";\nramdisk = \"ramdisk-1\";\nfdt = \"fdt-1\";\n};\n};\n};\n"
unfolding lettered mkimage_rows auto_text source_text item_text escaped title code_text digits
source = refl
