-- The options of mkimage, and what each sets.
use Rattle.std.specs.Prelude.{◌==◌, ℕ, Bool, true, false, List, [], ◌∷◌, Option, Some, None, option_map, Result, Ok, Err, codes, if◌then◌else◌}
use Rattle.uimg_texts.specs.declared.field.Field.{Field}
use Rattle.uimg_texts.specs.declared.field.Field.TheVariants.{Architecture, System, Kind, Compression}
use Rattle.uimg_compat.specs.Asked.{help, names, version}
use Rattle.uimg_compat.specs.CNumbers.{low_32}
use Rattle.uimg_compat.specs.Getopt.{Row, Text, Told, flag, operand, value}
use Rattle.uimg_compat.specs.Names.{name_asked}
use Rattle.uimg_compat.specs.Steps.{Step, asks, first_of, refuses, sets, sets_by}
use Rattle.uimg_compat.specs.Wrong.{Wrong, no_number, or_wrong}
use Rattle.uimg_compat.specs.declared.{mkimage.Settings.Settings, names.Named.Named}
use Rattle.uimg_compat.specs.declared.names.Named.TheVariants as named

abbrev pub flag_row : ℕ → Text → Row
flag_row letter name = record { letter = letter; name = name; has_value = false }

abbrev pub value_row : ℕ → Text → Row
value_row letter name = record { letter = letter; name = name; has_value = true }

unfoldable pub mkimage_rows : List Row
mkimage_rows =
    value_row 97 (codes "load-address")
    ∷ value_row 65 (codes "architecture")
    ∷ value_row 98 (codes "device-tree")
    ∷ value_row 66 (codes "alignment")
    ∷ value_row 99 (codes "comment")
    ∷ value_row 67 (codes "compression")
    ∷ value_row 100 (codes "image")
    ∷ value_row 68 (codes "dtcopts")
    ∷ value_row 101 (codes "entry-point")
    ∷ flag_row 69 (codes "external")
    ∷ value_row 102 (codes "fit")
    ∷ flag_row 70 (codes "update")
    ∷ value_row 103 (codes "key-name-hint")
    ∷ value_row 71 (codes "key-file")
    ∷ flag_row 104 (codes "help")
    ∷ value_row 105 (codes "initramfs")
    ∷ value_row 107 (codes "key-dir")
    ∷ value_row 75 (codes "key-dest")
    ∷ flag_row 108 (codes "list")
    ∷ value_row 110 (codes "config")
    ∷ value_row 78 (codes "engine")
    ∷ value_row 111 (codes "algo")
    ∷ value_row 79 (codes "os")
    ∷ value_row 112 (codes "position")
    ∷ flag_row 113 (codes "quiet")
    ∷ flag_row 114 (codes "key-required")
    ∷ value_row 82 (codes "secondary-config")
    ∷ flag_row 115 (codes "no-copy")
    ∷ flag_row 116 (codes "touch")
    ∷ value_row 84 (codes "type")
    ∷ flag_row 118 (codes "verbose")
    ∷ flag_row 86 (codes "version")
    ∷ flag_row 120 (codes "xip")
    ∷ []

-- what the words set so far
pub record Setting : Type 0 where
  pub arch : ℕ
  pub os : ℕ
  pub kind : Option ℕ
  pub kind_name : Text
  pub comp : ℕ
  pub load : ℕ
  pub entry : Option ℕ
  pub name : Text
  pub file : Option Text
  pub source : Option Text
  pub ramdisk : Option Text
  pub image : Option Text
  pub position : ℕ
  pub alignment : ℕ
  pub alignment_word : Text
  pub dtc_words : Text
  pub key_name : Option Text
  pub algorithm : Option Text
  pub signing : Option ℕ
  pub is_external : Bool
  pub is_list : Bool
  pub is_quiet : Bool
  pub is_xip : Bool
  pub is_update : Bool
  pub sets_time : Bool
  pub has_no_data : Bool

abbrev pub setting_of : Settings → Setting
setting_of settings = record {
  arch = settings.arch;
  os = settings.os;
  kind = settings.kind;
  kind_name = settings.kind_name.now;
  comp = settings.comp;
  load = settings.load;
  entry = settings.entry;
  name = settings.name.now;
  file = option_map (λ word. word.now) settings.«data»;
  source = option_map (λ word. word.now) settings.source;
  ramdisk = option_map (λ word. word.now) settings.ramdisk;
  image = option_map (λ word. word.now) settings.image;
  position = settings.position;
  alignment = settings.alignment;
  alignment_word = settings.alignment_word.now;
  dtc_words = settings.dtc_words.now;
  key_name = option_map (λ word. word.now) settings.key_name;
  algorithm = option_map (λ word. word.now) settings.algorithm;
  signing = settings.signing;
  is_external = settings.is_external;
  is_list = settings.is_list;
  is_quiet = settings.is_quiet;
  is_xip = settings.is_xip;
  is_update = settings.is_update;
  sets_time = settings.sets_time;
  has_no_data = settings.has_no_data;
}

-- PowerPC, Linux and gzip, codes 7, 5 and 1
abbrev pub nothing_set : Setting
nothing_set = record {
  arch = 7;
  os = 5;
  kind = None;
  kind_name = [];
  comp = 1;
  load = 0;
  entry = None;
  name = [];
  file = None;
  source = None;
  ramdisk = None;
  image = None;
  position = 0;
  alignment = 0;
  alignment_word = [];
  dtc_words = [];
  key_name = None;
  algorithm = None;
  signing = None;
  is_external = false;
  is_list = false;
  is_quiet = false;
  is_xip = false;
  is_update = false;
  sets_time = false;
  has_no_data = false;
}

-- -h, -V, -E, -l, -q, -s, -F, -t and -x
abbrev pub flag_step : ℕ → Setting → Step Setting
flag_step letter s = if letter == 104 then asks help
    else (if letter == 86 then asks version
    else (if letter == 69 then sets (record s { is_external = true })
    else (if letter == 108 then sets (record s { is_list = true })
    else (if letter == 113 then sets (record s { is_quiet = true })
    else (if letter == 115 then sets (record s { has_no_data = true })
    else (if letter == 70 then sets (record s { is_update = true })
    else (if letter == 116 then sets (record s { sets_time = true })
    else (if letter == 120 then sets (record s { is_xip = true })
    else sets s))))))))

-- a number is hexadecimal
abbrev pub address_asked : ℕ → Text → Result ℕ Wrong
address_asked letter word = or_wrong (no_number letter word) (low_32 16 word)

abbrev pub with_code : Field → Text → ℕ → Setting → Setting
with_code Architecture word code s = record s { arch = code }
with_code System word code s = record s { os = code }
with_code Kind word code s = record s { kind = Some code; kind_name = word }
with_code Compression word code s = record s { comp = code }

abbrev pub code_step : Field → Text → Setting → Result Named Wrong → Step Setting
code_step field word s (Err wrong) = refuses wrong
code_step field word s (Ok named.List) = asks (names field)
code_step field word s (Ok (named.Code code)) = sets (with_code field word code s)

abbrev pub name_step : Field → Text → Setting → Step Setting
name_step field word s = code_step field word s (name_asked field word)

-- -a, -e, -p and -B
abbrev pub number_step : ℕ → Text → Setting → Step Setting
number_step letter word s =
    if letter == 97 then sets_by (address_asked 97 word) (λ number. record s { load = number })
    else (if letter == 101
    then sets_by (address_asked 101 word) (λ number. record s { entry = Some number })
    else (if letter == 112
    then sets_by (address_asked 112 word) (λ number. record s { position = number })
    else (if letter == 66 then sets_by (address_asked 66 word)
    (λ number. record s { alignment = number; alignment_word = word })
    else sets s)))

-- -n, -d, -f, -i, -D, -g and -o, and the options of keys -G, -k, -K and -N
abbrev pub with_word : ℕ → Text → Setting → Setting
with_word letter word s = if letter == 110 then record s { name = word }
    else (if letter == 100 then record s { file = Some word }
    else (if letter == 102 then record s { source = Some word }
    else (if letter == 105 then record s { ramdisk = Some word }
    else (if letter == 68 then record s { dtc_words = word }
    else (if letter == 103 then record s { key_name = Some word }
    else (if letter == 111 then record s { algorithm = Some word }
    else (if letter == 71 then record s { signing = Some letter }
    else (if letter == 107 then record s { signing = Some letter }
    else (if letter == 75 then record s { signing = Some letter }
    else (if letter == 78 then record s { signing = Some letter }
    else s))))))))))

-- -A, -O, -T and -C, numbers, and words
abbrev pub value_step : ℕ → Text → Setting → Step Setting
value_step letter word s = if letter == 65 then name_step Architecture word s
    else (if letter == 79 then name_step System word s
    else (if letter == 84 then name_step Kind word s
    else (if letter == 67 then name_step Compression word s
    else (if letter == 97 then number_step letter word s
    else (if letter == 101 then number_step letter word s
    else (if letter == 112 then number_step letter word s
    else (if letter == 66 then number_step letter word s
    else sets (with_word letter word s))))))))

-- what an option or an operand sets: of a repeated option the last counts
abbrev pub step : Told → Setting → Step Setting
step (operand word) s = sets (record s { image = Some (first_of s.image word) })
step (flag letter) s = flag_step letter s
step (value letter word) s = value_step letter word s
