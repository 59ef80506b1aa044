-- What the arguments of -D are for dtc 1.6.1, which reads them as getopt_long does.
use Rattle.std.specs.Prelude.{◌≡◌, ℕ, Bool, true, false, ◌==◌, ◌||◌, List, [], ◌∷◌, ◌++◌, find, filter, map, length, nat_lt, Option, Some, None, Result, Ok, Err, codes, if◌then◌else◌}
use Rattle.std.specs.{Int.is_power_of_two, List.{list_any, slice_split}, Str.bytes_eq}
use Rattle.uimg_compat.specs.CNumbers.{c_int}
use Rattle.uimg_compat.specs.DtcChecks.{is_check}
use Rattle.uimg_compat.specs.Getopt.{Mistake, Reading, Row, Text, Told, all_read, flag, letter_without_value, mistaken, name_without_value, operand, reading, told, value}
use Rattle.uimg_compat.specs.Wrong.{Wrong, dtc_end, dtc_pad_and_space, dtc_word}
use Rattle.uimg_compat.specs.declared.dtc_words.DtcWords.{DtcWords}

abbrev pub dtc_flag : ℕ → Text → Row
dtc_flag letter name = record { letter = letter; name = name; has_value = false }

abbrev pub dtc_value : ℕ → Text → Row
dtc_value letter name = record { letter = letter; name = name; has_value = true }

-- all options of dtc, in the order of its usage_long_opts
unfoldable pub dtc_rows : List Row
dtc_rows =
    dtc_flag 113 (codes "quiet")
    ∷ dtc_value 73 (codes "in-format")
    ∷ dtc_value 111 (codes "out")
    ∷ dtc_value 79 (codes "out-format")
    ∷ dtc_value 86 (codes "out-version")
    ∷ dtc_value 100 (codes "out-dependency")
    ∷ dtc_value 82 (codes "reserve")
    ∷ dtc_value 83 (codes "space")
    ∷ dtc_value 112 (codes "pad")
    ∷ dtc_value 97 (codes "align")
    ∷ dtc_value 98 (codes "boot-cpu")
    ∷ dtc_flag 102 (codes "force")
    ∷ dtc_value 105 (codes "include")
    ∷ dtc_flag 115 (codes "sort")
    ∷ dtc_value 72 (codes "phandle")
    ∷ dtc_value 87 (codes "warning")
    ∷ dtc_value 69 (codes "error")
    ∷ dtc_flag 64 (codes "symbols")
    ∷ dtc_flag 65 (codes "auto-alias")
    ∷ dtc_flag 84 (codes "annotate")
    ∷ dtc_flag 104 (codes "help")
    ∷ dtc_flag 118 (codes "version")
    ∷ []

-- What the options give: the folders of -i in order, the numbers of -p and -S, whether -@ is given,
-- and which warnings are silenced.
pub record Dtc : Type 0 where
  pub folders : List Text
  pub pad : ℕ
  pub space : ℕ
  pub has_symbols : Bool
  pub equal_nodes : Bool
  pub equal_properties : Bool

abbrev pub dtc_of : DtcWords → Dtc
dtc_of words = record {
  folders = map (λ folder. folder.now) words.folders.items;
  pad = words.pad;
  space = words.space;
  has_symbols = words.has_symbols;
  equal_nodes = words.silenced.equal_nodes;
  equal_properties = words.silenced.equal_properties;
}

abbrev pub no_options : Dtc
no_options = record {
  folders = [];
  pad = 0;
  space = 0;
  has_symbols = false;
  equal_nodes = false;
  equal_properties = false;
}

abbrev pub if_so : Bool → Dtc → Option Dtc
if_so true dtc = Some dtc
if_so false dtc = None

-- -q changes no image. dtc's other flags do, or it makes none.
abbrev pub flag_taken : ℕ → Dtc → Option Dtc
flag_taken letter dtc = if letter == 113 then Some dtc
    else (if letter == 64 then Some (record dtc { has_symbols = true })
    else None)

-- the number of -p, -S, -a (a power of two), -b (the CPU 0) or -R
abbrev pub number_taken : ℕ → Option ℕ → Dtc → Option Dtc
number_taken letter None dtc = None
number_taken letter (Some number) dtc = if letter == 112 then Some (record dtc { pad = number })
    else (if letter == 83 then Some (record dtc { space = number })
    else (if letter == 97 then if_so (is_power_of_two number) dtc
    else (if letter == 98 then if_so (number == 0) dtc
    else (if letter == 82 then Some dtc
    else None))))

-- -W and -E take the name of a check, after `no-` to leave it out.
abbrev pub silencing : Text → Dtc → Dtc
silencing name dtc = record dtc {
  equal_nodes = dtc.equal_nodes || bytes_eq name (codes "no-duplicate_node_names");
  equal_properties = dtc.equal_properties || bytes_eq name (codes "no-duplicate_property_names");
}

-- The formats are dts to dtb.
abbrev pub value_taken : ℕ → Text → Dtc → Option Dtc
value_taken letter word dtc = if letter == 73 then if_so (bytes_eq word (codes "dts")) dtc
    else (if letter == 79 then if_so (bytes_eq word (codes "dtb")) dtc
    else (if letter == 87 then if_so (is_check word) (silencing word dtc)
    else (if letter == 69 then if_so (is_check word) (silencing word dtc)
    else number_taken letter (c_int word) dtc)))

-- An option with which mkimage makes the same image, or finds other files. Words that are no
-- options would be further sources.
abbrev pub taken : Told → Dtc → Option Dtc
taken (operand word) dtc = None
taken (flag letter) dtc = flag_taken letter dtc
taken (value letter word) dtc =
    if letter == 105 then Some (record dtc { folders = dtc.folders ++ word ∷ [] })
    else value_taken letter word dtc

-- dtc refuses -p with -S, unless one of them is 0.
abbrev pub whole : Dtc → Result Dtc Wrong
whole dtc = if dtc.pad == 0 || dtc.space == 0 then Ok dtc else Err dtc_pad_and_space

abbrev pub wrong_by : Mistake → Wrong
wrong_by (letter_without_value letter) = dtc_end
wrong_by (name_without_value name) = dtc_end
wrong_by mistake = dtc_word

-- what options request, one after another: of a repeated one the last counts, except for -i
abbrev pub dtc_after : Reading → Dtc → Result Dtc Wrong
dtc_after all_read dtc = whole dtc
dtc_after (mistaken mistake) dtc = Err (wrong_by mistake)
dtc_after (told given rest) dtc = elim (taken given dtc) [
  | Some next ↦ dtc_after rest next
  | None ↦ Err dtc_word
]

-- The bytes that a shell, which mkimage calls, reads as more than themselves: control characters,
-- and "#$&'()*;<>?[\]`{|}~!
abbrev pub is_special : ℕ → Bool
is_special byte = nat_lt byte 32 || byte == 127
    || list_any (λ it. it == byte) (codes "\"#$&'()*;<>?[\\]`{|}~!")

-- After `--` dtc would take mkimage's own options for sources.
abbrev pub is_odd : Text → Bool
is_odd word = bytes_eq word (codes "--") || list_any is_special word

-- the words between the blanks of a text
abbrev pub words_in : Text → List Text
words_in text = filter (λ word. nat_lt 0 (length word)) (slice_split (λ byte. byte == 32) text)

abbrev pub of_words : List Text → Result Dtc Wrong
of_words words = elim (find is_odd words) [
  | Some word ↦ Err dtc_word
  | None ↦ dtc_after (reading dtc_rows words) no_options
]

-- what the text of -D requests
abbrev pub dtc_asked : Text → Result Dtc Wrong
dtc_asked text = of_words (words_in text)

-- What is taken is what is left now.
abbrev pub IsTaken : Bool → Option Dtc → Dtc → Type 0
IsTaken true asked after = asked ≡ Some after
IsTaken false asked after = asked ≡ None
