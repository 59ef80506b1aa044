-- What mkimage requests, once all words are read.
use Rattle.std.specs.Prelude.{◌==◌, ◌&&◌, ◌+◌, ◌%◌, ℕ, Bool, false, not, List, Option, Some, None, is_some, unwrap_or, Result, Ok, Err, codes, if◌then◌else◌}
use Rattle.std.specs.Str.{bytes_eq}
use Rattle.uimg_fit_base.specs.declared.placement.Placement.{Placement}
use Rattle.uimg_fit_base.specs.declared.placement.Placement.TheVariants.{After, At, Inside}
use Rattle.uimg_legacy.specs.{Header.padded_name, Parts.has_parts}
use Rattle.uimg_legacy.specs.declared.options.Options.{Options}
use Rattle.uimg_texts.specs.declared.naming.Naming.TheVariants.{All}
use Rattle.uimg_requests.specs.Names.{part_names}
use Rattle.uimg_requests.specs.declared.command.Action.TheVariants as action
use Rattle.uimg_requests.specs.declared.make_command.Manner.{Manner}
use Rattle.uimg_compat.specs.Asked.{Asked, Auto, FitMaking, Making, makes, makes_auto, makes_fit, parts, plain_run, runs, updates}
use Rattle.uimg_compat.specs.CNumbers.{long_prefix}
use Rattle.uimg_compat.specs.Dtc.{Dtc, dtc_asked}
use Rattle.uimg_compat.specs.Getopt.{Text, reading}
use Rattle.uimg_compat.specs.Mkimage.{Setting, mkimage_rows, nothing_set, step}
use Rattle.uimg_compat.specs.Names.{form_asked, is_made}
use Rattle.uimg_compat.specs.Steps.{asked_after}
use Rattle.uimg_compat.specs.Wrong.{Wrong, and_then, bad_epoch, data_with_source, data_with_update, list_with_source, list_with_update, no_algorithm, no_data, no_image, no_source, nothing_to_make, or_wrong, other_images, signs, uneven_alignment, xip_of_parts}

-- the time is that of SOURCE_DATE_EPOCH, if it is set, else the current one
abbrev pub time_asked : Option Text → ℕ → Result ℕ Wrong
time_asked None moment = Ok moment
time_asked (Some text) moment = or_wrong bad_epoch (long_prefix text)

-- The options of keys are refused.
abbrev pub unsigned : {X : Type 0} → Option ℕ → Result X Wrong → Result X Wrong
unsigned None asked = asked
unsigned (Some letter) asked = Err (signs letter)

-- With -E the payloads are after the blob, with -p, too, at an offset of the file other than 0.
abbrev pub placed : Bool → ℕ → Placement
placed is_external position =
    if is_external then (if position == 0 then After else At position) else Inside

-- With -E payloads are at multiples of the alignment, of 4 without one.
abbrev pub align_asked : Setting → Result ℕ Wrong
align_asked s = if s.is_external then (if s.alignment == 0 then Ok 4
    else (if s.alignment % 4 == 0 then Ok s.alignment
    else Err (uneven_alignment s.alignment_word))) else Ok 4

abbrev pub manner_by : ℕ → ℕ → Manner
manner_by time align = record { time = time; naming = All; align = align }

abbrev pub manner_asked : Setting → ℕ → Result Manner Wrong
manner_asked s time = and_then (align_asked s) (λ align. Ok (manner_by time align))

-- The default entry point of an image that runs in place is behind its header of 64 bytes.
abbrev pub default_entry : Setting → ℕ
default_entry s = if s.is_xip then (s.load + 64) % 4294967296 else s.load

-- The type `invalid`, 0, counts as none: a kernel, 2.
abbrev pub kind_or_kernel : Option ℕ → ℕ
kind_or_kernel None = 2
kind_or_kernel (Some kind) = if kind == 0 then 2 else kind

abbrev pub options_of : Setting → Options
options_of s = record {
  time = 0;
  load = s.load;
  ep = unwrap_or s.entry (default_entry s);
  os = s.os;
  arch = s.arch;
  kind = kind_or_kernel s.kind;
  comp = s.comp;
  name = padded_name s.name;
}

abbrev pub update_by : Setting → Text → Manner → Asked
update_by s image manner = updates (record {
  image = image;
  placement = placed s.is_external s.position;
  manner = manner;
  sets_time = s.sets_time;
  is_quiet = s.is_quiet;
})

abbrev pub update_asked : Setting → Text → ℕ → Result Asked Wrong
update_asked s image time = unsigned s.signing (if is_some s.file then Err data_with_update
    else and_then (manner_asked s time) (λ manner. Ok (update_by s image manner)))

abbrev pub listing_asked : Setting → Text → Result Asked Wrong
listing_asked s image = if s.is_update then Err list_with_update
    else (if is_some s.source then Err list_with_source
    else and_then (form_asked s.kind s.kind_name) (λ form.
    Ok (runs (plain_run action.List form image None) s.is_quiet)))

-- the key's name and the algorithm of the signatures
abbrev pub signature_by : Option Text → Option Text → Result (Option (Text × Text)) Wrong
signature_by None algorithm = Ok None
signature_by (Some key) None = Err no_algorithm
signature_by (Some key) (Some algorithm) = Ok (Some (key, algorithm))

abbrev pub auto_by : Setting → List Text → Text → Option (Text × Text) → Auto
auto_by s words file signature = record {
  options = options_of s;
  name = s.name;
  file = file;
  ramdisk = s.ramdisk;
  signature = signature;
  words = words;
}

abbrev pub auto_source_asked : Setting → List Text → Option Text → Result Auto Wrong
auto_source_asked s words None = Err no_data
auto_source_asked s words (Some file) =
    and_then (signature_by s.key_name s.algorithm)
    (λ signature. Ok (auto_by s words file signature))

abbrev pub auto_making_by : Setting → Text → Auto → Manner → Asked
auto_making_by s image source manner = makes_auto (record {
  source = source;
  placement = placed s.is_external s.position;
  manner = manner;
  outfile = image;
  key = s.key_name;
  is_quiet = s.is_quiet;
})

abbrev pub auto_asked : Setting → List Text → ℕ → Text → Result Asked Wrong
auto_asked s words time image = unsigned s.signing
    (and_then (auto_source_asked s words s.file) (λ source.
    and_then (manner_asked s time) (λ manner. Ok (auto_making_by s image source manner))))

abbrev pub fit_by : Setting → Text → Text → Manner → Dtc → FitMaking
fit_by s source image manner dtc = record {
  source = source;
  placement = placed s.is_external s.position;
  manner = manner;
  outfile = image;
  dtc = dtc;
  key = s.key_name;
  is_quiet = s.is_quiet;
}

abbrev pub source_asked : Setting → Text → ℕ → Text → Result Asked Wrong
source_asked s source time image = unsigned s.signing (and_then (manner_asked s time) (λ manner.
    and_then (dtc_asked s.dtc_words) (λ dtc. Ok (makes_fit (fit_by s source image manner dtc)))))

-- With -s the image has no data.
abbrev pub data_word : Bool → Text → Text
data_word has_no_data word = if has_no_data then codes "/dev/null" else word

abbrev pub making_by : Options → Text → ℕ → Bool → Text → Making
making_by options word time is_xip image = record {
  material = parts options (part_names options.kind word);
  manner = manner_by time 4;
  outfile = image;
  is_xip = is_xip;
}

abbrev pub parts_by : Setting → Text → ℕ → Text → Asked
parts_by s word time image = makes (making_by (options_of s) (data_word s.has_no_data word) time
    (if s.is_xip then not s.has_no_data else false) image) s.is_quiet

-- A header takes the place of data only if there are no parts.
abbrev pub whole_asked : Setting → Text → ℕ → Text → Result Asked Wrong
whole_asked s word time image =
    if s.is_xip && has_parts (kind_or_kernel s.kind) then Err xip_of_parts
    else Ok (parts_by s word time image)

-- A devicetree blob, 8, is made from a source alone, and images of a board's format are not made.
abbrev pub parts_asked : Setting → Text → ℕ → Text → Result Asked Wrong
parts_asked s word time image = if unwrap_or s.kind 0 == 8 then Err no_source
    else (if is_made (unwrap_or s.kind 0) then whole_asked s word time image
    else Err (other_images s.kind_name))

abbrev pub data_asked : Setting → ℕ → Text → Option Text → Result Asked Wrong
data_asked s time image None = Err nothing_to_make
data_asked s time image (Some word) = parts_asked s word time image

abbrev pub sourced_asked : Setting → List Text → Text → ℕ → Text → Result Asked Wrong
sourced_asked s words source time image = if bytes_eq source (codes "auto")
    then auto_asked s words time image
    else (if is_some s.file then Err data_with_source else source_asked s source time image)

-- With a source -F does not count.
abbrev pub timed_asked : Setting → List Text → Text → ℕ → Result Asked Wrong
timed_asked s words image time = elim s.source [
  | None ↦ if s.is_update then update_asked s image time else data_asked s time image s.file
  | Some source ↦ sourced_asked s words source time image
]

abbrev pub image_asked : Setting → List Text → Option Text → ℕ → Text → Result Asked Wrong
image_asked s words epoch moment image = if s.is_list then listing_asked s image
    else and_then (time_asked epoch moment) (timed_asked s words image)

-- what is requested, once all words are read
abbrev pub request_asked : List Text → Option Text → ℕ → Setting → Result Asked Wrong
request_asked words epoch moment s = elim s.image [
  | None ↦ Err no_image
  | Some image ↦ image_asked s words epoch moment image
]

-- what the words behind mkimage's name request
abbrev pub mkimage_asked : List Text → Option Text → ℕ → Result Asked Wrong
mkimage_asked words epoch moment = asked_after step (request_asked words epoch moment)
    (reading mkimage_rows words) nothing_set
