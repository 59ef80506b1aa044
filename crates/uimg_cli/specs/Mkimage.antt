-- The arguments of `mkimage`.
use Rattle.std.specs.Prelude.{ℕ, Bool, List, [], ◌∷◌, Option, Some, None, Result, Ok, Err, codes, if◌then◌else◌, ◌==◌}
use Rattle.clap.specs.Simple.{App, new_app}
use Rattle.clap.specs.Walk.{Row, Rule, Text, first_of}
use Rattle.uimg_cli.specs.Makings.{Making, parts, plain_making, source}
use Rattle.uimg_cli.specs.Readings.{decimal_of, hexadecimal_of, is_set, or_wrong, text_or}
use Rattle.uimg_cli.specs.Rules.{flag_rule, image_rule, value_rule, with_rules}
use Rattle.uimg_cli.specs.Runs.{Run, plain_run}
use Rattle.uimg_cli.specs.Wanted.{Wanted, makes, runs}
use Rattle.uimg_cli.specs.Wrong.{Wrong, and_then, bad_epoch, bad_number, data_with_source, flat_dt_needs_source, no_data_or_source, unknown_name}
use Rattle.uimg_cli.specs.declared.command_line.mkimage.Addresses.{Addresses}
use Rattle.uimg_cli.specs.declared.command_line.mkimage.Codes.{Codes}
use Rattle.uimg_fit_base.specs.declared.placement.Placement.{Placement}
use Rattle.uimg_fit_base.specs.declared.placement.Placement.TheVariants.{After, At, Inside}
use Rattle.uimg_legacy.specs.Header.{padded_name}
use Rattle.uimg_legacy.specs.declared.options.Options.{Options}
use Rattle.uimg_requests.specs.Names.{part_names}
use Rattle.uimg_requests.specs.declared.command.Action.TheVariants as action
use Rattle.uimg_requests.specs.declared.command.Form.TheVariants.{Guess}
use Rattle.uimg_texts.specs.Naming.{code_named}
use Rattle.uimg_texts.specs.declared.field.Field.{Field, TheVariants.{Architecture, System, Kind}}
use Rattle.uimg_texts.specs.declared.field.Field.TheVariants.{Compression}
use Rattle.uimg_texts.specs.declared.naming.Naming.TheVariants.{Profile}

-- the options of an image that is made from data
unfoldable pub header_rules : List Rule
header_rules =
    value_rule (codes "arch") 65
    ∷ value_rule (codes "os") 79
    ∷ value_rule (codes "type") 84
    ∷ value_rule (codes "comp") 67
    ∷ value_rule (codes "load") 97
    ∷ value_rule (codes "entry") 101
    ∷ value_rule (codes "name") 110
    ∷ value_rule (codes "data") 100
    ∷ []

-- the options of an image that is made from a source
unfoldable pub source_rules : List Rule
source_rules =
    value_rule (codes "source") 102
    ∷ flag_rule (codes "external") 69
    ∷ value_rule (codes "position") 112
    ∷ []

-- mkimage [-A ARCH] [-O OS] [-T TYPE] [-C COMP] [-a LOAD] [-e ENTRY] [-n NAME] [-d DATA]
-- [-f SOURCE] [-E] [-p POSITION] [-l] IMAGE
unfoldable pub mkimage : App
mkimage = with_rules (flag_rule (codes "list") 108 ∷ image_rule ∷ [])
    (with_rules source_rules (with_rules header_rules (new_app (codes "mkimage"))))

-- the code of an option's short name, or of its default
abbrev pub code_asked : Field → Text → List Row → Text → Result ℕ Wrong
code_asked field id rows default =
    or_wrong unknown_name (code_named Profile field (text_or id rows default))

abbrev pub codes_asked : List Row → Result Codes Wrong
codes_asked rows =
    and_then (code_asked Architecture (codes "arch") rows (codes "ppc")) (λ arch.
    and_then (code_asked System (codes "os") rows (codes "linux")) (λ os.
    and_then (code_asked Kind (codes "type") rows (codes "kernel")) (λ kind.
    and_then (code_asked Compression (codes "comp") rows (codes "gzip")) (λ comp.
    Ok (record { arch = arch; os = os; kind = kind; comp = comp })))))

-- an address is hexadecimal
abbrev pub address_asked : Option Text → ℕ → Result ℕ Wrong
address_asked None default = Ok default
address_asked (Some text) default = or_wrong bad_number (hexadecimal_of text)

-- The load address is 0 without an option, the entry point is then the load address.
abbrev pub addresses_asked : List Row → Result Addresses Wrong
addresses_asked rows = and_then (address_asked (first_of (codes "load") rows) 0) (λ load.
    and_then (address_asked (first_of (codes "entry") rows) load) (λ entry.
    Ok (record { load = load; entry = entry })))

abbrev pub options_by : List Row → Codes → Addresses → Options
options_by rows by at = record {
  time = 0;
  load = at.load;
  ep = at.entry;
  os = by.os;
  arch = by.arch;
  kind = by.kind;
  comp = by.comp;
  name = padded_name (text_or (codes "name") rows []);
}

-- A devicetree blob, type 8, is made from a source alone.
abbrev pub options_asked : List Row → Result Options Wrong
options_asked rows = and_then (codes_asked rows) (λ by.
    if by.kind == 8 then Err flat_dt_needs_source
    else and_then (addresses_asked rows) (λ at. Ok (options_by rows by at)))

-- With -E the payloads are after the blob, with -p, too, at an offset of the file other than 0.
abbrev pub placed : Bool → ℕ → Placement
placed is_external position =
    if is_external then (if position == 0 then After else At position) else Inside

abbrev pub placement_asked : List Row → Result Placement Wrong
placement_asked rows = and_then (address_asked (first_of (codes "position") rows) 0) (λ position.
    Ok (placed (is_set (codes "external") rows) position))

-- the time is that of SOURCE_DATE_EPOCH, if it is set, else the current one
abbrev pub time_asked : Option Text → ℕ → Result ℕ Wrong
time_asked None moment = Ok moment
time_asked (Some text) moment = or_wrong bad_epoch (decimal_of text)

abbrev pub source_asked : Option Text → ℕ → List Row → Text → Result Making Wrong
source_asked epoch moment rows path = and_then (placement_asked rows) (λ placement.
    and_then (time_asked epoch moment) (λ time.
    Ok (plain_making (source path placement) time (text_or (codes "image") rows []))))

abbrev pub parts_asked : Option Text → ℕ → List Row → Text → Result Making Wrong
parts_asked epoch moment rows word = and_then (options_asked rows) (λ options.
    and_then (time_asked epoch moment) (λ time.
    Ok (plain_making (parts options (part_names options.kind word)) time
    (text_or (codes "image") rows []))))

-- Either data or a source is there, not both.
abbrev pub making_asked : Option Text → ℕ → List Row → Option Text → Option Text
    → Result Making Wrong
making_asked epoch moment rows None None = Err no_data_or_source
making_asked epoch moment rows (Some word) (Some path) = Err data_with_source
making_asked epoch moment rows None (Some path) = source_asked epoch moment rows path
making_asked epoch moment rows (Some word) None = parts_asked epoch moment rows word

abbrev pub made_asked : Option Text → ℕ → List Row → Result Making Wrong
made_asked epoch moment rows =
    making_asked epoch moment rows (first_of (codes "data") rows) (first_of (codes "source") rows)

abbrev pub listing_asked : List Row → Run
listing_asked rows = plain_run action.List Guess (text_or (codes "image") rows []) None

-- With -l the image is listed, and the options of a making do not count.
abbrev pub mkimage_asked : Option Text → ℕ → List Row → Result Wanted Wrong
mkimage_asked epoch moment rows = if is_set (codes "list") rows
    then Ok (runs (listing_asked rows))
    else and_then (made_asked epoch moment rows) (λ making. Ok (makes making))
