-- The arguments of dumpimage [-l] [-T TYPE] [-p POSITION] [-o OUTFILE] IMAGE.
use Rattle.std.specs.Prelude.{◌==◌, ℕ, Bool, true, false, List, [], ◌∷◌, Option, Some, None, option_map, Result, Ok, Err, codes, if◌then◌else◌}
use Rattle.std.specs.Str.{bytes_eq}
use Rattle.uimg_texts.specs.declared.field.Field.TheVariants.{Kind}
use Rattle.uimg_requests.specs.declared.command.Action.{Action}
use Rattle.uimg_requests.specs.declared.command.Action.TheVariants as action
use Rattle.uimg_compat.specs.Asked.{Asked, help, names, plain_run, runs, version}
use Rattle.uimg_compat.specs.CNumbers.{low_32}
use Rattle.uimg_compat.specs.Getopt.{Row, Text, Told, flag, operand, reading, value}
use Rattle.uimg_compat.specs.Names.{form_asked, name_asked}
use Rattle.uimg_compat.specs.Steps.{Step, asked_after, asks, first_of, refuses, sets, sets_by}
use Rattle.uimg_compat.specs.Wrong.{Wrong, and_then, no_image, no_number, no_outfile, or_wrong, part_to_output}
use Rattle.uimg_compat.specs.declared.{dumpimage.Settings.Settings, names.Named.Named}
use Rattle.uimg_compat.specs.declared.names.Named.TheVariants as named

abbrev pub letter_row : ℕ → Bool → Row
letter_row letter has_value = record { letter = letter; name = []; has_value = has_value }

-- -h, -l, -o FILE, -p NUMBER, -T TYPE and -V
abbrev pub dumpimage_rows : List Row
dumpimage_rows =
    letter_row 104 false
    ∷ letter_row 108 false
    ∷ letter_row 111 true
    ∷ letter_row 112 true
    ∷ letter_row 84 true
    ∷ letter_row 86 false
    ∷ []

-- what the words set so far
pub record Dumping : Type 0 where
  pub kind : Option ℕ
  pub kind_name : Text
  pub position : ℕ
  pub outfile : Option Text
  pub image : Option Text
  pub is_list : Bool

abbrev pub dumping_of : Settings → Dumping
dumping_of settings = record {
  kind = settings.kind;
  kind_name = settings.kind_name.now;
  position = settings.position;
  outfile = option_map (λ path. path.now) settings.outfile;
  image = option_map (λ path. path.now) settings.image;
  is_list = settings.is_list;
}

abbrev pub nothing_set : Dumping
nothing_set = record {
  kind = None;
  kind_name = [];
  position = 0;
  outfile = None;
  image = None;
  is_list = false;
}

-- a position is decimal
abbrev pub position_asked : Text → Result ℕ Wrong
position_asked word = or_wrong (no_number 112 word) (low_32 10 word)

abbrev pub type_step : Text → Dumping → Result Named Wrong → Step Dumping
type_step word dumping (Err wrong) = refuses wrong
type_step word dumping (Ok named.List) = asks (names Kind)
type_step word dumping (Ok (named.Code kind)) =
    sets (record dumping { kind = Some kind; kind_name = word })

-- -h, -V and -l
abbrev pub flag_step : ℕ → Dumping → Step Dumping
flag_step letter dumping = if letter == 104 then asks help
    else (if letter == 86 then asks version
    else (if letter == 108 then sets (record dumping { is_list = true })
    else sets dumping))

-- -o, -p and -T
abbrev pub value_step : ℕ → Text → Dumping → Step Dumping
value_step letter word dumping = if letter == 111 then sets (record dumping { outfile = Some word })
    else (if letter == 112
    then sets_by (position_asked word) (λ position. record dumping { position = position })
    else (if letter == 84 then type_step word dumping (name_asked Kind word)
    else sets dumping))

-- what an option or an operand sets: of a repeated option the last counts
abbrev pub step : Told → Dumping → Step Dumping
step (operand word) dumping = sets (record dumping { image = Some (first_of dumping.image word) })
step (flag letter) dumping = flag_step letter dumping
step (value letter word) dumping = value_step letter word dumping

-- With -l the image is listed, and an outfile does not count.
abbrev pub action_asked : Dumping → Result (Action × Option Text) Wrong
action_asked dumping = if dumping.is_list then Ok (action.List, None)
    else elim dumping.outfile [
      | None ↦ Err no_outfile
      | Some path ↦ if bytes_eq path (codes "-") then Err part_to_output
          else Ok (action.Extract dumping.position, Some path)
    ]

abbrev pub run_asked : Dumping → Text → Result Asked Wrong
run_asked dumping image = and_then (action_asked dumping) (λ by.
    and_then (form_asked dumping.kind dumping.kind_name) (λ form.
    Ok (runs (plain_run by.0 form image by.1) false)))

-- what is requested, once all words are read
abbrev pub request_asked : Dumping → Result Asked Wrong
request_asked dumping = elim dumping.image [
  | None ↦ Err no_image
  | Some image ↦ run_asked dumping image
]

-- what the words behind dumpimage's name request
abbrev pub dumpimage_asked : List Text → Result Asked Wrong
dumpimage_asked words =
    asked_after step request_asked (reading dumpimage_rows words) nothing_set
