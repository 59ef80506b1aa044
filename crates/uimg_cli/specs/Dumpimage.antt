-- The arguments of `dumpimage`.
use Rattle.std.specs.Prelude.{ℕ, List, [], ◌∷◌, Option, Some, None, Result, Ok, Err, codes, if◌then◌else◌, ◌==◌}
use Rattle.std.specs.Option.{option_map_or}
use Rattle.clap.specs.Simple.{App, new_app}
use Rattle.clap.specs.Walk.{Row, Text, first_of}
use Rattle.uimg_cli.specs.Readings.{decimal_of, is_set, or_wrong, text_or}
use Rattle.uimg_cli.specs.Rules.{flag_rule, image_rule, value_rule, with_rules}
use Rattle.uimg_cli.specs.Runs.{Run, plain_run}
use Rattle.uimg_cli.specs.Wrong.{Wrong, and_then, bad_number, no_list_or_outfile, unknown_name}
use Rattle.uimg_requests.specs.declared.command.Action.TheVariants as action
use Rattle.uimg_requests.specs.declared.command.Form.{Form}
use Rattle.uimg_requests.specs.declared.command.Form.TheVariants as form
use Rattle.uimg_texts.specs.Naming.{code_named}
use Rattle.uimg_texts.specs.declared.field.Field.TheVariants.{Kind}
use Rattle.uimg_texts.specs.declared.naming.Naming.TheVariants.{Profile}

-- dumpimage [-l] [-T TYPE] [-p POSITION] [-o OUTFILE] IMAGE
unfoldable pub dumpimage : App
dumpimage = with_rules (
    flag_rule (codes "list") 108
    ∷ value_rule (codes "type") 84
    ∷ value_rule (codes "position") 112
    ∷ value_rule (codes "outfile") 111
    ∷ image_rule
    ∷ []) (new_app (codes "dumpimage"))

-- A devicetree blob, type 8, is read as a FIT image; other types are those of legacy images.
abbrev pub form_by_code : ℕ → Form
form_by_code code = if code == 8 then form.Fit else form.Legacy

-- the format of an image type's short name; a guess without one
abbrev pub form_asked : Option Text → Result Form Wrong
form_asked None = Ok form.Guess
form_asked (Some name) =
    and_then (or_wrong unknown_name (code_named Profile Kind name)) (λ code. Ok (form_by_code code))

-- a position is decimal, and 0 without an option
abbrev pub position_asked : Option Text → Result ℕ Wrong
position_asked None = Ok 0
position_asked (Some text) = or_wrong bad_number (decimal_of text)

abbrev pub listing_asked : List Row → Result Run Wrong
listing_asked rows = and_then (form_asked (first_of (codes "type") rows)) (λ form.
    Ok (plain_run action.List form (text_or (codes "image") rows []) None))

abbrev pub extraction_asked : List Row → Text → Result Run Wrong
extraction_asked rows outfile = and_then (form_asked (first_of (codes "type") rows)) (λ form.
    and_then (position_asked (first_of (codes "position") rows)) (λ position.
    Ok (plain_run (action.Extract position) form (text_or (codes "image") rows []) (Some outfile))))

-- With -l the image is listed, and an outfile does not count.
abbrev pub dumpimage_asked : List Row → Result Run Wrong
dumpimage_asked rows = if is_set (codes "list") rows then listing_asked rows
    else option_map_or (extraction_asked rows) (first_of (codes "outfile") rows)
    (Err no_list_or_outfile)
