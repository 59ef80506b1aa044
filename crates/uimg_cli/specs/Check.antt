-- The arguments of `check`.
use Rattle.std.specs.Prelude.{ℕ, Bool, true, false, ◌&&◌, ◌||◌, List, [], ◌∷◌, Option, Some, Result, Ok, Err, codes, if◌then◌else◌, is_none, is_some, option_map}
use Rattle.std.specs.{Option.option_map_or, Str.bytes_eq}
use Rattle.clap.specs.Lexer.{usize_max}
use Rattle.clap.specs.Simple.{App, new_app, new_rule}
use Rattle.clap.specs.Walk.{Row, Rule, Text, first_of, is_empty, texts}
use Rattle.clap.specs.declared.builder.action.ArgAction.TheVariants.{Append}
use Rattle.uimg_cli.specs.Counts.{most_input_asked}
use Rattle.uimg_cli.specs.KeyRequests.{Keying, key_asked, keying_of, without_key}
use Rattle.uimg_cli.specs.Needs.{least_need, need_asked}
use Rattle.uimg_cli.specs.Readings.{is_output, is_set, texts_given}
use Rattle.uimg_cli.specs.Rules.{flag_rule, long_rule, switch_rule, with_rules}
use Rattle.uimg_cli.specs.Wrong.{Wrong, and_then, input_twice, no_images, to_output}
use Rattle.uimg_cli.specs.declared.command_line.check.CheckRequest.{CheckRequest}
use Rattle.uimg_sums.specs.declared.algo.Algo.{Algo}

-- any number of images
abbrev pub images_rule : Rule
images_rule = record (new_rule (codes "image")) {
  action = Some Append;
  range = Some (record { start_inclusive = 0; end_inclusive = usize_max });
}

-- check [--need ALGO] [--strict] [--key [NAME=]FILE] [--config NAME] [--allow-sha1]
-- [--recursive] [--files-from FILE] [-0] [--json] [--junit FILE] [--quiet] [--allow-empty]
-- [--max-input NUMBER] [IMAGE ..]
unfoldable pub check : App
check = with_rules (
    long_rule (codes "need")
    ∷ switch_rule (codes "strict")
    ∷ long_rule (codes "key")
    ∷ long_rule (codes "config")
    ∷ switch_rule (codes "allow-sha1")
    ∷ switch_rule (codes "recursive")
    ∷ long_rule (codes "files-from")
    ∷ flag_rule (codes "nuls") 48
    ∷ switch_rule (codes "json")
    ∷ long_rule (codes "junit")
    ∷ switch_rule (codes "quiet")
    ∷ switch_rule (codes "allow-empty")
    ∷ long_rule (codes "max-input")
    ∷ images_rule
    ∷ []) (new_app (codes "check"))

pub record Checking : Type 0 where
  pub need : Option Algo
  pub is_strict : Bool
  pub key : Option Keying
  pub images : List Text
  pub is_recursive : Bool
  pub files_from : Option Text
  pub has_nuls : Bool
  pub as_json : Bool
  pub junit : Option Text
  pub is_quiet : Bool
  pub allows_none : Bool
  pub most_input : ℕ

abbrev pub checking_of : CheckRequest → Checking
checking_of request = record {
  need = request.need;
  is_strict = request.is_strict;
  key = option_map keying_of request.key;
  images = texts request.images.items;
  is_recursive = request.is_recursive;
  files_from = option_map (λ path. path.now) request.files_from;
  has_nuls = request.has_nuls;
  as_json = request.as_json;
  junit = option_map (λ path. path.now) request.junit;
  is_quiet = request.is_quiet;
  allows_none = request.allows_none;
  most_input = request.most_input;
}

-- whether a check is strict: if it is to be, or if there are keys
abbrev pub is_to_be_strict : List Row → Bool
is_to_be_strict rows = is_set (codes "strict") rows || is_some (first_of (codes "key") rows)

abbrev pub checking_by : List Row → Option Algo → ℕ → Checking
checking_by rows need input = record {
  need = least_need rows (is_to_be_strict rows) need;
  is_strict = is_to_be_strict rows;
  key = key_asked rows (first_of (codes "config") rows);
  images = texts_given (codes "image") rows;
  is_recursive = is_set (codes "recursive") rows;
  files_from = first_of (codes "files-from") rows;
  has_nuls = is_set (codes "nuls") rows;
  as_json = is_set (codes "json") rows;
  junit = first_of (codes "junit") rows;
  is_quiet = is_set (codes "quiet") rows;
  allows_none = is_set (codes "allow-empty") rows;
  most_input = input;
}

-- `-` is standard input, which may be read already
abbrev pub is_input : Text → Bool
is_input path = bytes_eq path (codes "-")

-- some of these images read it once more
abbrev pub reads_again : Bool → List Text → Bool
reads_again is_read [] = false
reads_again is_read (path ∷ paths) =
    if is_input path then is_read || reads_again true paths else reads_again is_read paths

-- Standard input is read for one thing, no report is written to standard output, and no option that
-- needs keys is without them.
abbrev pub clash : List Row → Option Wrong
clash rows =
    if reads_again (option_map_or is_input (first_of (codes "files-from") rows) false)
    (texts_given (codes "image") rows)
    then Some input_twice
    else (if is_output (first_of (codes "junit") rows) then Some (to_output (codes "junit"))
    else without_key rows (first_of (codes "config") rows))

abbrev pub checking_limited : List Row → Option Algo → Result Checking Wrong
checking_limited rows need =
    and_then (most_input_asked rows) (λ input. Ok (checking_by rows need input))

-- there is an image, or a list of images, and no options clash
abbrev pub checking_with : List Row → Option Algo → Result Checking Wrong
checking_with rows need =
    if is_empty (texts_given (codes "image") rows) && is_none (first_of (codes "files-from") rows)
    then Err no_images
    else option_map_or (λ wrong. Err wrong) (clash rows) (checking_limited rows need)

abbrev pub check_asked : List Row → Result Checking Wrong
check_asked rows = and_then (need_asked rows) (checking_with rows)
