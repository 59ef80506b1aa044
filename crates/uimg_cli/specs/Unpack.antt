-- The arguments of `unpack`.
use Rattle.std.specs.Prelude.{ℕ, Bool, not, ◌&&◌, List, [], ◌∷◌, Option, Some, None, Result, Ok, Err, codes, false, if◌then◌else◌, is_none, is_some, option_map, unwrap_or}
use Rattle.std.specs.Option.{option_map_or}
use Rattle.clap.specs.Simple.{App, new_app, new_rule}
use Rattle.clap.specs.Walk.{Row, Rule, Text, first_of, is_empty}
use Rattle.uimg_cli.specs.Counts.{count_asked, most_input_asked}
use Rattle.uimg_cli.specs.KeyRequests.{Keying, key_asked, keying_of, without_key}
use Rattle.uimg_cli.specs.Needs.{least_need, need_asked}
use Rattle.uimg_cli.specs.Readings.{is_set, text_or}
use Rattle.uimg_cli.specs.Rules.{long_rule, switch_rule, value_rule, with_rules}
use Rattle.uimg_cli.specs.Wrong.{Wrong, and_then, cleans_with_json, no_folder, no_images, only_with_config}
use Rattle.uimg_cli.specs.declared.command_line.unpack.UnpackRequest.{UnpackRequest}
use Rattle.uimg_sums.specs.declared.algo.Algo.{Algo}

-- --need by both its names
abbrev pub need_rule : Rule
need_rule = record (long_rule (codes "need")) { aliases = codes "need-hash" ∷ [] }

-- the options of what is unpacked
unfoldable pub chosen_rules : List Rule
chosen_rules =
    value_rule (codes "folder") 67
    ∷ long_rule (codes "only")
    ∷ long_rule (codes "config")
    ∷ need_rule
    ∷ long_rule (codes "key")
    ∷ switch_rule (codes "allow-sha1")
    ∷ []

-- the options of how files are written, and of how many
unfoldable pub written_rules : List Rule
written_rules =
    switch_rule (codes "force")
    ∷ switch_rule (codes "keep-good")
    ∷ switch_rule (codes "no-sync")
    ∷ long_rule (codes "max-files")
    ∷ long_rule (codes "max-bytes")
    ∷ long_rule (codes "max-input")
    ∷ []

-- unpack [-C FOLDER] [--only NAME] [--config NAME] [--need ALGO] [--key [NAME=]FILE] [--allow-sha1]
-- [--force] [--keep-good] [--no-sync] [--max-files NUMBER] [--max-bytes NUMBER] [--max-input NUMBER] [--json] [--clean]
-- [IMAGE]
unfoldable pub unpack : App
unpack = with_rules (
    switch_rule (codes "json")
    ∷ switch_rule (codes "clean")
    ∷ new_rule (codes "image")
    ∷ []) (with_rules written_rules (with_rules chosen_rules (new_app (codes "unpack"))))

pub record Unpacking : Type 0 where
  pub folder : Text
  pub only : Option Text
  pub config : Option Text
  pub need : Option Algo
  pub key : Option Keying
  pub is_forced : Bool
  pub keeps_good : Bool
  pub is_synced : Bool
  pub as_json : Bool
  pub cleans : Bool
  pub most_files : ℕ
  pub most_bytes : Option ℕ
  pub most_input : ℕ
  pub image : Option Text

abbrev pub unpacking_of : UnpackRequest → Unpacking
unpacking_of request = record {
  folder = request.folder.now;
  only = option_map (λ name. name.now) request.only;
  config = option_map (λ name. name.now) request.config;
  need = request.need;
  key = option_map keying_of request.key;
  is_forced = request.is_forced;
  keeps_good = request.keeps_good;
  is_synced = request.is_synced;
  as_json = request.as_json;
  cleans = request.cleans;
  most_files = request.most_files;
  most_bytes = request.most_bytes;
  most_input = request.most_input;
  image = option_map (λ path. path.now) request.image;
}

abbrev pub unpacking_by : List Row → Option Algo → Option ℕ → Option ℕ → ℕ → Unpacking
unpacking_by rows need files bytes input = record {
  folder = text_or (codes "folder") rows (codes ".");
  only = first_of (codes "only") rows;
  config = first_of (codes "config") rows;
  need = least_need rows false need;
  key = key_asked rows None;
  is_forced = is_set (codes "force") rows;
  keeps_good = is_set (codes "keep-good") rows;
  is_synced = not (is_set (codes "no-sync") rows);
  as_json = is_set (codes "json") rows;
  cleans = is_set (codes "clean") rows;
  most_files = unwrap_or files 4096;
  most_bytes = bytes;
  most_input = input;
  image = first_of (codes "image") rows;
}

-- What excludes what: a folder has a name, there is an image or --clean, --clean has no JSON, an image
-- or a configuration is chosen, and SHA-1 is allowed of keys alone.
abbrev pub clash : List Row → Option Wrong
clash rows = if is_empty (text_or (codes "folder") rows (codes ".")) then Some no_folder
    else (if is_none (first_of (codes "image") rows) && not (is_set (codes "clean") rows)
    then Some no_images
    else (if is_set (codes "json") rows && is_set (codes "clean") rows then Some cleans_with_json
    else (if is_some (first_of (codes "only") rows) && is_some (first_of (codes "config") rows)
    then Some only_with_config
    else without_key rows None)))

abbrev pub unpacking_limited : List Row → Option Algo → Result Unpacking Wrong
unpacking_limited rows need = and_then (count_asked (codes "max-files") rows) (λ files.
    and_then (count_asked (codes "max-bytes") rows) (λ bytes.
    and_then (most_input_asked rows) (λ input.
    Ok (unpacking_by rows need files bytes input))))

abbrev pub unpacking_with : List Row → Option Algo → Result Unpacking Wrong
unpacking_with rows need =
    option_map_or (λ wrong. Err wrong) (clash rows) (unpacking_limited rows need)

abbrev pub unpack_asked : List Row → Result Unpacking Wrong
unpack_asked rows = and_then (need_asked rows) (unpacking_with rows)
