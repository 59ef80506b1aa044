-- The keys of a check or of an unpacking.
use Rattle.std.specs.Prelude.{Bool, not, ◌&&◌, List, Option, Some, None, codes, if◌then◌else◌, is_some, option_map}
use Rattle.clap.specs.Lexer.{has_byte, name_and_value}
use Rattle.clap.specs.Walk.{Row, Text, first_of, is_empty}
use Rattle.uimg_cli.specs.Readings.{is_set}
use Rattle.uimg_cli.specs.Wrong.{Wrong, no_key}
use Rattle.uimg_cli.specs.declared.command_line.keys.KeyRequest.{KeyRequest}

pub record Keying : Type 0 where
  pub path : Text
  pub name : Option Text
  pub config : Option Text
  pub takes_sha1 : Bool

abbrev pub keying_of : KeyRequest → Keying
keying_of request = record {
  path = request.path.now;
  name = option_map (λ name. name.now) request.name;
  config = option_map (λ name. name.now) request.config;
  takes_sha1 = request.takes_sha1;
}

-- a name is not empty, and has no `/` (47)
abbrev pub is_key_name : Text → Bool
is_key_name text = not (is_empty text) && not (has_byte 47 text)

-- [NAME=]FILE: the name before the first `=`, if there is one, and the path
abbrev pub path_behind : Text → Text × Option Text → Option Text × Text
path_behind text (name, None) = (None, text)
path_behind text (name, Some path) = if is_key_name name then (Some name, path) else (None, text)

unfoldable pub named_path : Text → Option Text × Text
named_path text = path_behind text (name_and_value text)

abbrev pub keying_by : List Row → Option Text → Option Text × Text → Keying
keying_by rows config named = record {
  path = named.1;
  name = named.0;
  config = config;
  takes_sha1 = is_set (codes "allow-sha1") rows;
}

-- the keys that the words ask for, to sign each configuration or this one
abbrev pub key_asked : List Row → Option Text → Option Keying
key_asked rows config =
    option_map (λ text. keying_by rows config (named_path text)) (first_of (codes "key") rows)

-- Without keys there is no name of a configuration, and SHA-1 is not allowed.
abbrev pub without_key : List Row → Option Text → Option Wrong
without_key rows config = if is_some (first_of (codes "key") rows) then None
    else (if is_some config then Some (no_key (codes "config"))
    else (if is_set (codes "allow-sha1") rows then Some (no_key (codes "allow-sha1")) else None))
