-- What is wrong with a command line, and what an answer says of that.
use Rattle.std.specs.Prelude.{◌≡◌, Result, Ok, Err, ⊤, string_bytes}
use Rattle.std.specs.Result.{result_map_both}
use Rattle.clap.specs.Walk.{Text}
use Rattle.uimg_cli.specs.declared.command_line.words_fault.WordsFault.{WordsFault}
use Rattle.uimg_cli.specs.declared.command_line.words_fault.WordsFault.TheVariants as fault

-- Each refusal of words. No definition asks for `out_of_memory`.
pub data Wrong : Type 0 where
  no_command : Wrong
  no_subcommand : Wrong
  no_list_or_outfile : Wrong
  no_data_or_source : Wrong
  no_images : Wrong
  input_twice : Wrong
  no_folder : Wrong
  unknown_algo : Text → Wrong
  not_number : Text → Text → Wrong
  to_output : Text → Wrong
  cleans_with_json : Wrong
  only_with_config : Wrong
  no_key : Text → Wrong
  data_with_source : Wrong
  unknown_name : Wrong
  flat_dt_needs_source : Wrong
  bad_number : Wrong
  bad_epoch : Wrong
  out_of_memory : Wrong

abbrev pub wrong_of : WordsFault → Wrong
wrong_of (fault.NoCommand text) = no_command
wrong_of fault.NoSubcommand = no_subcommand
wrong_of fault.NoListOrOutfile = no_list_or_outfile
wrong_of fault.NoDataOrSource = no_data_or_source
wrong_of fault.NoImages = no_images
wrong_of fault.InputTwice = input_twice
wrong_of fault.NoFolder = no_folder
wrong_of (fault.UnknownAlgo name) = unknown_algo (string_bytes name)
wrong_of (fault.NotNumber option text) = not_number option.now (string_bytes text)
wrong_of (fault.ToOutput option) = to_output option.now
wrong_of fault.CleansWithJson = cleans_with_json
wrong_of fault.OnlyWithConfig = only_with_config
wrong_of (fault.WithoutKey option) = no_key option.now
wrong_of fault.DataWithSource = data_with_source
wrong_of fault.UnknownName = unknown_name
wrong_of fault.FlatDtNeedsSource = flat_dt_needs_source
wrong_of fault.BadNumber = bad_number
wrong_of fault.BadEpoch = bad_epoch
wrong_of fault.OutOfMemory = out_of_memory

-- an answer as plain values
abbrev pub told : {A X : Type 0} → (A → X) → Result A WordsFault → Result X Wrong
told seen answer = result_map_both seen wrong_of answer

abbrev pub IsWrong : {X : Type 0} → Result X Wrong → Wrong → Type 0
IsWrong asked out_of_memory = ⊤
IsWrong asked wrong = asked ≡ Err wrong

-- The answer is the one asked for, unless memory ran out.
abbrev pub Tells : {A X : Type 0} → (A → X) → Result X Wrong → Result A WordsFault → Type 0
Tells seen asked (Ok answer) = asked ≡ Ok (seen answer)
Tells seen asked (Err fault) = IsWrong asked (wrong_of fault)

-- what is asked for by the value, if there is one
abbrev pub and_then : {X Y : Type 0} → Result X Wrong → (X → Result Y Wrong) → Result Y Wrong
and_then (Ok value) next = next value
and_then (Err wrong) next = Err wrong
