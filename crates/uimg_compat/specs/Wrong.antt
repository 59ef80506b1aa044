-- What is wrong with a command line, and what an answer says of that.
use Rattle.std.specs.Prelude.{◌≡◌, ℕ, Option, Some, None, Result, Ok, Err, ⊤}
use Rattle.uimg_compat.specs.Getopt.{Mistake, Text, mistake_of}
use Rattle.uimg_compat.specs.declared.fault.OldFault.{OldFault}
use Rattle.uimg_compat.specs.declared.fault.OldFault.TheVariants as fault

-- Each refusal of words, with the letter of the option and the word that is refused. No
-- definition asks for `out_of_memory`, nor for `dtc_symbols`, which depends on the source.
pub data Wrong : Type 0 where
  misused : Mistake → Wrong
  unknown_name : ℕ → Text → Wrong
  no_number : ℕ → Text → Wrong
  uneven_alignment : Text → Wrong
  bad_epoch : Wrong
  no_image : Wrong
  no_outfile : Wrong
  part_to_output : Wrong
  nothing_to_make : Wrong
  data_with_source : Wrong
  data_with_update : Wrong
  list_with_update : Wrong
  list_with_source : Wrong
  made_as_pipe : Text → Wrong
  no_data : Wrong
  no_source : Wrong
  other_images : Text → Wrong
  signs : ℕ → Wrong
  xip_of_parts : Wrong
  dtc_word : Wrong
  dtc_end : Wrong
  dtc_pad_and_space : Wrong
  dtc_symbols : Wrong
  no_algorithm : Wrong
  out_of_memory : Wrong

-- The nearest name and the word of -D, which only the line of a fault shows, are left out.
abbrev pub wrong_of : OldFault → Wrong
wrong_of (fault.Misused misuse) = misused (mistake_of misuse)
wrong_of (fault.UnknownName letter title word) = unknown_name letter word.0.now
wrong_of (fault.NearName letter title word nearest) = unknown_name letter word.0.now
wrong_of (fault.NoNumber letter title word) = no_number letter word.0.now
wrong_of (fault.UnevenAlignment word) = uneven_alignment word.0.now
wrong_of fault.BadEpoch = bad_epoch
wrong_of fault.NoImage = no_image
wrong_of fault.NoOutfile = no_outfile
wrong_of fault.PartToOutput = part_to_output
wrong_of fault.NothingToMake = nothing_to_make
wrong_of fault.DataWithSource = data_with_source
wrong_of fault.DataWithUpdate = data_with_update
wrong_of fault.ListWithUpdate = list_with_update
wrong_of fault.ListWithSource = list_with_source
wrong_of (fault.MadeAsPipe path) = made_as_pipe path.0.now
wrong_of fault.NoData = no_data
wrong_of fault.NoSource = no_source
wrong_of (fault.OtherImages name) = other_images name.0.now
wrong_of (fault.Signs letter) = signs letter
wrong_of fault.XipOfParts = xip_of_parts
wrong_of (fault.DtcWord word) = dtc_word
wrong_of fault.DtcEnd = dtc_end
wrong_of fault.DtcPadAndSpace = dtc_pad_and_space
wrong_of fault.DtcSymbols = dtc_symbols
wrong_of fault.NoAlgorithm = no_algorithm
wrong_of fault.OutOfMemory = out_of_memory

abbrev pub IsWrong : {X : Type 0} → Result X Wrong → Wrong → Type 0
IsWrong asked out_of_memory = ⊤
IsWrong asked wrong = asked ≡ Err wrong

-- The answer is the one asked for, unless memory ran out.
abbrev pub Tells : {A X : Type 0} → (A → X) → Result X Wrong → Result A OldFault → Type 0
Tells seen asked (Ok answer) = asked ≡ Ok (seen answer)
Tells seen asked (Err fault) = IsWrong asked (wrong_of fault)

-- what is asked for by the value, if there is one
abbrev pub and_then : {X Y : Type 0} → Result X Wrong → (X → Result Y Wrong) → Result Y Wrong
and_then (Ok value) next = next value
and_then (Err wrong) next = Err wrong

-- the value, or what is wrong without one
abbrev pub or_wrong : {X : Type 0} → Wrong → Option X → Result X Wrong
or_wrong wrong None = Err wrong
or_wrong wrong (Some value) = Ok value
