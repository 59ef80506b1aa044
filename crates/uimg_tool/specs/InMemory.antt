-- Files in memory as a world of files.
use Rattle.std.specs.Prelude.{ℕ, List, [], Option, Some, None, true}
use Rattle.std.specs.Borrow.{Bor}
use Rattle.uimg_base.specs.{Device.Device, Named.{FileMap, bytes_named}}
use Rattle.uimg_tool.specs.WordAnswers.{AnswersLine}
use Rattle.uimg_tool.specs.declared.{command_line.CommandLine.CommandLine, complaints.Complaints.Complaints}
use Rattle.uimg_world.specs.Deeds.{Deed}

-- The files have the bytes of the first pair with their path, and are honest.
abbrev pub files_in : List (Bor (List ℕ) × Bor (List ℕ)) → FileMap
files_in files = record {
  bytes = λ path. bytes_named path files;
  honest = true;
  complete = true;
  refusals = 0;
  opened = [];
}

-- What a command line answers over files in memory, of which no call was made before, and what it printed.
pub record AnswersInMemory {K V : Type 0} (device : K → Device) (contents : V → Option (List ℕ)) (line : CommandLine) (files : FileMap) (status : ℕ)
    (text : List ℕ) : Type 0 where
  pub before : Complaints V
  pub after : Complaints V
  pub trace : List Deed
  pub answers : AnswersLine device (λ _. None) contents line files status (record { text = Some []; err = before; trace = [] })
      (record { text = Some text; err = after; trace = trace })
