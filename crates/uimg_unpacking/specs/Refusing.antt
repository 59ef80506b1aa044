-- Why a path is refused, as a trouble.
use Rattle.std.specs.Prelude.{Option, Some, None, Result, Ok, Err}
use Rattle.uimg_unpacking.specs.Allowing.{Refused, Image, AFolder, There}
use Rattle.uimg_unpacking.specs.declared.trouble.Trouble.{Trouble}
use Rattle.uimg_unpacking.specs.declared.trouble.Trouble.TheVariants.{Exists, IsFolder, IsImage}

abbrev pub refusal_in : Trouble → Option Refused
refusal_in (IsImage _) = Some Image
refusal_in (IsFolder _) = Some AFolder
refusal_in (Exists _) = Some There
refusal_in _ = None

abbrev pub refused_of : {X : Type 0} → Result X Trouble → Option Refused
refused_of (Ok _) = None
refused_of (Err trouble) = refusal_in trouble
