-- How many images a file has.
use Rattle.std.specs.Prelude.{ℕ, List, length, Result, Ok}
use Rattle.uimg_base.specs.Results.{◌>>=◌}
use Rattle.uimg_fit_base.specs.declared.fault.Fault.{Fault}
use Rattle.uimg_fit_base.specs.Files.{images_of}

-- the number of a file's images, or its first fault
abbrev pub count_of : List ℕ → Result ℕ Fault
count_of file = do
  found ← images_of file
  Ok (length found)
