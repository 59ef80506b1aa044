-- What is found in the file of an image.
use Rattle.std.specs.Prelude.{ℕ, List, [], ◌∷◌, ◌++◌, nat_lt, if◌then◌else◌, Option, Some, None}
use Rattle.uimg_texts.specs.Slices.{slice}
use Rattle.uimg_fit_base.specs.Files.{bytes_in}
use Rattle.uimg_map.specs.declared.{fault.MapFault.MapFault, contents.Label.Label}
use Rattle.uimg_map.specs.declared.contents.Label.TheVariants as of

-- What a thing is. A payload has the name of its image, and that of the configuration whose
-- signature covers it; a part its position.
pub data What : Type 0 where
  the_header : What
  the_reservations : What
  the_structure : What
  the_strings : What
  payload_of : List ℕ → Option (List ℕ) → What
  embedded_of : List ℕ → Option (List ℕ) → What
  the_table : What
  the_data : What
  part_at : ℕ → What
  the_padding : What
  fault_of : MapFault → What

-- what a label means; its names are read in a file
abbrev pub read_label : List ℕ → Label → What
read_label file of.Header = the_header
read_label file of.Reservations = the_reservations
read_label file of.Structure = the_structure
read_label file of.Strings = the_strings
read_label file (of.Payload name covered) =
    payload_of (slice file name.place name.length) (bytes_in file covered)
read_label file (of.Embedded name covered) =
    embedded_of (slice file name.place name.length) (bytes_in file covered)
read_label file of.Table = the_table
read_label file of.Data = the_data
read_label file (of.Part number) = part_at number
read_label file of.Padding = the_padding
read_label file (of.Fault fault) = fault_of fault

-- A thing from an offset up to an end.
pub record Found : Type 0 where
  pub what : What
  pub place : ℕ
  pub end : ℕ

-- What is found, in order, and the fault of the image, if it has one.
pub record Told : Type 0 where
  pub found : List Found
  pub fault : Option MapFault

-- the first of two faults
abbrev pub earlier_fault : Option MapFault → Option MapFault → Option MapFault
earlier_fault (Some fault) later = Some fault
earlier_fault None later = later

-- what is found first, then what is found next
abbrev pub found_then : Told → Told → Told
found_then a b = record { found = a.found ++ b.found; fault = earlier_fault a.fault b.fault }

-- nothing is found
abbrev pub nothing : Told
nothing = record { found = []; fault = None }

-- one thing
abbrev pub thing : What → ℕ → ℕ → Told
thing what place end =
    record { found = record { what = what; place = place; end = end } ∷ []; fault = None }

-- a fault without an offset
abbrev pub refused : MapFault → Told
refused fault = record { found = []; fault = Some fault }

-- a fault with an offset
abbrev pub refused_at : ℕ → MapFault → Told
refused_at at fault = found_then (thing (fault_of fault) at at) (refused fault)

-- a fault if something ends after a file of `size` bytes
unfoldable pub refused_behind : ℕ → ℕ → MapFault → Told
refused_behind size end fault = if nat_lt size end then refused fault else nothing
