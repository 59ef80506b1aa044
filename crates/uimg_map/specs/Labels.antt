-- The texts of a map's rows.
use Rattle.std.specs.Prelude.{◌≡◌, ℕ, min, nat_lt, List, [], ◌++◌, codes, decimal, if◌then◌else◌}
use Rattle.std.specs.Prelude.{Option, Some, None, ◌+◌, ◌≤◌, Result, OnOk, true}
use Rattle.std.specs.List.{slice_get}
use Rattle.uimg_base.specs.{declared.spans.Span.Span, Device.{Device, SameDevice}}
use Rattle.uimg_printing.specs.Printing.{printed}
use Rattle.uimg_texts.specs.Slices.{slice}
use Rattle.uimg_map.specs.FaultTexts.{text_of}
use Rattle.uimg_map.specs.declared.{contents.Label.Label, map.{Map.Map, Standing.Standing}}
use Rattle.uimg_map.specs.declared.contents.Label.TheVariants as of
use Rattle.uimg_map.specs.declared.map.Standing.TheVariants.{Alone, Nested, Overlapping}
use Rattle.uimg_map.specs.declared.{thing.Thing.Thing, row.Row.{Row, TheVariants.{Taken, Gap, Rest}}}

-- Names were read, and at most `most` bytes for them.
pub record ReadsNames {X E : Type 0} (most : ℕ) (result : Result X E)
    (old new : Device) : Type 0 where
  pub same : SameDevice old new
  pub asked : new.asked ≤ old.asked + most
  -- no text is returned if a read failed
  pub failures : OnOk result (new.failures ≡ old.failures)

-- the word for a thing without a name or a number of its own
abbrev pub word_of : Label → List ℕ
word_of of.Header = codes "header"
word_of of.Reservations = codes "reservation block"
word_of of.Structure = codes "structure"
word_of of.Strings = codes "strings"
word_of of.Table = codes "table of sizes"
word_of of.Data = codes "data"
word_of of.Padding = codes "padding"
word_of (of.Payload name covered) = codes "payload"
word_of (of.Embedded name covered) = codes "payload"
word_of (of.Part number) = codes "part"
word_of (of.Fault fault) = codes "fault"

-- the name of a node in the file, as one word; of a longer name the first 255 bytes
abbrev pub name_text : List ℕ → Span → List ℕ
name_text file name = printed true (slice file name.place (min name.length 255))

-- what is said of a payload that the signature of this configuration covers
abbrev pub covered_text : List ℕ → Option Span → List ℕ
covered_text file None = []
covered_text file (Some name) = codes ", covered by " ++ name_text file name

-- a payload by its image's name
abbrev pub payload_text : List ℕ → Span → Option Span → List ℕ
payload_text file name covered =
    codes "payload of " ++ name_text file name ++ covered_text file covered

-- The text is the name of what has this label in a file.
abbrev pub Names : List ℕ → Option Label → List ℕ → Type 0
Names file (Some (of.Payload name covered)) text = text ≡ payload_text file name covered
Names file (Some (of.Embedded name covered)) text = text ≡ payload_text file name covered
Names file (Some (of.Part number)) text = text ≡ codes "part " ++ decimal number
Names file (Some (of.Fault fault)) text = text ≡ codes "fault " ++ text_of fault
Names file (Some label) text = text ≡ word_of label
Names file None text = text ≡ []

-- what a thing is, if it is one of the map
abbrev pub label_of : Map → Thing → Option Label
label_of map thing = slice_get map.labels.items thing.number

abbrev pub label_over : Map → Option Thing → Option Label
label_over map None = None
label_over map (Some over) = label_of map over

-- Whether a thing shares bytes with an earlier one, by the labels of both. A payload in the
-- structure block is where it should be.
abbrev pub standing_by : Option Label → Option Label → Standing
standing_by label None = Alone
standing_by (Some (of.Embedded name covered)) (Some of.Structure) = Nested
standing_by label (Some other) = Overlapping other

abbrev pub standing_of : Map → Thing → Option Thing → Standing
standing_of map thing over = standing_by (label_of map thing) (label_over map over)

-- what is said of a thing that ends after a file of `size` bytes
unfoldable pub outside_text : ℕ → Thing → List ℕ
outside_text size thing = if nat_lt size thing.end then codes ", outside the file" else []

-- The text has this name and this end; between them, the name of the earlier thing that shares
-- bytes with this one.
abbrev pub Stands : List ℕ → Standing → List ℕ → List ℕ → List ℕ → Type 0
Stands file Alone name end text = text ≡ name ++ end
Stands file Nested name end text = text ≡ codes "  " ++ name ++ end
Stands file (Overlapping label) name end text =
    (other : List ℕ) × Names file (Some label) other
    × (text ≡ name ++ codes ", overlaps " ++ other ++ end)

-- the text of a thing
pub record TellsThing (file : List ℕ) (map : Map) (thing : Thing) (over : Option Thing)
    (text : List ℕ) : Type 0 where
  pub name : List ℕ
  pub names : Names file (label_of map thing) name
  pub stands : Stands file (standing_of map thing over) name (outside_text map.size thing) text

-- the text of a row
abbrev pub Tells : List ℕ → Map → Row → List ℕ → Type 0
Tells file map (Taken thing over) text = TellsThing file map thing over text
Tells file map (Gap place end) text = text ≡ codes "gap"
Tells file map (Rest place end) text = text ≡ codes "rest"
