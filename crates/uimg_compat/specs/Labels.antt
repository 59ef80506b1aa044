-- Where the labels of a source may be.
use Rattle.std.specs.Prelude.{◌==◌, ◌&&◌, ℕ, Bool, true, false, [], ◌∷◌, if◌then◌else◌}
use Rattle.uimg_compat.specs.Getopt.{Text}
use Rattle.uimg_compat.specs.declared.labels.Place.{Place}
use Rattle.uimg_compat.specs.declared.labels.Place.TheVariants.{Words, Slash, Line, Comment, Star, Text as Quoted, Escape}

-- Where the byte after one is: a comment begins with `/*` and ends with `*/`, or begins with `//`
-- and ends with its line, and a string is between quotes, where `\` takes the next byte with it.
abbrev pub place_after : Place → ℕ → Place
place_after Words byte = if byte == 47 then Slash else (if byte == 34 then Quoted else Words)
place_after Slash byte = if byte == 47 then Line
    else (if byte == 42 then Comment
    else (if byte == 34 then Quoted
    else Words))
place_after Line byte = if byte == 10 then Words else Line
place_after Comment byte = if byte == 42 then Star else Comment
place_after Star byte = if byte == 47 then Words else (if byte == 42 then Star else Comment)
place_after Quoted byte = if byte == 34 then Words else (if byte == 92 then Escape else Quoted)
place_after Escape byte = Quoted

-- A byte is outside of comments and strings.
abbrev pub is_outside : Place → Bool
is_outside Words = true
is_outside Slash = true
is_outside place = false

-- a text has a colon, 58, outside of them
abbrev pub has_labels_from : Place → Text → Bool
has_labels_from place [] = false
has_labels_from place (byte ∷ bytes) = if byte == 58 && is_outside place
    then true else has_labels_from (place_after place byte) bytes

abbrev pub has_labels : Text → Bool
has_labels text = has_labels_from Words text
