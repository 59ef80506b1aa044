-- What the map of an image means.
use Rattle.std.specs.Prelude.{◌≡◌, ◌⊎◌, ℕ, List, length, Option, Some, None}
use Rattle.std.specs.{Borrow.Bor, Io.KnownBytes.Keeps}
use Rattle.uimg_base.specs.Named.{FileMap}
use Rattle.uimg_map.specs.FaultTexts.{text_of}
use Rattle.uimg_map.specs.{Lines.PutsLines, Maps.{IsMapOf, contents_of}}
use Rattle.uimg_map.specs.declared.{fault.MapFault.MapFault, map.Map.Map}
use Rattle.uimg_tool.specs.{Answering.{Meant, OfFile}, FaultTexts.draws_over}

-- the status of an image whose map was written: one with a fault is refused
abbrev pub mapped_status : Option MapFault → ℕ
mapped_status None = 0
mapped_status (Some fault) = 1

-- what is told of it
abbrev pub mapped_told : Option MapFault → Option (Option (List ℕ))
mapped_told None = None
mapped_told (Some fault) = Some (Some (text_of fault))

-- The status and what is told are those of a file's first fault, and the lines of its map were printed.
pub record IsMapped (file : List ℕ) (status : ℕ) (told : Option (Option (List ℕ))) (old new : Option (List ℕ)) : Type 0 where
  pub is : status ≡ mapped_status (contents_of file).fault
  pub tells : told ≡ mapped_told (contents_of file).fault
  pub map : Map
  pub size : map.size ≡ length file
  pub found : IsMapOf file map
  pub put : PutsLines file map map.rows.items old new

-- The same of a picture, and nothing was printed.
abbrev pub IsDrawn : List ℕ → Meant
IsDrawn file status told old new = (status ≡ mapped_status (contents_of file).fault)
    × (told ≡ mapped_told (contents_of file).fault) × Keeps old new

-- Or the picture would be written to its image.
abbrev pub DrawsOver : List ℕ → Meant
DrawsOver path status told old new = (status ≡ 2) × (told ≡ Some (Some (draws_over path))) × Keeps old new

abbrev pub MeansPicture : (image path : List ℕ) → FileMap → Meant
MeansPicture image path files status old new told =
    DrawsOver path status old new told ⊎ OfFile files image IsDrawn status old new told

abbrev pub MeansMap : List ℕ → Option (Bor (List ℕ)) → FileMap → Meant
MeansMap image None files = OfFile files image IsMapped
MeansMap image (Some path) files = MeansPicture image path.now files
