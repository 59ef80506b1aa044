-- Whether a configuration names an image, so that its signature covers it.
use Rattle.std.specs.Prelude.{ℕ, ◌+◌, ◌*◌, List, Bool, false, if◌then◌else◌}
use Rattle.uimg_blob_reading.specs.{Properties.places_of, Rows.Row}
use Rattle.uimg_signing.specs.{Listing.name_in, Naming.{any_long, named}}

-- Each signature of a configuration with a value of more than 8192 bytes is refused.
abbrev pub names_image : List ℕ → Row → Row → Bool
names_image file configuration image =
    if any_long (places_of configuration) then false
    else named file (name_in file image) (places_of configuration)

-- the most bytes that are requested to decide it, of a configuration with so many properties: where
-- these are, the image's name, and each property's name and value
abbrev pub naming_cost : ℕ → ℕ → ℕ
naming_cost properties nops = 44 + 268 * properties + 4 * nops + (255 + 8447 * properties)
