-- The names of a node's properties are those of its row.
use Rattle.std.proofs.Common.{◌≡◌, ℕ, List, [], ◌∷◌, map, Vec, Result, Ok, Err, refl, ap, ◌∙◌}
use Rattle.uimg_base.specs.Device.{Device}
use Rattle.uimg_base.specs.Held.{Held}
use Rattle.uimg_base.specs.declared.spans.Span.{Span}
use Rattle.uimg_blob_reading.specs.declared.nodes.Blob.{Blob}
use Rattle.uimg_blob_reading.specs.declared.places.PropertyPlace.{PropertyPlace}
use Rattle.uimg_blob_reading.specs.declared.properties.PropertiesFault.{PropertiesFault}
use Rattle.uimg_blob_reading.specs.declared.properties.PropertiesFault.TheVariants.{Read, OutOfMemory, Changed}
use Rattle.uimg_blob_reading.specs.Indexed.{value_span}
use Rattle.uimg_blob_reading.specs.Places.{read_place}
use Rattle.uimg_blob_reading.specs.Plain.{NamedOf, with_value}
use Rattle.uimg_blob_reading.specs.Properties.{places_of, OfRowRead, TellsPlaces}
use Rattle.uimg_blob_reading.specs.Spots.{Spot, spot_of}
use Rattle.uimg_fit_checking.specs.FullSurvey.{ReadsAs}
use Rattle.uimg_fit_checking.proofs.FullSurveyLaws.{surveyed}
use Rattle.uimg_fit_reading.specs.Nodes.{OfAnyNode}
use Rattle.uimg_fit_reading.proofs.NodeLaws.{node_row}
use Rattle.uimg_strict.specs.Telling.{place_name}

names_read : (file : List ℕ) (xs : List PropertyPlace) → map (place_name file) xs ≡ map (λ n. n.name) (map (read_place file) xs)
names_read file [] = refl
names_read file (x ∷ xs) = ap (λ (l : List (List ℕ)). place_name file x ∷ l) (names_read file xs)

names_kept : (own : List (NamedOf Spot)) → map (λ n. n.name) (map (with_value value_span) own) ≡ map (λ p. p.name) own
names_kept [] = refl
names_kept (p ∷ own) = ap (λ (l : List (List ℕ)). p.name ∷ l) (names_kept own)

told_names : {Z : Type 0} (file : List ℕ) (said : List (NamedOf Span)) (names : List (List ℕ)) (result : Result (Vec PropertyPlace Z) PropertiesFault)
    → map (λ n. n.name) said ≡ names → TellsPlaces file said result → ReadsAs (λ places. map (place_name file) places.items) names (surveyed result)
told_names file said names (Ok places) are told = names_read file places.items ∙ ap (map (λ n. n.name)) told ∙ are
told_names file said names (Err Read) are told = refl
told_names file said names (Err OutOfMemory) are told = refl
told_names file said names (Err Changed) are told = absurd told

pub own_told : {Z : Type 0} (d : Device) (blob : Blob) (room : Held) (number : ℕ) (result : Result (Vec PropertyPlace Z) PropertiesFault)
    → OfRowRead d blob room.entries number (λ row. TellsPlaces d.bytes (places_of row) result)
    → OfAnyNode d blob room number (λ level found. ReadsAs (λ places. map (place_name d.bytes) places.items) (map (λ p. p.name) found.own) (surveyed result))
own_told d blob room number result told t opened level found n =
    let r = node_row t level number found n in
    let read = opened.read in
    told_names d.bytes (places_of r.row) (map (λ p. p.name) found.own) result
    (names_kept (map spot_of r.row.own) ∙ ap (map (λ p. p.name)) r.own)
    (told opened.honest t read.is read.indexed read.totalsize r.row r.is)
