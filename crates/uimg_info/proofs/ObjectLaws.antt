-- The objects of images are sound.
use Rattle.std.proofs.Common.{ℕ, suc, Option, Some, None, List, [], ◌∷◌, ◌++◌, map, codes, Result, Ok, Err}
use Rattle.json.specs.Json.{Json}
use Rattle.uimg_base.specs.declared.spans.Span.{Span}
use Rattle.uimg_blob_reading.specs.Plain.{NamedOf}
use Rattle.uimg_fit_base.specs.declared.fault.FitFault.{FitFault}
use Rattle.uimg_fit_checking.specs.Survey.{Said, ImageSaid, ConfigurationSaid}
use Rattle.uimg_fit_reading.specs.PayloadPlaces.{place_said}
use Rattle.uimg_printing.specs.Members.{Member, array_of, items_of, number_member, string_member}
use Rattle.uimg_info.specs.{Members.{Fact, facts_members}, declared.reservations.Reservation.Reservation}
use Rattle.uimg_info.specs.Reservations.{reservation_json, reservations_members}
use Rattle.uimg_printing.proofs.LineLaws as line
use Rattle.uimg_info.specs.Fit.{hash_facts, image_facts, configuration_facts, node_facts, node_json, property_json, root_facts, root_members, place_members, hash_json, configuration_json, configurations_json, image_json, head_members, signature_json, signatures_members, fit_json}
use Rattle.uimg_printing.proofs.SoundLaws.{Sound, SoundItems, AreSound, append_sound, number_sound, items_sound}
use Rattle.uimg_info.proofs.SoundLaws.{facts_sound}

string_sound : (d : ℕ) (name s : List ℕ) → AreSound d (string_member name s)
string_sound d name s = (tt, tt)

place_sound : (d : ℕ) (found : Result Span FitFault) → AreSound d (place_members found)
place_sound d (Err fault) = tt
place_sound d (Ok place) =
    append_sound d (number_member (codes "offset") place.place) (number_member (codes "data-size") place.length) (number_sound d (codes "offset") place.place) (number_sound d (codes "data-size") place.length)

image_sound : (totalsize : ℕ) (image : ImageSaid) → Sound 4 (image_json totalsize image)
image_sound totalsize image =
    let hashes : List Member = (codes "hashes", array_of (map hash_json image.hashes)) ∷ [] in
    let placed : List Member = place_members (place_said totalsize image.payload) in
    append_sound 3 (facts_members (image_facts image)) (placed ++ hashes) (facts_sound 2 (image_facts image))
    (append_sound 3 placed hashes (place_sound 3 (place_said totalsize image.payload))
    (items_sound 2 hash_json (λ hash. facts_sound 0 (hash_facts hash)) image.hashes, tt))

property_sound : (property : NamedOf Span) → Sound 2 (property_json property)
property_sound property =
    append_sound 1 (facts_members (node_facts property.name)) (number_member (codes "size") property.value.length) (facts_sound 0 (node_facts property.name))
    (number_sound 1 (codes "size") property.value.length)

configuration_sound : (configuration : ConfigurationSaid) (properties : List (NamedOf Span)) → Sound 4 (configuration_json configuration properties)
configuration_sound configuration properties =
    let arrays : List Member = (codes "nodes", array_of (map node_json configuration.nodes)) ∷ (codes "properties", array_of (map property_json properties)) ∷ [] in
    append_sound 3 (facts_members (configuration_facts configuration)) arrays (facts_sound 2 (configuration_facts configuration)) (
      items_sound 2 node_json (λ name. facts_sound 0 (node_facts name)) configuration.nodes,
      (items_sound 2 property_json property_sound properties, tt),
    )

configurations_sound : (configurations : List ConfigurationSaid) (lists : List (List (NamedOf Span))) → SoundItems 4 (items_of (configurations_json configurations lists))
configurations_sound [] lists = tt
configurations_sound (configuration ∷ configurations) [] = tt
configurations_sound (configuration ∷ configurations) (properties ∷ lists) = (configuration_sound configuration properties, configurations_sound configurations lists)

head_sound : (d : ℕ) (path : List ℕ) (size totalsize : ℕ) → AreSound d (head_members path size totalsize)
head_sound d path size totalsize =
    let sizes : List Member = number_member (codes "size") size ++ number_member (codes "totalsize") totalsize in
    let format : List Member = string_member (codes "format") (codes "fit") in
    append_sound d (string_member (codes "path") path) (number_member (codes "status") 0 ++ (format ++ sizes)) (string_sound d (codes "path") path)
    (append_sound d (number_member (codes "status") 0) (format ++ sizes) (number_sound d (codes "status") 0)
    (append_sound d format sizes (string_sound d (codes "format") (codes "fit"))
    (append_sound d (number_member (codes "size") size) (number_member (codes "totalsize") totalsize) (number_sound d (codes "size") size) (number_sound d (codes "totalsize") totalsize))))

reservation_sound : (d : ℕ) (entry : Reservation) → Sound (suc d) (reservation_json entry)
reservation_sound d entry = (line.number entry.address, (line.number entry.size, tt))

reservations_sound : (d : ℕ) (reserved : Option (List Reservation)) → AreSound (suc (suc d)) (reservations_members reserved)
reservations_sound d None = tt
reservations_sound d (Some entries) = (items_sound (suc d) reservation_json (reservation_sound d) entries, tt)

pub fit_sound : (path : List ℕ) (size : ℕ) (reserved : Option (List Reservation)) (said : Said) (properties : List (List (NamedOf Span))) (signatures : List (List Fact))
    → Sound 6 (fit_json path size reserved said properties signatures)
fit_sound path size reserved said properties signatures =
    let images : Json = array_of (map (image_json said.totalsize) said.images) in
    let configurations : Json = array_of (configurations_json said.configurations properties) in
    let arrays : List Member = (codes "images", images) ∷ (codes "configurations", configurations) ∷ signatures_members signatures in
    append_sound 5 (head_members path size said.totalsize) (root_members reserved said ++ arrays) (head_sound 5 path size said.totalsize)
    (append_sound 5 (root_members reserved said) arrays
    (append_sound 5 (facts_members (root_facts said)) (reservations_members reserved) (facts_sound 4 (root_facts said)) (reservations_sound 3 reserved)) (
      items_sound 4 (image_json said.totalsize) (image_sound said.totalsize) said.images,
      (configurations_sound said.configurations properties, (items_sound 4 signature_json (facts_sound 2) signatures, tt)),
    ))
