-- What is asked for, part by part.
use Rattle.std.proofs.Common.{◌≡◌, ◌+◌, ℕ, List, [], ◌∷◌, map, length, false, Bool, Option, Some, None, Vec, refl, ◌∙◌, subst, arith}
use Rattle.std.specs.List.{All, sum_by}
use Rattle.std.proofs.lemmas.List.{Elements.{All-head, All-tail, All-weaker}, Sums.sum_by-cons}
use Rattle.uimg_base.specs.{Device.Device, Using.Asks, declared.spans.Span.Span}
use Rattle.uimg_base.proofs.Slices.{length-slice}
use Rattle.uimg_blob_reading.specs.declared.places.PropertyPlace.{PropertyPlace}
use Rattle.uimg_blob_reading.specs.Places.{read_place, EndsBy}
use Rattle.uimg_fit_base.specs.Files.{bytes_in}
use Rattle.uimg_fit_checking.specs.FullSurvey.{read_properties, PlacesInside, FullInside}
use Rattle.uimg_fit_checking.specs.declared.surveying.facts.HashFacts.{HashFacts}
use Rattle.uimg_fit_checking.specs.declared.surveying.facts.{ImageFacts.ImageFacts, Survey.Survey}
use Rattle.uimg_fit_checking.specs.declared.surveying.facts.ConfigurationFacts.{ConfigurationFacts}
use Rattle.uimg_fit_checking.specs.declared.surveying.facts.FullSurvey.{FullSurvey}
use Rattle.uimg_fit_reading.specs.{Heads.span_size, PayloadPlaces.Ends}
use Rattle.uimg_fit_checking.specs.Survey.{read_name, read_hash, read_image, read_configuration, read_survey}
use Rattle.uimg_fit_checking.specs.SurveyParts.{NameInside, HashInside, ImageInside, ConfigurationInside, SurveyInside}
use Rattle.uimg_info.specs.Work.{value_size, hash_said_size, image_said_size, configuration_said_size, said_size, hash_size, image_size, node_size, configuration_size, survey_size, names_size, place_size, list_size, signature_said_size, signature_size}
use Rattle.uimg_info.specs.{Signatures.{SignatureInside, read_signature}, declared.signatures.SignatureFacts.SignatureFacts}
use Rattle.uimg_info.proofs.InsideLaws.{ends_more, image_more, configuration_more, places_more}

-- one read after another
pub asks_then : {m n : ℕ} {d e f : Device} → Asks m false d e → Asks n false e f → Asks (m + n) false d f
asks_then p q = record {
  same = record { bytes = q.same.bytes ∙ p.same.bytes; honest = q.same.honest ∙ p.same.honest };
  asked = omega (arith, p.asked, q.asked);
  failures = q.failures ∙ p.failures;
}

pub asks_as : {m n : ℕ} {failed : Bool} {d e : Device} → m ≡ n → Asks m failed d e → Asks n failed d e
asks_as {failed = failed} {d = d} {e = e} is p = subst (λ (k : ℕ). Asks k failed d e) is p

-- sums of what is read where it stands
summed : {X Y : Type 0} (P : X → Type 0) (g : X → Y) (f : Y → ℕ) (h : X → ℕ) → ((x : X) → P x → f (g x) ≡ h x)
    → (xs : List X) → All P xs → sum_by f (map g xs) ≡ sum_by h xs
summed P g f h same [] all = refl
summed P g f h same (x ∷ xs) all =
    let first = same x (All-head P x xs all) in
    let more = summed P g f h same xs (All-tail P x xs all) in
    omega (arith, first, more, sum_by-cons f (g x) (map g xs), sum_by-cons h x xs)

sized : (file : List ℕ) (v : Option Span) → Ends (length file) v → value_size (bytes_in file v) ≡ span_size v
sized file None ends = refl
sized file (Some s) ends = length-slice file s.place s.length ends

hash_sized : (file : List ℕ) (h : HashFacts) → HashInside (length file) h → hash_said_size (read_hash file h) ≡ hash_size h
hash_sized file h i =
    omega (arith, sized file (Some h.name) i.name, sized file h.algo i.algo, sized file h.value i.value)

image_sized : (file : List ℕ) (i : ImageFacts) → ImageInside (length file) i → image_said_size (read_image file i) ≡ image_size i
unfolding image_size
image_sized file i inside =
    let hashes = summed (HashInside (length file)) (read_hash file) hash_said_size hash_size (hash_sized file) i.hashes.items inside.hashes in
    omega (
      arith,
      hashes,
      sized file (Some i.name) inside.name,
      sized file i.description inside.description,
      sized file i.kind inside.kind,
      sized file i.arch inside.arch,
      sized file i.os inside.os,
      sized file i.compression inside.compression,
      sized file i.load inside.load,
      sized file i.entry inside.entry,
    )

name_sized : (file : List ℕ) (name : Span) → NameInside (length file) name → length (read_name file name) ≡ node_size name
name_sized file name inside = length-slice file name.place name.length inside

configuration_sized : (file : List ℕ) (c : ConfigurationFacts) → ConfigurationInside (length file) c
    → configuration_said_size (read_configuration file c) ≡ configuration_size c
unfolding configuration_size
configuration_sized file c i =
    let nodes = summed (NameInside (length file)) (read_name file) (λ name. length name) node_size (name_sized file) c.nodes.items i.nodes in
    omega (
      arith,
      nodes,
      sized file (Some c.name) i.name,
      sized file c.description i.description,
      sized file c.kernel i.kernel,
      sized file c.ramdisk i.ramdisk,
      sized file c.fdt i.fdt,
      sized file c.loadables i.loadables,
      sized file c.firmware i.firmware,
      sized file c.fpga i.fpga,
      sized file c.setup i.setup,
      sized file c.standalone i.standalone,
      sized file c.script i.script,
    )

-- what a file says has the bytes that stand where its survey tells
pub survey_sized : (file : List ℕ) (s : Survey) → SurveyInside (length file) s → said_size (read_survey file s) ≡ survey_size s
survey_sized file s inside =
    let n = length file in
    let images = All-weaker (ImageInside s.totalsize) (ImageInside n) (λ i. image_more s.totalsize n i inside.blob) s.images.items inside.images in
    let configurations = All-weaker (ConfigurationInside s.totalsize) (ConfigurationInside n) (λ c. configuration_more s.totalsize n c inside.blob) s.configurations.items inside.configurations in
    omega (
      arith,
      summed (ImageInside n) (read_image file) image_said_size image_size (image_sized file) s.images.items images,
      summed (ConfigurationInside n) (read_configuration file) configuration_said_size configuration_size (configuration_sized file) s.configurations.items configurations,
      sized file s.description (ends_more s.totalsize n s.description inside.blob inside.description),
      sized file s.timestamp (ends_more s.totalsize n s.timestamp inside.blob inside.timestamp),
      sized file s.preferred (ends_more s.totalsize n s.preferred inside.blob inside.preferred),
    )

signature_sized : (file : List ℕ) (s : SignatureFacts) → SignatureInside (length file) s → signature_said_size (read_signature file s) ≡ signature_size s
signature_sized file s i =
    omega (arith, sized file (Some s.configuration) i.configuration, sized file (Some s.node) i.node, sized file s.algo i.algo, sized file s.padding i.padding, sized file s.key i.key)

pub signatures_sized : (file : List ℕ) (ss : List SignatureFacts) → All (SignatureInside (length file)) ss → sum_by signature_said_size (map (read_signature file) ss) ≡ sum_by signature_size ss
signatures_sized file ss inside = summed (SignatureInside (length file)) (read_signature file) signature_said_size signature_size (signature_sized file) ss inside

list_sized : {Z : Type 0} (file : List ℕ) (places : Vec PropertyPlace Z) → PlacesInside (length file) places → names_size (read_properties file places) ≡ list_size places
list_sized file places inside =
    summed (EndsBy (length file)) (read_place file) (λ property. length property.name) place_size (λ place e. length-slice file place.name.place place.name.length e.name) places.items inside

-- and so have the names of the properties
pub names_sized : (file : List ℕ) (full : FullSurvey) → FullInside (length file) full → sum_by names_size (map (read_properties file) full.properties.items) ≡ sum_by list_size full.properties.items
names_sized file full inside =
    let n = length file in
    let m = full.survey.totalsize in
    let lists = All-weaker (PlacesInside m) (PlacesInside n) (λ places. places_more m n places inside.survey.blob) full.properties.items inside.properties in
    summed (PlacesInside n) (read_properties file) names_size list_size (list_sized file) full.properties.items lists
