-- Values that end in a blob end in its file.
use Rattle.std.proofs.Common.{ℕ, ◌≤◌, Option, Some, None, Vec, arith}
use Rattle.std.proofs.lemmas.List.Elements.{All-weaker}
use Rattle.uimg_base.specs.declared.spans.Span.{Span}
use Rattle.uimg_blob_reading.specs.{declared.places.PropertyPlace.PropertyPlace, Places.EndsBy}
use Rattle.uimg_fit_checking.specs.FullSurvey.{PlacesInside}
use Rattle.uimg_fit_checking.specs.declared.surveying.facts.HashFacts.{HashFacts}
use Rattle.uimg_fit_checking.specs.declared.surveying.facts.ImageFacts.{ImageFacts}
use Rattle.uimg_fit_checking.specs.declared.surveying.facts.ConfigurationFacts.{ConfigurationFacts}
use Rattle.uimg_fit_reading.specs.declared.places.PayloadFacts.{PayloadFacts}
use Rattle.uimg_fit_reading.specs.PayloadPlaces.{Ends, PayloadInside}
use Rattle.uimg_fit_checking.specs.SurveyParts.{NameInside, HashInside, ImageInside, ConfigurationInside}

pub ends_more : (m n : ℕ) (v : Option Span) → m ≤ n → Ends m v → Ends n v
ends_more m n None h e = tt
ends_more m n (Some s) h e = omega (arith, h, e)

pub hash_more : (m n : ℕ) (facts : HashFacts) → m ≤ n → HashInside m facts → HashInside n facts
hash_more m n facts h i = record {
  name = omega (arith, h, i.name);
  algo = ends_more m n facts.algo h i.algo;
  value = ends_more m n facts.value h i.value;
}

pub payload_more : (m n : ℕ) (facts : PayloadFacts) → m ≤ n → PayloadInside m facts → PayloadInside n facts
payload_more m n facts h i = record {
  embedded = ends_more m n facts.embedded h i.embedded;
  size = ends_more m n facts.size h i.size;
  offset = ends_more m n facts.offset h i.offset;
  position = ends_more m n facts.position h i.position;
}

pub image_more : (m n : ℕ) (facts : ImageFacts) → m ≤ n → ImageInside m facts → ImageInside n facts
image_more m n facts h i = record {
  name = omega (arith, h, i.name);
  description = ends_more m n facts.description h i.description;
  kind = ends_more m n facts.kind h i.kind;
  arch = ends_more m n facts.arch h i.arch;
  os = ends_more m n facts.os h i.os;
  compression = ends_more m n facts.compression h i.compression;
  load = ends_more m n facts.load h i.load;
  entry = ends_more m n facts.entry h i.entry;
  payload = payload_more m n facts.payload h i.payload;
  hashes = All-weaker (HashInside m) (HashInside n) (λ hash. hash_more m n hash h) facts.hashes.items i.hashes;
}

pub configuration_more : (m n : ℕ) (facts : ConfigurationFacts) → m ≤ n → ConfigurationInside m facts → ConfigurationInside n facts
configuration_more m n facts h i = record {
  name = omega (arith, h, i.name);
  description = ends_more m n facts.description h i.description;
  kernel = ends_more m n facts.kernel h i.kernel;
  ramdisk = ends_more m n facts.ramdisk h i.ramdisk;
  fdt = ends_more m n facts.fdt h i.fdt;
  loadables = ends_more m n facts.loadables h i.loadables;
  firmware = ends_more m n facts.firmware h i.firmware;
  fpga = ends_more m n facts.fpga h i.fpga;
  setup = ends_more m n facts.setup h i.setup;
  standalone = ends_more m n facts.standalone h i.standalone;
  script = ends_more m n facts.script h i.script;
  nodes = All-weaker (NameInside m) (NameInside n) (λ name is. omega (arith, h, is)) facts.nodes.items i.nodes;
}

pub places_more : {Z : Type 0} (m n : ℕ) (places : Vec PropertyPlace Z) → m ≤ n → PlacesInside m places → PlacesInside n places
places_more m n places h all =
    All-weaker (EndsBy m) (EndsBy n) (λ place e. record { name = omega (arith, h, e.name); value = omega (arith, h, e.value); short = e.short }) places.items all
