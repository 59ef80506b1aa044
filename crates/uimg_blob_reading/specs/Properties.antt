-- What is returned of a node's properties.
use Rattle.std.specs.Prelude.{◌≡◌, ℕ, ◌+◌, ◌-◌, ◌*◌, ◌<◌, ◌≤◌, List, ◌++◌, length, map, Option}
use Rattle.std.specs.Prelude.{Some, None, Result, Ok, Err, IfOk, IfSome, IsTrue, Bool, true, false}
use Rattle.std.specs.{Prelude.{Vec, ⊤}, List.{All, slice_get}, Option.MatchOption}
use Rattle.uimg_texts.specs.Numbers.{be32}
use Rattle.uimg_base.specs.{declared.spans.Span.Span, Device.Device, Held.Held, Using.Uses}
use Rattle.uimg_blob_reading.specs.{declared.{extent.Extent.Extent, nodes.Blob.Blob}, Spots.spot_of}
use Rattle.uimg_blob_reading.specs.{declared.places.PropertyPlace.PropertyPlace, Grammar.Siblings}
use Rattle.uimg_blob_reading.specs.declared.properties.PropertiesFault.{PropertiesFault}
use Rattle.uimg_blob_reading.specs.declared.properties.PropertiesFault.TheVariants.{Read, Changed}
use Rattle.uimg_blob_reading.specs.declared.properties.PropertiesFault.TheVariants.{OutOfMemory}
use Rattle.uimg_blob_reading.specs.{Tokens.{Property, Blocks}, Blob.{tree, blocks}, Owns.LeftFrom}
use Rattle.uimg_blob_reading.specs.{Rows.{Row, table}, Plain.{NamedOf, with_value}}
use Rattle.uimg_blob_reading.specs.{Indexed.{IsIndexed, value_span}, Extents.blocks_of}
use Rattle.uimg_blob_reading.specs.Places.{read_place, placed, EndsBy}

-- the names of a node's properties, and the spans of their values
abbrev pub places_of : Row → List (NamedOf Span)
places_of row = map (with_value value_span) (map spot_of row.own)

-- the result is a failed read
abbrev pub is_unread : {X : Type 0} → Result X PropertiesFault → Bool
is_unread (Ok x) = false
is_unread (Err Read) = true
is_unread (Err OutOfMemory) = false
is_unread (Err Changed) = false

-- The result has these names and spans, unless a read failed or memory was refused.
abbrev pub TellsPlaces : {Z : Type 0} → List ℕ → List (NamedOf Span)
    → Result (Vec PropertyPlace Z) PropertiesFault → Type 0
TellsPlaces file said (Ok places) = map (read_place file) places.items ≡ said
TellsPlaces file said (Err Read) = ⊤
TellsPlaces file said (Err OutOfMemory) = ⊤
TellsPlaces file said (Err Changed) = ⊥

-- The spans end inside a blob of this size, which ends inside a file of that size. Each property
-- takes at least 12 bytes.
pub record LieInside (totalsize size : ℕ) (places : List PropertyPlace) : Type 0 where
  pub ends : All (EndsBy totalsize) places
  pub within : totalsize ≤ size
  pub few : 12 * length places ≤ totalsize

-- P holds for the node's row in the tree of an honest device's bytes, if that tree was indexed.
abbrev pub OfRowRead : Device → Blob → List (List ℕ) → ℕ → (Row → Type 0) → Type 0
OfRowRead d blob es number P =
    IsTrue d.honest → (t : Siblings) → tree d.bytes ≡ Ok t → IsIndexed t blob es
    → blob.totalsize ≡ be32 d.bytes 4
    → (row : Row) → slice_get (table t) number ≡ Some row → P row

-- the most bytes that are requested to read these properties: a word, the fields and at most 256
-- bytes of a name for each, the words of FDT_NOP, and the word at the end
abbrev pub telling_cost : List Property → ℕ → ℕ
telling_cost own nops = 4 + 268 * length own + 4 * nops

-- The tokens before an offset were taken: the spans so far and the rest are all, within the cost.
pub record TookFrom (b : Blocks) (at : ℕ) (own : List Property) (nops : ℕ)
    (old new : List PropertyPlace) (base asked : ℕ) : Type 0 where
  pub rest : List Property
  pub rest_nops : ℕ
  pub left : LeftFrom b at rest rest_nops
  pub are : map (read_place b.bytes) new ++ map placed rest ≡ map
      (read_place b.bytes) old ++ map placed own
  pub paid : asked + telling_cost rest rest_nops ≤ base + telling_cost own nops

-- All properties were taken, within the cost.
pub record TookAll (file : List ℕ) (own : List Property) (nops : ℕ) (old new : List PropertyPlace)
    (base asked : ℕ) : Type 0 where
  pub are : map (read_place file) new ≡ map (read_place file) old ++ map placed own
  pub paid : asked ≤ base + telling_cost own nops

-- The result is the offset of the next token, or `None` at the end. The source does not change.
abbrev pub TakesOne : Blocks → List Property → ℕ → Result (Option ℕ) PropertiesFault
    → List PropertyPlace → List PropertyPlace → ℕ → ℕ → Type 0
TakesOne b own nops (Ok (Some at)) old new base asked = TookFrom b at own nops old new base asked
TakesOne b own nops (Ok None) old new base asked = TookAll b.bytes own nops old new base asked
TakesOne b own nops (Err Read) old new base asked = asked ≤ base + telling_cost own nops
TakesOne b own nops (Err OutOfMemory) old new base asked = asked ≤ base + telling_cost own nops
TakesOne b own nops (Err Changed) old new base asked = ⊥

-- What a step at an offset does: the offset stays inside the structure block and moves by at least
-- 12 bytes for each added property, and no added span ends outside the blob.
pub record TakesToken (x : Extent) (at : ℕ) (result : Result (Option ℕ) PropertiesFault)
    (d e : Device) (h k : Held) (old new : List PropertyPlace) : Type 0 where
  pub uses : Uses (is_unread result) d e
  pub room : k ≡ h
  pub ahead : IfOk result (λ o. IfSome o (λ n. (at + 4 ≤ n) × (n < x.structure_end + 4)))
  pub few : IfOk result
      (λ o. MatchOption o (length new ≡ length old)
      (λ n. at + 12 * length new ≤ n + 12 * length old))
  pub ends : All (EndsBy x.totalsize) old → All (EndsBy x.totalsize) new
  pub takes : IsTrue d.honest → (own : List Property) (nops : ℕ)
      → LeftFrom (blocks_of d.bytes x) at own nops
      → TakesOne (blocks_of d.bytes x) own nops result old new d.asked e.asked

-- All steps from an offset on: the spans end inside the blob, there are no more than fit into the
-- bytes, and over an honest device they are those of the properties there.
pub record TakesTokens {Z : Type 0} (x : Extent) (start : ℕ)
    (result : Result (Vec PropertyPlace Z) PropertiesFault) (d e : Device) (h k : Held)
    : Type 0 where
  pub uses : Uses (is_unread result) d e
  pub room : k ≡ h
  pub ends : IfOk result (λ places. All (EndsBy x.totalsize) places.items)
  pub few : IfOk result (λ places. 12 * length places.items ≤ x.structure_end + 3 - start)
  pub told : IsTrue d.honest → (own : List Property) (nops : ℕ)
      → LeftFrom (blocks_of d.bytes x) start own nops
      → TellsPlaces d.bytes (map placed own) result × (e.asked ≤ d.asked + telling_cost own nops)

-- The result is the blocks of a file, unless a read failed.
abbrev pub FindsBlocks : List ℕ → Result Extent PropertiesFault → Type 0
FindsBlocks file (Ok x) = blocks file ≡ Ok (blocks_of file x)
FindsBlocks file (Err Read) = ⊤
FindsBlocks file (Err OutOfMemory) = ⊤
FindsBlocks file (Err Changed) = ⊥
