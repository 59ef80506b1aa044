-- What the steps that read an image do and return.
use Rattle.std.specs.Prelude.{◌≡◌, ℕ, ◌+◌, ◌*◌, ◌≤◌, List, length, take, sum_by, Result, Bool}
use Rattle.std.specs.Prelude.{false, IsTrue, IfOk, is_err}
use Rattle.uimg_texts.specs.{Slices.slice, Numbers.{be32, up4}}
use Rattle.uimg_base.specs.{Lent.Lent, Device.{Device, RisesIf}, Held.Held, Sink.Sink, Using.Asks}
use Rattle.uimg_base.specs.{Outcome.{Outcome, Tells}, declared.source.SourceFault.SourceFault}
use Rattle.uimg_base.specs.declared.{status.Status.Status, spans.Span.Span}
use Rattle.uimg_legacy.specs.{declared.fault.LegacyFault.LegacyFault, Listing.{tail_with, lines_of}}
use Rattle.uimg_legacy.specs.{declared.fault.Fault.Fault, Image.{payload, has_right_data, legacy}}
use Rattle.uimg_legacy.specs.{declared.header.Header.Header, Extraction.{listed_part, part_of_data, part_at}}
use Rattle.uimg_legacy.specs.{Words.whole_words, Parts.{has_parts, sizes}, Report.data_report}
use Rattle.uimg_legacy.specs.{Header.spelled, Faults.{is_read, is_put, is_of_making, end_of, Gives}}

-- A step that reads. Over an honest device its result is about the bytes.
pub record ReadsBetween {X : Type 0} (used : Bool → Device → Device → Type 0)
    (answers : List ℕ → Result X Fault → Type 0) (result : Result X Fault) (old new : Device)
    (before after : Held) : Type 0 where
  pub uses : used (is_read result) old new
  pub room : after ≡ before
  pub no_put : is_put result ≡ false
  pub no_making : is_of_making result ≡ false
  pub answer : IsTrue old.honest → answers old.bytes result

-- The same for a borrowed source and room; `uses` is a fact about the device, with a measure.
abbrev pub Reads : {S X : Type 0} → (ℕ → Bool → Device → Device → Type 0) → (List ℕ → ℕ)
    → (List ℕ → Result X Fault → Type 0) → Result X Fault → (S → Device) → Lent S → Lent Held
    → Type 0
Reads uses work answers result device source room =
    ReadsBetween (uses (work (device source.entry.now).bytes)) answers result
    (device source.entry.now) (device source.exit.now) room.entry.now room.exit.now

-- A step that reads and writes. Over an honest device it writes the outcome of its bytes.
pub record ReportsBetween (used : Bool → Device → Device → Type 0)
    (outcome : List ℕ → Outcome LegacyFault) (result : Result Status Fault) (old new : Device)
    (before after : Held) (from to : Sink) : Type 0 where
  pub uses : used (is_read result) old new
  pub room : after ≡ before
  pub faults : RisesIf (is_put result) from.faults to.faults
  pub no_making : is_of_making result ≡ false
  pub told : IsTrue old.honest → Tells (end_of result) (outcome old.bytes) from to

-- the same for a borrowed source, room and output
abbrev pub Reports : {S : Type 0} → (ℕ → Bool → Device → Device → Type 0) → (List ℕ → ℕ)
    → (List ℕ → Outcome LegacyFault) → Result Status Fault → (S → Device) → Lent S → Lent Held
    → Lent Sink → Type 0
Reports uses work outcome result device source room out =
    ReportsBetween (uses (work (device source.entry.now).bytes)) outcome result
    (device source.entry.now) (device source.exit.now) room.entry.now room.exit.now out.entry.now
    out.exit.now

-- What reading a header does: it requests at most 64 bytes.
pub record ReadsHeadBetween {X : Type 0} (result : Result X Fault) (old new : Device) : Type 0 where
  -- over any source; `Read` is returned exactly if its failures rose
  pub uses : Asks 64 (is_read result) old new
  -- `Put` is never returned
  pub no_put : is_put result ≡ false
  -- L9 and L10 are never returned
  pub no_making : is_of_making result ≡ false

-- the same for a borrowed source
abbrev pub ReadsHead : {S X : Type 0} → Result X Fault → (S → Device) → Lent S → Type 0
ReadsHead result device source =
    ReadsHeadBetween result (device source.entry.now) (device source.exit.now)

-- The returned header spells the first 64 bytes of the image.
abbrev pub IsSpelledIn : List ℕ → Result Header Fault → Type 0
IsSpelledIn image result = IfOk result (λ h. spelled h ≡ take 64 image)

-- A step that requests `count` words of the data. Its result is at most `most`, and over an honest
-- device the measure of its bytes.
pub record ReadsWordsBetween (count most : ℕ) (measure : List ℕ → ℕ) (result : Result ℕ SourceFault)
    (old new : Device) (before after : Held) : Type 0 where
  pub uses : Asks (4 * count) (is_err result) old new
  pub room : after ≡ before
  pub bound : IfOk result (λ n. n ≤ most)
  pub value : IsTrue old.honest → IfOk result (λ n. n ≡ measure old.bytes)

-- the same for a borrowed source and room
abbrev pub ReadsWords : {S : Type 0} → ℕ → ℕ → (List ℕ → ℕ) → Result ℕ SourceFault → (S → Device)
    → Lent S → Lent Held → Type 0
ReadsWords count most measure result device source room =
    ReadsWordsBetween count most measure result
    (device source.entry.now) (device source.exit.now) room.entry.now room.exit.now

-- the bytes of `count` words of the data, from word `first` on
abbrev pub window : List ℕ → ℕ → ℕ → List ℕ
window image first count = slice image (64 + 4 * first) (4 * count)

-- how many of these words come before the first zero word
abbrev pub sizes_from : ℕ → ℕ → List ℕ → ℕ
sizes_from first count image = length (sizes (window image first count))

-- their sum, each rounded up to a multiple of 4
abbrev pub rounded_from : ℕ → ℕ → List ℕ → ℕ
rounded_from first count image = sum_by up4 (whole_words (window image first count))

-- the result is the word at an offset
abbrev pub IsWordAt : ℕ → List ℕ → Result ℕ SourceFault → Type 0
IsWordAt at image result = IfOk result (λ n. n ≡ be32 image at)

-- the result is whether the data's CRC is that in the header, or why the data are refused
abbrev pub TellsRight : Header → List ℕ → Result Bool Fault → Type 0
TellsRight h image result = Gives (λ right. right) result (has_right_data image h)

-- the result is the header of an image, or why the image is refused
abbrev pub GivesImage : List ℕ → Result Header Fault → Type 0
GivesImage image result =
    Gives (λ h. record { header = h; payload = payload image h }) result (legacy image)

-- the bytes of the image at a span
abbrev pub bytes_at : List ℕ → Span → List ℕ
bytes_at image span = slice image span.place span.length

-- the span ends inside the file
abbrev pub EndsInFile : {S : Type 0} → Result Span Fault → (S → Device) → Lent S → Type 0
EndsInFile result device source =
    IfOk result (λ span. span.place + span.length ≤ length (device source.entry.now).bytes)

-- In data of `size` bytes whose table has `count` sizes: the result is the span of the part at a
-- position, or its fault.
abbrev pub ListsPart : ℕ → ℕ → ℕ → List ℕ → Result Span Fault → Type 0
ListsPart size count position image result = count ≡ length (sizes (slice image 64 size))
    → Gives (bytes_at image) result
    (listed_part (slice image 64 size) (sizes (slice image 64 size)) position)

-- the result is the span of the part at a position of an image with this header, or its fault
abbrev pub FindsPart : Header → ℕ → List ℕ → Result Span Fault → Type 0
FindsPart h position image result =
    Gives (bytes_at image) result (part_of_data (has_parts h.kind) (payload image h) position)

-- the same for an image whose header is read first
abbrev pub LocatesPart : ℕ → List ℕ → Result Span Fault → Type 0
LocatesPart position image result = Gives (bytes_at image) result (part_at image position)

-- the report on the data
abbrev pub report_on : Header → List ℕ → Outcome LegacyFault
report_on h image = data_report (has_right_data image h)

-- the text after the six lines
abbrev pub tail_of : Header → List ℕ → Outcome LegacyFault
tail_of h image = tail_with (has_parts h.kind) (payload image h)

-- Over an honest source whose table has `count` sizes, the lines of the parts are written.
abbrev pub TellsLines : {S : Type 0} → ℕ → ℕ → Result Status Fault → (S → Device) → Lent S
    → Lent Sink → Type 0
TellsLines size count result device source out = IsTrue (device source.entry.now).honest
    → count ≡ length (sizes (slice (device source.entry.now).bytes 64 size))
    → Tells (end_of result) (lines_of (slice (device source.entry.now).bytes 64 size) count)
    out.entry.now out.exit.now
