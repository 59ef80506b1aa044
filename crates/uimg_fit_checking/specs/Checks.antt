-- What a check of a FIT image finds.
use Rattle.std.specs.Prelude.{⊤, ℕ, ◌+◌, ◌-◌, ◌≤◌, List, [], ◌∷◌, length, not, nat_lt, Bool, false}
use Rattle.std.specs.Prelude.{if◌then◌else◌, Option, Some, None, Result, Ok, Err}
use Rattle.std.specs.List.{sum_by}
use Rattle.uimg_sums.specs.declared.algo.Algo.{Algo}
use Rattle.uimg_texts.specs.Slices.{slice}
use Rattle.uimg_texts.specs.declared.naming.Naming.TheVariants as naming
use Rattle.uimg_base.specs.Results.{◌>>=◌}
use Rattle.uimg_base.specs.declared.spans.Span.{Span}
use Rattle.uimg_blob_reading.specs.LookUps.{NodeOf, hashes}
use Rattle.uimg_blob_reading.specs.Spots.{Spot}
use Rattle.uimg_fit_base.specs.declared.fault.Fault.{Fault}
use Rattle.uimg_fit_base.specs.declared.fault.Fault.TheVariants as of
use Rattle.uimg_fit_base.specs.declared.fault.FitFault.{FitFault}
use Rattle.uimg_fit_base.specs.Files.{images_of}
use Rattle.uimg_fit_base.specs.Places.{payload}
use Rattle.uimg_fit_base.specs.Report.{named_word, is_right}
use Rattle.uimg_fit_checking.specs.declared.checking.Finding.{Finding}
use Rattle.uimg_fit_checking.specs.declared.checking.Finding.TheVariants.{Right, Unhashed, Wrong}
use Rattle.uimg_fit_checking.specs.declared.checking.Finding.TheVariants.{Weak, Overlapping}
use Rattle.uimg_fit_checking.specs.declared.checking.Finding.TheVariants.{NoImage}
use Rattle.uimg_fit_checking.specs.Vouching.{is_vouched}
use Rattle.uimg_fit_reading.specs.Work.{own_meta, hashed_size}
use Rattle.uimg_texts.specs.declared.naming.Naming.{TheVariants.{Profile}}

-- the most bytes that a check requests: of all payloads together at most the file's length
abbrev pub check_work : List ℕ → ℕ
check_work file = own_meta Profile file + length file

-- a finding with the names of nodes
abbrev pub NamedFinding : Type 0
NamedFinding = Finding (List ℕ)

-- a finding with the names at its spans
abbrev pub named_finding : List ℕ → Finding Span → NamedFinding
named_finding file (Right images nodes) = Right images nodes
named_finding file (Unhashed image) = Unhashed (slice file image.place image.length)
named_finding file (Wrong image hash word) =
    Wrong (slice file image.place image.length) (slice file hash.place hash.length) word
named_finding file (Weak image) = Weak (slice file image.place image.length)
named_finding file (Overlapping image) = Overlapping (slice file image.place image.length)
named_finding file NoImage = NoImage

-- each span of a finding ends within a file of this size
abbrev pub EndsInside : ℕ → Finding Span → Type 0
EndsInside size (Right images nodes) = ⊤
EndsInside size (Unhashed image) = image.place + image.length ≤ size
EndsInside size (Wrong image hash word) =
    (image.place + image.length ≤ size) × (hash.place + hash.length ≤ size)
EndsInside size (Weak image) = image.place + image.length ≤ size
EndsInside size (Overlapping image) = image.place + image.length ≤ size
EndsInside size NoImage = ⊤

-- the first of these hash nodes of an image that is not right
unfoldable pub wrong_in : List ℕ → List ℕ → List (NodeOf Spot) → Option NamedFinding
wrong_in image message [] = None
wrong_in image message (h ∷ hs) =
    if is_right (named_word naming.All message h) then wrong_in image message hs else Some
    (Wrong image h.name (named_word naming.All message h))

-- whether no hash node of an image is compared by an algorithm at least as strong as needed
abbrev pub is_weak : Option Algo → NodeOf Spot → Bool
is_weak None image = false
is_weak (Some need) image = not (is_vouched need image)

-- a finding, or else that the image is weak
abbrev pub or_weak : Option NamedFinding → Option Algo → NodeOf Spot → Option NamedFinding
or_weak (Some told) need image = Some told
or_weak None need image = if is_weak need image then Some (Weak image.name) else None

-- the finding about an image with a payload, if `left` bytes may still be read: the payload is
-- longer, or else a hash node is not right, or else the image is weak
abbrev pub found_of : Option Algo → ℕ → NodeOf Spot → List ℕ → Option NamedFinding
found_of need left image message =
    if nat_lt left (hashed_size naming.All image (Ok message)) then Some (Overlapping image.name)
    else or_weak (wrong_in image.name message (hashes image)) need image

-- the same, or the fault of the payload
abbrev pub image_finding : Option Algo → ℕ → NodeOf Spot → Result (List ℕ) FitFault
    → Result (Option NamedFinding) Fault
image_finding need left image (Ok message) = Ok (found_of need left image message)
image_finding need left image (Err fault) = Err (of.Fit fault)

-- the finding about an image, or else that about the others
abbrev pub or_later : Result (Option NamedFinding) Fault → Result (Option NamedFinding) Fault
    → Result (Option NamedFinding) Fault
or_later (Ok None) later = later
or_later (Ok (Some told)) later = Ok (Some told)
or_later (Err fault) later = Err fault

-- The first finding about images, or the first fault. A payload that is read leaves fewer bytes.
unfoldable pub first_told : Option Algo → List ℕ → ℕ → List (NodeOf Spot)
    → Result (Option NamedFinding) Fault
first_told need file left [] = Ok None
first_told need file left (image ∷ more) =
    or_later (image_finding need left image (payload file image))
    (first_told need file (left - hashed_size naming.All image (payload file image)) more)

-- how many hash nodes these images have
abbrev pub hash_count : List (NodeOf Spot) → ℕ
hash_count found = sum_by (λ image. length (hashes image)) found

-- the name of the first image without a hash node
abbrev pub name_or : List ℕ → List (NodeOf Spot) → Option (List ℕ) → Option (List ℕ)
name_or name [] later = Some name
name_or name (h ∷ hs) later = later

unfoldable pub unhashed_in : List (NodeOf Spot) → Option (List ℕ)
unhashed_in [] = None
unhashed_in (image ∷ more) = name_or image.name (hashes image) (unhashed_in more)

-- the same if no strength is needed; otherwise such an image is weak
abbrev pub unhashed_of : Option Algo → List (NodeOf Spot) → Option (List ℕ)
unhashed_of None found = unhashed_in found
unhashed_of (Some need) found = None

-- the finding about images whose hash nodes are all right
abbrev pub right_or : Option (List ℕ) → List (NodeOf Spot) → NamedFinding
right_or (Some name) found = Unhashed name
right_or None found = Right (length found) (hash_count found)

abbrev pub all_right : Option Algo → List (NodeOf Spot) → NamedFinding
all_right need found = right_or (unhashed_of need found) found

-- the first finding, or else that all are right
abbrev pub or_right : Option Algo → List (NodeOf Spot) → Option NamedFinding → NamedFinding
or_right need found (Some told) = told
or_right need found None = all_right need found

-- the finding about images; of their payloads as many bytes may be read as the file has
abbrev pub images_finding : Option Algo → List ℕ → List (NodeOf Spot) → Result NamedFinding Fault
images_finding need file found = do
  first ← first_told need file (length file) found
  Ok (or_right need found first)

-- a needed strength requires an image
abbrev pub some_told : Option Algo → List ℕ → List (NodeOf Spot) → Result NamedFinding Fault
some_told None file found = images_finding None file found
some_told (Some need) file [] = Ok NoImage
some_told (Some need) file (image ∷ more) = images_finding (Some need) file (image ∷ more)

-- the finding about a file, or its first fault
abbrev pub check_of : Option Algo → List ℕ → Result NamedFinding Fault
check_of need file = do
  found ← images_of file
  some_told need file found
