-- The most bytes that a command requests.
use Rattle.std.specs.Prelude.{ℕ, ◌+◌, ◌*◌, List, length, if◌then◌else◌, Result, Ok, Err}
use Rattle.std.specs.List.{sum_by, list_any}
use Rattle.uimg_texts.specs.declared.naming.Naming.{Naming, TheVariants.Profile}
use Rattle.uimg_blob_reading.specs.{LookUps.{NodeOf, hashes}, Spots.Spot}
use Rattle.uimg_blob_reading.specs.Counts.{nodes_met, properties_met, texts_met, nops_met}
use Rattle.uimg_fit_base.specs.{declared.fault.{Fault.Fault, FitFault.FitFault}, Files.images_of}
use Rattle.uimg_fit_base.specs.{Places.payload, Report.{named_word, is_compared}}
use Rattle.uimg_fit_base.specs.Extraction.{extract_of}
use Rattle.uimg_fit_reading.specs.Allowances.{is_text_in}

-- the most bytes requested of a payload: each once, however many hash nodes it has, and none if no
-- hash node is compared
abbrev pub hashed_size : Naming → NodeOf Spot → Result (List ℕ) FitFault → ℕ
hashed_size naming image (Ok message) =
    if list_any (λ h. is_compared (named_word naming message h)) (hashes image)
    then length message else 0
hashed_size naming image (Err fault) = 0

-- the same for all images of a file, by the algorithms of the profile
abbrev pub all_hashed : List ℕ → Result (List (NodeOf Spot)) Fault → ℕ
all_hashed file (Ok found) = sum_by (λ image. hashed_size Profile image (payload file image)) found
all_hashed file (Err fault) = 0

-- the most bytes requested beside payloads: `meta` without the four bytes that the caller may have
-- read to choose the format
abbrev pub own_meta : Naming → List ℕ → ℕ
own_meta names file =
    60 + 1024 * (nodes_met file + properties_met file) + 4 * (texts_met (is_text_in names) file + nops_met file)

-- the most bytes that a listing with a set of names requests
abbrev pub list_work : Naming → List ℕ → ℕ
list_work names file = own_meta names file

-- the most bytes that a report requests: each payload at most once
abbrev pub verify_work : List ℕ → ℕ
verify_work file = own_meta Profile file + all_hashed file (images_of file)

-- the most bytes that an extraction requests: those of a listing, and the payload that is written
abbrev pub extract_work : List ℕ → ℕ → ℕ
extract_work file position = own_meta Profile file + length (extract_of file position).text
