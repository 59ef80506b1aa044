-- What becomes of the unpacked payloads of a FIT image.
use Rattle.std.specs.Prelude.{◌≡◌, ⊤, ℕ, ◌+◌, ◌-◌, List, [], ◌∷◌, ◌++◌, length, take, nat_lt, Bool}
use Rattle.std.specs.Prelude.{true, false, if◌then◌else◌, Option, Some, None, Result, Ok, Err}
use Rattle.std.specs.Prelude.{IfSome, ◌||◌, ◌⊎◌, flat_map, map}
use Rattle.std.specs.List.{last_or, list_all, list_any}
use Rattle.std.specs.Option.{option_map}
use Rattle.std.specs.Str.{bytes_eq}
use Rattle.uimg_sums.specs.declared.algo.Algo.{Algo}
use Rattle.uimg_sums.specs.Algorithms.{digest_by}
use Rattle.uimg_sums.specs.AnySum.{padded_digest}
use Rattle.uimg_texts.specs.declared.naming.Naming.TheVariants as naming
use Rattle.uimg_base.specs.Results.{◌>>=◌}
use Rattle.uimg_blob_reading.specs.LookUps.{NodeOf, hashes}
use Rattle.uimg_blob_reading.specs.Spots.{Spot}
use Rattle.uimg_fit_base.specs.declared.algo_sets.AlgoSet.{AlgoSet}
use Rattle.uimg_fit_base.specs.declared.fault.Fault.{Fault}
use Rattle.uimg_fit_base.specs.declared.fault.Fault.TheVariants as of
use Rattle.uimg_fit_base.specs.declared.fault.FitFault.{FitFault}
use Rattle.uimg_fit_base.specs.AlgoSets.{no_algos, chosen}
use Rattle.uimg_fit_base.specs.Files.{images_of}
use Rattle.uimg_fit_base.specs.Places.{payload}
use Rattle.uimg_fit_checking.specs.declared.unpacking.node_names.NodeName.{NodeName}
use Rattle.uimg_fit_checking.specs.declared.unpacking.taker.Vouched.{Vouched}
use Rattle.uimg_fit_checking.specs.declared.unpacking.taker.Refusal.{Refusal}
use Rattle.uimg_fit_checking.specs.declared.unpacking.taker.Refusal.TheVariants.{Wrong, Weak}
use Rattle.uimg_fit_checking.specs.declared.unpacking.wanted.Wanted.{Wanted}
use Rattle.uimg_fit_checking.specs.declared.unpacking.wanted.Wanted.TheVariants.{All, Named, Among}
use Rattle.uimg_fit_checking.specs.declared.unpacking.Unpacked.{Unpacked}
use Rattle.uimg_fit_checking.specs.declared.unpacking.Unpacked.TheVariants.{Taken, Overlapping}
use Rattle.uimg_blob_reading.specs.Faults.{refuses_memory}
use Rattle.uimg_fit_reading.specs.Work.{own_meta}
use Rattle.uimg_fit_checking.specs.Checks.{NamedFinding, wrong_in, or_weak}
use Rattle.uimg_fit_checking.specs.declared.checking.Finding.TheVariants as fit_finding
use Rattle.uimg_fit_reading.specs.Plans.{with_all}
use Rattle.uimg_texts.specs.declared.naming.Naming.{TheVariants.{Profile}}

-- the bytes of a name
abbrev pub as_bytes : NodeName → List ℕ
as_bytes name = take name.length name.bytes

-- What becomes of the payload of an image: it is kept, with what vouches for it, or refused.
pub data Take : Type 0 where
  kept : List ℕ → List ℕ → Option Vouched → Take
  refused : List ℕ → NamedFinding → Take

-- why an image is refused, with its name
abbrev pub told_of : List ℕ → Refusal → NamedFinding
told_of name (Wrong hash word) = fit_finding.Wrong name (as_bytes hash) word
told_of name Weak = fit_finding.Weak name

-- One more was given, and the list has what it shows of that, at a failure perhaps.
abbrev pub AddsIf : {E : Type 0} → (Take → List Take) → Result ⊤ E → List Take → List Take → Take
    → Type 0
AddsIf seen (Ok done) old new one = new ≡ old ++ seen one
AddsIf seen (Err fault) old new one = (new ≡ old) ⊎ (new ≡ old ++ seen one)

-- The digest that vouches for some bytes is theirs.
abbrev pub IsVouched : List ℕ → Option Vouched → Type 0
IsVouched bytes vouched =
    IfSome vouched (λ v. v.digest ≡ (padded_digest (digest_by v.algo bytes)).0)

-- the strongest algorithm of a set
unfoldable pub strongest : AlgoSet → Option Algo
strongest set = last_or None (chosen set)

-- what vouches for bytes that are compared by the algorithms of a set
abbrev pub vouched_by : AlgoSet → List ℕ → Option Vouched
vouched_by set bytes =
    option_map (λ algo. record {
      algo = algo;
      digest = (padded_digest (digest_by algo bytes)).0;
    }) (strongest set)

-- a payload is kept if there is no finding, else refused
abbrev pub take_by : NodeOf Spot → List ℕ → Option NamedFinding → Take
take_by image message None =
    kept image.name message (vouched_by (with_all naming.All no_algos (hashes image)) message)
take_by image message (Some told) = refused image.name told

-- A payload is kept if each hash node of its image is right and its image is not weak.
abbrev pub take_of : Option Algo → NodeOf Spot → List ℕ → Take
take_of need image message =
    take_by image message (or_weak (wrong_in image.name message (hashes image)) need image)

-- Which images are requested: all, those of one name, or those whose names are among some.
pub data Which : Type 0 where
  every : Which
  called : List ℕ → Which
  among : List (List ℕ) → Which

abbrev pub which : Wanted → Which
which All = every
which (Named name) = called (as_bytes name)
which (Among names) = among (map (λ name. name.items) names.now.keys)

-- whether the image of a name is requested
abbrev pub is_asked : Which → List ℕ → Bool
is_asked every name = true
is_asked (called asked) name = bytes_eq asked name
is_asked (among asked) name = list_any (bytes_eq name) asked

-- the bytes of a payload, none if it is refused: then nothing of the file is taken
abbrev pub bytes_or_none : Result (List ℕ) FitFault → List ℕ
bytes_or_none (Ok message) = message
bytes_or_none (Err fault) = []

-- what becomes of the payloads of the requested images
unfoldable pub takes : Option Algo → Which → List ℕ → List (NodeOf Spot) → List Take
takes need only file [] = []
takes need only file (image ∷ more) =
    if is_asked only image.name then take_of need image (bytes_or_none (payload file image))
    ∷ takes need only file more
    else takes need only file more

-- whether a payload fits the bytes that may still be read, and then the other ones
abbrev pub fits_before : List ℕ → ℕ → Result (List ℕ) FitFault
    → (ℕ → Result (Option (List ℕ)) FitFault) → Result (Option (List ℕ)) FitFault
fits_before name left (Ok message) later =
    if nat_lt left (length message) then Ok (Some name) else later (left - length message)
fits_before name left (Err fault) later = Err fault

-- The name of the first requested image with which the payloads exceed the bytes that may be read,
-- if there is one, or the fault of a payload before it.
unfoldable pub overlapping : Which → List ℕ → ℕ → List (NodeOf Spot)
    → Result (Option (List ℕ)) FitFault
overlapping only file left [] = Ok None
overlapping only file left (image ∷ more) =
    if is_asked only image.name then fits_before image.name left (payload file image)
    (λ rest. overlapping only file rest more)
    else overlapping only file left more

-- The outcome of unpacking a file: payloads overlap, or what becomes of each.
pub data UnpackOutcome : Type 0 where
  overlaps : List ℕ → UnpackOutcome
  taken : List Take → UnpackOutcome

abbrev pub outcome : Option (List ℕ) → List Take → UnpackOutcome
outcome (Some name) ts = overlaps name
outcome None ts = taken ts

abbrev pub told_or_fault : Result (Option (List ℕ)) FitFault → List Take
    → Result UnpackOutcome Fault
told_or_fault (Ok found) ts = Ok (outcome found ts)
told_or_fault (Err fault) ts = Err (of.Fit fault)

-- the same for its images; as many bytes may be read as the file has
abbrev pub images_unpacked : Option Algo → Which → List ℕ → List (NodeOf Spot)
    → Result UnpackOutcome Fault
images_unpacked need only file found =
    told_or_fault (overlapping only file (length file) found) (takes need only file found)

-- the outcome for a file, or its first fault
abbrev pub unpack_of : Option Algo → Which → List ℕ → Result UnpackOutcome Fault
unpack_of need only file = do
  found ← images_of file
  images_unpacked need only file found

-- whether a payload is kept
abbrev pub is_kept : Take → Bool
is_kept (kept name bytes vouched) = true
is_kept (refused name told) = false

-- The first of these were given, to a taker whose list shows this of each.
pub record GivenFirst (seen : Take → List Take) (old new ts : List Take) : Type 0 where
  pub count : ℕ
  pub given : new ≡ old ++ flat_map seen (take count ts)

-- What was given before a device failed: the first of the outcome; nothing if the file is refused.
abbrev pub StopsIn : (Take → List Take) → Result UnpackOutcome Fault → List Take → List Take
    → Type 0
StopsIn seen (Ok (taken ts)) old new = GivenFirst seen old new ts
StopsIn seen (Ok (overlaps name)) old new = new ≡ old
StopsIn seen (Err fault) old new = new ≡ old

-- What a result says of a file and of what was given. A refusal comes before anything is given.
abbrev pub Unpacks : (Take → List Take) → Result Unpacked Fault → Result UnpackOutcome Fault
    → List Take → List Take → Type 0
Unpacks seen (Ok (Taken all)) (Ok (taken ts)) old new =
    (new ≡ old ++ flat_map seen ts) × (all ≡ list_all is_kept ts)
Unpacks seen (Ok (Overlapping name)) (Ok (overlaps its)) old new =
    (as_bytes name ≡ its) × (new ≡ old)
Unpacks seen (Ok found) told old new = ⊥
Unpacks seen (Err (of.Blob fault at)) told old new =
    (refuses_memory fault ≡ false → told ≡ Err (of.Blob fault at)) × (new ≡ old)
Unpacks seen (Err (of.Fit fault)) told old new = (told ≡ Err (of.Fit fault)) × (new ≡ old)
Unpacks seen (Err of.Read) told old new = StopsIn seen told old new
Unpacks seen (Err of.Put) told old new = StopsIn seen told old new

-- whether any payload is taken
abbrev pub is_any : List Take → Bool
is_any [] = false
is_any (one ∷ more) = true

-- What a result says of a file and of whether a payload was begun, before and after, whatever the
-- taker does with what it is given: it is the outcome of the definition, unless memory was refused
-- or a device failed. A refusal comes before anything is begun.
abbrev pub EndsAs : Result Unpacked Fault → Result UnpackOutcome Fault → Bool → Bool → Type 0
EndsAs (Ok (Taken all)) (Ok (taken ts)) old new =
    (all ≡ list_all is_kept ts) × (new ≡ (is_any ts || old))
EndsAs (Ok (Overlapping name)) (Ok (overlaps its)) old new = (as_bytes name ≡ its) × (new ≡ old)
EndsAs (Ok found) told old new = ⊥
EndsAs (Err (of.Blob fault at)) told old new =
    (refuses_memory fault ≡ false → told ≡ Err (of.Blob fault at)) × (new ≡ old)
EndsAs (Err (of.Fit fault)) told old new = (told ≡ Err (of.Fit fault)) × (new ≡ old)
EndsAs (Err of.Read) told old new = ⊤
EndsAs (Err of.Put) told old new = ⊤

-- What was given in a call: the result says whether each payload of it is kept.
pub record GivesBy (seen : Take → List Take) (all : Bool) (old new : List Take) : Type 0 where
  pub given : List Take
  pub is : new ≡ old ++ flat_map seen given
  pub kept : all ≡ list_all is_kept given

-- What a result says of what was given, whatever the source returned.
abbrev pub Gives : (Take → List Take) → Unpacked → List Take → List Take → Type 0
Gives seen (Taken all) old new = GivesBy seen all old new
Gives seen (Overlapping name) old new = new ≡ old

-- the most bytes requested: all taken payloads have at most the file's length together
abbrev pub unpack_work : List ℕ → ℕ
unpack_work file = own_meta Profile file + length file
