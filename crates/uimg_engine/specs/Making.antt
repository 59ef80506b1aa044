-- The result of a build.
use Rattle.std.specs.Prelude.{◌≡◌, ℕ, ⊤, ◌<◌, List, length, map, take, Result, Ok, Err, Option, Vec}
use Rattle.std.specs.Prelude.{Some, IsSome, IsTrue, IfErr, All, false, slice_index_or, [], None}
use Rattle.uimg_base.specs.{Device.{Device, RisesIf}, Lent.Lent, Named.{FileMap, SameFiles}}
use Rattle.uimg_base.specs.{Sink.{Sink, AppendsAll, AppendsPrefix}, Outcome.done}
use Rattle.uimg_legacy.specs.declared.{fault.LegacyFault.LegacyFault, options.Options.Options}
use Rattle.uimg_legacy.specs.{Parts.has_parts, Listing.list_of, Devices.{bytes_of, AreHonest}}
use Rattle.uimg_legacy.specs.Building.{data_of, data_to_build, legacy_built, build_of}
use Rattle.uimg_legacy.specs.ReadsBack.{ReadsBack}
use Rattle.uimg_texts.specs.declared.naming.Naming.{Naming}
use Rattle.uimg_engine.specs.declared.fault.Fault.{Fault, TheVariants.{NoFile, Keep, OutOfMemory}}
use Rattle.uimg_engine.specs.declared.fault.Fault.TheVariants.{Legacy, Blob, Fit, Its, Read, Put}
use Rattle.uimg_engine.specs.Faults.{is_no_file, is_put, is_keep, is_before_building}

-- the options at the time of the making
abbrev pub timed : Options → ℕ → Options
timed options time = record options { time = time }

-- the bytes of each text
abbrev pub texts : {Z : Type 0} → List (Vec ℕ Z) → List (List ℕ)
texts names = map (λ name. name.items) names

-- the names have these parts, in order
abbrev pub HaveParts : (List ℕ → Option (List ℕ)) → List (List ℕ) → List (List ℕ) → Type 0
HaveParts files names parts = map files names ≡ map Some parts

-- A name of number i exists, and the names before it have bytes.
pub record Misses (files : List ℕ → Option (List ℕ)) (names : List (List ℕ)) (i : ℕ) : Type 0 where
  pub within : i < length names
  pub before : All (λ name. IsSome (files name)) (take i names)

-- The parts of the names are refused.
pub record RefusesParts (options : Options) (files : List ℕ → Option (List ℕ))
    (names : List (List ℕ))
    (fault : LegacyFault) : Type 0 where
  pub parts : List (List ℕ)
  pub have : HaveParts files names parts
  pub refused : data_to_build options.kind parts ≡ Err fault

-- The names have parts that an image can be built from.
pub record AcceptsParts (options : Options) (files : List ℕ → Option (List ℕ))
    (names : List (List ℕ)) : Type 0 where
  pub parts : List (List ℕ)
  pub have : HaveParts files names parts
  pub accepted : data_to_build options.kind parts ≡ Ok (data_of (has_parts options.kind) parts)

-- The image of parts was appended, and reads back.
pub record BuildsImage (options : Options) (parts : List (List ℕ)) (s t : Sink) : Type 0 where
  pub accepted : data_to_build options.kind parts ≡ Ok (data_of (has_parts options.kind) parts)
  pub written : AppendsAll s t (legacy_built options parts)
  pub reads_back : ReadsBack (legacy_built options parts) parts

-- The image of parts is kept, and reads back.
pub record KeepsImage (options : Options) (parts : List (List ℕ)) (kept : Device) : Type 0 where
  pub accepted : data_to_build options.kind parts ≡ Ok (data_of (has_parts options.kind) parts)
  pub bytes : kept.bytes ≡ legacy_built options parts
  pub honest : IsTrue kept.honest
  pub reads_back : ReadsBack (legacy_built options parts) parts

-- The image of the names' parts is kept, and reads back.
pub record KeepsBuilt (options : Options) (files : List ℕ → Option (List ℕ)) (names : List (List ℕ))
    (kept : Device) : Type 0 where
  pub parts : List (List ℕ)
  pub have : HaveParts files names parts
  pub image : KeepsImage options parts kept

-- The image of the names' parts is kept, and its whole listing was appended, with no fault.
pub record MakesParts (naming : Naming) (options : Options) (files : List ℕ → Option (List ℕ))
    (names : List (List ℕ)) (kept : Device) (s t : Sink) : Type 0 where
  -- the source that is kept is honest, and has the bytes of `legacy_built`
  pub keeps : KeepsBuilt options files names kept
  -- exactly its listing was appended
  pub listed : AppendsAll s t (list_of naming (legacy_built options keeps.parts)).text
  pub done : (list_of naming (legacy_built options keeps.parts)).end ≡ done

-- A prefix of the listing of the image of the names' parts was appended.
pub record Breaks (naming : Naming) (options : Options) (files : List ℕ → Option (List ℕ))
    (names : List (List ℕ)) (s t : Sink) : Type 0 where
  pub parts : List (List ℕ)
  pub have : HaveParts files names parts
  pub prefix : AppendsPrefix s t (list_of naming (legacy_built options parts)).text

-- why not all files of the names were opened
abbrev pub StopsOpening : (List ℕ → Option (List ℕ)) → List (List ℕ) → Fault → Type 0
StopsOpening files names (NoFile i) = Misses files names i
StopsOpening files names OutOfMemory = ⊤
StopsOpening files names _ = ⊥

-- The result is the opened files, honest sources of the names' bytes, or why not all were opened.
abbrev pub OpensAnswer : {V : Type 0} → (V → List Device) → (List ℕ → Option (List ℕ))
    → List (List ℕ) → Result V Fault → Type 0
OpensAnswer devices files names (Ok opened) =
    HaveParts files names (bytes_of (devices opened)) × AreHonest (devices opened)
OpensAnswer devices files names (Err fault) = StopsOpening files names fault

-- What the result of building says of the parts and of what was appended: the image, or why not;
-- after a failed read or write, a prefix of it.
abbrev pub BuildsParts : {X : Type 0} → Options → List (List ℕ) → Result X Fault → Sink → Sink
    → Type 0
BuildsParts options parts (Ok x) s t = BuildsImage options parts s t
BuildsParts options parts (Err (Legacy fault)) s t = data_to_build options.kind parts ≡ Err fault
BuildsParts options parts (Err Read) s t = AppendsPrefix s t (build_of options parts).text
BuildsParts options parts (Err Put) s t =
    (data_to_build options.kind parts ≡ Ok (data_of (has_parts options.kind) parts))
    × AppendsPrefix s t (build_of options parts).text
BuildsParts options parts (Err _) s t = ⊥

-- The names have parts, and the result of building says this of them.
pub record BuildsThese {X : Type 0} (options : Options) (files : List ℕ → Option (List ℕ))
    (names : List (List ℕ)) (result : Result X Fault) (s t : Sink) : Type 0 where
  pub parts : List (List ℕ)
  pub have : HaveParts files names parts
  pub builds : BuildsParts options parts result s t

-- What the result of building says of the files of the names, and of what was appended.
abbrev pub BuildsNames : {X : Type 0} → Options → (List ℕ → Option (List ℕ)) → List (List ℕ)
    → Result X Fault → Sink → Sink → Type 0
BuildsNames options files names (Err (NoFile i)) s t = Misses files names i
BuildsNames options files names (Err OutOfMemory) s t = ⊤
BuildsNames options files names result s t = BuildsThese options files names result s t

-- what a fault of making a legacy image says of its files and of what was appended
abbrev pub StopsMaking : Naming → Options → (List ℕ → Option (List ℕ)) → List (List ℕ) → Fault
    → Sink → Sink → Type 0
StopsMaking naming options files names (Legacy fault) s t =
    RefusesParts options files names fault × (t ≡ s)
StopsMaking naming options files names (Blob fault at) s t = ⊥
StopsMaking naming options files names (Fit fault) s t = ⊥
StopsMaking naming options files names (Its fault) s t = ⊥
StopsMaking naming options files names Read s t = Breaks naming options files names s t
StopsMaking naming options files names Put s t =
    AcceptsParts options files names × Breaks naming options files names s t
StopsMaking naming options files names (NoFile i) s t = Misses files names i × (t ≡ s)
StopsMaking naming options files names Keep s t = AcceptsParts options files names × (t ≡ s)
StopsMaking naming options files names OutOfMemory s t = t ≡ s

-- The result is the kept image, with its listing appended, or a fault of making it.
abbrev pub MakesAnswer : {K : Type 0} → (K → Device) → Naming → Options → (List ℕ → Option (List ℕ))
    → List (List ℕ) → Result K Fault → Sink → Sink → Type 0
MakesAnswer device naming options files names (Ok kept) s t =
    MakesParts naming options files names (device kept) s t
MakesAnswer device naming options files names (Err fault) s t =
    StopsMaking naming options files names fault s t

-- at `NoFile` the name has no bytes; of other faults nothing is claimed
abbrev pub Lacks : (List ℕ → Option (List ℕ)) → List (List ℕ) → Fault → Type 0
Lacks files names (NoFile i) = files (slice_index_or names i []) ≡ None
Lacks files names _ = ⊤

-- The files are unchanged. A refusal was counted exactly if a file could not be opened. Complete
-- files refuse only a name without bytes.
pub record OpensNames {X : Type 0} (names : List (List ℕ)) (result : Result X Fault)
    (old new : FileMap) : Type 0 where
  pub same : SameFiles old new
  -- `NoFile` is returned exactly if the refusals rose
  pub refusals : RisesIf (is_no_file result) old.refusals new.refusals
  -- `NoFile` only for a name without bytes
  pub missing : IsTrue old.complete → IfErr result (Lacks old.bytes names)

-- What the building of an image does to its output: a fault that comes before the first byte left
-- it unchanged, and a failed write was counted exactly if one is returned. Nothing is kept yet.
pub record WritesImageBetween {X : Type 0} (result : Result X Fault) (old new : Sink) : Type 0 where
  -- a refusal of files, parts, source, tree or memory, but not F9, wrote nothing
  pub untouched : IsTrue (is_before_building result) → new ≡ old
  -- `Put` is returned exactly if the faults of the output rose
  pub faults : RisesIf (is_put result) old.faults new.faults
  -- `Keep` is never returned
  pub never_keep : is_keep result ≡ false

abbrev pub WritesImage : {X : Type 0} → Result X Fault → Lent Sink → Type 0
WritesImage result image = WritesImageBetween result image.entry.now image.exit.now

-- The bytes of the shelf are just those of what it kept, which is honest.
abbrev pub KeepsBytes : {K : Type 0} → (K → Device) → Option (List ℕ) → K → Type 0
KeepsBytes device contents kept =
    (contents ≡ Some (device kept).bytes) × IsTrue (device kept).honest
