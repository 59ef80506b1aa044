-- What an unpacking that ends well says of its image.
use Rattle.std.specs.Prelude.{◌≡◌, ◌⊎◌, ⊤, ℕ, List, ◌∷◌, Option, Some, None, Ok, Bool, true, false, Vec, if◌then◌else◌}
use Rattle.std.specs.{Borrow.Bor, BTreeSet.BTreeSet, Global.Global, Option.option_copied}
use Rattle.uimg_base.specs.Named.{FileMap}
use Rattle.uimg_cli.specs.declared.command_line.unpack.UnpackRequest.{UnpackRequest}
use Rattle.uimg_engine.specs.Headline.{is_fit}
use Rattle.uimg_checks.specs.declared.answer.Answer.{Answer, TheVariants.{Found}}
use Rattle.uimg_checks.specs.declared.answer.Configurations.TheVariants.{Signed}
use Rattle.uimg_checks.specs.declared.judging.Terms.{Terms}
use Rattle.uimg_checks.specs.{Choices.{ShowsUnchosen, chosen_of}, ReferenceNames.HasNames}
use Rattle.uimg_requests.specs.declared.command.Form.TheVariants as form
use Rattle.uimg_verifying.specs.{Configurations.unsigned_of, Covering.uncovered_of, declared.required.Required.Required}
use Rattle.uimg_unpacking.specs.{Ends.{asked_which, end_of_file}, Filling.{FillsIf, takes_of}, PartEnds.KeepsRight, PartFilling.FillsParts, Places.{Obeys, terms_of}}
use Rattle.uimg_world.specs.Deeds.{Deed, Identifies, Opens, changes}
use Rattle.uimg_world.specs.declared.file_id.FileId.{FileId}
use Rattle.uimg_unpacking.specs.declared.unpacking.Ended.TheVariants.{Kept}
use Rattle.uimg_unpacking.specs.declared.unpacking.Unpacking.{Unpacking}

-- By the definition, all that is asked for is right: the payloads of a FIT image, or the data and some
-- parts of a legacy image.
abbrev pub IsRightIn : Bool → Unpacking → List ℕ → Type 0
IsRightIn true asked file = end_of_file asked file ≡ Kept
IsRightIn false asked file = KeepsRight asked file Kept

abbrev pub IsRight : Unpacking → List ℕ → Type 0
IsRight asked file = IsRightIn (is_fit form.Guess file) asked file

-- By the calls that were made, the files of the kept payloads of a FIT image hold these, and those of the names of a
-- legacy image's requested parts hold these.
abbrev pub HoldsIn : Bool → Unpacking → List ℕ → List Deed → Type 0
HoldsIn true asked file calls = FillsIf asked.folder.path.now (takes_of asked (asked_which asked) file) calls
HoldsIn false asked file calls = FillsParts asked file calls

abbrev pub HoldsPayloads : Unpacking → List ℕ → List Deed → Type 0
HoldsPayloads asked file = HoldsIn (is_fit form.Guess file) asked file

-- The names of the images of the chosen configuration of a file, as a set, if one is chosen.
abbrev pub IsChosen : Option (Bor (List ℕ)) → List ℕ → Option (BTreeSet (Vec ℕ Global)) → Type 0
IsChosen None file chosen = chosen ≡ None
IsChosen (Some config) file None = ⊥
IsChosen (Some config) file (Some names) =
    (list : List (List ℕ)) × (chosen_of config.now file ≡ Ok list) × HasNames names list

-- The answer shows why a file has none, or that the command failed.
abbrev pub IsUnchosen : Option (Bor (List ℕ)) → List ℕ → Answer → Type 0
IsUnchosen None file answer = ⊥
IsUnchosen (Some config) file answer = ShowsUnchosen answer (chosen_of config.now file)

-- what a request asks of the image at a path, which is this file, with the names of the images that are chosen
abbrev pub unpacking_of : UnpackRequest → Option (Bor (BTreeSet (Vec ℕ Global))) → Option FileId → Bor (List ℕ) → Unpacking
unpacking_of asked among image path = record {
  folder = record {
    path = asked.folder;
    image = image;
    is_forced = asked.is_forced;
    is_synced = asked.is_synced;
  };
  only = asked.only;
  among = among;
  need = asked.need;
  limits = record { files = asked.most_files; bytes = asked.most_bytes };
  keeps_good = asked.keeps_good;
  json = if asked.as_json then Some path else None;
}

-- what a check by keys asks, before anything is written
abbrev pub signed_terms : UnpackRequest → Option Required → Terms
signed_terms asked required = record {
  need = asked.need;
  is_strict = true;
  required = required;
  covers_images = true;
  lists = false;
}

-- a check by keys finds each configuration signed
abbrev pub is_signed : Answer → Bool
is_signed (Found found (Some (Signed signed))) = true
is_signed answer = false

-- The keys sign each configuration of a FIT image, and a configuration names each of its images.
pub record IsSignedWhole (keys : Required) (file : List ℕ) : Type 0 where
  pub signed : unsigned_of keys file ≡ Ok None
  pub covered : uncovered_of file ≡ Ok None

-- the same, if there are keys
abbrev pub SignedBy : Option Required → List ℕ → Type 0
SignedBy None file = ⊤
SignedBy (Some keys) file = IsSignedWhole keys file

-- The image at a path was opened, and it was looked for which file it is. Then files were written as requested, all that
-- is asked for is right, and files of the folder hold it. If a configuration is chosen, that are the payloads of its
-- images. The keys sign this file, if there are any.
pub record UnpacksRight (asked : UnpackRequest) (keys : Option Required) (path : Bor (List ℕ)) (file : List ℕ) (before after : List Deed) : Type 0 where
  pub image : Option FileId
  pub among : Option (Bor (BTreeSet (Vec ℕ Global)))
  pub chosen : IsChosen asked.config file (option_copied among)
  pub obeys : Obeys (terms_of (unpacking_of asked among image path).folder) true (Identifies path.now image ∷ Opens path.now true ∷ before) after
  pub right : IsRight (unpacking_of asked among image path) file
  pub holds : HoldsPayloads (unpacking_of asked among image path) file after
  pub signed : SignedBy keys file

abbrev pub RightAt : FileMap → UnpackRequest → Option Required → Option (Bor (List ℕ)) → (before after : List Deed) → Type 0
RightAt files asked keys None before after = ⊤
RightAt files asked keys (Some path) before after =
    (file : List ℕ) × (files.bytes path.now ≡ Some file) × UnpacksRight asked keys path file before after

-- Files are changed only if the keys sign this file.
abbrev pub KeepsBy : Option Required → List ℕ → (before after : List Deed) → Type 0
KeepsBy keys file before after = SignedBy keys file ⊎ (changes after ≡ changes before)

-- the same of the file at a path
abbrev pub KeepsAt : FileMap → Option Required → List ℕ → (before after : List Deed) → Type 0
KeepsAt files keys path before after =
    ((file : List ℕ) × (files.bytes path ≡ Some file) × SignedBy keys file) ⊎ (changes after ≡ changes before)

abbrev pub KeepsImage : FileMap → Option Required → Option (Bor (List ℕ)) → (before after : List Deed) → Type 0
KeepsImage files keys None before after = changes after ≡ changes before
KeepsImage files keys (Some path) before after = KeepsAt files keys path.now before after
