-- The payloads that a folder was given, and how their files are named.
use Rattle.std.specs.Prelude.{◌≡◌, ◌⊎◌, ℕ, List, [], ◌∷◌, ◌++◌, length, Bool, true, false, if◌then◌else◌, Option, Some, None}
use Rattle.uimg_fit_checking.specs.Unpacking.{Take, kept, refused}
use Rattle.uimg_fit_checking.specs.declared.checking.Finding.TheVariants as finding
use Rattle.uimg_unpacking.specs.FileNames.{file_name}
use Rattle.uimg_unpacking.specs.Filling.{names_of_kept, kept_bytes}
use Rattle.uimg_unpacking.specs.Refusals.{last_name}
use Rattle.uimg_unpacking.specs.Staged.{complete_names}
use Rattle.uimg_unpacking.specs.declared.staged_file.StagedFile.{StagedFile}

-- What a list of takes shows of one: the name of its image, and whether it is kept, with its bytes then.
abbrev pub shown : Take → Take
shown (kept image bytes vouched) = kept image bytes None
shown (refused image told) = refused image (finding.Weak [])

abbrev pub seen_of : Take → List Take
seen_of one = shown one ∷ []

-- a payload of which only the name of its image was noted, and a mark that is empty if it is refused
abbrev pub noted_take : List ℕ → List ℕ → Take
noted_take [] image = refused image (finding.Weak [])
noted_take (byte ∷ mark) image = kept image [] None

-- the payloads of which these were noted, the newest first
abbrev pub noted_takes : List (List ℕ) → List Take
noted_takes [] = []
noted_takes (mark ∷ []) = []
noted_takes (mark ∷ image ∷ noted) = noted_takes noted ++ noted_take mark image ∷ []

-- A kept payload as its file shows it. One whose bytes are not known is none that was given.
abbrev pub as_take : List ℕ → Option (List ℕ) → Take
as_take image (Some bytes) = kept image bytes None
as_take image None = refused image (finding.Weak (0 ∷ []))

-- payloads with what the files of the kept ones hold
abbrev pub with_contents : List Take → List (Option (List ℕ)) → List Take
with_contents [] contents = []
with_contents (kept image bytes vouched ∷ takes) [] = with_contents takes []
with_contents (kept image bytes vouched ∷ takes) (one ∷ contents) = as_take image one ∷ with_contents takes contents
with_contents (refused image told ∷ takes) contents = refused image told ∷ with_contents takes contents

abbrev pub takes_given : List (List ℕ) → List (Option (List ℕ)) → List Take
takes_given noted contents = with_contents (noted_takes noted) contents

-- One more is given. After a failure it may be.
abbrev pub MayGive : Bool → Take → (old new : List Take) → Type 0
MayGive true one old new = new ≡ old ++ one ∷ []
MayGive false one old new = (new ≡ old) ⊎ (new ≡ old ++ one ∷ [])

-- the name that was noted last
abbrev pub newest : List (List ℕ) → List ℕ
newest [] = []
newest (name ∷ names) = name

abbrev pub image_of : Take → List ℕ
image_of (kept image bytes vouched) = image
image_of (refused image told) = image

-- the names of files with those of some payloads more, the newest first
abbrev pub names_after : List (List ℕ) → List Take → List (List ℕ)
names_after names [] = names
names_after names (one ∷ takes) = names_after (file_name names (image_of one) ∷ names) takes

-- After some payloads, these names are given. The complete files have those of the kept payloads, and the file that is
-- being written has that of the next one, of this image.
pub record AreNamed (files : List StagedFile) (is_writing : Bool) (takes : List Take) (names : List (List ℕ)) (image : List ℕ) : Type 0 where
  pub whole : complete_names files is_writing ≡ names_of_kept [] takes
  pub given : names
      ≡ (if is_writing then file_name (names_after [] takes) image ∷ names_after [] takes else names_after [] takes)
  pub next : is_writing ≡ true → last_name files ≡ file_name (names_after [] takes) image

-- there is a complete file for each kept payload
abbrev pub AreWhole : List StagedFile → Bool → List Take → Type 0
AreWhole files is_writing takes = length (complete_names files is_writing) ≡ length (kept_bytes takes)
