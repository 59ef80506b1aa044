-- The checks of what is below folders.
use Rattle.std.specs.Prelude.{◌≡◌, ◌⊎◌, ◌+◌, ◌-◌, ◌^◌, ◌==◌, ℕ, min, List, [], ◌∷◌, ◌++◌, codes, Option, Some, None, Bool, true, false, not, ◌&&◌, ◌||◌, nat_lt, length, if◌then◌else◌, IsTrue, IfSome}
use Rattle.std.specs.{Io.KnownBytes.Appends, Str.IsUtf8}
use Rattle.uimg_base.specs.Named.{FileMap}
use Rattle.uimg_checks.specs.Answers.{answer_status}
use Rattle.uimg_checks.specs.declared.answer.Answer.{Answer}
use Rattle.uimg_cli.specs.Check.{is_input}
use Rattle.uimg_printing.specs.{Counting.counted, Printing.printed}
use Rattle.uimg_texts.specs.Numbers.{be32}
use Rattle.uimg_tool.specs.{Checks.{Answers, IsAnswered, Told}, FolderPaths.ArePathsIn}
use Rattle.uimg_tool.specs.declared.keys.Keyed.{Keyed}
use Rattle.uimg_world.specs.Deeds.{Deed, Finds, Lists, Looks, Opens}
use Rattle.uimg_world.specs.declared.kind.Kind.{Kind}
use Rattle.uimg_world.specs.declared.kind.Kind.TheVariants as kind
use Rattle.uimg_world.specs.declared.kind.Target.{Target}
use Rattle.uimg_world.specs.declared.kind.Target.TheVariants as target

-- the first four bytes are those of a devicetree blob (Devicetree Specification, section 5.2) or of
-- a legacy header (U-Boot's image.h)
unfoldable pub begins_as_image : List ℕ → Bool
begins_as_image file = if nat_lt (length file) 4 then false
    else be32 file 0 == 0xd00dfeed || be32 file 0 == 0x27051956

-- the same after one more call, and after a file that is no image
abbrev pub asking : Deed → Told → Told
asking deed told = record told { trace = deed ∷ told.trace }

abbrev pub skipping : Told → Told
skipping told = record told { skipped = min (told.skipped + 1) (2 ^ 64 - 1) }

-- If the files are honest, the file at a path, if there is one, begins as an image, or does not.
abbrev pub Begins : FileMap → List ℕ → Bool → Type 0
Begins files path is_image =
    IsTrue files.honest → IfSome (files.bytes path) (λ file. begins_as_image file ≡ is_image)

-- The image at a path is answered. It begins as one, or its answer is that it cannot be read.
abbrev pub AnswersImage : FileMap → Keyed → List ℕ → Told → Told → Type 0
AnswersImage files asked path old new = (answer : Answer)
    × ((answer_status answer ≡ 3) ⊎ Begins files path true) × IsAnswered files asked path answer old new

-- A folder is answered: it cannot be read.
abbrev pub AnswersClosed : FileMap → Keyed → List ℕ → Told → Told → Type 0
AnswersClosed files asked path old new =
    (answer : Answer) × (answer_status answer ≡ 3) × IsAnswered files asked path answer old new

-- What a path leads to: only a file may be an image. All else is skipped.
abbrev pub AnswersTarget : FileMap → Keyed → List ℕ → Target → Told → Told → Type 0
AnswersTarget files asked path target.File old new = AnswersImage files asked path old new
    ⊎ (Begins files path false × (new ≡ skipping (asking (Opens path true) old)))
AnswersTarget files asked path found old new = new ≡ skipping old

-- a file, or what else is neither a folder nor a link
abbrev pub AnswersLeading : FileMap → Keyed → List ℕ → Told → Told → Type 0
AnswersLeading files asked path old new = (found : Target)
    × AnswersTarget files asked path found (asking (Finds path found) old) new

-- A folder stands for the paths in it, if its names are there.
abbrev pub AnswersListed : FileMap → Keyed → List ℕ → Option (List ℕ) → List (List ℕ) → Told → Told → Type 0
AnswersListed files asked path (Some names) within old new = ArePathsIn path names within × (new ≡ old)
AnswersListed files asked path None within old new =
    (within ≡ []) × AnswersClosed files asked path old new

-- what is at a path below a folder; symbolic links are skipped
abbrev pub AnswersAt : FileMap → Keyed → List ℕ → Kind → List (List ℕ) → Told → Told → Type 0
AnswersAt files asked path kind.Nothing within old new =
    (within ≡ []) × Answers files asked path old new
AnswersAt files asked path kind.Link within old new = (within ≡ []) × (new ≡ skipping old)
AnswersAt files asked path kind.File within old new =
    (within ≡ []) × AnswersLeading files asked path old new
AnswersAt files asked path kind.Folder within old new = (names : Option (List ℕ))
    × AnswersListed files asked path names within (asking (Lists path names) old) new

-- A path below a folder, and the paths that it stands for. One that is no text cannot be looked at.
abbrev pub Stands : FileMap → Keyed → List ℕ → List (List ℕ) → Told → Told → Type 0
Stands files asked path within old new =
    ((IsUtf8 path → ⊥) × (within ≡ []) × Answers files asked path old new)
    ⊎ ((found : Kind) × AnswersAt files asked path found within (asking (Looks path found) old) new)

-- Each of some paths, in order; what a folder stands for comes in its place.
pub data AnswersBelow (files : FileMap) (asked : Keyed) : List (List ℕ) → Told → Told → Type 0 where
  all : {paths : List (List ℕ)} {old new : Told} → paths ≡ [] → new ≡ old → AnswersBelow files asked paths old new
  more : {paths : List (List ℕ)} {old new : Told} (path : List ℕ) (within rest : List (List ℕ)) (next : Told) → paths ≡ path ∷ rest → Stands files asked path within old next → AnswersBelow files asked (within ++ rest) next new → AnswersBelow files asked paths old new

-- the line of a folder with how many files below it were skipped, if any were
unfoldable pub skipped_line : List ℕ → ℕ → List ℕ
skipped_line path n = if n == 0 then []
    else printed false path ++ codes ": skipped " ++ counted n (codes "file") (codes "files") ++ 10 ∷ []

-- no line among JSON objects, nor if the check is to be quiet
abbrev pub skipped_text : Keyed → List ℕ → ℕ → List ℕ
skipped_text asked path n = if asked.request.now.as_json || asked.request.now.is_quiet then []
    else skipped_line path n

-- how many files were skipped is written, and nothing else is done
pub record TellsSkipped (asked : Keyed) (path : List ℕ) (old new : Told) : Type 0 where
  pub text : Option (List ℕ)
  pub is : new ≡ record old { text = text }
  pub written : Appends old.text text (skipped_text asked path old.skipped)

-- the images below a folder, of which nothing was skipped yet, and then how many files were
abbrev pub AnswersFolder : FileMap → Keyed → List ℕ → Told → Told → Type 0
AnswersFolder files asked path old new = (last : Told)
    × AnswersBelow files asked (path ∷ []) (record old { skipped = 0 }) last × TellsSkipped asked path last new

-- a path that was looked at: a folder stands for what is below it, and all else is an image
abbrev pub AnswersFound : FileMap → Keyed → List ℕ → Kind → Told → Told → Type 0
AnswersFound files asked path kind.Folder old new = AnswersFolder files asked path old new
AnswersFound files asked path found old new = Answers files asked path old new

-- an image of the command line; standard input stands for itself
abbrev pub AnswersBy : Bool → FileMap → Keyed → List ℕ → Told → Told → Type 0
AnswersBy false files asked path old new = Answers files asked path old new
AnswersBy true files asked path old new = (found : Kind)
    × AnswersFound files asked path found (asking (Looks path found) old) new

abbrev pub AnswersGiven : FileMap → Keyed → List ℕ → Told → Told → Type 0
AnswersGiven files asked path old new =
    AnswersBy (not (is_input path) && asked.request.now.is_recursive) files asked path old new

-- each image of the command line, in order
abbrev pub AnswersAllGiven : FileMap → Keyed → List (List ℕ) → Told → Told → Type 0
AnswersAllGiven files asked [] old new = new ≡ old
AnswersAllGiven files asked (path ∷ paths) old new =
    (next : Told) × AnswersGiven files asked path old next × AnswersAllGiven files asked paths next new
