-- Builds by the names of mkimage: what they request of a world, which files they change, and what they
-- answer.
use Rattle.std.specs.Prelude.{◌≡◌, ⊤, ◌⊎◌, ◌≤◌, ℕ, List, [], ◌∷◌, Option, Some, None, Bool, false, true, not, Result, Ok, Err, string_bytes}
use Rattle.std.specs.Io.KnownBytes.{Keeps}
use Rattle.uimg_base.specs.{Device.Device, Named.FileMap, Sink.Sink}
use Rattle.uimg_base.specs.declared.status.Status.{Status}
use Rattle.uimg_requests.specs.declared.requests.MakeRequest.{MakeRequest}
use Rattle.uimg_tool.specs.{Finishing.FinishesBy, Makings.{AnswersMade, MakesAt}, Statuses.end_status}
use Rattle.uimg_tool.specs.Writings.{CreatesNew, CreatesNone, IsAt, IsInPlace, StopsTrying}
use Rattle.uimg_tool.specs.declared.{old_files.{Begun.Begun}, request_fault.RequestFault.RequestFault, safe_path.SafePath.SafePath}
use Rattle.uimg_world.specs.Deeds.{Deed, Explains, Finds, LendsShelf, Opens, Renames, changes}
use Rattle.uimg_world.specs.declared.call.Answer.TheVariants.{Done}
use Rattle.uimg_world.specs.declared.file_id.FileId.{FileId}
use Rattle.uimg_world.specs.declared.kind.Target.TheVariants as target

-- A shelf is lent in the file at a path, and no file is changed otherwise; or a making failed before that.
abbrev pub LendsAt : List ℕ → (has_failed : Bool) → (before after : List Deed) → Type 0
LendsAt path has_failed before after = ((has_failed ≡ true) × (changes after ≡ changes before))
    ⊎ (changes after ≡ LendsShelf path ∷ changes before)

-- the path of the file that is written: the new one, or that of the image
abbrev pub path_for : {F : Type 0} → List ℕ → Option (Begun F) → List ℕ
path_for outfile None = outfile
path_for outfile (Some begun) = string_bytes begun.path.now.new

-- a new file got its path, and no file was changed otherwise
abbrev pub Named : SafePath → (before after : List Deed) → Type 0
Named path before after = changes after ≡ Renames (string_bytes path.new) (string_bytes path.whole) Done ∷ changes before

-- A shelf is lent in a new file, which then gets its path or is removed; or a making failed before that.
-- If the status is 0, it has its path. Only with status 0 or 3 may it be given its path.
pub record FinishesMade (path : SafePath) (status : ℕ) (before after : List Deed) : Type 0 where
  pub is_complete : Bool
  pub made : List Deed
  pub lent : LendsAt (string_bytes path.new) (not is_complete) before made
  pub finishes : FinishesBy path is_complete made after
  pub done : status ≡ 0 → Named path (LendsShelf (string_bytes path.new) ∷ before) after
  pub complete : is_complete ≡ true → (status ≡ 0) ⊎ (status ≡ 3)

-- An image is made for a path: in a new file beside the one that the path leads to, or in place, where
-- a shelf is lent. If the path leads to a pipe, or the new file cannot be created, the status is not 0.
pub data MakesFor (path : List ℕ) (status : ℕ) (before after : List Deed) : Type 0 where
  beside_it : (safe : SafePath) (seen begun : List Deed) → IsAt path (string_bytes safe.whole) before seen → CreatesNew (string_bytes safe.whole) (string_bytes safe.new) seen begun → FinishesMade safe status begun after → MakesFor path status before after
  in_place : (seen : List Deed) → IsInPlace path before seen → ((1 ≤ status) × (changes after ≡ changes seen)) ⊎ (changes after ≡ LendsShelf path ∷ changes seen) → MakesFor path status before after
  to_pipe : 1 ≤ status → after ≡ Finds path target.Pipe ∷ before → MakesFor path status before after
  uncreated : (whole : List ℕ) (seen : List Deed) → 1 ≤ status → IsAt path whole before seen → CreatesNone whole seen after → MakesFor path status before after
  no_memory : (whole : List ℕ) (seen : List Deed) → 1 ≤ status → IsAt path whole before seen → (seen ≡ after) ⊎ StopsTrying whole seen after → MakesFor path status before after

-- An image is begun in a new file, or what its path leads to is written in place. Or its making is over with a status.
abbrev pub Begins : {F : Type 0} → List ℕ → Result (Option (F × SafePath)) ℕ → (before after : List Deed) → Type 0
Begins path (Ok (Some new)) before after = (seen : List Deed)
    × IsAt path (string_bytes new.1.whole) before seen × CreatesNew (string_bytes new.1.whole) (string_bytes new.1.new) seen after
Begins path (Ok None) before after = IsInPlace path before after
Begins path (Err status) before after = MakesFor path status before after

-- The same after calls that change no file, or nothing is changed and the status is not 0.
abbrev pub MakesWithin : List ℕ → ℕ → (before after : List Deed) → Type 0
MakesWithin path status before after = ((1 ≤ status) × (changes after ≡ changes before))
    ⊎ ((seen : List Deed) × (changes seen ≡ changes before) × MakesFor path status seen after)

-- An image that is to be updated is opened, and made again.
abbrev pub UpdatesFor : List ℕ → ℕ → (before after : List Deed) → Type 0
UpdatesFor image status before after = ((status ≡ 3) × (after ≡ Explains image ∷ Opens image false ∷ before))
    ⊎ MakesWithin image status (Opens image true ∷ before) after

-- Nothing was written to a new file, if there is one.
abbrev pub IsNew : {F : Type 0} → (F → Option (List ℕ)) → Option (Begun F) → Type 0
IsNew contents None = ⊤
IsNew contents (Some begun) = contents begun.file ≡ Some []

-- the end of a making, in a new file or in place, unless its status is 3
abbrev pub MakesIn : {F K N : Type 0} → Option (Begun F) → (K → Device) → (N → Device) → (List ℕ → Option FileId) → MakeRequest → FileMap → Result Status RequestFault → (s t : Sink) → Type 0
MakesIn None kept_there kept_new identities asked files end s t =
    (end_status end ≡ 3) ⊎ MakesAt kept_there identities asked files end s t
MakesIn (Some begun) kept_there kept_new identities asked files end s t =
    (end_status end ≡ 3) ⊎ MakesAt kept_new identities asked files end s t

-- The same where the listing goes to an output, unless it is to be quiet.
abbrev pub ListsIn : {F K N : Type 0} → (is_quiet : Bool) → Option (Begun F) → (K → Device) → (N → Device) → (List ℕ → Option FileId) → MakeRequest → FileMap → Result Status RequestFault → (old new : Option (List ℕ)) → Type 0
ListsIn is_quiet begun kept_there kept_new identities asked files end old new =
    (s t : Sink) × MakesIn begun kept_there kept_new identities asked files end s t
    × (is_quiet ≡ false → (s.contents ≡ old) × Keeps t.contents new)

-- A making is answered, and its listing is printed to an output, unless it is to be quiet.
abbrev pub AnswersListed : {K : Type 0} → (is_quiet : Bool) → (K → Device) → (List ℕ → Option FileId) → MakeRequest → FileMap → ℕ → (old new : Option (List ℕ)) → Type 0
AnswersListed false device identities asked files status old new = AnswersMade device identities asked files status old new
AnswersListed true device identities asked files status old new = (s t : Option (List ℕ)) × AnswersMade device identities asked files status s t

-- in place, or in a new file
abbrev pub AnswersOldMaking : {K N : Type 0} → (is_quiet : Bool) → (K → Device) → (N → Device) → (List ℕ → Option FileId) → MakeRequest → FileMap → ℕ → (old new : Option (List ℕ)) → Type 0
AnswersOldMaking is_quiet kept_there kept_new identities asked files status old new = (status ≡ 3)
    ⊎ AnswersListed is_quiet kept_there identities asked files status old new
    ⊎ AnswersListed is_quiet kept_new identities asked files status old new
