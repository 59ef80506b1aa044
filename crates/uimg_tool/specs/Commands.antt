-- What a command of `uimg` means, over the files of a world, and which of them it may change.
use Rattle.std.specs.Prelude.{◌≡◌, ⊤, ℕ, List, ◌∷◌, Option, None, true}
use Rattle.uimg_base.specs.{Device.Device, Named.FileMap}
use Rattle.uimg_cli.specs.declared.command_line.Asked.{Asked}
use Rattle.uimg_cli.specs.declared.command_line.Asked.TheVariants.{One, Check, Unpack, Map, Info, Diff}
use Rattle.uimg_cli.specs.declared.command_line.Request.{Request}
use Rattle.uimg_cli.specs.declared.command_line.Request.TheVariants as asked
use Rattle.uimg_tool.specs.{Answering.{Meant, OfFile}, Checking.MeansCheck, Diffs.MeansDiff, Drawing.AsksToMap, Facts.IsFacts, Images.{CallsToRun, MeansRun}, Made.MeansMake, Maps.MeansMap, Reports.AsksToCheck, Unpacked.{GuardsUnpack, MeansUnpack}}
use Rattle.uimg_unpacking.specs.Places.{ChangesWithin}
use Rattle.uimg_world.specs.Deeds.{Deed, LendsReader, LendsShelf, changes}
use Rattle.uimg_world.specs.declared.file_id.FileId.{FileId}

-- a text is printed, and nothing is told
abbrev pub IsShown : Meant
IsShown status told old new = (status ≡ 0) × (told ≡ None)

-- A command on one image, the making of one, or a text. DEVICE says what the world's shelves keep, and IDENTITIES which
-- file is at each path.
abbrev pub MeansOne : {K : Type 0} → (K → Device) → (List ℕ → Option FileId) → Request → FileMap → (before after : List Deed) → Meant
MeansOne device identities (asked.Run it) files before after = MeansRun it it.outfile files before after
MeansOne device identities (asked.Make it) files before after = MeansMake device identities it files
MeansOne device identities (asked.Show text) files before after = IsShown

-- A request. Of what an unpacking prints nothing is said here.
abbrev pub Means : {K : Type 0} → (K → Device) → (List ℕ → Option FileId) → Asked → FileMap → (before after : List Deed) → Meant
Means device identities (One it) files before after = MeansOne device identities it files before after
Means device identities (Check it) files before after = MeansCheck it files before after
Means device identities (Unpack it) files before after = MeansUnpack it files before after
Means device identities (Map it) files before after = MeansMap it.image.now it.picture files
Means device identities (Info it) files before after = OfFile files it.image.now (IsFacts it.image.now)
Means device identities (Diff it) files before after = MeansDiff it files

-- What a request keeps to whatever comes of it: a refused unpacking leaves the folder, and one by keys changes no file
-- unless they sign the image.
abbrev pub Guards : Asked → FileMap → ℕ → (before after : List Deed) → Type 0
Guards (Unpack it) files status before after = GuardsUnpack it files status before after
Guards asked files status before after = ⊤

-- A command on one image opens it and nothing else, and changes only the file of an extraction. A making
-- lends a reader, and a shelf in its image's file alone. Facts, a comparison and a map that is not drawn
-- change no file, a check only that of its report, and an unpacking only files and its temporary folder in
-- its folder. A map that is drawn opens
-- its image, and changes the picture's file alone.
abbrev pub ChangesOne : Request → List Deed → List Deed → Type 0
ChangesOne (asked.Run it) old new = CallsToRun it it.outfile old new
ChangesOne (asked.Make it) old new = new ≡ LendsShelf it.outfile.now ∷ LendsReader ∷ old
ChangesOne (asked.Show text) old new = new ≡ old

abbrev pub Changes : Asked → List Deed → List Deed → Type 0
Changes (One it) old new = ChangesOne it old new
Changes (Check it) old new = AsksToCheck it.junit old new
Changes (Unpack it) old new = ChangesWithin it.folder.now true old new
Changes (Map it) old new = AsksToMap it it.picture old new
Changes (Info it) old new = changes new ≡ changes old
Changes (Diff it) old new = changes new ≡ changes old
