-- The whole of a check: its status is the greatest of those that are answered.
use Rattle.std.specs.Prelude.{◌≡◌, ℕ, List, ◌∷◌, Option, Some, None, IfSome, IsTrue, Bool, true, false, ◌||◌, map, option_map}
use Rattle.std.specs.{Borrow.Bor, Io.KnownBytes.Keeps}
use Rattle.uimg_base.specs.Named.{FileMap}
use Rattle.uimg_checks.specs.{TestReports.Reported, declared.judging.Terms.Terms}
use Rattle.uimg_cli.specs.declared.command_line.{check.CheckRequest.CheckRequest, keys.KeyRequest.KeyRequest}
use Rattle.uimg_keys.specs.{Keys.HasKeys, declared.keys.Keys.Keys}
use Rattle.uimg_cli.specs.FaultTexts.{text_of}
use Rattle.uimg_cli.specs.declared.command_line.words_fault.WordsFault.TheVariants.{NoImages}
use Rattle.uimg_tool.specs.{Answering.Meant, Below.AnswersAllGiven, Checks.{AnswersFrom, Told}, Reports.{FindsReportIf, WritesReportIf, report_before}}
use Rattle.uimg_tool.specs.declared.keys.Keyed.{Keyed}
use Rattle.uimg_world.specs.Deeds.{Deed, Opens}
use Rattle.uimg_verifying.specs.{Configurations.only_of, declared.required.Required.Required}

abbrev pub nothing_told : Option (Bor (List ℕ)) → Option (List ℕ) → List Deed → Told
nothing_told junit text trace = record {
  greatest = 0;
  has_checked = false;
  skipped = 0;
  report = report_before junit;
  text = text;
  trace = trace;
}

-- the images of the command line, and then those that a file names
abbrev pub AnswersAll : FileMap → Keyed → Told → Told → Type 0
AnswersAll files asked old new = (mid : Told)
    × AnswersAllGiven files asked (map (λ path. path.now) asked.request.now.images.items) old mid
    × AnswersFrom files asked asked.request.now.files_from mid new

-- the same keys, but by this name, if one is given
abbrev pub AreNamed : Option (Bor (List ℕ)) → Keys → Keys → Type 0
AreNamed None read keys = keys ≡ read
AreNamed (Some name) read keys =
    (keys.keys ≡ read.keys) × (keys.is_any ≡ read.is_any) × (keys.name.items ≡ name.now)

-- What is required is what a request asks, with these keys.
pub record IsRequired (asked : KeyRequest) (read : Keys) (required : Required) : Type 0 where
  pub named : AreNamed asked.name read required.keys
  pub only : only_of required ≡ option_map (λ name. name.now) asked.config
  pub sha1 : required.takes_sha1 ≡ asked.takes_sha1

-- The keys are those of the file at the path of a request, if there is one and the files are honest.
abbrev pub KeysAt : FileMap → Option KeyRequest → Option Required → Type 0
KeysAt files None required = required ≡ None
KeysAt files (Some asked) None = ⊥
KeysAt files (Some asked) (Some required) = (read : Keys) × IsRequired asked read required
    × (IsTrue files.honest → IfSome (files.bytes asked.path.now) (λ file. HasKeys file read))

-- what was opened, after the file of keys was
abbrev pub keys_read : Option KeyRequest → List Deed → List Deed
keys_read None trace = trace
keys_read (Some asked) trace = Opens asked.path.now true ∷ trace

-- If there is no image, the command line is wrong unless none is allowed, which is told.
abbrev pub EndsWith : (is_enough : Bool) → (greatest status : ℕ) → Option (Option (List ℕ)) → Type 0
EndsWith true greatest status told = (status ≡ greatest) × (told ≡ None)
EndsWith false greatest status told = (status ≡ 2) × (told ≡ Some (Some (text_of NoImages)))

-- A report is written if there is an image, or none is allowed.
abbrev pub ReportsIf : Bool → FileMap → Option (Bor (List ℕ)) → Option Reported → (before after : List Deed) → Type 0
ReportsIf true files junit report before after = WritesReportIf files junit report before after
ReportsIf false files junit report before after = after ≡ before

-- how the checks end, after which a report is written, if one is requested
abbrev pub EndsChecks : FileMap → Keyed → Told → (after : List Deed) → Meant
EndsChecks files asked last after status told old new =
    let is_enough : Bool = last.has_checked || asked.request.now.allows_none in
    EndsWith is_enough last.greatest status told
    × ReportsIf is_enough files asked.request.now.junit last.report last.trace after

-- All images are answered, each by the file at its path, and nothing else is opened but the file of names.
abbrev pub ChecksBy : Keyed → FileMap → (before after : List Deed) → Meant
ChecksBy asked files before after status told old new = (last : Told)
    × AnswersAll files asked (nothing_told asked.request.now.junit old before) last
    × EndsChecks files asked last after status told old new × Keeps last.text new

-- what a request asks of an image, with these keys
abbrev pub terms_of : CheckRequest → Option Required → Terms
terms_of asked required = record {
  need = asked.need;
  is_strict = asked.is_strict;
  required = required;
  covers_images = false;
  lists = asked.as_json;
}

-- The same with the keys of the file of keys, which is opened before, if there is one. Before that, the
-- path of a report is looked at.
abbrev pub MeansCheck : CheckRequest → FileMap → (before after : List Deed) → Meant
MeansCheck asked files before after status told old new = (keyed : Keyed) × (seen : List Deed)
    × (keyed.request.now ≡ asked) × FindsReportIf files asked.junit before seen
    × (keyed.terms ≡ terms_of asked keyed.terms.required) × KeysAt files asked.key keyed.terms.required
    × ChecksBy keyed files (keys_read asked.key seen) after status told old new
