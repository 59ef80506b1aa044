-- The JSON object of a checked image (docs/JSON.md).
use Rattle.std.specs.Prelude.{ℕ, List, [], ◌∷◌, ◌++◌, map, codes, Option, Some, None, Vec}
use Rattle.std.specs.Borrow.{Bor}
use Rattle.json.specs.Json.{Json}
use Rattle.uimg_printing.specs.Members.{Member, object_of, string_member, number_member, number_if}
use Rattle.uimg_printing.specs.Members.{array_of, text_members}
use Rattle.uimg_strict.specs.{Words.word_of, declared.loose.Looseness.Looseness}
use Rattle.uimg_texts.specs.Nul.{text}
use Rattle.uimg_verifying.specs.declared.results.SignatureResult.{SignatureResult}
use Rattle.uimg_fit_checking.specs.declared.checking.Finding.{Finding}
use Rattle.uimg_fit_checking.specs.declared.checking.Finding.TheVariants as fit_finding
use Rattle.uimg_checks.specs.declared.answer.Answer.{Answer}
use Rattle.uimg_checks.specs.declared.answer.Answer.TheVariants.{Found, Missing, Loose, Refused}
use Rattle.uimg_checks.specs.declared.answer.Answer.TheVariants.{Failed}
use Rattle.uimg_checks.specs.declared.answer.Configurations.{Configurations, TheVariants.{Signed, Unchecked}}
use Rattle.uimg_checks.specs.declared.answer.Signed as keys
use Rattle.uimg_checks.specs.declared.finding.Checked.{Checked}
use Rattle.uimg_checks.specs.declared.finding.Checked.TheVariants as checked
use Rattle.uimg_checks.specs.declared.answer.Format.{Format}
use Rattle.uimg_checks.specs.declared.answer.Format.TheVariants.{Fit, Legacy}
use Rattle.uimg_checks.specs.declared.answer.Stop.{Stop}
use Rattle.uimg_checks.specs.Answers.{answer_status, answer_word}

abbrev pub format_name : Format → List ℕ
format_name Fit = codes "fit"
format_name Legacy = codes "legacy"

abbrev pub format_if : Option Format → List Member
format_if None = []
format_if (Some format) = string_member (codes "format") (format_name format)

abbrev pub string_if : List ℕ → Option (Bor (List ℕ)) → List Member
string_if key None = []
string_if key (Some text) = string_member key text.now

-- a name under a key, if there is one
abbrev pub name_if : List ℕ → Option (Bor (List ℕ)) → List Member
name_if key None = []
name_if key (Some name) = text_members key name.now

-- the format of a checked image
abbrev pub found_format : {N : Type 0} → Checked N → Format
found_format (checked.Fit finding) = Fit
found_format checked.Right = Legacy
found_format checked.Damaged = Legacy
found_format checked.Weak = Legacy

-- the format of the image, if it is known
abbrev pub format_of : Answer → Option Format
format_of (Found found configurations) = Some (found_format found)
format_of (Missing configuration property name) = Some Fit
format_of (Loose format why place signatures) = Some format
format_of (Refused stop) = stop.format
format_of (Failed stop) = stop.format

-- a fault: its code, its line, and its offset
abbrev pub stop_members : Stop → List Member
stop_members stop =
    string_if (codes "fault") stop.code
    ++ (string_member (codes "message") stop.message.now
    ++ number_if (codes "offset") stop.offset)

-- a value's text, up to its first NUL
abbrev pub text_if : {Z : Type 0} → List ℕ → Option (Vec ℕ Z) → List Member
text_if key None = []
text_if key (Some value) = text_members key (text value.items)

-- the word for why a signature is refused, or that it is not
abbrev pub result_word : Option Looseness → List ℕ
result_word None = codes "ok"
result_word (Some why) = word_of why

abbrev pub signature_members : SignatureResult → List Member
signature_members it = text_members (codes "configuration") it.configuration.items
    ++ (text_members (codes "node") it.node.items ++ (text_if (codes "algo") it.algo
    ++ (text_if (codes "padding") it.padding ++ (text_if (codes "key") it.key
    ++ string_member (codes "result") (result_word it.refusal)))))

abbrev pub signature_json : SignatureResult → Json
signature_json it = object_of (signature_members it)

-- the signature nodes, if there are any
unfoldable pub signatures_if : List SignatureResult → List Member
signatures_if [] = []
signatures_if (it ∷ more) =
    (codes "signatures", array_of (map signature_json (it ∷ more))) ∷ []

-- that all configurations are signed, or the one that is
abbrev pub only_members : Option (Bor (List ℕ)) → List Member
only_members None = string_member (codes "configurations") (codes "signed")
only_members (Some name) = text_members (codes "signed") name.now

abbrev pub about_signed : keys.Signed → List Member
about_signed signed = only_members signed.only ++ signatures_if signed.signatures.now

-- the members about the configurations of a FIT image
abbrev pub about_configurations : Configurations → List Member
about_configurations (Unchecked n) = number_member (codes "unchecked") n
about_configurations (Signed signed) = about_signed signed

abbrev pub configurations_if : Option Configurations → List Member
configurations_if None = []
configurations_if (Some it) = about_configurations it

-- the members about a FIT image
abbrev pub about_fit : Finding (Bor (List ℕ)) → Option Configurations → List Member
about_fit (fit_finding.Right images nodes) configurations =
    number_member (codes "images") images
    ++ (number_member (codes "hashes") nodes ++ configurations_if configurations)
about_fit (fit_finding.Unhashed image) configurations = text_members (codes "image") image.now
about_fit (fit_finding.Wrong image hash word) configurations =
    text_members (codes "image") image.now ++ text_members (codes "hash") hash.now
about_fit (fit_finding.Weak image) configurations = text_members (codes "image") image.now
about_fit (fit_finding.Overlapping image) configurations = text_members (codes "image") image.now
about_fit fit_finding.NoImage configurations = []

-- the members about a finding
abbrev pub about_found : Checked (Bor (List ℕ)) → Option Configurations → List Member
about_found (checked.Fit finding) configurations = about_fit finding configurations
about_found checked.Right configurations = number_member (codes "checksums") 2
about_found checked.Damaged configurations = []
about_found checked.Weak configurations = string_member (codes "algo") (codes "crc32")

-- the members about what strictness refuses
abbrev pub about_loose : Option (Bor (List ℕ)) → List SignatureResult → List Member
about_loose place signatures = name_if (codes "node") place ++ signatures_if signatures

-- the members after the format
abbrev pub about : Answer → List Member
about (Found found configurations) = about_found found configurations
about (Missing configuration property name) =
    name_if (codes "configuration") configuration
    ++ (string_member (codes "property") property.now ++ text_members (codes "name") name.now)
about (Loose format why place signatures) = about_loose place signatures.now
about (Refused stop) = stop_members stop
about (Failed stop) = stop_members stop

-- the first members of each object
abbrev pub first_members : List ℕ → Answer → List Member
first_members path answer =
    text_members (codes "path") path ++ (number_member (codes "status") (answer_status answer)
    ++ (string_member (codes "verdict") (answer_word answer) ++ format_if (format_of answer)))

abbrev pub check_json : List ℕ → Answer → Json
check_json path answer = object_of (first_members path answer ++ about answer)
