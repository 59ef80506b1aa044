-- The line of a checked image: its path, the word of the finding, and the details.
use Rattle.std.specs.Prelude.{ℕ, ◌==◌, List, [], ◌∷◌, ◌++◌, codes, true, false, if◌then◌else◌, Option}
use Rattle.std.specs.Prelude.{Some, None}
use Rattle.std.specs.Borrow.{Bor}
use Rattle.uimg_printing.specs.Counting.{counted}
use Rattle.uimg_printing.specs.Printing.{printed}
use Rattle.uimg_fit_checking.specs.declared.checking.Finding.{Finding}
use Rattle.uimg_fit_checking.specs.declared.checking.Finding.TheVariants as fit_finding
use Rattle.uimg_checks.specs.declared.answer.Answer.{Answer}
use Rattle.uimg_checks.specs.declared.answer.Answer.TheVariants.{Found, Missing, Loose, Refused}
use Rattle.uimg_checks.specs.declared.answer.Answer.TheVariants.{Failed}
use Rattle.uimg_checks.specs.declared.answer.Configurations.{Configurations, TheVariants.{Signed, Unchecked}}
use Rattle.uimg_checks.specs.declared.answer.Signed as keys
use Rattle.uimg_checks.specs.declared.finding.Checked.{Checked}
use Rattle.uimg_checks.specs.declared.finding.Checked.TheVariants as checked
use Rattle.uimg_checks.specs.Answers.{answer_word}

-- the number of unchecked nodes of configurations, if they were counted and there are any
abbrev pub nodes_text : ℕ → List ℕ
nodes_text n =
    codes ", " ++ counted n (codes "node") (codes "nodes") ++ codes " of configurations unchecked"

unfoldable pub some_unchecked : ℕ → List ℕ
some_unchecked n = if n == 0 then [] else nodes_text n

-- which configurations are signed
abbrev pub only_text : Option (Bor (List ℕ)) → List ℕ
only_text None = codes ", all configurations signed"
only_text (Some name) = codes ", configuration " ++ printed true name.now ++ codes " signed"

-- what the keys are called, if they have a name
unfoldable pub by_text : List ℕ → List ℕ
by_text [] = []
by_text (byte ∷ rest) = codes " by " ++ printed false (byte ∷ rest)

abbrev pub signed_text : keys.Signed → List ℕ
signed_text signed = only_text signed.only ++ by_text signed.by.now

abbrev pub configurations_text : Configurations → List ℕ
configurations_text (Unchecked n) = some_unchecked n
configurations_text (Signed signed) = signed_text signed

abbrev pub configurations_if : Option Configurations → List ℕ
configurations_if None = []
configurations_if (Some it) = configurations_text it

-- a name after a space, as one word
abbrev pub spaced_name : List ℕ → List ℕ
spaced_name name = codes " " ++ printed true name

abbrev pub named_if : Option (Bor (List ℕ)) → List ℕ
named_if None = []
named_if (Some name) = spaced_name name.now

-- the details of a finding about a FIT image
abbrev pub finding_details : Finding (Bor (List ℕ)) → Option Configurations → List ℕ
finding_details (fit_finding.Right images nodes) configurations =
    codes " " ++ counted images (codes "payload") (codes "payloads") ++ codes ", "
    ++ counted nodes (codes "hash") (codes "hashes")
    ++ configurations_if configurations
finding_details (fit_finding.Unhashed image) configurations = spaced_name image.now
finding_details (fit_finding.Wrong image hash word) configurations =
    spaced_name image.now ++ spaced_name hash.now
finding_details (fit_finding.Weak image) configurations = spaced_name image.now
finding_details (fit_finding.Overlapping image) configurations = spaced_name image.now
finding_details fit_finding.NoImage configurations = []

-- the details of a finding
abbrev pub found_details : Checked (Bor (List ℕ)) → Option Configurations → List ℕ
found_details (checked.Fit finding) configurations = finding_details finding configurations
found_details checked.Right configurations = codes " 2 checksums"
found_details checked.Damaged configurations = codes " checksum"
found_details checked.Weak configurations = codes " crc32"

-- the details after the word
abbrev pub details_of : Answer → List ℕ
details_of (Found found configurations) = found_details found configurations
details_of (Missing configuration property name) =
    named_if configuration ++ codes " " ++ property.now ++ spaced_name name.now
details_of (Loose format why place signatures) = named_if place
details_of (Refused stop) = codes " " ++ stop.message.now
details_of (Failed stop) = codes " " ++ stop.message.now

-- the line, without its end
abbrev pub answer_line : List ℕ → Answer → List ℕ
answer_line path answer =
    printed false path ++ codes ": " ++ answer_word answer ++ details_of answer

-- the text of a fault, or a property's name, if there is one
abbrev pub own_text : Answer → List ℕ
own_text (Found found configurations) = []
own_text (Missing configuration property name) = property.now
own_text (Loose format why place signatures) = []
own_text (Refused stop) = stop.message.now
own_text (Failed stop) = stop.message.now
