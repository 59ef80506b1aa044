-- The object of an image that was checked is sound.
use Rattle.std.proofs.Common.{ℕ, List, [], ◌∷◌, ◌++◌, codes, map, Option, Some, None, Vec, ◌≡◌, ◌<◌, length, refl, arith}
use Rattle.std.specs.Borrow.{Bor}
use Rattle.uimg_printing.specs.Members.{Member, array_of, string_member, number_member, number_if, text_members}
use Rattle.uimg_printing.proofs.SoundLaws.{Sound, AreSound, append_sound, items_sound, number_sound, number_if_sound, string_sound, text_sound}
use Rattle.uimg_texts.specs.Nul.{text}
use Rattle.uimg_verifying.specs.declared.results.SignatureResult.{SignatureResult}
use Rattle.uimg_checks.specs.declared.answer.Answer.{Answer}
use Rattle.uimg_checks.specs.declared.answer.Configurations.{Configurations, TheVariants.{Signed, Unchecked}}
use Rattle.uimg_fit_checking.specs.declared.checking.Finding.{Finding}
use Rattle.uimg_fit_checking.specs.declared.checking.Finding.TheVariants.{Right, Unhashed, Wrong, Weak, Overlapping, NoImage}
use Rattle.uimg_checks.specs.declared.answer.Answer.TheVariants.{Found, Missing, Loose, Refused, Failed}
use Rattle.uimg_checks.specs.declared.finding.Checked.{Checked}
use Rattle.uimg_checks.specs.declared.finding.Checked.TheVariants as checked
use Rattle.uimg_checks.specs.declared.answer.Format.{Format}
use Rattle.uimg_checks.specs.declared.answer.Stop.{Stop}
use Rattle.uimg_checks.specs.Answers.{answer_status, answer_word}
use Rattle.uimg_checks.specs.Objects.{format_name, format_if, string_if, name_if, format_of, stop_members, configurations_if, only_members, result_word, signature_json, signatures_if, text_if, about_fit, about_found, about, first_members, check_json}

format_sound : (format : Option Format) → AreSound 2 (format_if format)
format_sound None = tt
format_sound (Some format) = string_sound 2 (codes "format") (format_name format)

string_if_sound : (key : List ℕ) (text : Option (Bor (List ℕ))) → AreSound 2 (string_if key text)
string_if_sound key None = tt
string_if_sound key (Some text) = string_sound 2 key text.now

name_if_sound : (key : List ℕ) (name : Option (Bor (List ℕ))) → AreSound 2 (name_if key name)
name_if_sound key None = tt
name_if_sound key (Some name) = text_sound 2 key name.now

stop_sound : (stop : Stop) → AreSound 2 (stop_members stop)
stop_sound stop =
    let message : List Member = string_member (codes "message") stop.message.now in
    let offset : List Member = number_if (codes "offset") stop.offset in
    append_sound 2 (string_if (codes "fault") stop.code) (message ++ offset) (string_if_sound (codes "fault") stop.code)
    (append_sound 2 message offset (string_sound 2 (codes "message") stop.message.now) (number_if_sound 2 (codes "offset") stop.offset))

only_sound : (only : Option (Bor (List ℕ))) → AreSound 2 (only_members only)
only_sound None = string_sound 2 (codes "configurations") (codes "signed")
only_sound (Some name) = text_sound 2 (codes "signed") name.now

text_if_sound : {Z : Type 0} (key : List ℕ) (value : Option (Vec ℕ Z)) → AreSound 0 (text_if key value)
text_if_sound key None = tt
text_if_sound key (Some value) = text_sound 0 key (text value.items)

signature_sound : (it : SignatureResult) → Sound 1 (signature_json it)
signature_sound it =
    let last : List Member = string_member (codes "result") (result_word it.refusal) in
    let key : List Member = text_if (codes "key") it.key in
    let padding : List Member = text_if (codes "padding") it.padding in
    let algo : List Member = text_if (codes "algo") it.algo in
    let node : List Member = text_members (codes "node") it.node.items in
    append_sound 0 (text_members (codes "configuration") it.configuration.items) (node ++ (algo ++ (padding ++ (key ++ last)))) (text_sound 0 (codes "configuration") it.configuration.items)
    (append_sound 0 node (algo ++ (padding ++ (key ++ last))) (text_sound 0 (codes "node") it.node.items)
    (append_sound 0 algo (padding ++ (key ++ last)) (text_if_sound (codes "algo") it.algo)
    (append_sound 0 padding (key ++ last) (text_if_sound (codes "padding") it.padding)
    (append_sound 0 key last (text_if_sound (codes "key") it.key) (string_sound 0 (codes "result") (result_word it.refusal))))))

signatures_sound : (all : List SignatureResult) → AreSound 2 (signatures_if all)
unfolding signatures_if
signatures_sound [] = tt
signatures_sound (it ∷ more) = (items_sound 1 signature_json signature_sound (it ∷ more), tt)

configurations_sound : (it : Option Configurations) → AreSound 2 (configurations_if it)
configurations_sound None = tt
configurations_sound (Some (Unchecked n)) = number_sound 2 (codes "unchecked") n
configurations_sound (Some (Signed signed)) = append_sound 2 (only_members signed.only) (signatures_if signed.signatures.now) (only_sound signed.only) (signatures_sound signed.signatures.now)

fit_sound : (finding : Finding (Bor (List ℕ))) (it : Option Configurations) → AreSound 2 (about_fit finding it)
fit_sound (Right images hashes) it =
    append_sound 2 (number_member (codes "images") images) (number_member (codes "hashes") hashes ++ configurations_if it)
    (number_sound 2 (codes "images") images)
    (append_sound 2 (number_member (codes "hashes") hashes) (configurations_if it) (number_sound 2 (codes "hashes") hashes) (configurations_sound it))
fit_sound (Unhashed image) it = text_sound 2 (codes "image") image.now
fit_sound (Wrong image hash word) it =
    append_sound 2 (text_members (codes "image") image.now) (text_members (codes "hash") hash.now) (text_sound 2 (codes "image") image.now) (text_sound 2 (codes "hash") hash.now)
fit_sound (Weak image) it = text_sound 2 (codes "image") image.now
fit_sound (Overlapping image) it = text_sound 2 (codes "image") image.now
fit_sound NoImage it = tt

found_sound : (found : Checked (Bor (List ℕ))) (it : Option Configurations) → AreSound 2 (about_found found it)
found_sound (checked.Fit finding) it = fit_sound finding it
found_sound checked.Right it = number_sound 2 (codes "checksums") 2
found_sound checked.Damaged it = tt
found_sound checked.Weak it = string_sound 2 (codes "algo") (codes "crc32")

about_sound : (answer : Answer) → AreSound 2 (about answer)
about_sound (Found found it) = found_sound found it
about_sound (Missing configuration property name) =
    let names : List Member = text_members (codes "name") name.now in
    append_sound 2 (name_if (codes "configuration") configuration) (string_member (codes "property") property.now ++ names) (name_if_sound (codes "configuration") configuration)
    (append_sound 2 (string_member (codes "property") property.now) names (string_sound 2 (codes "property") property.now) (text_sound 2 (codes "name") name.now))
about_sound (Loose format why place signatures) = append_sound 2 (name_if (codes "node") place) (signatures_if signatures.now) (name_if_sound (codes "node") place) (signatures_sound signatures.now)
about_sound (Refused stop) = stop_sound stop
about_sound (Failed stop) = stop_sound stop

head_sound : (path : List ℕ) (answer : Answer) → AreSound 2 (first_members path answer)
head_sound path answer =
    let status : List Member = number_member (codes "status") (answer_status answer) in
    let word : List Member = string_member (codes "verdict") (answer_word answer) in
    let format : List Member = format_if (format_of answer) in
    append_sound 2 (text_members (codes "path") path) (status ++ (word ++ format)) (text_sound 2 (codes "path") path)
    (append_sound 2 status (word ++ format) (number_sound 2 (codes "status") (answer_status answer))
    (append_sound 2 word format (string_sound 2 (codes "verdict") (answer_word answer)) (format_sound (format_of answer))))

pub check_sound : (path : List ℕ) (answer : Answer) → Sound 3 (check_json path answer)
check_sound path answer = append_sound 2 (first_members path answer) (about answer) (head_sound path answer) (about_sound answer)

pub some_listed : (all : List SignatureResult) → 0 < length all → signatures_if all ≡ (codes "signatures", array_of (map signature_json all)) ∷ []
unfolding signatures_if
some_listed [] some = absurd (omega (arith, some))
some_listed (it ∷ more) some = refl
