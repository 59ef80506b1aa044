-- The images that a configuration names.
use Rattle.std.proofs.Common.{◌≡◌, ◌+◌, ◌<◌, ◌||◌, ◌++◌, ℕ, List, [], ◌∷◌, length, drop, map, slice_index_or, Option, Some, Result, Err, Bool, true, false, refl, ap, sym, ◌∙◌, arith, if◌then◌else◌}
use Rattle.std.specs.List.{list_any}
use Rattle.std.specs.Str.{bytes_eq}
use Rattle.std.proofs.lemmas.List.{drop_more}
use Rattle.uimg_base.specs.declared.spans.Span.{Span}
use Rattle.uimg_texts.specs.Nul.{text}
use Rattle.uimg_fit_base.specs.Files.{bytes_in}
use Rattle.uimg_fit_reading.specs.Values.{pieces}
use Rattle.uimg_fit_checking.specs.declared.surveying.facts.ConfigurationFacts.{ConfigurationFacts}
use Rattle.uimg_fit_checking.specs.Survey.{ConfigurationSaid, read_configuration}
use Rattle.uimg_checks.specs.declared.references.reference.Reference.{Reference}
use Rattle.uimg_checks.specs.Given.{read_given}
use Rattle.uimg_fit_reading.specs.Values.{in_span}
use Rattle.uimg_fit_checking.specs.Survey.{Said}
use Rattle.uimg_checks.specs.declared.references.reference.Reference.TheVariants.{Default}
use Rattle.uimg_checks.specs.ReferenceNames.{is_ended}
use Rattle.uimg_checks.specs.References.{MissingSaid}
use Rattle.uimg_checks.specs.Choices.{configuration_of, default_images, images_if, lost, names_among, names_in}
use Rattle.uimg_checks.proofs.PieceLaws.{first_piece}

or_moved : (a b c : Bool) → (a || (b || c)) ≡ ((b || a) || c)
or_moved true true c = refl
or_moved true false c = refl
or_moved false true c = refl
or_moved false false c = refl

or_assoc : (a b c : Bool) → ((a || b) || c) ≡ (a || (b || c))
or_assoc true b c = refl
or_assoc false b c = refl

any_append : (p : List ℕ → Bool) (xs ys : List (List ℕ)) → list_any p (xs ++ ys) ≡ (list_any p xs || list_any p ys)
any_append p [] ys = refl
any_append p (x ∷ xs) ys = ap (λ (b : Bool). p x || b) (any_append p xs ys) ∙ sym (or_assoc (p x) (list_any p xs) (list_any p ys))

any_first : (p : List ℕ → Bool) (value : List ℕ) → 0 < length value → list_any p (pieces value) ≡ (p (text value) || list_any p (pieces (drop (length (text value) + 1) value)))
any_first p [] some = absurd (omega (arith, some))
any_first p (b ∷ bytes) some = ap (list_any p) (first_piece b bytes)

pub any_none : (p : List ℕ → Bool) (value : List ℕ) → length value ≡ 0 → list_any p (pieces value) ≡ false
unfolding pieces
any_none p [] none = refl
any_none p (b ∷ bytes) none = absurd (omega (arith, none))

-- one more text of a value was added to names
pub text_added : (name value : List ℕ) (old new : Bool) → 0 < length value → new ≡ (bytes_eq name (text value) || old)
    → (list_any (bytes_eq name) (pieces (drop (length (text value) + 1) value)) || new) ≡ (list_any (bytes_eq name) (pieces value) || old)
text_added name value old new some added =
    let p = bytes_eq name in
    let rest = list_any p (pieces (drop (length (text value) + 1) value)) in
    ap (λ (b : Bool). rest || b) added ∙ or_moved rest (p (text value)) old ∙ sym (ap (λ (b : Bool). b || old) (any_first p value some))

-- the names of one more property were added
pub value_added : (name file : List ℕ) (gs : List (Reference × Option Span)) (i : ℕ) (d : Reference × Option Span) (old new : Bool) → i < length gs
    → new ≡ (list_any (bytes_eq name) (names_in (bytes_in file (slice_index_or gs i d).1)) || old)
    → (list_any (bytes_eq name) (names_among (map (read_given file) (drop (i + 1) gs))) || new) ≡ (list_any (bytes_eq name) (names_among (map (read_given file) (drop i gs))) || old)
value_added name file gs i d old new within added =
    let p = bytes_eq name in
    let x = slice_index_or gs i d in
    let rest = names_among (map (read_given file) (drop (i + 1) gs)) in
    let its = names_in (bytes_in file x.1) in
    ap (λ (b : Bool). list_any p rest || b) added
    ∙ or_moved (list_any p rest) (list_any p its) old
    ∙ ap (λ (b : Bool). b || old) (sym (any_append p its rest))
    ∙ ap (λ (l : List (Reference × Option Span)). list_any p (names_among (map (read_given file) l)) || old) (sym (drop_more gs i d within))

-- a configuration has the name, or it is passed
found_by : (name : List ℕ) (c : ConfigurationSaid) (cs : List ConfigurationSaid) (b : Bool) → bytes_eq name c.name ≡ b → configuration_of name (c ∷ cs) ≡ (if b then Some c else configuration_of name cs)
found_by name c cs b is = ap (λ (q : Bool). if q then Some c else configuration_of name cs) is

pub configuration_found : (name file : List ℕ) (cs : List ConfigurationFacts) (i : ℕ) (x : ConfigurationFacts) → x ≡ slice_index_or cs i x → i < length cs → bytes_eq name (read_configuration file x).name ≡ true
    → configuration_of name (map (read_configuration file) (drop i cs)) ≡ Some (read_configuration file x)
configuration_found name file cs i x is within same =
    ap (λ (l : List ConfigurationFacts). configuration_of name (map (read_configuration file) l)) (drop_more cs i x within ∙ ap (λ (c : ConfigurationFacts). c ∷ drop (i + 1) cs) (sym is))
    ∙ found_by name (read_configuration file x) (map (read_configuration file) (drop (i + 1) cs)) true same

pub configuration_passed : (name file : List ℕ) (cs : List ConfigurationFacts) (i : ℕ) (x : ConfigurationFacts) → x ≡ slice_index_or cs i x → i < length cs → bytes_eq name (read_configuration file x).name ≡ false
    → configuration_of name (map (read_configuration file) (drop (i + 1) cs)) ≡ configuration_of name (map (read_configuration file) (drop i cs))
configuration_passed name file cs i x is within other = sym (
    ap (λ (l : List ConfigurationFacts). configuration_of name (map (read_configuration file) l)) (drop_more cs i x within ∙ ap (λ (c : ConfigurationFacts). c ∷ drop (i + 1) cs) (sym is))
    ∙ found_by name (read_configuration file x) (map (read_configuration file) (drop (i + 1) cs)) false other)

-- the default is a text, or not
default_by : (file : List ℕ) (said : Said) (p : Option Span) (span : Span) (value : List ℕ) (b : Bool) → p ≡ Some span → value ≡ in_span file span → is_ended value ≡ b
    → default_images said (bytes_in file p) ≡ (if b then images_if said (lost Default (text value)) (configuration_of (text value) said.configurations) else Err (lost Default value))
default_by file said p span value b is held ended =
    ap (λ (q : Option Span). default_images said (bytes_in file q)) is
    ∙ ap (λ (v : List ℕ). default_images said (Some v)) (sym held)
    ∙ ap (λ (q : Bool). let r : Result (List (List ℕ)) MissingSaid = if q then images_if said (lost Default (text value)) (configuration_of (text value) said.configurations) else Err (lost Default value) in r) ended

pub no_text : (file : List ℕ) (said : Said) (p : Option Span) (span : Span) (value : List ℕ) → p ≡ Some span → value ≡ in_span file span → is_ended value ≡ false → default_images said (bytes_in file p) ≡ Err (lost Default value)
no_text file said p span value is held ended = default_by file said p span value false is held ended

pub default_named : (file : List ℕ) (said : Said) (p : Option Span) (span : Span) (value : List ℕ) (found : Option ConfigurationSaid) → p ≡ Some span → value ≡ in_span file span → is_ended value ≡ true
    → configuration_of (text value) said.configurations ≡ found → default_images said (bytes_in file p) ≡ images_if said (lost Default (text value)) found
default_named file said p span value found is held ended named =
    default_by file said p span value true is held ended ∙ ap (images_if said (lost Default (text value))) named
