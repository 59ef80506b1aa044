-- The first of what is missing.
use Rattle.std.proofs.Common.{◌≡◌, ◌+◌, ◌<◌, ◌≤◌, ℕ, List, [], ◌∷◌, length, take, drop, map, slice_index_or, Option, Some, None, true, false, is_some, refl, ap, sym, ◌∙◌, subst, arith}
use Rattle.std.specs.List.{sum_by}
use Rattle.std.proofs.lemmas.List.{drop_more}
use Rattle.std.proofs.lemmas.List.Sums.{sum_by_more}
use Rattle.std.proofs.lemmas.Bool.{false≢true}
use Rattle.std.specs.Option.{option_map}
use Rattle.uimg_base.specs.declared.spans.Span.{Span}
use Rattle.uimg_fit_base.specs.Files.{bytes_in}
use Rattle.uimg_fit_checking.specs.declared.surveying.facts.ImageFacts.{ImageFacts}
use Rattle.uimg_fit_checking.specs.declared.surveying.facts.ConfigurationFacts.{ConfigurationFacts}
use Rattle.uimg_fit_checking.specs.Survey.{read_image, read_configuration}
use Rattle.uimg_checks.specs.declared.references.missing.Missing.{Missing}
use Rattle.uimg_checks.specs.declared.references.reference.Reference.{Reference}
use Rattle.uimg_checks.specs.Given.{read_given}
use Rattle.uimg_checks.specs.ReferenceNames.{image_name_in, configuration_name_in}
use Rattle.uimg_checks.specs.References.{MissingSaid, read_missing, earlier_missing, missing_under, missing_among, missing_of, first_missing}

-- the names that images and configurations say
pub image_names : (file : List ℕ) (images : List ImageFacts) → map (λ i. i.name) (map (read_image file) images) ≡ map (image_name_in file) images
image_names file [] = refl
image_names file (i ∷ is) = ap (λ (l : List (List ℕ)). image_name_in file i ∷ l) (image_names file is)

pub configuration_names : (file : List ℕ) (cs : List ConfigurationFacts) → map (λ c. c.name) (map (read_configuration file) cs) ≡ map (configuration_name_in file) cs
configuration_names file [] = refl
configuration_names file (c ∷ cs) = ap (λ (l : List (List ℕ)). configuration_name_in file c ∷ l) (configuration_names file cs)

-- nothing is told
pub none_read : (file : List ℕ) (found : Option Missing) → is_some found ≡ false → option_map (read_missing file) found ≡ None
none_read file None is = refl
none_read file (Some found) is = absurd (false≢true (sym is))

-- what is found first decides, and what is not there does not
pub some_first : (file : List ℕ) (found : Option Missing) (later : Option MissingSaid) → is_some found ≡ true → earlier_missing (option_map (read_missing file) found) later ≡ option_map (read_missing file) found
some_first file (Some found) later is = refl
some_first file None later is = absurd (false≢true is)

pub none_first : (found later : Option MissingSaid) → found ≡ None → earlier_missing found later ≡ later
none_first found later is = ap (λ (o : Option MissingSaid). earlier_missing o later) is

-- one of some values, or of some configurations, that tells nothing is passed
pub passed_value : (file now : List ℕ) (list : List (List ℕ)) (giver : Option Span) (gs : List (Reference × Option Span)) (i : ℕ) (d : Reference × Option Span) (found : Option Missing)
    → now ≡ file → i < length gs → is_some found ≡ false
    → option_map (read_missing now) found ≡ missing_under list (bytes_in now giver) (slice_index_or gs i d).0 (bytes_in now (slice_index_or gs i d).1)
    → missing_among list (bytes_in file giver) (map (read_given file) (drop (i + 1) gs)) ≡ missing_among list (bytes_in file giver) (map (read_given file) (drop i gs))
passed_value file now list giver gs i d found same within none told =
    let x = slice_index_or gs i d in
    let here = subst (λ (w : List ℕ). option_map (read_missing w) found ≡ missing_under list (bytes_in w giver) x.0 (bytes_in w x.1)) same told in
    let rest = missing_among list (bytes_in file giver) (map (read_given file) (drop (i + 1) gs)) in
    sym (none_first (missing_under list (bytes_in file giver) x.0 (bytes_in file x.1)) rest (sym here ∙ none_read file found none))
    ∙ ap (λ (l : List (Reference × Option Span)). missing_among list (bytes_in file giver) (map (read_given file) l)) (sym (drop_more gs i d within))

pub passed_configuration : (file now : List ℕ) (list : List (List ℕ)) (cs : List ConfigurationFacts) (i : ℕ) (x : ConfigurationFacts) (found : Option Missing)
    → x ≡ slice_index_or cs i x → now ≡ file → i < length cs → is_some found ≡ false
    → option_map (read_missing now) found ≡ missing_of list (read_configuration now x)
    → first_missing list (map (read_configuration file) (drop (i + 1) cs)) ≡ first_missing list (map (read_configuration file) (drop i cs))
passed_configuration file now list cs i x found is same within none told =
    let here = subst (λ (w : List ℕ). option_map (read_missing w) found ≡ missing_of list (read_configuration w x)) same told in
    let rest = first_missing list (map (read_configuration file) (drop (i + 1) cs)) in
    sym (none_first (missing_of list (read_configuration file x)) rest (sym here ∙ none_read file found none))
    ∙ ap (λ (l : List ConfigurationFacts). first_missing list (map (read_configuration file) l)) (ap (λ (c : ConfigurationFacts). c ∷ drop (i + 1) cs) is ∙ sym (drop_more cs i x within))

-- what is asked for one more is so much more; the same of an element of its own
pub asked_more : {X : Type 0} (f : X → ℕ) (xs : List X) (i : ℕ) (d : X) (first before now : ℕ)
    → i < length xs → before ≤ first + sum_by f (take i xs) → now ≤ before + f (slice_index_or xs i d) → now ≤ first + sum_by f (take (i + 1) xs)
asked_more f xs i d first before now within asked more = omega (arith, asked, more, sum_by_more f xs i d within)

pub asked_one : {X : Type 0} (f : X → ℕ) (xs : List X) (i : ℕ) (x : X) (first before now : ℕ)
    → x ≡ slice_index_or xs i x → i < length xs → before ≤ first + sum_by f (take i xs) → now ≤ before + f x → now ≤ first + sum_by f (take (i + 1) xs)
asked_one {X = X} f xs i x first before now is within asked more = asked_more f xs i x first before now within asked (subst (λ (y : X). now ≤ before + f y) is more)
