use Rattle.std.proofs.Common.{rules, ◌≡◌, ℕ, List, ◌∷◌, ◌++◌, Some, true, is_err, refl, ap, subst, ◌∙◌}
use Rattle.uimg_blob_writing.specs.{Content.content_bytes, Properties.content}
use Rattle.uimg_its.specs.{Strings.string_bytes, Words.words}
use Rattle.uimg_its.proofs.{LoneFile.lone_value, PassingLaws.lone_includes}
use Rattle.uimg_its.proofs.IncludedLaws.{passed, opened_one, follows, stops, unopened}
use Rattle.uimg_its.proofs.values.data_file.Goals as goal

pub returns-clause-gives : goal.returns-clause-gives
returns-clause-gives g c = λ honest.
    let files = (g.F.Files.map c.args.files.now).bytes in
    let quoted = string_bytes 0 c.in-Ok.found.name.now in
    let v = content_bytes files (content c.in_ok-value.value) in
    let named : c.append_string.new.out.items ≡ quoted = c.in_ok-append_string.ensures.appended ∙ ap (λ (l : List ℕ). l ++ quoted) c.new-name.ensures.items in
    lone_value files (words c.args.text.now) (words c.in-Ok.found.rest.now) quoted v c.in-Ok.ensures.gives (subst (λ (l : List ℕ). files l ≡ Some v) named (c.in_ok-value.ensures.there honest))

pub returns-in_default-clause-included : goal.returns-in_default-clause-included
returns-in_default-clause-included g c = follows _ _ (passed (words c.args.text.now) (words c.args.text.now) _ refl)

pub returns-in_err-append_string-clause-included : goal.returns-in_err-append_string-clause-included
returns-in_err-append_string-clause-included g c = unopened _ _ (search rules)

pub returns-in_err-value-clause-included : goal.returns-in_err-value-clause-included
returns-in_err-value-clause-included g c =
    let quoted = string_bytes 0 c.in-Ok.found.name.now in
    let a = g.F.Files.map c.args.files.now in
    let named : c.append_string.new.out.items ≡ quoted = c.in_ok-append_string.ensures.appended ∙ ap (λ (l : List ℕ). l ++ quoted) c.new-name.ensures.items in
    stops _ _ (search rules) (opened_one quoted _ (words c.in-Ok.found.rest.now) _ _ (lone_includes _ _ _ c.in-Ok.ensures.gives) (c.in_err-value.ensures.noted ∙ ap (λ (l : List ℕ). l ∷ a.opened) named))

pub returns-clause-included : goal.returns-clause-included
returns-clause-included g c =
    let quoted = string_bytes 0 c.in-Ok.found.name.now in
    let a = g.F.Files.map c.args.files.now in
    let named : c.append_string.new.out.items ≡ quoted = c.in_ok-append_string.ensures.appended ∙ ap (λ (l : List ℕ). l ++ quoted) c.new-name.ensures.items in
    follows _ _ (opened_one quoted _ (words c.in-Ok.found.rest.now) _ _ (lone_includes _ _ _ c.in-Ok.ensures.gives) (c.in_ok-value.ensures.noted ∙ ap (λ (l : List ℕ). l ∷ a.opened) named))
