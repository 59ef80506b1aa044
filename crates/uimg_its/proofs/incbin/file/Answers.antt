use Rattle.std.proofs.Common.{rules, ◌≡◌, ◌∷◌, ◌++◌, ℕ, List, true, is_err, ap, ◌∙◌}
use Rattle.uimg_its.specs.{Strings.string_bytes, Words.words}
use Rattle.uimg_its.proofs.{PassingLaws.file_includes, IncludedLaws.{opened_one, follows, stops, unopened}}
use Rattle.uimg_its.proofs.incbin.file.Goals as goal

pub returns-in_err-inner-clause-included : goal.returns-in_err-inner-clause-included
returns-in_err-inner-clause-included g c = unopened _ _ (search rules)

pub returns-in_err-quoted-clause-included : goal.returns-in_err-quoted-clause-included
returns-in_err-quoted-clause-included g c = unopened _ _ (search rules)

pub returns-in_err-rest-clause-included : goal.returns-in_err-rest-clause-included
returns-in_err-rest-clause-included g c = unopened _ _ (search rules)

pub returns-in_err-append_string-clause-included : goal.returns-in_err-append_string-clause-included
returns-in_err-append_string-clause-included g c = unopened _ _ (search rules)

pub returns-in_err-bytes-clause-included : goal.returns-in_err-bytes-clause-included
returns-in_err-bytes-clause-included g c =
    let quoted = string_bytes 0 c.in_ok-quoted.quoted.now in
    let a = g.F.Files.map c.args.files.now in
    let named : c.deref.result.now ≡ quoted = c.deref.ensures.value ∙ c.in_ok-append_string.ensures.appended ∙ ap (λ (l : List ℕ). l ++ quoted) c.new-name.ensures.items in
    let includes = file_includes _ _ _ _ _ c.in_ok-inner.ensures.gives c.in_ok-quoted.ensures.gives c.in_ok-rest.ensures.gives in
    stops _ _ (search rules) (opened_one quoted _ (words c.in_ok-rest.rest.now) _ _ includes (c.in_err-bytes.ensures.noted ∙ ap (λ (l : List ℕ). l ∷ a.opened) named))

pub returns-in_err-append-clause-included : goal.returns-in_err-append-clause-included
returns-in_err-append-clause-included g c =
    let quoted = string_bytes 0 c.in_ok-quoted.quoted.now in
    let a = g.F.Files.map c.args.files.now in
    let named : c.deref.result.now ≡ quoted = c.deref.ensures.value ∙ c.in_ok-append_string.ensures.appended ∙ ap (λ (l : List ℕ). l ++ quoted) c.new-name.ensures.items in
    let includes = file_includes _ _ _ _ _ c.in_ok-inner.ensures.gives c.in_ok-quoted.ensures.gives c.in_ok-rest.ensures.gives in
    stops _ _ (search rules) (opened_one quoted _ (words c.in_ok-rest.rest.now) _ _ includes (c.in_ok-bytes.ensures.noted ∙ ap (λ (l : List ℕ). l ∷ a.opened) named))

pub returns-clause-included : goal.returns-clause-included
returns-clause-included g c =
    let quoted = string_bytes 0 c.in_ok-quoted.quoted.now in
    let a = g.F.Files.map c.args.files.now in
    let named : c.deref.result.now ≡ quoted = c.deref.ensures.value ∙ c.in_ok-append_string.ensures.appended ∙ ap (λ (l : List ℕ). l ++ quoted) c.new-name.ensures.items in
    let includes = file_includes _ _ _ _ _ c.in_ok-inner.ensures.gives c.in_ok-quoted.ensures.gives c.in_ok-rest.ensures.gives in
    follows _ _ (opened_one quoted _ (words c.in_ok-rest.rest.now) _ _ includes (c.in_ok-bytes.ensures.noted ∙ ap (λ (l : List ℕ). l ∷ a.opened) named))
