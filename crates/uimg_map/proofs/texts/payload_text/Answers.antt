use Rattle.std.proofs.Common.{◌≡◌, ◌++◌, ◌∙◌, IsTrue, List, Option, ap, append-nil, codes, subst, sym, ℕ}
use Rattle.std.specs.String.{string_bytes}
use Rattle.uimg_base.specs.declared.spans.Span.{Span}
use Rattle.uimg_map.specs.Labels.{covered_text, name_text}
use Rattle.uimg_map.proofs.texts.payload_text.Goals as goal

pub returns-in-Some-clause-tells : goal.returns-in-Some-clause-tells
returns-in-Some-clause-tells g c = λ h.
    let file = (g.S.Source.device c.args.source.now).bytes in
    let name = name_text file c.args.name in
    let same = c.in_ok-image.ensures.uses.same in
    let configuration = string_bytes c.in_ok-configuration-in-Some.configuration in
    let covered = subst (λ (f : List ℕ). configuration ≡ name_text f c.in-Some.covered) same.bytes (c.in_ok-configuration-in-Some.ensures.tells (subst IsTrue (sym same.honest) h)) in
    c.in_ok-format-in-Some.ensures.ok
    ∙ ap (λ (l : List ℕ). codes "payload of " ++ (l ++ (codes ", covered by " ++ configuration))) (c.in_ok-image.ensures.tells h)
    ∙ ap (λ (l : List ℕ). codes "payload of " ++ (name ++ (codes ", covered by " ++ l))) covered
    ∙ ap (λ (o : Option Span). codes "payload of " ++ (name ++ covered_text file o)) (sym c.in-Some.is)

pub returns-clause-tells : goal.returns-clause-tells
returns-clause-tells g c = λ h.
    let file = (g.S.Source.device c.args.source.now).bytes in
    let name = name_text file c.args.name in
    c.in_ok-format-in-None.ensures.ok
    ∙ ap (λ (l : List ℕ). codes "payload of " ++ l) (c.in_ok-image.ensures.tells h ∙ sym (append-nil name))
    ∙ ap (λ (o : Option Span). codes "payload of " ++ (name ++ covered_text file o)) (sym c.in-None.is)
