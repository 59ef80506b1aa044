use Rattle.std.proofs.Common.{◌∙◌, sym, subst, ℕ, List, Option, Some, IsTrue, ap, append_assoc, ◌++◌, codes}
use Rattle.std.specs.String.{string_bytes}
use Rattle.uimg_map.specs.declared.{contents.Label.Label, map.Standing.Standing}
use Rattle.uimg_map.specs.Labels.{Names, Stands, outside_text}
use Rattle.uimg_map.proofs.texts.thing_text.Goals as goal

pub returns-clause-tells : goal.returns-clause-tells
returns-clause-tells g c = λ h.
    let device = g.S.Source.device in
    let file = (device c.args.source.now).bytes in
    let name = string_bytes c.in_ok-name.name in
    let other = string_bytes c.in_ok-other-in-Overlapping.other in
    let text = string_bytes c.in_ok-format-in-Overlapping.field-0 in
    let end = outside_text c.args.map.now.size c.args.thing in
    let same = c.in_ok-name.ensures.uses.same in
    let honest = subst IsTrue (sym same.honest) h in
    let names = subst (λ (l : Option Label). Names file l name) c.label_of.ensures (c.in_ok-name.ensures.tells h) in
    let others = subst (λ (f : List ℕ). Names f (Some c.in-Overlapping.other) other) same.bytes (c.in_ok-other-in-Overlapping.ensures.tells honest) in
    record {
      name = name;
      names = names;
      stands = subst (λ (s : Standing). Stands file s name (outside_text c.args.map.now.size c.args.thing) text) (sym c.in-Overlapping.is ∙ c.standing_of.ensures) (
        other,
        others,
        c.in_ok-format-in-Overlapping.ensures.ok
            ∙ ap (λ (t : List ℕ). name ++ (codes ", overlaps " ++ (other ++ t))) c.outside_text-outside.ensures
            ∙ sym (append_assoc name (codes ", overlaps ") (other ++ end)) ∙ sym (append_assoc (name ++ codes ", overlaps ") other end),
      );
    }
