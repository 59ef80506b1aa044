use Rattle.std.proofs.Common.{rules, ◌≡◌, ◌∙◌, List, None, ap, subst, sym, length}
use Rattle.std.specs.List.{All}
use Rattle.uimg_map.specs.Signing.{first_from}
use Rattle.uimg_map.proofs.SigningLaws.{all_below}
use Rattle.uimg_signing.specs.SignatureNodes.{IsBelow}
use Rattle.uimg_signing.specs.declared.configuration_signatures.SignatureNode.{SignatureNode}
use Rattle.uimg_map.proofs.signing.signing_nodes.Goals as goal

pub returns-clause-inside : goal.returns-clause-inside
returns-clause-inside g c =
    let P = All (IsBelow (length c.args.room.now.entries)) in
    let all = c.in_ok-all.all.items in
    let slice : c.as_slice.result.now ≡ all = search rules in
    subst (λ (l : List SignatureNode). P l) (sym (c.in_ok-nodes.ensures ∙ ap (λ (l : List SignatureNode). first_from None l) slice))
    (all_below (length c.args.room.now.entries) None all c.in_ok-all.ensures.inside)
