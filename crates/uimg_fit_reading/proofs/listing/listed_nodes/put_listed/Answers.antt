use Rattle.std.proofs.Common.{is_err, sym, subst}
use Rattle.uimg_fit_reading.specs.{declared.listing.listed_nodes.Listed.Listed, Nodes.IsNode}
use Rattle.uimg_fit_reading.specs.{Allowances.node_allowance, NodeLines.{level_of, node_lines}}
use Rattle.uimg_fit_reading.specs.Telling.{ListsBetween}
use Rattle.uimg_fit_reading.proofs.listing.listed_nodes.put_listed.Goals as goal
use Rattle.uimg_fit_reading.specs.NodeLines.{naming_of}

pub returns-in-Image-clause-told : goal.returns-in-Image-clause-told
returns-in-Image-clause-told g c = λ t o found n.
    let d = g.S.Source.device c.args.fit.now.source.now in
    subst (λ (k : Listed). ListsBetween (is_err c.put_image.result) (node_allowance (naming_of k) found) d (g.S.Source.device c.put_image.new.fit.source.now) c.args.out.now c.put_image.new.out (node_lines d.bytes k c.args.at.number found))
    (sym c.in-Image.is) (c.put_image.ensures.told t o found (subst (λ (k : Listed). IsNode t (level_of k) c.args.at.node found) c.in-Image.is n))

pub returns-in-Configuration-clause-told : goal.returns-in-Configuration-clause-told
returns-in-Configuration-clause-told g c = λ t o found n.
    let d = g.S.Source.device c.args.fit.now.source.now in
    subst (λ (k : Listed). ListsBetween (is_err c.put_configuration.result) (node_allowance (naming_of k) found) d (g.S.Source.device c.put_configuration.new.fit.source.now) c.args.out.now c.put_configuration.new.out (node_lines d.bytes k c.args.at.number found))
    (sym c.in-Configuration.is) (c.put_configuration.ensures.told t o found (subst (λ (k : Listed). IsNode t (level_of k) c.args.at.node found) c.in-Configuration.is n))
