use Rattle.std.proofs.Common.{◌++◌, List, ℕ, refl, is_err, sym, subst, append-nil, arith, codes}
use Rattle.uimg_blob_reading.specs.Roles.{in_configurations}
use Rattle.uimg_texts.specs.declared.naming.Naming.{Naming}
use Rattle.uimg_fit_reading.specs.{Allowances.node_allowance, Listing.configuration_lines}
use Rattle.uimg_fit_reading.specs.Rows.{no_facts, profile_configuration_rows, rows_lines, title}
use Rattle.uimg_fit_reading.specs.Telling.{ListsBetween}
use Rattle.uimg_fit_reading.proofs.{SharesLaws.{two_texts, one_text}, TellingLaws.more_lists}
use Rattle.uimg_fit_reading.proofs.listing.listed_nodes.put_configuration.Goals as goal
use Rattle.uimg_texts.specs.declared.naming.Naming.{TheVariants.{Profile, All}}

pub returns-in-Profile-clause-told : goal.returns-in-Profile-clause-told
returns-in-Profile-clause-told g c = λ t o found n.
    let d = g.S.Source.device c.args.fit.now.source.now in
    let f = g.S.Source.device c.put_node.new.fit.source.now in
    let e = is_err c.put_node.result in
    let before = title (codes " Configuration ") c.args.at.number found.name in
    let rows = rows_lines no_facts found.own profile_configuration_rows in
    subst (λ (s : Naming). ListsBetween e (node_allowance s found) d f c.args.out.now c.put_node.new.out (configuration_lines s c.args.at.number found)) (sym c.in-Profile.is)
    (subst (λ (w : List ℕ). ListsBetween e (node_allowance Profile found) d f c.args.out.now c.put_node.new.out (before ++ w)) (sym (append-nil rows))
    (more_lists e _ (node_allowance Profile found) d f c.args.out.now c.put_node.new.out _ (omega (arith, two_texts Profile found.own (codes "description") (codes "kernel") refl refl refl, two_texts Profile found.own (codes "ramdisk") (codes "fdt") refl refl refl, one_text Profile found.own (codes "loadables") refl)) (c.put_node.ensures.told t o in_configurations found n refl)))

pub returns-in-All-clause-told : goal.returns-in-All-clause-told
returns-in-All-clause-told g c = λ t o found n.
    let d = g.S.Source.device c.args.fit.now.source.now in
    let f = g.S.Source.device c.put_any_configuration.new.fit.source.now in
    subst (λ (s : Naming). ListsBetween (is_err c.put_any_configuration.result) (node_allowance s found) d f c.args.out.now c.put_any_configuration.new.out (configuration_lines s c.args.at.number found)) (sym c.in-All.is)
    (c.put_any_configuration.ensures.told t o found n)
