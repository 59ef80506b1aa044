use Rattle.std.proofs.Common.{◌+◌, ◌*◌, ℕ, List, Option, true, false, refl, is_err, codes, sym, subst, arith}
use Rattle.std.specs.List.{sum_by}
use Rattle.uimg_base.specs.Writing.{Written}
use Rattle.uimg_blob_reading.specs.{LookUps.{NodeOf, listed}, Roles.Level, Spots.Spot}
use Rattle.uimg_fit_reading.specs.{Allowances.{text_sizes, node_allowance}, Heads.default_line}
use Rattle.uimg_fit_reading.specs.{ListingParts.configurations_allowance, Nodes.AreFrom}
use Rattle.uimg_fit_reading.specs.Telling.{ListsBetween}
use Rattle.uimg_fit_base.specs.Files.{value_bytes}
use Rattle.uimg_fit_reading.specs.Listing.{configuration_lines, configurations_lines, numbered_lines}
use Rattle.uimg_fit_reading.proofs.{OpenedLaws.still, PutLaws.cut}
use Rattle.uimg_fit_reading.proofs.{SharesLaws.{one_text, always_text, children_allowed}, WithinLaws.value_size}
use Rattle.uimg_fit_reading.proofs.TellingLaws.{then_lists, more_lists}
use Rattle.uimg_fit_reading.proofs.PassedLaws.{failed_of, leaves_stops, leaves_then, puts_leave}
use Rattle.uimg_fit_reading.proofs.listing.put_configurations.Goals as goal

pub returns-in_err-put_default-clause-told : goal.returns-in_err-put_default-clause-told
returns-in_err-put_default-clause-told g c = λ t o.
    let failed = failed_of c.from_residual.result c.from_residual.ensures.0 in
    let d = g.S.Source.device c.args.fit.now.source.now in
    let m = g.S.Source.device c.put_default.new.source in
    let h = c.in-Some.ensures.told t o.read.indexed in
    let value = c.value_of-default.ensures.bytes d.bytes t o.read h.level h.found h.node h.keeps in
    let size = value_size h.found.own (codes "default") _ (c.value_of-default.ensures.span t o.read.indexed h.level h.found h.node h.keeps) in
    let few = one_text c.args.naming h.found.own (codes "default") (always_text c.args.naming (codes "default") refl) in
    let told = subst (λ (v : Option (List ℕ)). Written true c.args.out.now c.put_default.new.out (default_line v)) (sym value) (c.in_err-put_default.ensures.told o.honest) in
    rw failed (subst (λ (o : Option (NodeOf Spot)). ListsBetween true (configurations_allowance c.args.naming o) d m c.args.out.now c.put_default.new.out (configurations_lines c.args.naming o)) (sym h.is)
    (record {
      asked = omega (arith, c.put_default.ensures.uses.asked, size, few);
      written = cut c.args.out.now c.put_default.new.out (default_line (value_bytes h.found.own (codes "default"))) (numbered_lines (configuration_lines c.args.naming) 0 (listed h.found.below)) told;
    }))

pub returns-clause-told : goal.returns-clause-told
returns-clause-told g c = λ t o.
    let d = g.S.Source.device c.args.fit.now.source.now in
    let m = g.S.Source.device c.put_default.new.source in
    let f = g.S.Source.device c.put_listed_nodes.new.fit.source.now in
    let e = is_err c.put_listed_nodes.result in
    let same = c.put_default.ensures.uses.same in
    let here = still same c.put_default.ensures.room o in
    let h = c.in-Some.ensures.told t o.read.indexed in
    let value = c.value_of-default.ensures.bytes d.bytes t o.read h.level h.found h.node h.keeps in
    let size = value_size h.found.own (codes "default") _ (c.value_of-default.ensures.span t o.read.indexed h.level h.found h.node h.keeps) in
    let few = one_text c.args.naming h.found.own (codes "default") (always_text c.args.naming (codes "default") refl) in
    let told = subst (λ (v : Option (List ℕ)). Written false c.args.out.now c.put_default.new.out (default_line v)) (sym value) (c.in_ok-put_default.ensures.told o.honest) in
    let head : ListsBetween false (760 + 4 * text_sizes c.args.naming h.found.own) d m c.args.out.now c.put_default.new.out (default_line (value_bytes h.found.own (codes "default"))) =
    record { asked = omega (arith, c.put_default.ensures.uses.asked, size, few); written = told } in
    let from = subst (λ (l : Level). AreFrom t l c.child_of-first.result (listed h.found.below)) h.children (c.child_of-first.ensures.children t here.read.indexed h.level h.found h.node) in
    let tail = c.put_listed_nodes.ensures.told t here (listed h.found.below) from in
    subst (λ (o : Option (NodeOf Spot)). ListsBetween e (configurations_allowance c.args.naming o) d f c.args.out.now c.put_listed_nodes.new.out (configurations_lines c.args.naming o)) (sym h.is)
    (more_lists e _ (node_allowance c.args.naming h.found) d f c.args.out.now c.put_listed_nodes.new.out _ (omega (arith, children_allowed c.args.naming h.found))
    (then_lists e (760 + 4 * text_sizes c.args.naming h.found.own) (sum_by (node_allowance c.args.naming) (listed h.found.below)) d m f c.args.out.now c.put_default.new.out c.put_listed_nodes.new.out
    (default_line (value_bytes h.found.own (codes "default"))) (numbered_lines (configuration_lines c.args.naming) 0 (listed h.found.below)) head tail))

pub returns-in_err-put_default-clause-leaves : goal.returns-in_err-put_default-clause-leaves
returns-in_err-put_default-clause-leaves g c = leaves_stops _ _ c.from_residual.ensures.1 (puts_leave (record { source = refl; blob = refl; room = refl }) c.in_err-put_default.ensures)

pub returns-clause-leaves : goal.returns-clause-leaves
returns-clause-leaves g c = leaves_then tt _ (puts_leave (record { source = refl; blob = refl; room = refl }) c.in_ok-put_default.ensures) c.put_listed_nodes.ensures.leaves
