use Rattle.std.{proofs.Common.{ℕ, List, subst, length, arith}, specs.Prelude.is_err}
use Rattle.uimg_base.specs.Writing.{Written}
use Rattle.uimg_blob_reading.specs.Roles.{in_image}
use Rattle.uimg_fit_reading.proofs.{CompareLaws.keeps_algo, LineLaws.{line_is, algo_long}}
use Rattle.uimg_fit_reading.proofs.report.judging.put_judged.Goals as goal

pub returns-clause-told : goal.returns-clause-told
returns-clause-told g c = λ t o found more at.
    let file = (g.S.Source.device c.args.fit.now.source.now).bytes in
    let name = c.name_of.ensures.name file t o.read in_image found at.node in
    let algo = c.value_of.ensures.bytes file t o.read in_image found at.node (keeps_algo found.name at.named) in
    let inside = c.value_of.ensures.inside (length file) c.requires.node.file in
    record {
      asked = omega (
        arith,
        c.put_hash_line.ensures.uses.asked,
        c.name_of.ensures.short file t o.read in_image found at.node,
        algo_long file c.value_of.result found inside algo,
      );
      written = subst (λ (w : List ℕ). Written (is_err c.put_hash_line.result) c.args.out.now c.put_hash_line.new.out w)
          (line_is file _ found name algo) (c.put_hash_line.ensures.told o.honest);
    }
