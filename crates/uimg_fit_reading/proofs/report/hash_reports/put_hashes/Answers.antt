use Rattle.std.proofs.Common.{rules, refl, ◌∙◌, ◌&&◌, ℕ, List, Option, Bool, true, false, subst, sym, Err}
use Rattle.uimg_texts.specs.Slices.{slice}
use Rattle.uimg_base.specs.Writing.{Written}
use Rattle.uimg_fit_base.specs.{AlgoSets.set_of, Report.hash_line}
use Rattle.uimg_texts.specs.declared.naming.Naming.TheVariants.{Profile}
use Rattle.uimg_fit_reading.specs.Nodes.{HashesAt}
use Rattle.uimg_fit_reading.proofs.OpenedLaws.{kept, kept_then, stays}
use Rattle.uimg_fit_reading.proofs.PassedLaws.{failed_of, leaves_stops, leaves_then}
use Rattle.uimg_fit_reading.proofs.HashReportLaws.{LinesLeft, lines_first, lines_more, lines_cut, lines_all, covered_first}
use Rattle.uimg_fit_reading.proofs.report.hash_reports.put_hashes.Goals as goal

pub loop-next-init : goal.loop-next-init
loop-next-init g c = record {
  keeps = kept;
  faults = refl;
  within = search rules;
  left = λ t o hs at message are covered. lines_first t _ _ message c.args.image.length hs _ c.args.out.now c.args.first at covered;
}

pub returns-in_err-word-clause-told : goal.returns-in_err-word-clause-told
returns-in_err-word-clause-told g c = λ t o hs at message are covered.
    let d = g.S.Source.device in
    let image = c.args.image in
    let set = set_of c.args.digests.now in
    let k = c.loop-next.invariant.left t o hs at message are covered in
    let keeps = c.loop-next.invariant.keeps in
    let here = stays keeps o in
    let f = subst (λ (x : Option ℕ). HashesAt t x k.left) c.in-Some.is k.at in
    let failed = failed_of c.from_residual.result c.from_residual.ensures.0 in
    let put = c.in_err-word.ensures.told t here f.hash f.more f.at message are (covered_first Profile set k.left t c.in-Some.hash f k.covered).0 in
    let written = subst (λ (xs : List ℕ). Written true c.loop-next.out c.put_hash.new.out (hash_line (slice xs image.place image.length) message f.hash)) keeps.uses.same.bytes put.written in
    lines_cut t set _ message image.length hs _ _ c.args.out.now c.loop-next.out c.loop-next.are_right c.loop-next.next c.in-Some.hash k f c.put_hash.new.out _
    c.from_residual.result failed written put.paid

pub loop-next-preserved : goal.loop-next-preserved
loop-next-preserved g c = record {
  keeps = kept_then c.loop-next.invariant.keeps c.in_ok-word.ensures.leaves.keeps;
  faults = c.in_ok-word.ensures.leaves.faults ∙ c.loop-next.invariant.faults;
  within = search rules;
  left = λ t o hs at message are covered.
      let d = g.S.Source.device in
      let image = c.args.image in
      let set = set_of c.args.digests.now in
      let k = c.loop-next.invariant.left t o hs at message are covered in
      let keeps = c.loop-next.invariant.keeps in
      let here = stays keeps o in
      let f = subst (λ (x : Option ℕ). HashesAt t x k.left) c.in-Some.is k.at in
      let put = c.in_ok-word.ensures.told t here f.hash f.more f.at message are (covered_first Profile set k.left t c.in-Some.hash f k.covered).0 in
      let name = slice (d c.args.fit.now.source.now).bytes image.place image.length in
      let written = subst (λ (xs : List ℕ). Written false c.loop-next.out c.put_hash.new.out (hash_line (slice xs image.place image.length) message f.hash)) keeps.uses.same.bytes put.written in
      let indexed = (stays c.put_hash.ensures.leaves.keeps here).read.indexed in
      let more = lines_more t set name message image.length hs _ _ c.args.out.now c.loop-next.out c.loop-next.are_right c.loop-next.next c.in-Some.hash k f c.in_ok-word.word c.put_hash.new.out c.next_hash-next.result _
      put.word written put.paid (c.next_hash-next.ensures.hashes t indexed f.hash f.more f.at) in
      subst (λ (b : Bool). LinesLeft t set name message image.length hs (d c.args.fit.now.source.now).asked (d c.put_hash.new.fit.source.now).asked c.args.out.now c.put_hash.new.out (c.loop-next.are_right && b) c.next_hash-next.result)
      (sym c.is_right-are_right.ensures) more;
}

pub returns-clause-told : goal.returns-clause-told
returns-clause-told g c = λ t o hs at message are covered.
    lines_all t _ _ message c.args.image.length hs _ _ c.args.out.now c.loop-next.out c.loop-next.are_right c.loop-next.next (search rules)
    (c.loop-next.invariant.left t o hs at message are covered)

pub returns-in_err-word-clause-leaves : goal.returns-in_err-word-clause-leaves
returns-in_err-word-clause-leaves g c =
    let k = c.loop-next.invariant in
    leaves_stops _ _ c.from_residual.ensures.1
    (leaves_then {X = Unit} tt (Err c.in_err-word.field-0.0) (record { keeps = k.keeps; faults = k.faults }) c.in_err-word.ensures.leaves)
