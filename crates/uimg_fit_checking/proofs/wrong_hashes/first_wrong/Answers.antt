use Rattle.std.proofs.Common.{rules, ◌≡◌, ℕ, Option, true, false, refl, subst}
use Rattle.std.specs.Prelude.{is_err}
use Rattle.uimg_blob_reading.specs.Roles.{in_image}
use Rattle.uimg_texts.specs.declared.naming.Naming.TheVariants as naming
use Rattle.uimg_fit_base.specs.AlgoSets.{set_of}
use Rattle.uimg_fit_base.specs.Report.{is_right}
use Rattle.uimg_fit_reading.specs.Nodes.{HashesAt}
use Rattle.uimg_fit_reading.proofs.OpenedLaws.{still}
use Rattle.uimg_fit_checking.proofs.CheckLaws.{rights_first, rights_more, rights_cut, rights_end, rights_all}
use Rattle.uimg_fit_reading.proofs.HashReportLaws.{covered_first}
use Rattle.uimg_fit_checking.proofs.wrong_hashes.first_wrong.Goals as goal

pub loop-next-init : goal.loop-next-init
loop-next-init g c = record {
  same = search rules;
  failures = search rules;
  within = search rules;
  left = λ t o hs at message are covered. rights_first t _ message hs _ c.args.first at covered;
}

pub returns-in_err-word-clause-told : goal.returns-in_err-word-clause-told
returns-in_err-word-clause-told g c = λ t o hs at message are covered.
    let k = c.loop-next.invariant.left t o hs at message are covered in
    let f = subst (λ (x : Option ℕ). HashesAt t x k.left) c.in-Some.is k.at in
    let failed : is_err c.from_residual.result ≡ true = search rules in
    rights_cut t _ _ message hs _ _ c.in-Some.hash c.loop-next.next k f _ c.from_residual.result c.judge.ensures.uses.asked failed

pub returns-then-not-is_right-clause-told : goal.returns-then-not-is_right-clause-told
returns-then-not-is_right-clause-told g c = λ t o hs at message are covered.
    let set = set_of c.args.digests.now in
    let k = c.loop-next.invariant.left t o hs at message are covered in
    let f = subst (λ (x : Option ℕ). HashesAt t x k.left) c.in-Some.is k.at in
    let here = still c.loop-next.invariant.same refl o in
    let word = c.in_ok-word.ensures.word t here f.hash f.more f.at message are (covered_first naming.All set k.left t c.in-Some.hash f k.covered).0 in
    let bad : is_right c.in_ok-word.word ≡ false = search rules in
    rights_end t set _ message hs _ _ c.in-Some.hash c.loop-next.next c.name_of-hash.result k f c.in_ok-word.word _ word bad
    (c.name_of-hash.ensures.name _ t o.read in_image f.hash f.at.node) (c.name_of-hash.ensures.short _ t o.read in_image f.hash f.at.node) c.judge.ensures.uses.asked

pub loop-next-preserved : goal.loop-next-preserved
loop-next-preserved g c = record {
  same = search rules;
  failures = search rules;
  within = search rules;
  left = λ t o hs at message are covered.
      let set = set_of c.args.digests.now in
      let k = c.loop-next.invariant.left t o hs at message are covered in
      let f = subst (λ (x : Option ℕ). HashesAt t x k.left) c.in-Some.is k.at in
      let here = still c.loop-next.invariant.same refl o in
      let word = c.in_ok-word.ensures.word t here f.hash f.more f.at message are (covered_first naming.All set k.left t c.in-Some.hash f k.covered).0 in
      let good : is_right c.in_ok-word.word ≡ true = search rules in
      rights_more t set message hs _ _ c.in-Some.hash c.loop-next.next k f c.in_ok-word.word _ _ word good c.judge.ensures.uses.asked
      (c.next_hash-next.ensures.hashes t o.read.indexed f.hash f.more f.at);
}

pub returns-clause-told : goal.returns-clause-told
returns-clause-told g c = λ t o hs at message are covered.
    rights_all t _ _ message hs _ _ c.loop-next.next (search rules) (c.loop-next.invariant.left t o hs at message are covered)
