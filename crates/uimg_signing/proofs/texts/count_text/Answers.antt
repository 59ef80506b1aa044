use Rattle.std.proofs.Common.{rules, ◌≡◌, ◌+◌, ◌<◌, length, drop, Some, None, bytes_eq, refl, sym}
use Rattle.uimg_texts.specs.Nul.{before_nul}
use Rattle.uimg_signing.specs.Texts.{count_text}
use Rattle.uimg_signing.proofs.LookLaws.{looks_more, looks_end, few_more}
use Rattle.uimg_signing.proofs.texts.count_text.Goals as goal

pub loop-text-preserved : goal.loop-text-preserved
loop-text-preserved c =
    let now = c.loop-text in
    let is : before_nul now.rest.now ≡ Some c.in-Some.text.now = search rules in
    let more : c.in-Some.more.now ≡ drop (length c.in-Some.text.now + 1) now.rest.now = search rules in
    let within : length c.in-Some.text.now < length now.rest.now = search rules in
    record {
      few = few_more now.rest.now c.in-Some.text.now c.in-Some.more.now now.found _ (length c.args.bytes.now) (bytes_eq c.in-Some.text.now c.args.wanted.now) more within (search rules) now.invariant.few;
      left = looks_more now.rest.now c.args.wanted.now c.in-Some.text.now c.in-Some.more.now now.found _ (count_text c.args.bytes.now c.args.wanted.now) now.invariant.left.fuel now.invariant.left refl is more within (search rules);
    }

pub returns-then-is_empty-clause-count : goal.returns-then-is_empty-clause-count
returns-then-is_empty-clause-count c =
    let now = c.loop-text in
    let is : before_nul now.rest.now ≡ None = search rules in
    looks_end now.rest.now c.args.wanted.now now.found (count_text c.args.bytes.now c.args.wanted.now) now.invariant.left.fuel _ now.invariant.left refl is (sym c.if-is_empty.ensures)

pub returns-clause-count : goal.returns-clause-count
returns-clause-count c =
    let now = c.loop-text in
    let is : before_nul now.rest.now ≡ None = search rules in
    looks_end now.rest.now c.args.wanted.now now.found (count_text c.args.bytes.now c.args.wanted.now) now.invariant.left.fuel _ now.invariant.left refl is (sym c.if-is_empty.ensures)
