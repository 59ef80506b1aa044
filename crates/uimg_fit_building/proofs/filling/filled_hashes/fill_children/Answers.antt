use Rattle.std.proofs.Common.{rules, ◌≡◌, ◌<◌, length, get_or, arith, ap, subst, sym, true, ◌∙◌}
use Rattle.std.proofs.Math.ListN.{length-set}
use Rattle.uimg_blob_reading.specs.Roles.{is_hash}
use Rattle.uimg_blob_writing.specs.declared.tree.Node.{Node}
use Rattle.uimg_fit_building.specs.{Behind.entry, ImageFillings.hashed_in, PayloadSums.CoversHash}
use Rattle.uimg_fit_building.specs.DigestBytes.{zeroed_child}
use Rattle.uimg_fit_base.specs.AlgoSets.{set_of}
use Rattle.uimg_fit_building.proofs.EachLaws.{same-at, rest-more, changed-more, changed-all, agree-more, agree-all}
use Rattle.uimg_fit_building.proofs.{FilledHashLaws.covered-at, DigestBytesLaws.each-agrees}
use Rattle.uimg_fit_building.proofs.ImageFillLaws.{siblings-each}
use Rattle.uimg_fit_building.proofs.filling.filled_hashes.fill_children.Goals as goal

pub loop-node-preserved : goal.loop-node-preserved
loop-node-preserved g c =
    let old = c.args.nodes.now in
    let set = set_of c.args.digests.now in
    let now = c.loop-node.nodes in
    let i = c.loop-node.node-index in
    let d = c.node-item.result in
    let child = get_or now i d in
    let in_now : i < length now = omega arith in
    let in_old : i < length old = omega (arith, c.loop-node.invariant.long) in
    record {
      long = length-set now i c.fill_child.new.node ∙ c.loop-node.invariant.long;
      changed = λ message all covered.
          let was = c.loop-node.invariant.changed message all covered in
          let here : child ≡ get_or old i d = same-at entry (hashed_in c.args.naming message) old now i d in_old in_now was.rest in
          let covers : is_hash child.name ≡ true → CoversHash c.args.naming set (entry child) =
          λ is. subst (λ (n : Node _). CoversHash c.args.naming set (entry n)) (sym here) (covered-at c.args.naming set old i d in_old covered (subst (λ (n : Node _). is_hash n.name ≡ true) here is)) in
          changed-more entry (hashed_in c.args.naming message) old now i d c.fill_child.new.node in_old in_now was
          (c.in_ok-fill_child.ensures.filled message all covers ∙ ap (λ (n : Node _). hashed_in c.args.naming message (entry n)) here);
      rest = rest-more old now i d c.fill_child.new.node in_old in_now c.loop-node.invariant.rest;
      zeroed = λ message.
          let here : child ≡ get_or old i d = same-at entry (hashed_in c.args.naming message) old now i d in_old in_now c.loop-node.invariant.rest in
          agree-more (λ (n : Node _). zeroed_child c.args.naming (entry n)) (λ (n : Node _). zeroed_child c.args.naming (hashed_in c.args.naming message (entry n))) old now i d c.fill_child.new.node in_old in_now
          (c.loop-node.invariant.zeroed message) (c.in_ok-fill_child.ensures.rest message ∙ ap (λ (n : Node _). zeroed_child c.args.naming (hashed_in c.args.naming message (entry n))) here);
    }

pub returns : goal.returns
returns g c =
    let old = c.args.nodes.now in
    let now = c.loop-node.nodes in
    let i = c.loop-node.node-index in
    let s = c.loop-node.invariant in
    record {
      filled = λ message all covered. siblings-each (hashed_in c.args.naming message) old now
          (changed-all entry (hashed_in c.args.naming message) old now i (omega (arith, s.long)) (omega arith) (s.changed message all covered));
      rest = λ message. each-agrees (zeroed_child c.args.naming) (hashed_in c.args.naming message) old now
          (agree-all (λ (n : Node _). zeroed_child c.args.naming (entry n)) (λ (n : Node _). zeroed_child c.args.naming (hashed_in c.args.naming message (entry n))) old now i
          (omega (arith, s.long)) (omega arith) (s.zeroed message));
      memory = search rules;
    }
