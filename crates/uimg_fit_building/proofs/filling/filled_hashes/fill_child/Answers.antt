use Rattle.std.proofs.Common.{rules, ◌∙◌, ap, sym}
use Rattle.uimg_blob_reading.specs.Roles.{is_hash}
use Rattle.uimg_fit_building.specs.Behind.{entry}
use Rattle.uimg_fit_building.proofs.{FilledHashLaws.on-ok, DigestBytesLaws.child-zeroed}
use Rattle.uimg_fit_building.proofs.filling.filled_hashes.fill_child.Goals as goal

pub returns-then-is_hash : goal.returns-then-is_hash
returns-then-is_hash g c = record {
  filled = search rules;
  rest = λ message. on-ok c.fill_hash.result (λ same. child-zeroed c.args.naming message (entry c.args.node.now) (entry c.fill_hash.new.node) (ap is_hash (sym c.items.ensures) ∙ sym c.is_hash.ensures ∙ c.if-is_hash.true) same)
      (c.fill_hash.ensures.rest message);
  memory = c.fill_hash.ensures.memory;
}
