use Rattle.std.proofs.Common.{rules, ◌∙◌, List, ap, sym, codes}
use Rattle.uimg_blob_reading.specs.{Plain.NamedOf, LookUps.NodeOf}
use Rattle.uimg_blob_writing.specs.{Content.Content, Properties.content}
use Rattle.uimg_fit_base.specs.AlgoSets.{set_of}
use Rattle.uimg_fit_building.specs.{Behind.entry, Filling.with, DigestBytes.zeroed_hash}
use Rattle.uimg_fit_building.proofs.{DigestBytesLaws.hash-zeroed, FilledHashLaws.hash-filled}
use Rattle.uimg_fit_building.proofs.filling.filled_hashes.fill_hash.Goals as goal

pub returns : goal.returns
returns g c =
    let h = entry c.args.node.now in
    let value = content c.in_ok-value.value in
    let known = sym c.algo_of.ensures ∙ c.in-Some.is in
    let own = c.in_ok-node.ensures.made ∙ ap (λ (l : List (NamedOf Content)). with (codes "value") value l) c.replace-props.ensures.value in
    record {
      filled = λ message all covered. ap (λ (l : List (NamedOf Content)). let n : NodeOf Content = record h { own = l } in n) own
          ∙ hash-filled c.args.naming (set_of c.args.digests.now) h c.in-Some.algo value message known covered (c.in_ok-value.ensures.digest message all);
      rest = λ message. ap (λ (l : List (NamedOf Content)). let n : NodeOf Content = record h { own = l } in zeroed_hash c.args.naming n) own
          ∙ hash-zeroed c.args.naming h c.in-Some.algo known value message (c.in_ok-value.ensures.rest message);
      memory = search rules;
    }
