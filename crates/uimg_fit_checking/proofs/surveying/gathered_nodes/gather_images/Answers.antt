use Rattle.std.proofs.Common.{rules, ℕ, List, Option, Some, sym, subst}
use Rattle.std.specs.List.{All}
use Rattle.std.proofs.lemmas.List.Elements.{All-push}
use Rattle.uimg_blob_reading.specs.LookUps.{NodeOf}
use Rattle.uimg_blob_reading.specs.Roles.{in_images}
use Rattle.uimg_blob_reading.specs.Spots.{Spot}
use Rattle.uimg_fit_checking.specs.declared.surveying.facts.ImageFacts.{ImageFacts}
use Rattle.uimg_fit_reading.specs.Nodes.{AreFrom}
use Rattle.uimg_fit_checking.specs.Survey.{image_said, read_image}
use Rattle.uimg_fit_checking.specs.SurveyParts.{ImageInside}
use Rattle.uimg_fit_reading.proofs.ImageLaws.{front, none_left}
use Rattle.uimg_fit_checking.proofs.SurveyLaws.{one_gathered, all_gathered}
use Rattle.uimg_fit_checking.proofs.surveying.gathered_nodes.gather_images.Goals as goal

pub loop-next-preserved : goal.loop-next-preserved
loop-next-preserved g c = record {
  within = search rules;
  inside = λ size ends.
      subst (λ (l : List ImageFacts). All (ImageInside size) l) (sym c.in_ok-push.ensures.items)
      (All-push (ImageInside size) c.loop-next.facts.items c.in_ok-image_facts.field-0 (c.loop-next.invariant.inside size ends) (c.in_ok-image_facts.ensures.inside size ends));
  left = λ file t read all from.
      let k = c.loop-next.invariant.left file t read all from in
      let begins = subst (λ (o : Option ℕ). AreFrom t in_images o k.left) c.in-Some.is k.at in
      let f = front t in_images c.in-Some.image k.left begins in
      one_gathered (AreFrom t in_images) (read_image file) image_said all c.loop-next.facts.items _ c.in_ok-image_facts.field-0 _ _ k f.image f.more f.are
      (c.in_ok-image_facts.ensures.said file t read f.image f.node) c.in_ok-push.ensures.items
      (c.next_of-next.ensures.next t read.indexed in_images f.image f.more (subst (λ (l : List (NodeOf Spot)). AreFrom t in_images (Some c.in-Some.image) l) f.are begins));
}

pub returns-clause-said : goal.returns-clause-said
returns-clause-said g c = λ file t read all from.
    let k = c.loop-next.invariant.left file t read all from in
    let ended = none_left t in_images k.left (subst (λ (o : Option ℕ). AreFrom t in_images o k.left) c.in_default.is k.at) in
    all_gathered (AreFrom t in_images) (read_image file) image_said all c.loop-next.facts.items _ k ended
