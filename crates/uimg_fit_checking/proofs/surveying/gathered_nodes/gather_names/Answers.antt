use Rattle.std.proofs.Common.{rules, ℕ, List, Option, Some, sym, subst}
use Rattle.std.specs.List.{All}
use Rattle.std.proofs.lemmas.List.Elements.{All-push}
use Rattle.uimg_base.specs.declared.spans.Span.{Span}
use Rattle.uimg_blob_reading.specs.LookUps.{NodeOf}
use Rattle.uimg_blob_reading.specs.Roles.{in_image}
use Rattle.uimg_blob_reading.specs.Spots.{Spot}
use Rattle.uimg_fit_reading.specs.Nodes.{AreFrom}
use Rattle.uimg_fit_checking.specs.Survey.{name_of_node, read_name}
use Rattle.uimg_fit_checking.specs.SurveyParts.{NameInside}
use Rattle.uimg_fit_reading.proofs.ImageLaws.{front, none_left}
use Rattle.uimg_fit_checking.proofs.SurveyLaws.{one_gathered, all_gathered}
use Rattle.uimg_fit_checking.proofs.surveying.gathered_nodes.gather_names.Goals as goal

pub loop-next-preserved : goal.loop-next-preserved
loop-next-preserved g c = record {
  within = search rules;
  inside = λ size ends.
      subst (λ (l : List Span). All (NameInside size) l) (sym c.in_ok-push.ensures.items)
      (All-push (NameInside size) c.loop-next.names.items c.name_of.result (c.loop-next.invariant.inside size ends) (c.name_of.ensures.inside size ends));
  left = λ file t read all from.
      let k = c.loop-next.invariant.left file t read all from in
      let begins = subst (λ (o : Option ℕ). AreFrom t in_image o k.left) c.in-Some.is k.at in
      let f = front t in_image c.in-Some.node k.left begins in
      one_gathered (AreFrom t in_image) (read_name file) name_of_node all c.loop-next.names.items _ c.name_of.result _ _ k f.image f.more f.are
      (c.name_of.ensures.name file t read in_image f.image f.node) c.in_ok-push.ensures.items
      (c.next_of-next.ensures.next t read.indexed in_image f.image f.more (subst (λ (l : List (NodeOf Spot)). AreFrom t in_image (Some c.in-Some.node) l) f.are begins));
}

pub returns-clause-said : goal.returns-clause-said
returns-clause-said g c = λ file t read all from.
    let k = c.loop-next.invariant.left file t read all from in
    let ended = none_left t in_image k.left (subst (λ (o : Option ℕ). AreFrom t in_image o k.left) c.in_default.is k.at) in
    all_gathered (AreFrom t in_image) (read_name file) name_of_node all c.loop-next.names.items _ k ended
