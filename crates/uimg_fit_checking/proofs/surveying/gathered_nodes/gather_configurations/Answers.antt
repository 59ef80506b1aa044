use Rattle.std.proofs.Common.{rules, ℕ, List, Option, Some, sym, subst}
use Rattle.std.specs.List.{All}
use Rattle.std.proofs.lemmas.List.Elements.{All-push}
use Rattle.uimg_blob_reading.specs.LookUps.{NodeOf}
use Rattle.uimg_blob_reading.specs.Roles.{in_configurations}
use Rattle.uimg_blob_reading.specs.Spots.{Spot}
use Rattle.uimg_fit_checking.specs.declared.surveying.facts.ConfigurationFacts.{ConfigurationFacts}
use Rattle.uimg_fit_reading.specs.Nodes.{AreFrom}
use Rattle.uimg_fit_checking.specs.Survey.{configuration_said, read_configuration}
use Rattle.uimg_fit_checking.specs.SurveyParts.{ConfigurationInside}
use Rattle.uimg_fit_reading.proofs.ImageLaws.{front, none_left}
use Rattle.uimg_fit_checking.proofs.SurveyLaws.{one_gathered, all_gathered}
use Rattle.uimg_fit_checking.proofs.surveying.gathered_nodes.gather_configurations.Goals as goal

pub loop-next-preserved : goal.loop-next-preserved
loop-next-preserved g c = record {
  within = search rules;
  inside = λ size ends.
      subst (λ (l : List ConfigurationFacts). All (ConfigurationInside size) l) (sym c.in_ok-push.ensures.items)
      (All-push (ConfigurationInside size) c.loop-next.facts.items c.in_ok-configuration_facts.field-0 (c.loop-next.invariant.inside size ends) (c.in_ok-configuration_facts.ensures.inside size ends));
  left = λ file t read all from.
      let k = c.loop-next.invariant.left file t read all from in
      let begins = subst (λ (o : Option ℕ). AreFrom t in_configurations o k.left) c.in-Some.is k.at in
      let f = front t in_configurations c.in-Some.configuration k.left begins in
      one_gathered (AreFrom t in_configurations) (read_configuration file) configuration_said all c.loop-next.facts.items _ c.in_ok-configuration_facts.field-0 _ _ k f.image f.more f.are
      (c.in_ok-configuration_facts.ensures.said file t read f.image f.node) c.in_ok-push.ensures.items
      (c.next_of-next.ensures.next t read.indexed in_configurations f.image f.more (subst (λ (l : List (NodeOf Spot)). AreFrom t in_configurations (Some c.in-Some.configuration) l) f.are begins));
}

pub returns-clause-said : goal.returns-clause-said
returns-clause-said g c = λ file t read all from.
    let k = c.loop-next.invariant.left file t read all from in
    let ended = none_left t in_configurations k.left (subst (λ (o : Option ℕ). AreFrom t in_configurations o k.left) c.in_default.is k.at) in
    all_gathered (AreFrom t in_configurations) (read_configuration file) configuration_said all c.loop-next.facts.items _ k ended
