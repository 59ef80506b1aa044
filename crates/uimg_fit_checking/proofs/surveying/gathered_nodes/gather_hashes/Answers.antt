use Rattle.std.proofs.Common.{rules, ℕ, List, Option, sym, subst}
use Rattle.std.specs.List.{All}
use Rattle.std.proofs.lemmas.List.Elements.{All-push}
use Rattle.uimg_fit_checking.specs.declared.surveying.facts.HashFacts.{HashFacts}
use Rattle.uimg_fit_reading.specs.Nodes.{HashesAt, FirstHash}
use Rattle.uimg_fit_checking.specs.Survey.{hash_said, read_hash}
use Rattle.uimg_fit_checking.specs.SurveyParts.{HashInside}
use Rattle.uimg_fit_checking.proofs.SurveyLaws.{one_gathered}
use Rattle.uimg_fit_checking.proofs.surveying.gathered_nodes.gather_hashes.Goals as goal

pub loop-next-preserved : goal.loop-next-preserved
loop-next-preserved g c = record {
  within = search rules;
  inside = λ size ends.
      subst (λ (l : List HashFacts). All (HashInside size) l) (sym c.in_ok-push.ensures.items)
      (All-push (HashInside size) c.loop-next.facts.items c.hash_facts.result (c.loop-next.invariant.inside size ends) (c.hash_facts.ensures.inside size ends));
  left = λ file t read all from.
      let k = c.loop-next.invariant.left file t read all from in
      let first : FirstHash t c.in-Some.hash k.left = subst (λ (o : Option ℕ). HashesAt t o k.left) c.in-Some.is k.at in
      one_gathered (HashesAt t) (read_hash file) hash_said all c.loop-next.facts.items _ c.hash_facts.result _ _ k first.hash first.more first.are
      (c.hash_facts.ensures.said file t read first.hash first.at.node first.at.named) c.in_ok-push.ensures.items
      (c.next_hash-next.ensures.hashes t read.indexed first.hash first.more first.at);
}
