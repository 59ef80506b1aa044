use Rattle.std.proofs.Common.{rules, ◌≡◌, ◌++◌, ◌∷◌, ℕ, List, [], Option, Some, Bool, IsTrue, sym, ap, ◌∙◌, subst}
use Rattle.uimg_blob_reading.specs.LookUps.{NodeOf}
use Rattle.uimg_blob_reading.specs.Spots.{Spot}
use Rattle.uimg_fit_checking.specs.Survey.{name_of_node}
use Rattle.uimg_fit_checking.proofs.SurveyLaws.{one_gathered, all_gathered}
use Rattle.uimg_fit_reading.specs.Nodes.{AreFrom}
use Rattle.uimg_fit_reading.specs.Values.{in_span}
use Rattle.uimg_fit_reading.proofs.ImageLaws.{front, none_left}
use Rattle.uimg_strict.specs.Telling.{AnyFrom, items_of}
use Rattle.uimg_strict.proofs.node_names.node_names.Goals as goal

pub loop-next-preserved : goal.loop-next-preserved
loop-next-preserved g c =
    let now = c.loop-next in
    let name = c.in_ok-name.name in
    let read = c.in_ok-name.ensures in
    let grows : c.push.new.self.items ≡ now.names.items ++ name ∷ [] = search rules in
    record {
      same = record { bytes = read.uses.same.bytes ∙ now.invariant.same.bytes; honest = read.uses.same.honest ∙ now.invariant.same.honest };
      failures = read.uses.failures ∙ now.invariant.failures;
      within = search rules;
      left = λ t o all from.
          let k = now.invariant.left t o all from in
          let begins = subst (λ (n : Option ℕ). AnyFrom t n k.left) c.in-Some.is k.at in
          let f = front t begins.level c.in-Some.node k.left begins.from in
          let told = read.told (subst (λ (b : Bool). IsTrue b) (sym now.invariant.same.honest) o.honest)
          ∙ ap (λ (file : List ℕ). in_span file c.name_of.result) now.invariant.same.bytes
          ∙ c.name_of.ensures.name (g.S.Source.device c.args.source.now).bytes t o.read begins.level f.image f.node in
          one_gathered (AnyFrom t) items_of name_of_node all now.names.items c.push.new.self.items name now.next c.next_of-next.result k f.image f.more f.are told grows (record {
            level = _;
            from = c.next_of-next.ensures.next t o.read.indexed begins.level f.image f.more (subst (λ (l : List (NodeOf Spot)). AreFrom t begins.level (Some c.in-Some.node) l) f.are begins.from);
          });
    }

pub returns-clause-told : goal.returns-clause-told
returns-clause-told g c = λ t o all from.
    let now = c.loop-next in
    let k = now.invariant.left t o all from in
    let at = subst (λ (n : Option ℕ). AnyFrom t n k.left) c.in_default.is k.at in
    all_gathered (AnyFrom t) items_of name_of_node all now.names.items now.next k (none_left t at.level k.left at.from)
