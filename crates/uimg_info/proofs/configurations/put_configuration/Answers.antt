use Rattle.std.proofs.Common.{◌≡◌, ◌+◌, List, [], ℕ, map, ap, sym, ◌∙◌, subst, IsTrue, codes, rules}
use Rattle.std.specs.List.{sum_by}
use Rattle.json.specs.Tree.{json_tokens}
use Rattle.uimg_base.specs.declared.spans.Span.{Span}
use Rattle.uimg_blob_reading.specs.Places.{read_place}
use Rattle.uimg_fit_checking.specs.Survey.{read_name, read_configuration}
use Rattle.uimg_printing.specs.Members.{array_of}
use Rattle.uimg_printing.proofs.StepLaws.{one, after, appended_as, object_appended, tokens_two}
use Rattle.uimg_info.specs.Fit.{configuration_facts, configuration_members, node_json, property_json}
use Rattle.uimg_info.specs.Members.{facts_members}
use Rattle.uimg_info.specs.Work.{node_size, place_size, configuration_rows_size, configuration_size}
use Rattle.uimg_info.proofs.WorkLaws.{asks_then, asks_as}
use Rattle.uimg_info.proofs.configurations.put_configuration.Goals as goal

pub returns : goal.returns
unfolding configuration_size
returns g c =
    let file = (g.S.Source.device c.args.source.now).bytes in
    let facts = c.args.facts.now in
    let places = c.args.properties.now in
    let configuration = read_configuration file facts in
    let rows = c.in_ok-put_configuration_rows.ensures in
    let nodes = c.in_ok-put_nodes.ensures in
    let properties = c.in_ok-put_properties.ensures in
    let items : c.as_slice.result.now ≡ facts.nodes.items = search rules in
    record {
      uses = asks_as (ap (λ (ns : List Span). (configuration_rows_size facts + sum_by node_size ns) + sum_by place_size places) items) (asks_then (asks_then rows.uses nodes.uses) properties.uses);
      own = tt;
      before = c.end_object.ensures.room.0 ∙ properties.before ∙ c.key-2.ensures.room.0 ∙ nodes.before ∙ c.key.ensures.room.0 ∙ rows.before ∙ c.begin_object.ensures.room.0;
      told = λ honest.
          let here = subst IsTrue (sym rows.uses.same.honest) honest in
          let there = subst IsTrue (sym nodes.uses.same.honest) here in
          let first = appended_as _ _ _ _
          (ap (λ (f : List ℕ). json_tokens (array_of (map node_json (map (read_name f) c.as_slice.result.now)))) rows.uses.same.bytes
          ∙ ap (λ (ns : List Span). json_tokens (array_of (map node_json (map (read_name file) ns)))) items) (nodes.told here) in
          let second = appended_as _ _ _ _
          (ap (λ (f : List ℕ). json_tokens (array_of (map property_json (map (read_place f) places)))) (nodes.uses.same.bytes ∙ rows.uses.same.bytes)) (properties.told there) in
          object_appended _ _ _ _ (configuration_members configuration (map (read_place file) places))
          (one c.in_ok-begin_object.ensures.ok c.begin_object.ensures.room.0)
          (appended_as _ _ _ _ (sym (tokens_two (facts_members (configuration_facts configuration)) [] (codes "nodes") (codes "properties")
          (array_of (map node_json configuration.nodes)) (array_of (map property_json (map (read_place file) places)))))
          (after (rows.told honest) (after (after (one c.in_ok-key.ensures.ok c.key.ensures.room.0) first) (after (one c.in_ok-key-2.ensures.ok c.key-2.ensures.room.0) second))))
          (one c.in_ok-end_object.ensures.ok c.end_object.ensures.room.0);
    }
