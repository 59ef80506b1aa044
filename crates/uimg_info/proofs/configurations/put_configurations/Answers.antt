use Rattle.std.proofs.Common.{rules, ◌≡◌, ◌≤◌, ◌<◌, ◌++◌, List, length, map, min, ap, ◌∙◌, subst, arith}
use Rattle.std.{specs.List.sum_by, proofs.lemmas.List.Sums.{sum_by_more_le, sum_by-take-le}}
use Rattle.json.specs.{Json.Json, Tree.{json_tokens, items_tokens}}
use Rattle.uimg_printing.specs.Members.{items_of, array_of}
use Rattle.uimg_fit_checking.specs.{FullSurvey.read_properties, Survey.read_configuration}
use Rattle.uimg_info.specs.Fit.{configurations_json}
use Rattle.uimg_info.specs.Work.{place_size, configuration_size, list_size}
use Rattle.uimg_info.proofs.PropertyLaws.{none_behind}
use Rattle.uimg_info.proofs.configurations.put_configurations.Goals as goal

pub returns-in_err-put_configuration : goal.returns-in_err-put_configuration
returns-in_err-put_configuration g c =
    let now = c.loop-i in
    let i = now.i in
    let cs = c.args.configurations.now in
    let ps = c.args.properties.now in
    let put = c.in_err-put_configuration.ensures in
    let first : i < length cs = omega (arith, c.loop-i-test.true, c.min-i-end.ensures) in
    let second : i < length ps = omega (arith, c.loop-i-test.true, c.min-i-end.ensures) in
    let facts = c.index-configurations-i.result in
    let places = c.index-properties-i.result in
    let slice : c.as_slice.result.now ≡ places.items = search rules in
    record {
      uses = record {
        same = record { bytes = c.put_configuration.ensures.uses.same.bytes ∙ now.invariant.same.bytes; honest = c.put_configuration.ensures.uses.same.honest ∙ now.invariant.same.honest };
        asked = omega (
          arith,
          now.invariant.asked,
          c.put_configuration.ensures.uses.asked,
          ap (sum_by place_size) slice,
          sum_by_more_le configuration_size cs i facts first,
          ap configuration_size c.index-configurations-i.is,
          sum_by_more_le list_size ps i places second,
          ap list_size c.index-properties-i.is,
        );
        failures = search rules;
      };
      own = search rules;
      before = search rules;
      told = search rules;
    }

pub returns : goal.returns
returns g c =
    let file = (g.S.Source.device c.args.source.now).bytes in
    let now = c.loop-i in
    let i = now.i in
    let cs = c.args.configurations.now in
    let ps = c.args.properties.now in
    let ended : min (length cs) (length ps) ≤ i = omega (arith, c.loop-i-test.false, c.min-i-end.ensures) in
    let none = none_behind (read_configuration file) (read_properties file) cs ps i ended in
    record {
      uses = record {
        same = now.invariant.same;
        asked = omega (arith, now.invariant.asked, sum_by-take-le configuration_size cs i, sum_by-take-le list_size ps i);
        failures = now.invariant.failures;
      };
      own = tt;
      before = c.end_array.ensures.room.0 ∙ now.invariant.before;
      told = λ honest. record {
        tokens_now = c.in_ok-end_array.ensures.ok
            ∙ subst (λ (js : List Json). now.writer.tokens ++ items_tokens (items_of js) ≡ c.args.writer.now.tokens ++ json_tokens (array_of (configurations_json (map (read_configuration file) cs) (map (read_properties file) ps))))
            none (now.invariant.all honest);
        before = c.end_array.ensures.room.0 ∙ now.invariant.before;
      };
    }
