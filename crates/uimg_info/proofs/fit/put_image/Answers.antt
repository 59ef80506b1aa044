use Rattle.std.proofs.Common.{◌≡◌, ◌+◌, List, ℕ, map, ap, sym, ◌∙◌, subst, IsTrue, Result, codes, rules}
use Rattle.json.specs.Tree.{json_tokens}
use Rattle.uimg_base.specs.declared.spans.Span.{Span}
use Rattle.uimg_fit_base.specs.declared.fault.FitFault.{FitFault}
use Rattle.uimg_fit_checking.specs.Survey.{read_hash, read_image}
use Rattle.uimg_fit_checking.specs.declared.surveying.facts.HashFacts.{HashFacts}
use Rattle.uimg_fit_reading.specs.PayloadPlaces.{read_payload, place_said}
use Rattle.uimg_info.specs.Fit.{image_facts, image_members, hash_json, place_members}
use Rattle.uimg_info.specs.{Members.facts_members, Work.{hash_size, image_rows_size, image_size}}
use Rattle.uimg_printing.specs.Members.{array_of, tokens_of}
use Rattle.uimg_printing.proofs.StepLaws.{one, after, appended_as, object_appended, tokens_one}
use Rattle.uimg_info.proofs.WorkLaws.{asks_then, asks_as}
use Rattle.std.specs.List.{sum_by}
use Rattle.uimg_info.proofs.fit.put_image.Goals as goal

pub returns : goal.returns
unfolding image_size
returns g c =
    let file = (g.S.Source.device c.args.source.now).bytes in
    let facts = c.args.facts.now in
    let image = read_image file facts in
    let rows = c.in_ok-put_image_rows.ensures in
    let placed = c.in_ok-place.ensures in
    let hashed = c.in_ok-put_hashes.ensures in
    let items : c.as_slice.result.now ≡ facts.hashes.items = search rules in
    record {
      uses = asks_as (ap (λ (hs : List HashFacts). image_rows_size facts + (12 + sum_by hash_size hs)) items) (asks_then rows.uses (asks_then placed.uses hashed.uses));
      own = tt;
      before = c.end_object.ensures.room.0 ∙ hashed.before ∙ c.key.ensures.room.0 ∙ c.in_ok-put_place.ensures.before ∙ rows.before ∙ c.begin_object.ensures.room.0;
      told = λ honest.
          let honest_rows = subst IsTrue (sym rows.uses.same.honest) honest in
          let honest_place = subst IsTrue (sym placed.uses.same.honest) honest_rows in
          let same_place = placed.uses.same.bytes ∙ rows.uses.same.bytes in
          let found : c.in_ok-place.place ≡ place_said c.args.totalsize image.payload =
          placed.place honest_rows ∙ ap (λ (f : List ℕ). place_said c.args.totalsize (read_payload f facts.payload)) rows.uses.same.bytes in
          let at = appended_as _ _ _ _ (ap (λ (p : Result Span FitFault). tokens_of (place_members p)) found) c.in_ok-put_place.ensures in
          let hashes = appended_as _ _ _ _
          (ap (λ (f : List ℕ). json_tokens (array_of (map hash_json (map (read_hash f) c.as_slice.result.now)))) same_place
          ∙ ap (λ (hs : List HashFacts). json_tokens (array_of (map hash_json (map (read_hash file) hs)))) items) (hashed.told honest_place) in
          object_appended _ _ _ _ (image_members c.args.totalsize image)
          (one c.in_ok-begin_object.ensures.ok c.begin_object.ensures.room.0)
          (appended_as _ _ _ _ (sym (tokens_one (facts_members (image_facts image)) (place_members (place_said c.args.totalsize image.payload)) (codes "hashes") (array_of (map hash_json image.hashes))))
          (after (rows.told honest) (after at (after (one c.in_ok-key.ensures.ok c.key.ensures.room.0) hashes))))
          (one c.in_ok-end_object.ensures.ok c.end_object.ensures.room.0);
    }
