use Rattle.std.proofs.Common.{rules, ◌∙◌, map, sym, ap}
use Rattle.std.specs.Prelude.{nat_lt}
use Rattle.uimg_blob_reading.specs.{Places.read_place, declared.roles.Role.Role}
use Rattle.uimg_signing.specs.Listing.{image_times, name_in}
use Rattle.uimg_signing.proofs.NamedLaws.{not_image, told_as}
use Rattle.uimg_signing.proofs.hashed.is_named_image.Goals as goal

pub returns-in-Image-clause-told : goal.returns-in-Image-clause-told
returns-in-Image-clause-told g c = λ honest t indexed row at.
    let d = g.S.Source.device c.args.source.now in
    let role_is = c.role.ensures row (record { nodes = t; indexed = indexed; is = at }) in
    told_as c.is_named.result _ _ (ap (λ (r : Role). nat_lt 0 (image_times d.bytes (map (read_place d.bytes) c.args.places.now) r (name_in d.bytes row))) (sym c.in-Image.is ∙ role_is))
    (c.is_named.ensures.told honest t indexed row at)

pub returns-in_default : goal.returns-in_default
returns-in_default g c = record {
  uses = search rules;
  room = search rules;
  refused = search rules;
  told = λ honest t indexed row at.
      let d = g.S.Source.device c.args.source.now in
      let own = map (read_place d.bytes) c.args.places.now in
      let role_is = c.role.ensures row (record { nodes = t; indexed = indexed; is = at }) in
      ap (nat_lt 0) (not_image d.bytes own (name_in d.bytes row) row.role (λ image. c.in_default.not-Image (role_is ∙ image)));
}
