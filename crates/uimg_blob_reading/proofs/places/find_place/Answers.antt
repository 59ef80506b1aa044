use Rattle.std.proofs.Common.{◌+◌, ℕ, Option, Result, IfOk, subst, rules, arith}
use Rattle.uimg_blob_reading.specs.declared.{fault.BlobFault.BlobFault, tokens.Head.Head}
use Rattle.uimg_blob_reading.specs.Places.{IsHead, HeadWithin, NameIs}
use Rattle.uimg_blob_reading.proofs.PropertyLaws.{over, place_found}
use Rattle.uimg_blob_reading.proofs.places.find_place.Goals as goal

pub returns-clause-place : goal.returns-clause-place
returns-clause-place g c =
    let d = g.S.Source.device c.args.source.now in
    let e = g.S.Source.device c.read_head.new.source in
    let x = c.args.extent in
    let head = c.in-Ok.head in
    let within : HeadWithin x c.args.at head = subst (λ (r : Result Head BlobFault). IfOk r (λ h. HeadWithin x c.args.at h)) c.in-Ok.is c.in_ok-head.ensures.bound in
    record {
      uses = search rules;
      told = λ honest.
          place_found d.bytes x c.args.at head c.in-Some.length
          (subst (λ (r : Result Head BlobFault). IsHead d.bytes x c.args.at r) c.in-Ok.is (c.in_ok-head.ensures.head.told honest))
          (omega (arith, within.value, c.requires.inside.structure_within, c.requires.inside.within))
          (subst (λ (o : Option ℕ). NameIs d.bytes head.name (x.strings + x.strings_size) o) c.in-Some.is
          (over d e (λ bytes. NameIs bytes head.name (x.strings + x.strings_size) c.in_ok-length.field-0) c.read_head.ensures.head.uses.same c.in_ok-length.ensures.name.told honest));
    }
