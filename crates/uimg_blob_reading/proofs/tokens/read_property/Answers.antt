use Rattle.std.proofs.Common.{◌≡◌, ◌+◌, Option, Result, IfOk, subst, rules, arith}
use Rattle.std.specs.Option.{option_map}
use Rattle.uimg_texts.specs.Nul.{before_nul}
use Rattle.uimg_blob_reading.specs.declared.{fault.BlobFault.BlobFault, keys.Key.Key}
use Rattle.uimg_blob_reading.specs.{declared.tokens.Head.Head, Keys.key_named, Tokens.reach}
use Rattle.uimg_blob_reading.specs.Places.{IsHead, HeadWithin}
use Rattle.uimg_blob_reading.proofs.PropertyLaws.{over, key_read}
use Rattle.uimg_blob_reading.proofs.tokens.read_property.Goals as goal

pub returns-in-Some : goal.returns-in-Some
returns-in-Some g c =
    let d = g.S.Source.device c.args.source.now in
    let e = g.S.Source.device c.read_head.new.source in
    let x = c.args.extent in
    let head = c.in-Ok.head in
    let within : HeadWithin x c.args.at head = subst (λ (r : Result Head BlobFault). IfOk r (λ h. HeadWithin x c.args.at h)) c.in-Ok.is c.in_ok-head.ensures.bound in
    record {
      uses = search rules;
      room = search rules;
      read = λ honest.
          key_read d.bytes x c.args.at head c.in-Some.key
          (subst (λ (r : Result Head BlobFault). IsHead d.bytes x c.args.at r) c.in-Ok.is (c.in_ok-head.ensures.head.told honest))
          (omega (arith, within.value, c.requires.inside.structure_within, c.requires.inside.within))
          (subst (λ (o : Option (Option Key)). o ≡ option_map key_named (before_nul (reach d.bytes head.name (x.strings + x.strings_size)))) c.in-Some.is
          (over d e (λ bytes. c.in_ok-key.field-0 ≡ option_map key_named (before_nul (reach bytes head.name (x.strings + x.strings_size)))) c.read_head.ensures.head.uses.same
          c.in_ok-key.ensures.key.told honest));
      sound = search rules;
      stands = within.value;
    }
