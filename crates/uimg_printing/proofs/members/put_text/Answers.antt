use Rattle.std.{proofs.Common.{◌≡◌, rules}, specs.{String.string_bytes, Str.Lossy.utf8_lossy}}
use Rattle.base64.specs.{Engines.standard, GeneralPurpose.encode_of}
use Rattle.uimg_printing.proofs.TextLaws.{utf8_of_none, utf8_of_some, text_whole, text_beside}
use Rattle.uimg_printing.proofs.members.put_text.Goals as goal

pub returns : goal.returns
returns c =
    let told : c.as_str.result.now ≡ utf8_lossy c.args.text.now = search rules in
    text_whole _ _ c.args.name.now c.args.text.now c.as_str.result.now told
    (utf8_of_none string_bytes c.args.text.now (encode_of standard c.args.text.now) c.in_ok-spelled.spelled.base64 c.in-None.is c.in_ok-spelled.ensures.bytes)
    c.in_ok-put_string.ensures

pub returns-in-Some : goal.returns-in-Some
returns-in-Some c =
    let told : c.as_str.result.now ≡ utf8_lossy c.args.text.now = search rules in
    let part = utf8_of_some c.args.text.now c.in_ok-spelled.spelled.base64 c.in-Some.base64 c.in-Some.is c.in_ok-spelled.ensures.same in
    let bytes : c.as_str-in-Some.result.now ≡ encode_of standard c.args.text.now = search rules in
    text_beside _ _ _ c.args.name.now c.args.text.now c.as_str.result.now c.as_str-in-Some.result.now told part bytes c.in_ok-put_string.ensures c.in_ok-put_base64-in-Some.ensures
