use Rattle.std.proofs.Common.{rules, refl}
use Rattle.uimg_keys.proofs.reading.key_of_text.Goals as goal

pub returns : goal.returns
returns c = (c.in_ok-key.key, c.in_ok-key.ensures.pem, c.in_ok-key.ensures.any, search rules, refl, search rules)
