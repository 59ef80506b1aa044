use Rattle.std.proofs.Common.{refl}
use Rattle.uimg_tool.proofs.keys.required_by.Goals as goal

pub returns : goal.returns
returns g c = (
  c.in_ok-keys.keys,
  record { named = c.in_ok-keys-2.ensures; only = c.bytes_of.ensures; sha1 = refl },
  λ honest. c.in_ok-keys.ensures honest,
)
