use Rattle.std.proofs.Common.{length}
use Rattle.uimg_keys.proofs.der.+significant.Given as goal

abbrev pub decreases-significant : goal.decreases-significant
decreases-significant l = length l.octets.now
