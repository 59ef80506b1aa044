use Rattle.std.{proofs.Common.{◌≡◌, length}, specs.{List.list_all, Str.is_utf8}}
use Rattle.uimg_fit_reading.specs.Values.{pieces}
use Rattle.uimg_info.proofs.members.are_utf8.Given as goal

-- where the texts that are left are UTF-8, all are
abbrev pub invariant-loop-rest : goal.invariant-loop-rest
invariant-loop-rest l = list_all is_utf8 (pieces l.rest) ≡ list_all is_utf8 (pieces l.bytes)

abbrev pub decreases-loop-rest : goal.decreases-loop-rest
decreases-loop-rest l = length l.rest
