use Rattle.std.proofs.Common.{◌≡◌, ◌++◌, take}
use Rattle.std.specs.List.{flat_map}
use Rattle.uimg_info.specs.ValueTexts.{escaped_byte}
use Rattle.uimg_info.proofs.value_texts.push_escaped.Given as goal

-- the bytes before the index were appended
abbrev pub invariant-loop-byte : goal.invariant-loop-byte
invariant-loop-byte l = l.to.items ≡ l.fn.to.items ++ flat_map (escaped_byte l.mark l.escape) (take l.byte-index l.text)
