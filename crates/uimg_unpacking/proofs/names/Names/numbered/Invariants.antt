use Rattle.std.proofs.Common.{◌≡◌, ◌+◌, ◌-◌, length}
use Rattle.uimg_unpacking.specs.FileNames.{first_free}
use Rattle.uimg_unpacking.proofs.names.Names.numbered.Given as goal

-- the numbers that were tried are used
abbrev pub invariant-loop-further : goal.invariant-loop-further
invariant-loop-further l =
    let names = l.fn.self.named.names in
    record {
      same : l.self.named.names ≡ names;
      number : l.number ≡ length names;
      free : first_free names (length names + l.further) (100 - l.further) ≡ first_free names (length names) 100;
    }
