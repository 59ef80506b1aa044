use Rattle.std.proofs.Common.{◌≡◌}
use Rattle.uimg_base.specs.Named.{SameFiles}
use Rattle.uimg_tool.proofs.lookup.open_first.Given as goal

abbrev pub invariant-loop-folder : goal.invariant-loop-folder
invariant-loop-folder g l =
    SameFiles (g.R.Reader.map l.fn.reader) (g.R.Reader.map l.reader) × (g.R.Reader.identities l.reader ≡ g.R.Reader.identities l.fn.reader)
