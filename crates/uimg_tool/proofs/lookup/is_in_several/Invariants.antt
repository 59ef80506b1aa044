use Rattle.std.proofs.Common.{◌≡◌}
use Rattle.uimg_base.specs.Named.{SameFiles}
use Rattle.uimg_tool.proofs.lookup.is_in_several.Given as goal

abbrev pub invariant-loop-other : goal.invariant-loop-other
invariant-loop-other g l =
    SameFiles (g.R.Reader.map l.fn.reader) (g.R.Reader.map l.reader) × (g.R.Reader.identities l.reader ≡ g.R.Reader.identities l.fn.reader)

abbrev pub invariant-loop-name : goal.invariant-loop-name
invariant-loop-name g l =
    SameFiles (g.R.Reader.map l.fn.reader) (g.R.Reader.map l.reader) × (g.R.Reader.identities l.reader ≡ g.R.Reader.identities l.fn.reader)
