use Rattle.std.proofs.Common.{true}
use Rattle.uimg_tool.specs.LeavingOut.{leads_to}
use Rattle.uimg_tool.proofs.making.make_in.Given as goal

-- the names that lead to the file that is written
abbrev pub ghosts-make_among : goal.ghosts-make_among
ghosts-make_among g a = record { known = true; leads = leads_to (g.D.Reader.Reader.identities a.reader) a.request.now.folder.now a.request.now.outfile.now }
