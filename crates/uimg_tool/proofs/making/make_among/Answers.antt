use Rattle.std.proofs.Common.{rules}
use Rattle.uimg_tool.proofs.{FolderLaws.starts, MakingLaws.made_end}
use Rattle.uimg_tool.proofs.making.make_among.Goals as goal

pub returns-clause-told : goal.returns-clause-told
returns-clause-told g c = λ honest shelf_honest empty plain.
    let folders = c.new-folders in
    let met = c.has_met_left_out-has_met_outfile.ensures in
    made_end _ (g.R.Reader.identities c.args.reader) c.args.request.now (g.R.Reader.map c.args.reader) _ _ c.make_over-made.result c.has_met_left_out-has_met_outfile.result c.end_of.result g.L.LeftOut.leads c.args.out.now c.make_over-made.new.out
    honest (starts g.R.Reader.map folders.result c.args.is_xip c.args.reader c.args.request.now.folder _ plain folders.ensures.reader folders.ensures.folder (search rules) c.new-files.ensures.map) (λ known. c.make_over-made.ensures.made known shelf_honest empty) c.make_over-made.ensures.opens c.make_over-made.ensures.opened
    c.requires.leads (met.met c.requires.known) (met.refused c.requires.known) (c.end_of.ensures.made plain)
