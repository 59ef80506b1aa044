use Rattle.std.proofs.Common.{◌∙◌, ap, refl, rules}
use Rattle.uimg_tool.proofs.MakingLaws.{made_in, made_written}
use Rattle.uimg_tool.proofs.making.make_in.Goals as goal

pub returns-clause-told : goal.returns-clause-told
returns-clause-told g c = λ honest.
    let knows = g.D.World.known c.args.world.now honest in
    made_written _ _ c.args.request.now _ c.make_among-end.result c.end_written.result c.args.out.now c.make_among-end.new.out c.end_written.ensures.status c.end_written.ensures.kept
    (made_in _ _ _ c.args.request.now _ _ c.make_among-end.result c.args.out.now c.make_among-end.new.out c.reader-reader.ensures.identities c.reader-reader.ensures.map
    (c.make_among-end.ensures.told (search rules) (c.shelf_at.ensures.honest knows) (ap g.D.Shelf.Write.contents c.new-shelf.ensures ∙ c.shelf_at.ensures.empty knows) refl))
