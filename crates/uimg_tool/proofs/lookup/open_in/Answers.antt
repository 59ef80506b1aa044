use Rattle.std.proofs.Common.{rules, inl, ◌∙◌}
use Rattle.uimg_tool.proofs.FolderLaws.{leads_at, refuses_at}
use Rattle.uimg_tool.proofs.lookup.open_in.Goals as goal

pub returns-in-Ok-clause-met : goal.returns-in-Ok-clause-met
returns-in-Ok-clause-met g c = λ honest. inl (c.open_other.ensures.met honest ∙ leads_at (g.R.Reader.identities c.args.reader.now) c.args.folder.now c.args.left_out.now c.args.name.now c.as_str.result.now c.args.has_met_left_out.now (search rules))

pub returns-in-Ok-clause-refused : goal.returns-in-Ok-clause-refused
returns-in-Ok-clause-refused g c = λ honest.
    refuses_at (g.R.Reader.identities c.args.reader.now) c.args.folder.now c.args.left_out.now c.args.name.now c.as_str.result.now _ (search rules) (c.open_other.ensures.refused honest)
