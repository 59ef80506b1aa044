use Rattle.std.proofs.Common.{◌∙◌, ap, length, ℕ, List, subst₂, sym}
use Rattle.uimg_fit_base.specs.declared.placement.AlignedPlacement.{AlignedPlacement}
use Rattle.uimg_its.specs.{Grammar.Spells, Words.words}
use Rattle.uimg_requests.specs.{Requests.folder_of, declared.make_command.Manner.Manner}
use Rattle.uimg_tool.specs.{LeavingOut.in_folder, TreesMade.KeepsEither}
use Rattle.uimg_world.specs.Deeds.{changes}
use Rattle.uimg_tool.proofs.{OldMakingLaws.within_more, SpelledLaws.builds_text}
use Rattle.uimg_tool.proofs.fit_program.make_of_text.Goals as goal

pub returns-in-Ok-clause-made : goal.returns-in-Ok-clause-made
returns-in-Ok-clause-made g c =
    within_more c.fit_request.result.image.now c.args.request.now.outfile.now c.make_compiled.result (g.D.World.trace c.args.world.now) (g.D.World.trace c.reader.new.self) (g.D.World.trace c.make_compiled.new.world) (ap (λ b. b.now) c.fit_request.ensures.made)
    (ap changes c.reader.ensures.noted) c.make_compiled.ensures.made

pub returns-in-Ok-clause-built : goal.returns-in-Ok-clause-built
returns-in-Ok-clause-built g c = λ honest none zero t spells.
    let there = g.D.Shelf.Kept.Source.device in
    let new = g.D.NewShelf.Kept.Source.device in
    let files = g.D.World.map c.args.world.now in
    let making = c.fit_request in
    let at = ap folder_of (sym c.as_str-path.ensures) ∙ sym c.cut_behind_folder.ensures.folder in
    let here = subst₂ (λ (folder text : List ℕ). Spells (words text) (in_folder folder files.bytes) t) at (sym c.deref.ensures.value) spells in
    let keeps = builds_text there new making.result.manner.time making.result.placement files _ _ _ c.cut_behind_folder.result.0.now c.deref.result.now (length c.as_slice-others.result.now) c.in-Ok.compiled
    c.reader.ensures.map c.files_of-files.ensures c.in-Ok.ensures.same c.in-Ok.ensures.spelled
    (λ bare. c.make_compiled.ensures.kept (g.D.World.known c.args.world.now honest) bare zero) honest (ap length c.as_slice-others.ensures.value ∙ none) t here in
    subst₂ (λ (m : Manner) (p : AlignedPlacement). KeepsEither there new t m.time p) making.ensures.placed.1 making.ensures.placed.0 keeps
