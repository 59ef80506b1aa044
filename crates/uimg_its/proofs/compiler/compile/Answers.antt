use Rattle.uimg_blob_writing.specs.Trees.{node_of}
use Rattle.uimg_its.specs.{Words.words, Answers.is_outside_text}
use Rattle.uimg_its.proofs.SoundLaws.{files_at_data, are_kept}
use Rattle.uimg_its.proofs.CompileLaws.{only_spelled, accepted, refused_outside}
use Rattle.uimg_its.proofs.IncludedLaws.{each_included}
use Rattle.uimg_its.proofs.compiler.compile.Goals as goal

pub returns-in-Ok-clause-at_data : goal.returns-in-Ok-clause-at_data
returns-in-Ok-clause-at_data g c =
    files_at_data (g.F.Files.map c.args.files.now) (node_of c.in-Ok.root) (c.in-Ok.ensures.sound.0, c.in-Ok.ensures.sound.1, tt)

pub returns-in-Ok-clause-kept : goal.returns-in-Ok-clause-kept
returns-in-Ok-clause-kept g c = λ honest.
    are_kept (g.F.Files.map c.args.files.now) (node_of c.in-Ok.root) honest (c.in-Ok.ensures.sound.0, c.in-Ok.ensures.sound.1, tt)

pub returns-in-Ok-clause-only : goal.returns-in-Ok-clause-only
returns-in-Ok-clause-only g c = λ honest.
    only_spelled (words c.args.text.now) (g.F.Files.map c.args.files.now).bytes c.in-Ok.root (c.in-Ok.ensures.gives honest)

pub returns-in-Ok-clause-accepted : goal.returns-in-Ok-clause-accepted
returns-in-Ok-clause-accepted g c = λ honest t spelled.
    accepted (words c.args.text.now) (g.F.Files.map c.args.files.now).bytes c.in-Ok.root t (c.in-Ok.ensures.gives honest) spelled

pub returns-in-Err-clause-accepted : goal.returns-in-Err-clause-accepted
returns-in-Err-clause-accepted g c = λ honest t spelled.
    refused_outside (is_outside_text c.in-Err.stop.kind) (words c.args.text.now) (g.F.Files.map c.args.files.now).bytes t (c.in-Err.ensures.gives honest) spelled

pub returns-in-Ok-clause-opened : goal.returns-in-Ok-clause-opened
returns-in-Ok-clause-opened g c = each_included _ _ _ _ c.in-Ok.ensures.included

pub returns-in-Err-clause-opened : goal.returns-in-Err-clause-opened
returns-in-Err-clause-opened g c = each_included _ _ _ _ c.in-Err.ensures.included
