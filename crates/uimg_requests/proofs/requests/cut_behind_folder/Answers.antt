use Rattle.std.proofs.Common.{rules, ◌≡◌, ◌∙◌, Some, None, sym, lit<}
use Rattle.std.proofs.lemmas.Str.Pattern.{rfind_char}
use Rattle.uimg_requests.proofs.FolderLaws.{folder_to, no_folder}
use Rattle.uimg_requests.proofs.requests.cut_behind_folder.Goals as goal

pub returns-in-Some-clause-folder : goal.returns-in-Some-clause-folder
returns-in-Some-clause-folder c =
    let last = rfind_char 47 c.args.path.now (Some c.in-Some.slash) c.in-Some.ensures.cases (lit< tt) in
    c.split_at.ensures.front ∙ sym (folder_to c.args.path.now c.in-Some.slash last.0 last.1 last.2)

pub returns-in-None-clause-folder : goal.returns-in-None-clause-folder
returns-in-None-clause-folder c = sym (no_folder c.args.path.now (rfind_char 47 c.args.path.now None c.in-None.ensures.cases (lit< tt)))
