use Rattle.std.proofs.Common.{◌≡◌, ◌∙◌, ap, true, is_ok, string_bytes}
use Rattle.uimg_unpacking.specs.Places.{is_temporary_file}
use Rattle.uimg_unpacking.proofs.Placing.{begun_new, pushed}
use Rattle.uimg_unpacking.proofs.staging.Staging.note.Goals as goal

pub invariant_of-self : goal.invariant_of-self
invariant_of-self g c =
    let it = c.args.self.now in
    let folder = it.folder.path.now in
    let new : is_temporary_file folder (string_bytes c.in_ok-path.path) ≡ true =
    ap (is_temporary_file folder) (c.in_ok-path.ensures.ok ∙ c.as_str.ensures.value) ∙ begun_new folder c.args.begun.now c.requires in
    record {
      made_inside = c.args.self.now.made_inside;
      files_inside = c.args.self.now.files_inside;
      created_inside = pushed (λ path. is_temporary_file folder (string_bytes path)) it.created.items c.push.new.self.items c.in_ok-path.path (is_ok c.push.result) c.push.ensures.items it.created_inside new;
      outdated_inside = c.args.self.now.outdated_inside;
      named = it.named;
      agreed = it.agreed;
      obeys = it.obeys;
      numbered = c.args.self.now.numbered;
      none = c.args.self.now.none;
    }
