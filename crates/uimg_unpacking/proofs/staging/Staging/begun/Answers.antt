use Rattle.std.proofs.Common.{rules, ◌≡◌, ◌∙◌, ◌<◌, ◌^◌, ◌++◌, ◌∷◌, [], List, ℕ, ap, sym, subst, true, string_bytes, length, Some, Option}
use Rattle.std.specs.Option.{option_map}
use Rattle.uimg_unpacking.specs.FileNames.{is_file_name}
use Rattle.uimg_unpacking.specs.Places.{is_temporary_folder}
use Rattle.uimg_unpacking.specs.Staged.{are_numbered_in}
use Rattle.uimg_unpacking.proofs.Placing.{begun_paths}
use Rattle.uimg_unpacking.proofs.StagedLaws.{numbered_more}
use Rattle.uimg_unpacking.proofs.staging.Staging.begun.Goals as goal

pub returns-in-Ok-clause-begun : goal.returns-in-Ok-clause-begun
returns-in-Ok-clause-begun g c =
    let folder = c.args.self.now.folder.path.now in
    let made : is_temporary_folder folder c.as_str.result.now ≡ true = search rules in
    let name = ap string_bytes c.in-Ok.ensures.same.0 in
    begun_paths folder c.as_str.result.now c.len.result c.in-Ok.begun made
    (ap is_file_name name ∙ c.requires.named)
    c.in-Ok.ensures.new c.in-Ok.ensures.old (ap string_bytes c.in-Ok.ensures.same.1 ∙ c.requires.whole ∙ search (rules, name))

pub returns-in-Ok-clause-numbered : goal.returns-in-Ok-clause-numbered
returns-in-Ok-clause-numbered g c =
    let files = c.args.self.now.files.items in
    let made = c.as_str.result.now in
    let is : option_map string_bytes c.args.self.now.made ≡ Some made = search rules in
    let small : c.len.result < 2 ^ 64 = search rules in
    let count : c.len.result ≡ length files = search rules in
    subst (λ (m : Option (List ℕ)). are_numbered_in m (files ++ c.in-Ok.begun ∷ []) ≡ true) (sym is)
    (numbered_more made c.len.result files c.in-Ok.begun (subst (λ (m : Option (List ℕ)). are_numbered_in m files ≡ true) is c.args.self.now.numbered) count small c.in-Ok.ensures.new c.in-Ok.ensures.old)
