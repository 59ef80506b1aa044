use Rattle.std.proofs.Common.{rules, refl, ◌≡◌, true}
use Rattle.uimg_unpacking.specs.FileNames.{is_file_name}
use Rattle.uimg_unpacking.proofs.NameLaws.{is_text}
use Rattle.uimg_unpacking.proofs.names.Names.own.Goals as goal

pub returns-in_default : goal.returns-in_default
returns-in_default c =
    let is : is_file_name c.bytes-2.result.now ≡ true = search rules in
    (absurd (c.in_default.ensures.cases.0 (is_text c.bytes-2.result.now is)), refl)
