use Rattle.std.proofs.Common.{ap, sym, ◌∙◌}
use Rattle.uimg_info.specs.Statements.{is_image}
use Rattle.uimg_info.proofs.StatementLaws.{not_image}
use Rattle.uimg_info.proofs.statements.is_image.Goals as goal

pub returns-in-Image : goal.returns-in-Image
returns-in-Image g c = λ row r. ap is_image (sym c.in-Image.is ∙ c.role.ensures row r)

pub returns-in_default : goal.returns-in_default
returns-in_default g c = λ row r. not_image c.role.result c.in_default.not-Image ∙ ap is_image (c.role.ensures row r)
