use Rattle.std.proofs.Common.{◌∙◌, ap, sym}
use Rattle.uimg_signing.specs.SignatureNodes.{is_configuration_role}
use Rattle.uimg_signing.proofs.SignatureNodeLaws.{not_configuration}
use Rattle.uimg_signing.proofs.configuration_signatures.is_configuration.Goals as goal

pub returns-in-Configuration : goal.returns-in-Configuration
returns-in-Configuration g c = λ row r. ap is_configuration_role (sym c.in-Configuration.is ∙ c.role.ensures row r)

pub returns-in_default : goal.returns-in_default
returns-in_default g c = λ row r. not_configuration c.role.result c.in_default.not-Configuration ∙ ap is_configuration_role (c.role.ensures row r)
