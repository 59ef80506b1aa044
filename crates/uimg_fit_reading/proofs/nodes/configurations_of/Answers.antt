use Rattle.std.proofs.Common.{◌∙◌}
use Rattle.uimg_fit_reading.proofs.{ImageLaws.tells_configurations, NodeLaws.configurations_within}
use Rattle.uimg_fit_reading.proofs.nodes.configurations_of.Goals as goal

pub returns-clause-told : goal.returns-clause-told
returns-clause-told g c = λ t indexed. tells_configurations t _ (c.configurations.ensures ∙ indexed.configurations)

pub returns-clause-within : goal.returns-clause-within
returns-clause-within g c = configurations_within c.requires.nodes _ _ _ c.requires.indexed (tells_configurations c.requires.nodes _ (c.configurations.ensures ∙ c.requires.indexed.configurations))
