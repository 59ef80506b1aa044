-- Why an image has no facts.
use Rattle.uimg_engine.specs.Faults.{of_fit, of_legacy}
use Rattle.uimg_fit_checking.specs.declared.surveying.fault.SurveyFault.{SurveyFault}
use Rattle.uimg_fit_checking.specs.declared.surveying.fault.SurveyFault.TheVariants as survey
use Rattle.uimg_legacy.specs.declared.placing.PartsFault.{PartsFault}
use Rattle.uimg_legacy.specs.declared.placing.PartsFault.TheVariants as parts
use Rattle.uimg_tool.specs.declared.facts.Stop.{Stop}
use Rattle.uimg_tool.specs.declared.facts.Stop.TheVariants as stop

-- a survey of a FIT image that stopped
abbrev pub stop_of_survey : SurveyFault → Stop
stop_of_survey (survey.Stopped fault) = stop.Refused (of_fit fault)
stop_of_survey survey.OutOfMemory = stop.NoMemory
stop_of_survey survey.Changed = stop.Changed

-- a look for the parts of a legacy image that stopped
abbrev pub stop_of_parts : PartsFault → Stop
stop_of_parts (parts.Stopped fault) = stop.Refused (of_legacy fault)
stop_of_parts parts.OutOfMemory = stop.NoMemory
