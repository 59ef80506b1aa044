use Rattle.std.proofs.Common.{rules, refl}
use Rattle.uimg_its.specs.Words.{words}
use Rattle.uimg_its.proofs.{PassingLaws.item_passes, IncludedLaws.{passed, followed, follows, stops, stops_in, unopened, ◌▷◌}}
use Rattle.uimg_its.proofs.properties.property_step.Goals as goal

pub returns-in_err-head-clause-included : goal.returns-in_err-head-clause-included
returns-in_err-head-clause-included g c = unopened _ _ (search rules)

pub returns-in_err-push_property-in-Empty-clause-included : goal.returns-in_err-push_property-in-Empty-clause-included
returns-in_err-push_property-in-Empty-clause-included g c = unopened _ _ (search rules)

pub returns-in_err-value-in-Assigned-clause-included : goal.returns-in_err-value-in-Assigned-clause-included
returns-in_err-value-in-Assigned-clause-included g c = stops_in _ _ (search rules) (passed _ _ _ (item_passes _ _ _ c.in_ok-head.ensures.gives)) c.in_err-value-in-Assigned.ensures.included

pub returns-in_err-push_property-in-Assigned-clause-included : goal.returns-in_err-push_property-in-Assigned-clause-included
returns-in_err-push_property-in-Assigned-clause-included g c = stops _ _ (search rules) (passed _ _ _ (item_passes _ _ _ c.in_ok-head.ensures.gives) ▷ followed c.in_ok-value-in-Assigned.ensures.included)

pub returns-in_ok-push_property-in-Empty-clause-included : goal.returns-in_ok-push_property-in-Empty-clause-included
returns-in_ok-push_property-in-Empty-clause-included g c = follows _ _ (passed _ _ _ (item_passes _ _ _ c.in_ok-head.ensures.gives))

pub returns-in_ok-push_property-in-Assigned-clause-included : goal.returns-in_ok-push_property-in-Assigned-clause-included
returns-in_ok-push_property-in-Assigned-clause-included g c = follows _ _ (passed _ _ _ (item_passes _ _ _ c.in_ok-head.ensures.gives) ▷ followed c.in_ok-value-in-Assigned.ensures.included)

pub returns-in-Opens-clause-included : goal.returns-in-Opens-clause-included
returns-in-Opens-clause-included g c = follows _ _ (passed (words c.args.text.now) (words c.args.text.now) _ refl)
