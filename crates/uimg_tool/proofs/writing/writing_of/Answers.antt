use Rattle.std.proofs.Common.{Ok, Err, ◌∙◌, ap, inl, inr, refl, string_bytes}
use Rattle.uimg_tool.proofs.WritingLaws.{creates_as, leads_as}
use Rattle.uimg_tool.specs.declared.writing.Lead.TheVariants as lead
use Rattle.uimg_tool.proofs.writing.writing_of.Goals as goal

pub returns-in-Ok-InPlace-clause-writes : goal.returns-in-Ok-InPlace-clause-writes
returns-in-Ok-InPlace-clause-writes g c =
    leads_as c.args.path.now c.lead_of.result (Ok lead.InPlace) _ _ (c.in-Ok-InPlace.is ∙ ap (λ l. Ok l) c.in-Ok-InPlace.field-0-is) c.lead_of.ensures

pub returns-in-Ok-Ok-clause-writes : goal.returns-in-Ok-Ok-clause-writes
returns-in-Ok-Ok-clause-writes g c = (
  g.D.World.trace c.lead_of.new.world,
  leads_as c.args.path.now c.lead_of.result (Ok (lead.File c.in-Ok-File.whole)) _ _ (c.in-Ok-File.is ∙ ap (λ l. Ok l) c.in-Ok-File.field-0-is) c.lead_of.ensures,
  creates_as c.as_str.result.now (string_bytes c.in-Ok-File.whole) c.new_beside.result (Ok (Ok c.in-Ok-Ok.field-0-0)) _ _ c.as_str.ensures.value (c.in-Ok-Ok.is ∙ ap (λ r. Ok r) c.in-Ok-Ok.field-0-is) c.new_beside.ensures.tries,
)

pub returns-in-Ok-Err-clause-writes : goal.returns-in-Ok-Err-clause-writes
returns-in-Ok-Err-clause-writes g c = (
  string_bytes c.in-Ok-File.whole,
  g.D.World.trace c.lead_of.new.world,
  leads_as c.args.path.now c.lead_of.result (Ok (lead.File c.in-Ok-File.whole)) _ _ (c.in-Ok-File.is ∙ ap (λ l. Ok l) c.in-Ok-File.field-0-is) c.lead_of.ensures,
  creates_as c.as_str.result.now (string_bytes c.in-Ok-File.whole) c.new_beside.result (Ok (Err c.in-Ok-Err.error)) _ _ c.as_str.ensures.value (c.in-Ok-Err.is ∙ ap (λ r. Ok r) c.in-Ok-Err.field-0-is) c.new_beside.ensures.tries,
)

pub returns-in-Err-new_beside-clause-writes : goal.returns-in-Err-new_beside-clause-writes
returns-in-Err-new_beside-clause-writes g c = (
  string_bytes c.in-Ok-File.whole,
  g.D.World.trace c.lead_of.new.world,
  leads_as c.args.path.now c.lead_of.result (Ok (lead.File c.in-Ok-File.whole)) _ _ (c.in-Ok-File.is ∙ ap (λ l. Ok l) c.in-Ok-File.field-0-is) c.lead_of.ensures,
  inr (creates_as c.as_str.result.now (string_bytes c.in-Ok-File.whole) c.new_beside.result (Err c.in-Err-new_beside.error) _ _ c.as_str.ensures.value c.in-Err-new_beside.is c.new_beside.ensures.tries),
)

pub returns-in-Err-clause-writes : goal.returns-in-Err-clause-writes
returns-in-Err-clause-writes g c =
    let led = leads_as c.args.path.now c.lead_of.result (Err c.in-Err.error) _ _ c.in-Err.is c.lead_of.ensures in
    (led.0, g.D.World.trace c.lead_of.new.world, led.1, inl refl)
