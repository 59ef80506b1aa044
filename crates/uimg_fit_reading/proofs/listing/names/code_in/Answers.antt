use Rattle.std.proofs.Common.{ℕ, Option, sym, subst}
use Rattle.uimg_texts.specs.{Nul.text, Slices.slice}
use Rattle.uimg_blob_reading.specs.Texts.{GivesShort}
use Rattle.uimg_texts.proofs.LengthLaws.{none_named}
use Rattle.uimg_fit_reading.proofs.listing.names.code_in.Goals as goal

pub returns-in-None-clause-code : goal.returns-in-None-clause-code
returns-in-None-clause-code g c = λ honest.
    let value = text (slice (g.S.Source.device c.args.source.now).bytes c.args.span.place c.args.span.length) in
    let long = subst (λ (o : Option ℕ). GivesShort value o c.short_text.new.to) c.in-None.is (c.in_ok-length.ensures.text honest) in
    sym (none_named c.args.naming c.args.field value long)
