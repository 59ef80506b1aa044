use Rattle.std.{proofs.Common.{rules, ◌≡◌, ◌∙◌, true, false, sym, refl}, specs.Prelude.{⊤, Err}}
use Rattle.uimg_legacy.specs.declared.fault.Fault.{TheVariants.Read}
use Rattle.uimg_legacy.specs.Unpacking.{is_there}
use Rattle.uimg_legacy.proofs.{SourceLaws.same_still, DataLaws.{listed_data, listed_fault}, ToldLaws.{told_all, told_more, told_whole, tells_part}}
use Rattle.uimg_legacy.proofs.unpacking.taken_data.take_listed.Goals as goal

pub returns-in_err-take_parts-clause-taken : goal.returns-in_err-take_parts-clause-taken
returns-in_err-take_parts-clause-taken g c =
    let there : is_there c.args.only c.in_ok-count.count ≡ true = sym c.is_there.ensures ∙ c.if-not-is_there.false in
    let fault = c.in_err-take_parts.field-0.0 in
    let is : c.from_residual-in_err-take_parts.result ≡ Err fault = search rules in
    listed_fault c.take_parts.result c.args.only g.T.PartTaker.honest c.args.header.now c.in_ok-count.count (g.S.Source.device c.args.source.now) _ _ _ _ c.from_residual-in_err-take_parts.result fault is c.requires.kind there c.requires.data c.in_ok-count.ensures.inside refl c.sum_table.ensures.reads.uses.same c.in_ok-count.ensures.reads.answer c.in_err-take_parts.ensures.refused

pub returns-clause-taken : goal.returns-clause-taken
returns-clause-taken g c =
    let there : is_there c.args.only c.in_ok-count.count ≡ true = sym c.is_there.ensures ∙ c.if-not-is_there.false in
    let first = c.sum_table.ensures.reads.uses.same in
    listed_data c.args.only g.T.PartTaker.honest c.args.header.now c.in_ok-count.count _ _ _ _ _ _ _ _ _ _ _ _ c.is_same-same.result c.value-crc.result c.requires.kind there c.requires.data c.in_ok-count.ensures.inside first (same_still first c.take_parts.ensures.takes.uses.same)
    c.start-sum.ensures c.in_ok-count.ensures.summed c.copied-table.ensures refl c.start.ensures c.in_ok-take_parts.ensures.taken c.claim_parts.ensures.held c.in_ok-feed_through.ensures.fed c.feed.ensures c.is_same-same.ensures.other c.is_same-same.ensures.same c.value-crc.ensures (λ honest. (c.in_ok-count.ensures.reads.answer honest).1)

pub returns-in_err-take_parts-clause-told : goal.returns-in_err-take_parts-clause-told
returns-in_err-take_parts-clause-told g c = λ known.
    let fault = c.in_err-take_parts.field-0.0 in
    let is : c.from_residual-in_err-take_parts.result ≡ Err fault = search rules in
    tells_part ⊤ c.args.only c.in_ok-count.count c.from_residual-in_err-take_parts.result fault _ _ is c.in_err-take_parts.ensures.at_part
    (told_more true _ _ _ _ _ (told_whole _ _ _ (c.in_ok-claim_parts.ensures.told known)) (c.in_err-take_parts.ensures.told known))

pub returns-in_err-feed_through-clause-told : goal.returns-in_err-feed_through-clause-told
returns-in_err-feed_through-clause-told g c = λ known.
    let is : c.from_residual-in_err-feed_through.result ≡ Err Read = search rules in
    tells_part ⊤ c.args.only c.in_ok-count.count c.from_residual-in_err-feed_through.result Read _ _ is tt
    (told_all true _ _ _ (told_whole _ _ _ (told_more false _ _ _ _ _ (told_whole _ _ _ (c.in_ok-claim_parts.ensures.told known)) (c.in_ok-take_parts.ensures.told known))))
