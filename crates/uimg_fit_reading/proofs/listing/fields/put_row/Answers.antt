use Rattle.std.proofs.Common.{◌≡◌, true, is_err, sym, subst}
use Rattle.uimg_fit_reading.specs.declared.listing.rows.Row.{Row}
use Rattle.uimg_fit_reading.specs.{Rows.{keeps_row, row_cost, row_lines}, Telling.ListsBetween}
use Rattle.uimg_fit_reading.specs.Shows.{shown, wanted}
use Rattle.uimg_fit_reading.proofs.RowLaws.{property_told}
use Rattle.uimg_fit_reading.proofs.listing.fields.put_row.Goals as goal

pub returns-in-Property-clause-told : goal.returns-in-Property-clause-told
returns-in-Property-clause-told g c = λ t o level found n kept.
    let d = g.S.Source.device c.args.fit.now.source.now in
    let f = g.S.Source.device c.put_property.new.source in
    let e = is_err c.put_property.result in
    let keeps = subst (λ (r : Row). keeps_row level found.name r ≡ true) c.in-Property.is kept in
    subst (λ (r : Row). ListsBetween e (row_cost found.own r) d f c.args.out.now c.put_property.new.out (row_lines c.args.facts found.own r)) (sym c.in-Property.is)
    (property_told e d f c.args.out.now c.put_property.new.out d.bytes found.own c.in-Property.key c.in-Property.show (shown c.in-Property.show c.in-Property.label) c.value_of-value.result
    (c.value_of-value.ensures.span t o.read.indexed level found n keeps) (c.value_of-value.ensures.bytes d.bytes t o.read level found n keeps)
    c.put_property.ensures.uses.asked (c.put_property.ensures.told o.honest))

pub returns-in-Wanted-clause-told : goal.returns-in-Wanted-clause-told
returns-in-Wanted-clause-told g c = λ t o level found n kept.
    let d = g.S.Source.device c.args.fit.now.source.now in
    let f = g.S.Source.device c.put_wanted.new.source in
    let e = is_err c.put_wanted.result in
    let keeps = subst (λ (r : Row). keeps_row level found.name r ≡ true) c.in-Wanted.is kept in
    subst (λ (r : Row). ListsBetween e (row_cost found.own r) d f c.args.out.now c.put_wanted.new.out (row_lines c.args.facts found.own r)) (sym c.in-Wanted.is)
    (property_told e d f c.args.out.now c.put_wanted.new.out d.bytes found.own c.in-Wanted.key c.in-Wanted.show (wanted c.in-Wanted.show c.in-Wanted.label) c.value_of-value-in-Wanted.result
    (c.value_of-value-in-Wanted.ensures.span t o.read.indexed level found n keeps) (c.value_of-value-in-Wanted.ensures.bytes d.bytes t o.read level found n keeps)
    c.put_wanted.ensures.uses.asked (c.put_wanted.ensures.told o.honest))

pub returns-in-Signing-clause-told : goal.returns-in-Signing-clause-told
returns-in-Signing-clause-told g c = λ t o level found n kept.
    let d = g.S.Source.device c.args.fit.now.source.now in
    let f = g.S.Source.device c.put_signing.new.fit.source.now in
    let e = is_err c.put_signing.result in
    let keeps = subst (λ (r : Row). keeps_row level found.name r ≡ true) c.in-Signing.is kept in
    subst (λ (r : Row). ListsBetween e (row_cost found.own r) d f c.args.out.now c.put_signing.new.out (row_lines c.args.facts found.own r)) (sym c.in-Signing.is)
    (c.put_signing.ensures.told t o level found n keeps)
