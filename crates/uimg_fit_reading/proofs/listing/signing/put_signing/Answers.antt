use Rattle.std.proofs.Common.{◌≡◌, ◌∙◌, ℕ, List, [], ◌∷◌, ◌++◌, Bool, true, false, Option, is_err, sym, subst, ap, codes, arith}
use Rattle.std.specs.Option.{is_some, option_and_then}
use Rattle.uimg_base.specs.Writing.{Written}
use Rattle.uimg_blob_reading.specs.declared.keys.Key.TheVariants.{Algo, KeyName}
use Rattle.uimg_fit_base.specs.Files.{cell, number, number_in, value_bytes}
use Rattle.uimg_fit_reading.specs.declared.listing.rows.Signing.{Signing}
use Rattle.uimg_fit_reading.specs.declared.listing.shows.Show.TheVariants.{Text}
use Rattle.uimg_fit_reading.specs.Rows.{required_line, signed_line, signing_cost, signing_lines, text_after}
use Rattle.uimg_fit_reading.specs.{Shows.moment_line, Telling.ListsBetween}
use Rattle.uimg_fit_reading.proofs.{PutLaws.nothing, RowLaws.{keeps_signing, present, property_told}}
use Rattle.uimg_fit_reading.proofs.listing.signing.put_signing.Goals as goal

pub returns-in-Algo-clause-told : goal.returns-in-Algo-clause-told
returns-in-Algo-clause-told g c = λ t o level found n kept.
    let d = g.S.Source.device c.args.fit.now.source.now in
    let f = g.S.Source.device c.put_after.new.source in
    let keeps = (keeps_signing level found.name c.args.part kept).0 in
    subst (λ (p : Signing). ListsBetween (is_err c.put_after.result) (signing_cost found.own p) d f c.args.out.now c.put_after.new.out (signing_lines found.own p)) (sym c.in-Algo.is)
    (property_told (is_err c.put_after.result) d f c.args.out.now c.put_after.new.out d.bytes found.own Algo Text (text_after c.in-Algo.label) c.value_of-algo.result
    (c.value_of-algo.ensures.span t o.read.indexed level found n keeps) (c.value_of-algo.ensures.bytes d.bytes t o.read level found n keeps)
    c.put_after.ensures.uses.asked (c.put_after.ensures.told o.honest))

pub returns-in-KeyName-clause-told : goal.returns-in-KeyName-clause-told
returns-in-KeyName-clause-told g c = λ t o level found n kept.
    let d = g.S.Source.device c.args.fit.now.source.now in
    let f = g.S.Source.device c.put_after-in-KeyName.new.source in
    let e = is_err c.put_after-in-KeyName.result in
    let keeps = (keeps_signing level found.name c.args.part kept).1 in
    subst (λ (p : Signing). ListsBetween e (signing_cost found.own p) d f c.args.out.now c.put_after-in-KeyName.new.out (signing_lines found.own p)) (sym c.in-KeyName.is)
    (property_told e d f c.args.out.now c.put_after-in-KeyName.new.out d.bytes found.own KeyName Text (text_after (codes ":")) c.value_of-key.result
    (c.value_of-key.ensures.span t o.read.indexed level found n keeps) (c.value_of-key.ensures.bytes d.bytes t o.read level found n keeps)
    c.put_after-in-KeyName.ensures.uses.asked (c.put_after-in-KeyName.ensures.told o.honest))

pub returns-in-Required-clause-told : goal.returns-in-Required-clause-told
returns-in-Required-clause-told g c = λ t o level found n kept.
    let d = g.S.Source.device c.args.fit.now.source.now in
    let e = is_err c.put_required.result in
    let keeps = (keeps_signing level found.name c.args.part kept).2 in
    let same : c.is_some.result ≡ is_some (value_bytes found.own (codes "required")) =
    c.is_some.ensures ∙ sym (present found.own (codes "required") d.bytes c.value_of-required.result (c.value_of-required.ensures.bytes d.bytes t o.read level found n keeps)) in
    subst (λ (p : Signing). ListsBetween e (signing_cost found.own p) d d c.args.out.now c.put_required.new.out (signing_lines found.own p)) (sym c.in-Required.is)
    (record { asked = omega arith; written = subst (λ (b : Bool). Written e c.args.out.now c.put_required.new.out (required_line b)) same c.put_required.ensures.told })

pub returns-else-is_some-clause-told : goal.returns-else-is_some-clause-told
returns-else-is_some-clause-told g c = λ t o level found n kept.
    let d = g.S.Source.device c.args.fit.now.source.now in
    let keeps = (keeps_signing level found.name c.args.part kept).1 in
    let same : is_some (value_bytes found.own (codes "key-name-hint")) ≡ false =
    present found.own (codes "key-name-hint") d.bytes c.value_of-key.result (c.value_of-key.ensures.bytes d.bytes t o.read level found n keeps)
    ∙ sym c.is_some-in-Time.ensures ∙ c.if-is_some.false in
    subst (λ (p : Signing). ListsBetween false (signing_cost found.own p) d d c.args.out.now c.args.out.now (signing_lines found.own p)) (sym c.in-Time.is)
    (record { asked = omega arith; written = subst (λ (b : Bool). Written false c.args.out.now c.args.out.now (signed_line c.in-Time.label b (cell found.own (codes "timestamp")))) (sym same) (nothing c.args.out.now) })

pub returns-then-is_some-clause-told : goal.returns-then-is_some-clause-told
returns-then-is_some-clause-told g c = λ t o level found n kept.
    let d = g.S.Source.device c.args.fit.now.source.now in
    let f = g.S.Source.device c.put_signed.new.source in
    let e = is_err c.put_signed.result in
    let four = keeps_signing level found.name c.args.part kept in
    let same : is_some (value_bytes found.own (codes "key-name-hint")) ≡ true =
    present found.own (codes "key-name-hint") d.bytes c.value_of-key.result (c.value_of-key.ensures.bytes d.bytes t o.read level found n four.1)
    ∙ sym c.is_some-in-Time.ensures ∙ c.if-is_some.true in
    let time : cell found.own (codes "timestamp") ≡ number_in d.bytes c.value_of-time.result =
    ap (λ (o : Option (List ℕ)). option_and_then number o) (c.value_of-time.ensures.bytes d.bytes t o.read level found n four.3) in
    subst (λ (p : Signing). ListsBetween e (signing_cost found.own p) d f c.args.out.now c.put_signed.new.out (signing_lines found.own p)) (sym c.in-Time.is)
    (record {
      asked = c.put_signed.ensures.uses.asked;
      written = subst (λ (b : Bool). Written e c.args.out.now c.put_signed.new.out (signed_line c.in-Time.label b (cell found.own (codes "timestamp")))) (sym same)
          (subst (λ (k : Option ℕ). Written e c.args.out.now c.put_signed.new.out (moment_line c.in-Time.label k)) (sym time) (c.put_signed.ensures.told o.honest));
    })
