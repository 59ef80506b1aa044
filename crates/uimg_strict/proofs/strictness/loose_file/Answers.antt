use Rattle.std.proofs.Common.{refl, ℕ, List, Some, ap, sym, ◌∙◌}
use Rattle.std.specs.Option.{option_map}
use Rattle.uimg_blob_reading.specs.Spots.{spots}
use Rattle.uimg_fit_reading.proofs.OpenedLaws.{still}
use Rattle.uimg_strict.specs.Looseness.{LooseSaid, loose_in, loose_file, is_nameless}
use Rattle.uimg_strict.specs.Soundness.{is_sound}
use Rattle.uimg_strict.specs.Telling.{read_loose}
use Rattle.uimg_strict.proofs.BlobLaws.{unsound, named, in_order}
use Rattle.uimg_strict.proofs.PassLaws.{own_passed}
use Rattle.uimg_strict.proofs.strictness.loose_file.Goals as goal

pub returns-then-not-sound-clause-told : goal.returns-then-not-sound-clause-told
returns-then-not-sound-clause-told g c = λ t o found from.
    let file = (g.S.Source.device c.args.source.now).bytes in
    ap (λ (l : LooseSaid). Some l) c.in_root.ensures
    ∙ unsound (is_sound file) (is_nameless (spots t)) (loose_in file (spots t) found) (sym (c.in_ok-sound.ensures.told o.honest) ∙ c.if-not-sound.true)

pub returns-then-not-is_nameless-clause-told : goal.returns-then-not-is_nameless-clause-told
returns-then-not-is_nameless-clause-told g c = λ t o found from.
    let file = (g.S.Source.device c.args.source.now).bytes in
    ap (λ (l : LooseSaid). Some l) c.in_root-then-not-is_nameless.ensures
    ∙ named (is_sound file) (is_nameless (spots t)) (loose_in file (spots t) found) (sym (c.in_ok-sound.ensures.told o.honest) ∙ c.if-not-sound.false)
    (sym (c.is_nameless.ensures file t o.read) ∙ c.if-not-is_nameless.true)

pub returns-in_err-found-clause-told : goal.returns-in_err-found-clause-told
returns-in_err-found-clause-told g c = λ t o found from.
    let file = (g.S.Source.device c.args.source.now).bytes in
    own_passed (option_map read_loose) (loose_file file (spots t) found) c.from_residual-in_err-found.result c.in_err-found.field-0.0 c.from_residual-in_err-found.ensures.1
    (c.in_err-found.ensures.told t (still c.in_ok-sound.ensures.uses.same refl o) found from)

pub returns-clause-told : goal.returns-clause-told
returns-clause-told g c = λ t o found from.
    let file = (g.S.Source.device c.args.source.now).bytes in
    let same = c.in_ok-sound.ensures.uses.same in
    c.in_ok-found.ensures.told t (still same refl o) found from
    ∙ ap (λ (xs : List ℕ). loose_in xs (spots t) found) same.bytes
    ∙ in_order (is_sound file) (is_nameless (spots t)) (loose_in file (spots t) found) (sym (c.in_ok-sound.ensures.told o.honest) ∙ c.if-not-sound.false)
    (sym (c.is_nameless.ensures file t o.read) ∙ c.if-not-is_nameless.false)
