use Rattle.std.specs.Int.{from_bool}
use Rattle.std.proofs.Common.{rules, ◌≡◌, ◌==◌, ◌∙◌, map, sym, ap, subst, Bool, true, false, IsTrue, List, ℕ}
use Rattle.uimg_blob_reading.specs.declared.roles.Role.TheVariants as role
use Rattle.uimg_blob_reading.specs.{Rows.{table}, Places.read_place}
use Rattle.uimg_signing.specs.{Listing.{name_in, parent_times}, Texts.is_cipher}
use Rattle.uimg_base.specs.Held.{Held}
use Rattle.uimg_blob_reading.specs.Indexed.{IsIndexed}
use Rattle.uimg_signing.proofs.NamedLaws.{told_as, by_role, by_cipher, not_listed}
use Rattle.uimg_signing.proofs.listing.listed_times.Goals as goal

pub returns-in-Root-clause-told : goal.returns-in-Root-clause-told
returns-in-Root-clause-told g c = λ honest t indexed row at.
    let role_is = c.role.ensures row (record { nodes = t; indexed = indexed; is = at }) in
    by_role role.Root row.role _ _ _ _ (sym c.in-Root.is ∙ role_is)

pub returns-in-Configuration-clause-told : goal.returns-in-Configuration-clause-told
returns-in-Configuration-clause-told g c = λ honest t indexed row at.
    let role_is = c.role.ensures row (record { nodes = t; indexed = indexed; is = at }) in
    let one : c.from.result ≡ from_bool (c.args.node == c.args.configuration) = search rules in
    one ∙ by_role role.Configuration row.role _ _ _ _ (sym c.in-Configuration.is ∙ role_is)

pub returns-in-Image-clause-told : goal.returns-in-Image-clause-told
returns-in-Image-clause-told g c = λ honest t indexed row at.
    let role_is = c.role.ensures row (record { nodes = t; indexed = indexed; is = at }) in
    told_as c.count_names.result _ _ (by_role role.Image row.role _ _ _ _ (sym c.in-Image.is ∙ role_is)) (c.count_names.ensures.told honest t indexed row at)

pub returns-in-Hash-clause-told : goal.returns-in-Hash-clause-told
returns-in-Hash-clause-told g c = λ honest t indexed row at.
    let role_is = c.role.ensures row (record { nodes = t; indexed = indexed; is = at }) in
    told_as c.parent_times.result _ _ (by_role role.Hash row.role _ _ _ _ (sym c.in-Hash.is ∙ role_is)) (c.parent_times.ensures.told honest t indexed row at)

pub returns-in-Ok-true-clause-told : goal.returns-in-Ok-true-clause-told
returns-in-Ok-true-clause-told g c = λ honest t indexed row at.
    let d = g.S.Source.device c.args.source.now in
    let role_is = c.role.ensures row (record { nodes = t; indexed = indexed; is = at }) in
    let same = c.in-Ok-true.ensures.uses.same in
    let now = subst (λ (b : Bool). IsTrue b) (sym same.honest) honest in
    let there = subst (λ (h : Held). IsIndexed t c.args.blob.now h.entries) (sym c.in-Ok-true.ensures.room) indexed in
    let cipher = sym c.in-Ok-true.field-0-test ∙ c.in-Ok-true.ensures.told honest t indexed row at in
    told_as c.parent_times-in-Ok-true.result _ _
    (ap (λ (xs : List ℕ). parent_times xs (map (read_place xs) c.args.places.now) (table t) row.parent) same.bytes ∙ by_cipher false 0 true (is_cipher (name_in d.bytes row)) (parent_times d.bytes (map (read_place d.bytes) c.args.places.now) (table t) row.parent) cipher ∙ by_role role.Other row.role _ _ _ _ (sym c.in-Other.is ∙ role_is))
    (c.parent_times-in-Ok-true.ensures.told now t there row at)

pub returns-in-Ok-false-clause-told : goal.returns-in-Ok-false-clause-told
returns-in-Ok-false-clause-told g c = λ honest t indexed row at.
    let d = g.S.Source.device c.args.source.now in
    let role_is = c.role.ensures row (record { nodes = t; indexed = indexed; is = at }) in
    let cipher = sym c.in-Ok-false.field-0-test ∙ c.in-Ok-false.ensures.told honest t indexed row at in
    by_cipher false 0 false (is_cipher (name_in d.bytes row)) (parent_times d.bytes (map (read_place d.bytes) c.args.places.now) (table t) row.parent) cipher ∙ by_role role.Other row.role _ _ _ _ (sym c.in-Other.is ∙ role_is)

pub returns-in_default-clause-told : goal.returns-in_default-clause-told
returns-in_default-clause-told g c = λ honest t indexed row at.
    let role_is = c.role.ensures row (record { nodes = t; indexed = indexed; is = at }) in
    not_listed row.role _ _ _ _ (λ h. c.in_default.not-Root (role_is ∙ h)) (λ h. c.in_default.not-Configuration (role_is ∙ h)) (λ h. c.in_default.not-Image (role_is ∙ h)) (λ h. c.in_default.not-Hash (role_is ∙ h)) (λ h. c.in_default.not-Other (role_is ∙ h))
