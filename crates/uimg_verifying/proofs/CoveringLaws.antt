-- Whether an image is named, a node at a time.
use Rattle.std.proofs.Common.{◌≡◌, ℕ, List, [], ◌∷◌, Option, Some, None, Bool, true, false, if◌then◌else◌, refl, ap, sym, ◌∙◌, true≢false}
use Rattle.uimg_blob_reading.specs.{Rows.Row, declared.roles.Role.Role}
use Rattle.uimg_blob_reading.specs.declared.roles.Role.TheVariants as role
use Rattle.uimg_fit_base.specs.declared.fault.Fault.TheVariants as of
use Rattle.uimg_fit_checking.specs.SurveyParts.{is_own}
use Rattle.uimg_fit_checking.specs.declared.surveying.fault.SurveyFault.{SurveyFault}
use Rattle.uimg_fit_checking.specs.declared.surveying.fault.SurveyFault.TheVariants.{Stopped, OutOfMemory, Changed}
use Rattle.uimg_signing.specs.Listing.{name_in}
use Rattle.uimg_strict.specs.Looseness.{LooseSaid}
use Rattle.uimg_strict.specs.declared.loose.Looseness.TheVariants.{Unsigned}
use Rattle.uimg_verifying.specs.Covering.{covers_as, is_outer, is_uncovered, uncovered_as, uncovered_from}

pub not_covering : (r : Role) (names : Bool) → (r ≡ role.Configuration → ⊥) → false ≡ covers_as r names
not_covering role.Configuration names not = absurd (not refl)
not_covering role.Root names not = refl
not_covering role.Images names not = refl
not_covering role.Image names not = refl
not_covering role.Hash names not = refl
not_covering role.Signature names not = refl
not_covering role.Configurations names not = refl
not_covering role.Other names not = refl

pub no_image : (r : Role) (covered : Bool) → (r ≡ role.Image → ⊥) → false ≡ uncovered_as r covered
no_image role.Image covered not = absurd (not refl)
no_image role.Root covered not = refl
no_image role.Images covered not = refl
no_image role.Hash covered not = refl
no_image role.Signature covered not = refl
no_image role.Configuration covered not = refl
no_image role.Configurations covered not = refl
no_image role.Other covered not = refl

pub own_outer : (fault : SurveyFault) → is_own fault ≡ true → is_outer fault ≡ true
own_outer (Stopped of.Read) own = refl
own_outer (Stopped of.Put) own = absurd (true≢false (sym own))
own_outer (Stopped (of.Blob fault at)) own = absurd (true≢false (sym own))
own_outer (Stopped (of.Fit fault)) own = absurd (true≢false (sym own))
own_outer OutOfMemory own = refl
own_outer Changed own = refl

module _ (file : List ℕ) (all more left : List Row) (row : Row) (are : left ≡ row ∷ more) (found : Bool) (is : found ≡ is_uncovered file all row) where
  after : (if found then Some (record { why = Unsigned; node = Some (name_in file row) }) else uncovered_from file all more) ≡ uncovered_from file all left
  unfolding uncovered_from
  after = ap (λ (b : Bool). (let o : Option LooseSaid = if b then Some (record { why = Unsigned; node = Some (name_in file row) }) else uncovered_from file all more in o)) is
      ∙ sym (ap (uncovered_from file all) are)

  pub uncovered_here : found ≡ true → (said : LooseSaid) → said ≡ record { why = Unsigned; node = Some (name_in file row) } → Some said ≡ uncovered_from file all left
  uncovered_here so said what =
      ap (λ (x : LooseSaid). let o : Option LooseSaid = Some x in o) what
      ∙ sym (ap (λ (b : Bool). (let o : Option LooseSaid = if b then Some (record { why = Unsigned; node = Some (name_in file row) }) else uncovered_from file all more in o)) so) ∙ after

  pub uncovered_more : found ≡ false → uncovered_from file all more ≡ uncovered_from file all left
  uncovered_more so =
      sym (ap (λ (b : Bool). (let o : Option LooseSaid = if b then Some (record { why = Unsigned; node = Some (name_in file row) }) else uncovered_from file all more in o)) so) ∙ after

pub none_uncovered : (file : List ℕ) (all left : List Row) → left ≡ [] → None ≡ uncovered_from file all left
unfolding uncovered_from
none_uncovered file all left none = rw none refl
