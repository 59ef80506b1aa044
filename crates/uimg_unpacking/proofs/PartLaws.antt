-- How the unpacking of a legacy image ends.
use Rattle.std.proofs.Common.{◌≡◌, ℕ, List, Bool, true, false, Option, Some, None, Result, Ok, Err, IsTrue, refl, ap, sym, subst, ◌∙◌, true≢false}
use Rattle.uimg_base.specs.Device.{Device, SameDevice}
use Rattle.uimg_legacy.specs.Unpacking.{EndsAs, unpack_of}
use Rattle.uimg_legacy.specs.declared.fault.Fault.{Fault, TheVariants.{Legacy, Read, Put}}
use Rattle.uimg_unpacking.specs.{Ends.IfKept, Leaving.{Leaves, are_undone, is_left}}
use Rattle.uimg_unpacking.specs.PartEnds.{KeepsRight, end_of_parts, is_right, stands_by_crc32}
use Rattle.uimg_unpacking.specs.PartFilling.{Requests}
use Rattle.uimg_unpacking.specs.declared.trouble.Trouble.{Trouble}
use Rattle.uimg_unpacking.specs.declared.unpacking.Ended.{Ended}
use Rattle.uimg_unpacking.specs.declared.unpacking.Unpacking.{Unpacking}
use Rattle.uimg_world.specs.Deeds.{Deed}

-- what is so if the data are right and there is no trouble
by_result : (r : Result Bool Fault) (trouble : Option Trouble) (claim : Type 0) → (r ≡ Ok true → trouble ≡ None → claim) → IfKept (end_of_parts r trouble) claim
by_result (Ok true) (Some trouble) claim holds = tt
by_result (Ok true) None claim holds = holds refl refl
by_result (Ok false) trouble claim holds = tt
by_result (Err (Legacy fault)) trouble claim holds = tt
by_result (Err Read) trouble claim holds = tt
by_result (Err Put) (Some trouble) claim holds = tt
by_result (Err Put) None claim holds = tt

pub if_kept : (r : Result Bool Fault) (trouble : Option Trouble) (end : Ended) (claim : Type 0) → end ≡ end_of_parts r trouble → (r ≡ Ok true → trouble ≡ None → claim) → IfKept end claim
if_kept r trouble end claim is holds = subst (λ (e : Ended). IfKept e claim) (sym is) (by_result r trouble claim holds)

pub kept_right : (asked : Unpacking) (d e : Device) (only : Option ℕ) (r : Result Bool Fault) (trouble : Option Trouble) (end : Ended) → SameDevice d e → IsTrue d.honest → end ≡ end_of_parts r trouble → stands_by_crc32 asked.need ≡ true → Requests asked.only only → (IsTrue e.honest → EndsAs r (unpack_of only e.bytes)) → KeepsRight asked d.bytes end
kept_right asked d e only r trouble end same honest is strong some ends = if_kept r trouble end _ is (λ right none. (
  strong,
  (
    only,
    some,
    subst (λ (result : Result Bool Fault). EndsAs result (unpack_of only d.bytes)) right
        (subst (λ (file : List ℕ). EndsAs r (unpack_of only file)) same.bytes (ends (subst (λ (b : Bool). IsTrue b) (sym same.honest) honest))),
  ),
))

-- where no file has its name
left_by : (r : Result Bool Fault) (trouble : Option Trouble) (before after : List Deed) (folder : List ℕ) → is_left (end_of_parts r trouble) ≡ true → (is_right r ≡ false → Leaves folder before after) → (are_undone trouble ≡ true → Leaves folder before after)
    → Leaves folder before after
left_by (Ok true) (Some trouble) before after folder left unnamed undone = undone left
left_by (Ok true) None before after folder left unnamed undone = absurd (true≢false (sym left))
left_by (Ok false) trouble before after folder left unnamed undone = unnamed refl
left_by (Err fault) trouble before after folder left unnamed undone = unnamed refl

pub left_parts : (r : Result Bool Fault) (trouble : Option Trouble) (end : Ended) (names : Bool) (before after : List Deed) (folder its : List ℕ) → end ≡ end_of_parts r trouble → names ≡ is_right r → its ≡ folder → is_left end ≡ true
    → (names ≡ false → Leaves its before after) → (are_undone trouble ≡ true → Leaves its before after) → Leaves folder before after
left_parts r trouble end names before after folder its is right place left unnamed undone =
    subst (λ (f : List ℕ). Leaves f before after) place (left_by r trouble before after its (ap is_left (sym is) ∙ left) (λ wrong. unnamed (right ∙ wrong)) undone)
