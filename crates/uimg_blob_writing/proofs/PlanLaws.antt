-- What measuring answers, from its parts.
use Rattle.std.proofs.Common.{◌≡◌, ◌<◌, ℕ, List, None, Result, Ok, Err, true, false, nat_lt, is_err, refl, sym}
use Rattle.std.{proofs.lemmas.Bool.lt-ltb, specs.Result.OnOk}
use Rattle.uimg_blob_reading.specs.declared.fault.BlobFault.TheVariants.{TooLarge}
use Rattle.uimg_blob_writing.specs.declared.blob_end.BlobEnd.{BlobEnd}
use Rattle.uimg_blob_writing.specs.declared.reservation.Reservation.{Reservation}
use Rattle.uimg_blob_writing.specs.{Content.Unread, Layouts.{plan_with, totalsize}}
use Rattle.uimg_blob_writing.specs.Measured.{bad_name, measured_by}

pub on-ok : {X E P : Type 0} (r : Result X E) → is_err r ≡ false → OnOk r P → P
on-ok (Ok x) e p = p
on-ok (Err x) e p = absurd (cc)

pub measured-large : (ending : BlobEnd) (rs : List Reservation) (t : Unread) → None ≡ bad_name t → 4294967295 < totalsize (plan_with ending rs t) → measured_by ending rs t ≡ Err TooLarge
measured-large ending rs t good large =
    let over : nat_lt 4294967295 (totalsize (plan_with ending rs t)) ≡ true = lt-ltb _ _ large in
    rw (sym good) (rw over refl)
