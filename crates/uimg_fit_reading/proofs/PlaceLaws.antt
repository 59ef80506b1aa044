-- The place of a payload, and whether it ends in the file.
use Rattle.std.proofs.Common.{◌≡◌, ◌<◌, ◌≤◌, ◌+◌, ℕ, List, length, Ok, Err, Result, refl, ap, sym, ◌∙◌}
use Rattle.std.proofs.lemmas.Bool.{lt-ltb, le-ltb}
use Rattle.uimg_texts.specs.Slices.{slice}
use Rattle.uimg_base.specs.{Results.◌>>=◌, declared.spans.Span.Span}
use Rattle.uimg_blob_reading.specs.{LookUps.NodeOf, Spots.Spot}
use Rattle.uimg_fit_base.specs.declared.fault.FitFault.{FitFault, TheVariants.DataOutside}
use Rattle.uimg_fit_base.specs.Places.{place, bytes_at, payload}

inside_of : (file : List ℕ) (p : Span) → p.place + p.length ≤ length file → bytes_at file p ≡ Ok (slice file p.place p.length)
unfolding bytes_at
inside_of file p inside = rw (le-ltb (length file) (p.place + p.length) inside) refl

outside_of : (file : List ℕ) (p : Span) → length file < p.place + p.length → bytes_at file p ≡ Err DataOutside
unfolding bytes_at
outside_of file p outside = rw (lt-ltb (length file) (p.place + p.length) outside) refl

-- a payload that ends in the file
pub payload_inside : (file : List ℕ) (image : NodeOf Spot) (p : Span) → Ok p ≡ place file image → p.place + p.length ≤ length file → payload file image ≡ Ok (slice file p.place p.length)
payload_inside file image p is inside = ap (λ (r : Result Span FitFault). r >>= bytes_at file) (sym is) ∙ inside_of file p inside

-- one that ends after it
pub payload_outside : (file : List ℕ) (image : NodeOf Spot) (p : Span) → Ok p ≡ place file image → length file < p.place + p.length → payload file image ≡ Err DataOutside
payload_outside file image p is outside = ap (λ (r : Result Span FitFault). r >>= bytes_at file) (sym is) ∙ outside_of file p outside

-- an image without a place
pub payload_lacks : (file : List ℕ) (image : NodeOf Spot) (fault : FitFault) → Err fault ≡ place file image → payload file image ≡ Err fault
payload_lacks file image fault is = ap (λ (r : Result Span FitFault). r >>= bytes_at file) (sym is)
