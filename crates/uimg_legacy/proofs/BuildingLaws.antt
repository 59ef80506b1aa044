-- What is told of an image that is built.
use Rattle.std.proofs.Common.{◌≡◌, ◌<◌, ℕ, ◌^◌, List, [], length, Bool, false, true≢false, Result, Ok, Err, refl, arith}
use Rattle.std.{specs.{List.All, Prelude.is_err}, proofs.lemmas.List.get_or_default}
use Rattle.uimg_base.specs.{Sink.Sink, Writing.Written, Outcome.Tells}
use Rattle.uimg_legacy.specs.{declared.options.Options.Options, Faults.{is_refused, built_end}}
use Rattle.uimg_legacy.specs.declared.fault.Fault.{Fault, TheVariants.{Legacy, Read, Put}}
use Rattle.uimg_legacy.specs.Building.{data_of, data_to_build, legacy_image, build_of}
use Rattle.uimg_legacy.proofs.PlacedPartsLaws.{part_fits}

-- each part is as short as the data
pub parts_small : (has : Bool) (ps : List (List ℕ)) → length (data_of has ps) < 2 ^ 32 → All (λ p. length p < 2 ^ 32) ps
parts_small has ps small k d within =
    let fits = part_fits has ps k within in
    rw (get_or_default ps k d [] within) (omega (arith, fits, small))

-- an image whose parts are accepted was written, or a prefix of it
pub tells_image : {X : Type 0} (r : Result X Fault) (options : Options) (ps : List (List ℕ)) (payload : List ℕ) (s t : Sink) → data_to_build options.kind ps ≡ Ok payload → is_refused r ≡ false → Written (is_err r) s t (legacy_image options payload) → Tells (built_end r) (build_of options ps) s t
tells_image (Ok x) options ps payload s t built accepted p = rw built (refl, p.all)
tells_image (Err (Legacy f)) options ps payload s t built accepted p = absurd (true≢false accepted)
tells_image (Err Read) options ps payload s t built accepted p = rw built p.prefix
tells_image (Err Put) options ps payload s t built accepted p = rw built p.prefix
