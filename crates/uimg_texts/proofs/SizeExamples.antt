-- Roundings worked by hand, so that a wrong rule in the definition does not check.
use Rattle.std.proofs.Common.{◌≡◌, refl}
use Rattle.uimg_texts.specs.Sizes.{first_from, hundredths}

-- nothing, 12.5 and 37.5 hundredths to the even one, and one
pub known_hundredths : (hundredths 0 1024 ≡ 0) × (hundredths 128 1024 ≡ 12) × (hundredths 384 1024 ≡ 38) × (hundredths 1024 1024 ≡ 100)
unfolding first_from hundredths
known_hundredths = (refl, refl, refl, refl)

-- below a tie and above it: 12.40 and 12.60
pub beside_ties : (hundredths 127 1024 ≡ 12) × (hundredths 129 1024 ≡ 13)
unfolding first_from hundredths
beside_ties = (refl, refl)
