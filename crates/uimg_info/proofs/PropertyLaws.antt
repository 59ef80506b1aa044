-- Configurations, each with its properties.
use Rattle.std.proofs.Common.{◌≡◌, ◌≤◌, ℕ, List, [], ◌∷◌, length, map, drop, min, refl, length-drop, arith}
use Rattle.std.proofs.Math.{ListN.length-map, Nat.suc-ne-zero}
use Rattle.uimg_base.specs.declared.spans.Span.{Span}
use Rattle.uimg_blob_reading.specs.Plain.{NamedOf}
use Rattle.uimg_fit_checking.specs.Survey.{ConfigurationSaid}
use Rattle.uimg_info.specs.Fit.{configurations_json}

none_of : (configurations : List ConfigurationSaid) (lists : List (List (NamedOf Span))) → min (length configurations) (length lists) ≡ 0 → configurations_json configurations lists ≡ []
none_of [] lists none = refl
none_of (configuration ∷ configurations) [] none = refl
none_of (configuration ∷ configurations) (properties ∷ lists) none = absurd (suc-ne-zero (min (length configurations) (length lists)) (omega (arith, none)))

-- none is left behind as many as there are of both
pub none_behind : {X Y : Type 0} (f : X → ConfigurationSaid) (h : Y → List (NamedOf Span)) (xs : List X) (ys : List Y) (i : ℕ) → min (length xs) (length ys) ≤ i
    → configurations_json (map f (drop i xs)) (map h (drop i ys)) ≡ []
none_behind f h xs ys i behind =
    none_of (map f (drop i xs)) (map h (drop i ys))
    (omega (arith, behind, length-map (drop i xs) f, length-map (drop i ys) h, length-drop i xs, length-drop i ys))
