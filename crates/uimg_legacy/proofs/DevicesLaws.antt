-- One of several devices was called.
use Rattle.std.proofs.Common.{◌≡◌, ◌<◌, ℕ, List, [], length, map, get_or, set, Bool, true, false, IsTrue, ◌∙◌, ap, sym, subst, arith}
use Rattle.std.proofs.lemmas.List.{map-set, length-map, get_or-map, get_or-set_same, get_or-set_other}
use Rattle.std.proofs.Math.Seq.{map-set_same}
use Rattle.uimg_base.specs.Device.{Device, SameDevice, Rose, RisesIf}
use Rattle.uimg_legacy.specs.Devices.{bytes_of, asked_of, failures_of, AreHonest, SameDevices, OneRisesIf, UsesAll, AsksNone}

-- a fact of one of them
at_map : {X Y : Type 0} (device : X → Device) (f : Device → Y) (xs : List X) (i : ℕ) (x : X) (y : Y) → i < length xs → get_or (map f (map device xs)) i y ≡ f (device (get_or xs i x))
at_map device f xs i x y within =
    get_or-map f (map device xs) i (device x) y (rw (length-map xs device) within) ∙ ap f (get_or-map device xs i x (device x) within)

-- a fact that the call left
left_as : {X Y : Type 0} (device : X → Device) (f : Device → Y) (xs : List X) (i : ℕ) (x z : X) → i < length xs → f (device z) ≡ f (device (get_or xs i x)) → map f (map device (set xs i z)) ≡ map f (map device xs)
left_as device f xs i x z within same =
    ap (λ ds. map f ds) (map-set device xs i z)
    ∙ map-set_same f (map device xs) i (device z) (device x) (same ∙ sym (ap f (get_or-map device xs i x (device x) within)))

-- the bytes of one of them
pub bytes_at : {X : Type 0} (device : X → Device) (xs : List X) (i : ℕ) (x : X) → i < length xs → get_or (bytes_of (map device xs)) i [] ≡ (device (get_or xs i x)).bytes
bytes_at device xs i x within = at_map device (λ d. d.bytes) xs i x [] within

-- each of them is honest
pub honest_at : {X : Type 0} (device : X → Device) (xs : List X) (i : ℕ) (x : X) → i < length xs → AreHonest (map device xs) → IsTrue (device (get_or xs i x)).honest
honest_at device xs i x within honest =
    subst (λ (d : Device). IsTrue d.honest) (get_or-map device xs i x (device x) within) (honest i (device x) (rw (length-map xs device) within))

-- they stay what they are
pub same_after : {X : Type 0} (device : X → Device) (xs : List X) (i : ℕ) (x z : X) → i < length xs → SameDevice (device (get_or xs i x)) (device z) → SameDevices (map device xs) (map device (set xs i z))
same_after device xs i x z within same = record {
  bytes = left_as device (λ d. d.bytes) xs i x z within same.bytes;
  honest = left_as device (λ d. d.honest) xs i x z within same.honest;
}

-- nothing was asked
pub asked_after : {X : Type 0} (device : X → Device) (xs : List X) (i : ℕ) (x z : X) → i < length xs → (device z).asked ≡ (device (get_or xs i x)).asked → asked_of (map device (set xs i z)) ≡ asked_of (map device xs)
asked_after device xs i x z within same = left_as device (λ d. d.asked) xs i x z within same

-- the call failed, or not
pub rises_after : {X : Type 0} (device : X → Device) (b : Bool) (xs : List X) (i : ℕ) (x z : X) → i < length xs → RisesIf b (device (get_or xs i x)).failures (device z).failures → OneRisesIf b (map device xs) (map device (set xs i z))
rises_after device false xs i x z within same = left_as device (λ d. d.failures) xs i x z within same
rises_after device true xs i x z within rose =
    let old : failures_of (map device xs) i ≡ (device (get_or xs i x)).failures = at_map device (λ d. d.failures) xs i x 0 within in
    let new : failures_of (map device (set xs i z)) i ≡ (device z).failures =
    ap (λ ds. get_or (map (λ (d : Device). d.failures) ds) i 0) (map-set device xs i z)
    ∙ ap (λ ns. get_or ns i 0) (map-set (λ (d : Device). d.failures) (map device xs) i (device z))
    ∙ get_or-set_same (map (λ (d : Device). d.failures) (map device xs)) i (device z).failures 0 (rw (length-map (map device xs) (λ (d : Device). d.failures), length-map xs device) within) in
    record {
      number = i;
      within = rw (length-map xs device) within;
      rose = subst (λ (n : ℕ). Rose (failures_of (map device xs) i) n) (sym new) (subst (λ (n : ℕ). Rose n (device z).failures) (sym old) rose);
      others = λ j other.
          ap (λ ds. get_or (map (λ (d : Device). d.failures) ds) j 0) (map-set device xs i z)
          ∙ ap (λ ns. get_or ns j 0) (map-set (λ (d : Device). d.failures) (map device xs) i (device z))
          ∙ get_or-set_other (map (λ (d : Device). d.failures) (map device xs)) i j (device z).failures 0 other;
    }

-- the part was used, and so all were
pub uses_after : {X : Type 0} (device : X → Device) (b : Bool) (xs : List X) (i : ℕ) (x z : X) → i < length xs → SameDevice (device (get_or xs i x)) (device z) → RisesIf b (device (get_or xs i x)).failures (device z).failures → UsesAll b (map device xs) (map device (set xs i z))
uses_after device b xs i x z within same rose = record { same = same_after device xs i x z within same; failures = rises_after device b xs i x z within rose }

-- one call after others
pub same_then : (o m n : List Device) → SameDevices o m → SameDevices m n → SameDevices o n
same_then o m n p q = record { bytes = q.bytes ∙ p.bytes; honest = q.honest ∙ p.honest }

-- there are as many of them as before
pub count_same : (o n : List Device) → SameDevices o n → length n ≡ length o
count_same o n same =
    sym (length-map n (λ (d : Device). d.bytes)) ∙ ap length same.bytes ∙ length-map o (λ (d : Device). d.bytes)

pub count_parts : {X : Type 0} (device : X → Device) (o n : List X) → SameDevices (map device o) (map device n) → length n ≡ length o
count_parts device o n same =
    sym (length-map n device) ∙ count_same (map device o) (map device n) same ∙ length-map o device

-- there are as many lists of bytes
pub count_bytes : {X : Type 0} (device : X → Device) (xs : List X) → length (bytes_of (map device xs)) ≡ length xs
count_bytes device xs = length-map (map device xs) (λ (d : Device). d.bytes) ∙ length-map xs device

-- they stay honest
pub honest_then : (o n : List Device) → SameDevices o n → AreHonest o → AreHonest n
honest_then o n same honest i d within =
    let count = count_same o n same in
    let before : i < length o = omega (arith, within, count) in
    let flag : (get_or o i d).honest ≡ (get_or n i d).honest =
    sym (get_or-map (λ (d : Device). d.honest) o i d false before)
    ∙ ap (λ (bs : List Bool). get_or bs i false) (sym same.honest)
    ∙ get_or-map (λ (d : Device). d.honest) n i d false within in
    subst (λ (b : Bool). IsTrue b) flag (honest i d before)

-- a failure after calls that did not fail
pub rises_then : (b : Bool) (o m n : List Device) → length m ≡ length o → map (λ d. d.failures) m ≡ map (λ d. d.failures) o → OneRisesIf b m n → OneRisesIf b o n
rises_then false o m n count same rose = rose ∙ same
rises_then true o m n count same rose = record {
  number = rose.number;
  within = subst (λ (k : ℕ). rose.number < k) count rose.within;
  rose = subst (λ (ns : List ℕ). Rose (get_or ns rose.number 0) (failures_of n rose.number)) same rose.rose;
  others = λ j other. subst (λ (ns : List ℕ). failures_of n j ≡ get_or ns j 0) same (rose.others j other);
}

-- a use after others that did not fail
pub uses_then : {b : Bool} {o m n : List Device} → UsesAll false o m → UsesAll b m n → UsesAll b o n
uses_then p q = record { same = same_then _ _ _ p.same q.same; failures = rises_then _ _ _ _ (count_same _ _ p.same) p.failures q.failures }

-- one that asks for no byte is a use
pub unasked : {b : Bool} {o n : List Device} → AsksNone b o n → UsesAll b o n
unasked p = record { same = p.same; failures = p.failures }
