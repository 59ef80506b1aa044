-- What is read of a node's properties.
use Rattle.std.proofs.Common.{◌≡◌, ◌≤◌, ◌<◌, ◌+◌, ◌-◌, ℕ, List, length, take, drop, min, Option, Some, None, Ok, IfSome, Bool, IsTrue, refl, ap, sym, ◌∙◌, subst, length-take, length-drop, arith}
use Rattle.std.{specs.Option.{MatchOption, option_map}, proofs.lemmas.Bool.{lt-ltb, le-ltb}}
use Rattle.std.proofs.lemmas.List.{take-take}
use Rattle.uimg_texts.specs.{Numbers.be32, Nul.before_nul, Slices.slice}
use Rattle.uimg_base.specs.Device.{Device, SameDevice}
use Rattle.uimg_blob_reading.specs.declared.{extent.Extent.Extent, keys.Key.Key, tokens.Head.Head}
use Rattle.uimg_blob_reading.specs.Tokens.{Blocks, prop, reach, property_with_name, property_at}
use Rattle.uimg_blob_reading.specs.{Keys.key_named, Extents.blocks_of, ReadTokens.ReadsProp}
use Rattle.uimg_blob_reading.specs.Places.{IsHead, NameIs, FindsPlace}
use Rattle.uimg_blob_reading.proofs.{NumberLaws.reach-slice, PhaseLaws.{some_none, some_some}}

-- what is so over a source that is what it was
pub over : (d e : Device) (P : List ℕ → Type 0) → SameDevice d e → (IsTrue e.honest → P e.bytes) → IsTrue d.honest → P d.bytes
over d e P same told honest = subst P same.bytes (told (subst (λ (b : Bool). IsTrue b) (sym same.honest) honest))

-- a property whose head is within the blocks
pub head_is : (b : Blocks) (at size name : ℕ) → size ≡ be32 b.bytes (at + 4) → name ≡ be32 b.bytes (at + 4 + 4) → at + 12 + size ≤ b.structure_end → name < b.strings_size
    → property_at b at ≡ property_with_name (before_nul (reach b.bytes (b.strings + name) (b.strings + b.strings_size))) (at + 12) (slice b.bytes (at + 12) size)
head_is b at size name sized property_with_name within below =
    let eight : at + 4 + 4 ≡ at + 8 = omega arith in
    let second : be32 b.bytes (at + 8) ≡ name = sym (property_with_name ∙ ap (be32 b.bytes) eight) in
    rw (← sized) (rw second
    (rw (le-ltb b.structure_end (at + 12) (omega (arith, within))) (rw (le-ltb b.structure_end (at + 12 + size) within)
    (rw (lt-ltb name b.strings_size below) refl))))

-- the name that bytes near a place begin with
pub name_read : (bytes : List ℕ) (at end : ℕ) (near : List ℕ) (found : Option ℕ) → near ≡ reach bytes at end → IfSome found (λ n. n < length near)
    → MatchOption found (before_nul near ≡ None) (λ n. before_nul near ≡ Some (take n near)) → NameIs bytes at end found
name_read bytes at end near None is within h = ap before_nul (sym is) ∙ h
name_read bytes at end near (Some n) is within h =
    let m : ℕ = min 256 (end - at) in
    let all : near ≡ slice bytes at m = is ∙ reach-slice bytes at end in
    let few : n ≤ m = omega (arith, within, ap length all, length-take m (drop at bytes)) in
    ap before_nul (sym is) ∙ h ∙ ap (λ (l : List ℕ). Some l) (ap (take n) all ∙ take-take n m (drop at bytes) few)

-- how many bytes a value has
value_size : (bytes : List ℕ) (at size : ℕ) → at + size ≤ length bytes → size ≡ length (slice bytes at size)
value_size bytes at size within = omega (arith, within, length-take size (drop at bytes), length-drop at bytes)

-- the key of a property
keyed_by : (bytes : List ℕ) (x : Extent) (at : ℕ) (head : Head) (key : Option Key) (name : Option (List ℕ)) → property_at (blocks_of bytes x) at ≡ property_with_name name (at + 12) (slice bytes (at + 12) head.length)
    → at + 12 + head.length ≤ length bytes → Some key ≡ option_map key_named name → ReadsProp at (prop at (property_at (blocks_of bytes x) at)) head.length key
keyed_by bytes x at head key name is within keyed = grind (arith, some_none, some_some, value_size)

pub key_read : (bytes : List ℕ) (x : Extent) (at : ℕ) (head : Head) (key : Option Key) → IsHead bytes x at (Ok head) → at + 12 + head.length ≤ length bytes
    → Some key ≡ option_map key_named (before_nul (reach bytes head.name (x.strings + x.strings_size))) → ReadsProp at (prop at (property_at (blocks_of bytes x) at)) head.length key
key_read bytes x at head key is within keyed = keyed_by bytes x at head key (before_nul (reach bytes head.name (x.strings + x.strings_size))) is within keyed

-- the place of a property
pub place_found : (bytes : List ℕ) (x : Extent) (at : ℕ) (head : Head) (n : ℕ) → IsHead bytes x at (Ok head) → at + 12 + head.length ≤ length bytes
    → NameIs bytes head.name (x.strings + x.strings_size) (Some n)
    → FindsPlace bytes (property_at (blocks_of bytes x) at) (Some (record { name = record { place = head.name; length = n }; value = record { place = at + 12; length = head.length } }))
place_found bytes x at head n is within name = grind (arith, value_size)
