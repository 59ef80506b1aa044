-- No name is longer than 31 bytes.
use Rattle.std.proofs.Common.{◌≡◌, ◌<◌, ℕ, List, [], ◌∷◌, length, find, Option, Some, None, Bool, true, nat_lt, cond, false, refl, sym, ap, ◌∙◌, arith}
use Rattle.std.specs.{Option.{option_map, option_map_or}, List.list_all, Char.to_ascii_lowercase}
use Rattle.std.specs.Str.{bytes_eq, str_eq_ignore_ascii_case, str_to_ascii_lowercase}
use Rattle.std.proofs.lemmas.{Bool.{and_parts, ltb-true}, List.length-map}
use Rattle.std.proofs.lemmas.Slice.Eq.{bytes_eq-Decides}
use Rattle.uimg_texts.specs.Names.{NameRow}
use Rattle.uimg_texts.specs.declared.{field.Field.Field, naming.Naming.Naming}
use Rattle.uimg_texts.specs.declared.naming.Naming.TheVariants.{Profile, All}
use Rattle.uimg_texts.specs.declared.field.Field.TheVariants.{Architecture, System, Kind, Compression}
use Rattle.uimg_texts.specs.Naming.{rows, unknown, is_named, code_in, code_text, code_named, name_text}

-- each short name of some rows has at most 31 bytes
abbrev AreShort : List NameRow → Bool
AreShort rows = list_all (λ r. nat_lt (length r.short) 32) rows

by_bool : {P : Type 0} (b : Bool) → (b ≡ true → P) → (b ≡ false → P) → P
by_bool true = λ yes no. yes refl
by_bool false = λ yes no. no refl

-- a row that has the name is as long
named_long : (naming : Naming) (name : List ℕ) (r : NameRow) → is_named naming name r ≡ true → length r.short ≡ length name
named_long Profile name r named =
    let is : name ≡ r.short = (bytes_eq-Decides name r.short).0 (and_parts r.is_profile (bytes_eq name r.short) named).1 in
    sym (ap length is)
named_long All name r named =
    let is : str_to_ascii_lowercase r.short ≡ str_to_ascii_lowercase name = (bytes_eq-Decides (str_to_ascii_lowercase r.short) (str_to_ascii_lowercase name)).0 named in
    omega (arith, ap length is, length-map r.short to_ascii_lowercase, length-map name to_ascii_lowercase)

-- no row has a longer name
none_longer : (naming : Naming) (table : List NameRow) (name : List ℕ) → AreShort table ≡ true → 31 < length name → code_in naming table name ≡ None
none_longer naming [] name short long = refl
none_longer naming (r ∷ rs) name short long =
    let parts = and_parts (nat_lt (length r.short) 32) (AreShort rs) short in
    let below : length r.short < 32 = ltb-true (length r.short) 32 parts.0 in
    by_bool (is_named naming name r)
    (λ named. absurd (omega (arith, named_long naming name r named, below, long)))
    (λ differs. ap (λ (b : Bool). option_map (λ (x : NameRow). x.code) (cond b (Some r) (find (is_named naming name) rs))) differs ∙ none_longer naming rs name parts.1 long)

all_short : (field : Field) → AreShort (rows field) ≡ true
all_short Architecture = refl
all_short System = refl
all_short Kind = refl
all_short Compression = refl

pub none_named : (naming : Naming) (field : Field) (name : List ℕ) → 31 < length name → code_named naming field name ≡ None
none_named naming field name long = none_longer naming (rows field) name (all_short field) long

pub longer_unknown : (naming : Naming) (field : Field) (name : List ℕ) → 31 < length name → name_text naming field name ≡ unknown field
unfolding name_text
longer_unknown naming field name long = ap (λ (o : Option ℕ). option_map_or (code_text naming field) o (unknown field)) (none_named naming field name long)
