-- What is kept of a tree: an entry of 16 words for each node, in reading order.
use Rattle.std.specs.{List.AllByRecursion, Option.option_map, Str.bytes_eq}
use Rattle.std.specs.Prelude.{◌≡◌, ℕ, suc, ◌<◌, ◌≤◌, Bool, if◌then◌else◌, ◌+◌, ◌*◌, ◌-◌, ◌^◌, List}
use Rattle.std.specs.Prelude.{[], ◌∷◌, ◌++◌, length, map, replicate, Option, Some, None, IfSome}
use Rattle.std.specs.Prelude.{find, get_or, ◌==◌}
use Rattle.uimg_blob_reading.specs.declared.keys.Key.{Key}
use Rattle.uimg_blob_reading.specs.declared.roles.Role.{Role, TheVariants.{Signature, Other}}
use Rattle.uimg_blob_reading.specs.declared.roles.Role.TheVariants.{Root, Images, Image, Hash}
use Rattle.uimg_blob_reading.specs.declared.roles.Role.TheVariants.{Configurations, Configuration}
use Rattle.uimg_blob_reading.specs.{Tokens.Property, Grammar.{Siblings, none, node}, Keys.name_of}
use Rattle.uimg_blob_reading.specs.Roles.{Level, top, role_at, level_in, level_after, keys_of}
use Rattle.uimg_blob_reading.specs.Rows.{size}

-- A node: its offset, name, properties and role, its parent's number, and the number of the first
-- node after its descendants.
pub record Kept : Type 0 where
  pub at : ℕ
  pub name : List ℕ
  pub own : List Property
  pub role : Role
  pub parent : Option ℕ
  pub end : ℕ

-- the index of a name among those of some keys, if it is one of them
abbrev pub slot : List ℕ → List Key → Option ℕ
slot name [] = None
slot name (key ∷ keys) =
    if bytes_eq (name_of key) name then Some 0 else option_map suc (slot name keys)

-- The result is the slot of the key's value, one of at most eleven that the role keeps.
pub record IsSlot (role : Role) (key : Key) (result : Option ℕ) : Type 0 where
  pub within : IfSome result (λ i. i < 11)
  pub slot : result ≡ slot (name_of key) (keys_of role)

-- what is kept of siblings that are numbered from i on and have this parent
unfoldable pub kept : Level → Option ℕ → ℕ → Siblings → List Kept
kept level parent i none = []
kept level parent i (node at name own below after) =
    record {
      at = at;
      name = name;
      own = own;
      role = role_at level name;
      parent = parent;
      end = i + (1 + size below);
    }
    ∷ (kept (level_in (role_at level name)) (Some i) (i + 1) below
    ++ kept (level_after level name) parent (i + (1 + size below)) after)

-- what is kept of a tree
abbrev pub kept_of : Siblings → List Kept
kept_of t = kept top None 0 t

-- the first property with this name
abbrev pub property_named : List Property → List ℕ → Option Property
property_named own name = find (λ p. bytes_eq name p.name) own

-- an offset and a length of 32 bits in one word; no offset is 0
abbrev pub span_word : ℕ → ℕ → ℕ
span_word place length = place * 2 ^ 32 + length

-- the word of a value, 0 for none
abbrev pub value_word : Option Property → ℕ
value_word (Some p) = span_word p.place (length p.value)
value_word None = 0

-- the word of a number, 0 for none
abbrev pub number_word : Option ℕ → ℕ
number_word (Some i) = i + 1
number_word None = 0

abbrev pub role_word : Role → ℕ
role_word Root = 0
role_word Images = 1
role_word Image = 2
role_word Hash = 3
role_word Configurations = 4
role_word Configuration = 5
role_word Other = 6
role_word Signature = 7

-- the words of the first property of each key, padded with zeros to eleven
abbrev pub value_words : List Key → List Property → List ℕ
value_words keys own =
    map (λ key. value_word (property_named own (name_of key))) keys
    ++ replicate (11 - length keys) 0

-- the entry of a node: its name, parent, end and role, a zero, and the values of its keys
abbrev pub entry_of : Kept → List ℕ
entry_of k =
    span_word (k.at + 4) (length k.name) ∷ number_word k.parent ∷ k.end ∷ role_word k.role ∷ 0
    ∷ value_words (keys_of k.role) k.own

-- the entries of a tree
abbrev pub entries : Siblings → List (List ℕ)
entries t = map entry_of (kept_of t)

-- the number of the first node with such a role, numbered from i on
abbrev pub number_of_role : (Role → Bool) → ℕ → List Kept → Option ℕ
number_of_role is_it i [] = None
number_of_role is_it i (k ∷ ks) = if is_it k.role then Some i else number_of_role is_it (i + 1) ks

-- A node's name and values end at `limit` or before; no value is at offset 0.
pub record LiesIn (limit : ℕ) (k : Kept) : Type 0 where
  pub named : k.at + 4 + length k.name ≤ limit
  pub valued : AllByRecursion (λ p. (0 < p.place) × (p.place + length p.value ≤ limit)) k.own

-- the number, if its entry has this parent word
abbrev pub entry_under : ℕ → ℕ → Option (List ℕ) → Option ℕ
entry_under number parent None = None
entry_under number parent (Some e) = if get_or e 1 0 == parent then Some number else None
