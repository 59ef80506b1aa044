-- The keys of a file.
use Rattle.std.specs.Prelude.{◌≡◌, ℕ, List, [], ◌∷◌, None, false, ◌⊎◌}
use Rattle.uimg_keys.specs.{Pem.IsPem, Trees.HasTreeKeys}
use Rattle.uimg_keys.specs.declared.key.PublicKey.{PublicKey}
use Rattle.uimg_keys.specs.declared.keys.Keys.{Keys}

-- A file is the text of one key, and these are that one.
abbrev pub HasPemKey : List ℕ → Keys → Type 0
HasPemKey file keys = (key : PublicKey) × (IsPem file key.modulus.items key.exponent)
    × (key.algo ≡ None) × (keys.keys.items ≡ key ∷ []) × (keys.is_any ≡ false)
    × (keys.name.items ≡ [])

-- A file has these keys, one at least.
abbrev pub HasKeys : List ℕ → Keys → Type 0
HasKeys file keys = HasPemKey file keys ⊎ HasTreeKeys file keys
