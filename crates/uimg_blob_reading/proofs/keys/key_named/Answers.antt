use Rattle.std.proofs.Common.{◌≡◌, ◌∙◌, ℕ, List, [], ◌∷◌, map, Bool, true, false, refl, if◌then◌else◌}
use Rattle.std.specs.{Prelude.{Option, Some, find}, Option.option_map, Str.bytes_eq}
use Rattle.uimg_blob_reading.specs.declared.keys.Key.{Key}
use Rattle.uimg_blob_reading.specs.Keys.{KeyRow, name_of, all_keys, key_of_name}
use Rattle.uimg_blob_reading.proofs.keys.key_named.Goals as goal

abbrev row : Key → KeyRow
row key = record { name = name_of key; key = key }

one_more : (b : Bool) (r : KeyRow) (found : Option KeyRow) (rest : Option Key) → option_map (λ (r : KeyRow). r.key) found ≡ rest → option_map (λ (r : KeyRow). r.key) (if b then Some r else found) ≡ (if b then Some r.key else rest)
one_more true r found rest same = refl
one_more false r found rest same = same

-- a key is found by its row as by its name
by_rows : (name : List ℕ) (keys : List Key) → key_of_name (map row keys) name ≡ find (λ key. bytes_eq name (name_of key)) keys
by_rows name [] = refl
by_rows name (key ∷ keys) = one_more (bytes_eq name (name_of key)) (row key) _ _ (by_rows name keys)

pub returns : goal.returns
returns c = c.key_in.ensures ∙ by_rows c.args.name.now all_keys
