use Rattle.std.proofs.Common.{rules, ◌≡◌, ◌∙◌, ◌++◌, ◌∷◌, [], List, codes, map, ap, sym}
use Rattle.uimg_blob_reading.specs.{Places.read_place, Properties.places_of}
use Rattle.uimg_blob_reading.specs.declared.places.PropertyPlace.{PropertyPlace}
use Rattle.uimg_keys.specs.Trees.{is_any_in}
use Rattle.uimg_keys.proofs.TreeLaws.{row_of, says_as}
use Rattle.uimg_keys.proofs.trees.is_any_in.Goals as goal

pub returns-clause-told : goal.returns-clause-told
returns-clause-told c =
    let file = c.args.file.now in
    let r = row_of file c.args.blob.now c.args.room.now.entries c.args.signature c.requires.index c.requires.node in
    let same : c.deref.result.now ≡ c.in_ok-places.places.items = search rules in
    let name : c.as_slice.result.now ≡ codes "required-mode" = search rules in
    let text : c.as_slice-2.result.now ≡ codes "any" ++ 0 ∷ [] = search rules in
    c.says.ensures
    ∙ says_as file (map (read_place file) c.deref.result.now) (places_of r.0) c.as_slice.result.now (codes "required-mode") c.as_slice-2.result.now (codes "any" ++ 0 ∷ [])
    (ap (λ (l : List PropertyPlace). map (read_place file) l) same ∙ c.in_ok-places.ensures.told r.0 r.1) name text
    ∙ sym (ap (is_any_in file) r.1)
