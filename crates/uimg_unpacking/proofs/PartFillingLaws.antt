-- Parts and what their files hold.
use Rattle.std.proofs.Common.{◌≡◌, ℕ, ◌==◌, List, [], ◌∷◌, ◌++◌, length, drop, append_assoc, codes, string_bytes, bytes_eq, Bool, true, false, ◌&&◌, not, Option, Some, None, IsTrue, refl, ap, ap₂, sym, subst, ◌∙◌, arith, true≢false}
use Rattle.std.specs.Option.{option_map_or}
use Rattle.std.specs.Prelude.{Result}
use Rattle.std.proofs.lemmas.Bool.{and_parts}
use Rattle.std.proofs.lemmas.Slice.Eq.{bytes_eq-Decides}
use Rattle.std.proofs.lemmas.List.{append-nil, map-append}
use Rattle.uimg_base.specs.Device.{Device, SameDevice}
use Rattle.uimg_legacy.specs.Unpacking.{Part, part_if, unpack_of, KeepsParts, UnpacksBetween}
use Rattle.uimg_legacy.specs.declared.fault.Fault.{Fault}
use Rattle.uimg_unpacking.specs.Contents.{held, held_in}
use Rattle.uimg_world.specs.Deeds.{Deed}
use Rattle.uimg_unpacking.specs.FileNames.{image_name}
use Rattle.uimg_unpacking.specs.PartEnds.{end_of_parts, is_right}
use Rattle.uimg_unpacking.specs.PartFilling.{part_names, known_part, parts_by, held_parts, kept_parts, HoldsParts, FillsKept, Requests}
use Rattle.uimg_unpacking.specs.Refusals.{last_name}
use Rattle.uimg_unpacking.specs.Staged.{complete, complete_names, held_new, names_of, staged}
use Rattle.uimg_unpacking.specs.declared.staged_file.StagedFile.{StagedFile}
use Rattle.uimg_unpacking.specs.declared.trouble.Trouble.{Trouble}
use Rattle.uimg_unpacking.specs.declared.unpacking.Ended.{Ended}
use Rattle.uimg_unpacking.specs.declared.unpacking.Unpacking.{Unpacking}
use Rattle.uimg_unpacking.proofs.PartLaws.{if_kept}
use Rattle.uimg_unpacking.proofs.Placing.{not_eq}

-- one more part is complete
pub parts_more : (parts : List (ℕ × ℕ)) (part : ℕ × ℕ) (calls : List Deed) (files : List StagedFile) (one : Option (List ℕ)) → names_of files ≡ part_names parts → parts_by (parts ++ part ∷ []) (held_new calls files ++ one ∷ []) ≡ parts_by parts (held_new calls files) ++ known_part part.0 one
parts_more [] part calls [] one is = append-nil (known_part part.0 one)
parts_more [] part calls (file ∷ files) one is = absurd (omega (arith, ap (λ (l : List (List ℕ)). length l) is))
parts_more (first ∷ parts) part calls [] one is = absurd (omega (arith, ap (λ (l : List (List ℕ)). length l) is))
parts_more (first ∷ parts) part calls (file ∷ files) one is =
    let its = known_part first.0 (held calls (string_bytes file.new)) in
    ap (λ (l : List Part). its ++ l) (parts_more parts part calls files one (ap (λ (l : List (List ℕ)). drop 1 l) is))
    ∙ sym (append_assoc its (parts_by parts (held_new calls files)) (known_part part.0 one))

-- what is known of a part that comes next
pub record IsNext (is_kept : Bool) (begun : Option ℕ) (number : ℕ) (image last : List ℕ) : Type 0 where
  pub held : is_kept ≡ false
  pub its : begun ≡ Some number
  pub name : last ≡ image

its_number : (begun : Option ℕ) (number : ℕ) → option_map_or (λ its. its == number) begun false ≡ true → begun ≡ Some number
its_number (Some its) number is = ap Some (grind (arith, is))
its_number None number is = absurd (true≢false (sym is))

pub is_next : (is_kept : Bool) (begun : Option ℕ) (number : ℕ) (image last : List ℕ) → (not is_kept && option_map_or (λ its. its == number) begun false && bytes_eq last image) ≡ true → IsNext is_kept begun number image last
is_next is_kept begun number image last is =
    let h = and_parts (not is_kept && option_map_or (λ its. its == number) begun false) (bytes_eq last image) is in
    let k = and_parts (not is_kept) (option_map_or (λ its. its == number) begun false) h.0 in
    record { held = not_eq is_kept k.0; its = its_number begun number k.1; name = (bytes_eq-Decides last image).0 h.1 }

-- its name, and what it adds to the parts that are held
pub names_next : (files now : List StagedFile) (was is_writing : Bool) (parts : List (ℕ × ℕ)) (number size : ℕ) → complete_names now is_writing ≡ complete_names files was ++ last_name files ∷ [] → complete_names files was ≡ part_names parts → last_name files ≡ image_name number
    → complete_names now is_writing ≡ part_names (parts ++ (number, size) ∷ [])
names_next files now was is_writing parts number size is are name =
    is ∙ ap₂ (λ (xs : List (List ℕ)) (x : List ℕ). xs ++ x ∷ []) are name ∙ sym (map-append (λ (part : ℕ × ℕ). image_name part.0) parts ((number, size) ∷ []))

pub held_next : (is_named : Bool) (parts : List (ℕ × ℕ)) (number size : ℕ) (calls : List Deed) (files : List StagedFile) (was : Bool) (bytes : List ℕ) (contents : List (Option (List ℕ))) → is_named ≡ false → contents ≡ staged calls files was ++ Some bytes ∷ [] → complete_names files was ≡ part_names parts
    → held_parts is_named (parts ++ (number, size) ∷ []) contents ≡ held_parts is_named parts (staged calls files was) ++ part_if true number bytes
held_next is_named parts number size calls files was bytes contents unnamed is are =
    subst (λ (b : Bool). held_parts b (parts ++ (number, size) ∷ []) contents ≡ held_parts b parts (staged calls files was) ++ part_if true number bytes) (sym unnamed)
    (ap (parts_by (parts ++ (number, size) ∷ [])) is ∙ parts_more parts (number, size) calls (complete files was) (Some bytes) are)

-- each part that is known is what its file holds
known_held : (folder : List ℕ) (calls : List Deed) (number : ℕ) (one : Option (List ℕ)) (parts : List Part) → held calls (folder ++ codes "/" ++ image_name number) ≡ one → HoldsParts folder parts calls → HoldsParts folder (known_part number one ++ parts) calls
known_held folder calls number (Some bytes) parts is all = (is, all)
known_held folder calls number None parts is all = all

each_held : (folder : List ℕ) (calls : List Deed) (parts : List (ℕ × ℕ)) → HoldsParts folder (parts_by parts (held_in folder calls (part_names parts))) calls
each_held folder calls [] = tt
each_held folder calls (part ∷ parts) =
    known_held folder calls part.0 (held calls (folder ++ codes "/" ++ image_name part.0)) (parts_by parts (held_in folder calls (part_names parts))) refl (each_held folder calls parts)

kept_held : (is_kept : Bool) (folder : List ℕ) (calls : List Deed) (parts : List (ℕ × ℕ)) (contents : List (Option (List ℕ))) → held_in folder calls (part_names parts) ≡ contents → HoldsParts folder (kept_parts is_kept parts contents) calls
kept_held true folder calls parts contents same = subst (λ (cs : List (Option (List ℕ))). HoldsParts folder (parts_by parts cs) calls) same (each_held folder calls parts)
kept_held false folder calls parts contents same = tt

-- all parts that are held are kept
pub all_kept : (is_kept : Bool) (parts : List (ℕ × ℕ)) (contents : List (Option (List ℕ))) → kept_parts true parts contents ≡ kept_parts is_kept parts contents ++ held_parts is_kept parts contents
all_kept true parts contents = sym (append-nil (parts_by parts contents))
all_kept false parts contents = refl

-- Parts that were kept fill a folder.
pub fills_kept : (asked : Unpacking) (d e : Device) (only : Option ℕ) (r : Result Bool Fault) (trouble : Option Trouble) (end : Ended) (is_kept : Bool) (folder : List ℕ) (calls : List Deed) (parts : List (ℕ × ℕ)) (contents : List (Option (List ℕ)))
    → SameDevice d e → IsTrue d.honest → end ≡ end_of_parts r trouble → Requests asked.only only → folder ≡ asked.folder.path.now
    → (IsTrue e.honest → UnpacksBetween r (unpack_of only e.bytes) [] (kept_parts is_kept parts contents))
    → (is_right r ≡ true → trouble ≡ None → held_in folder calls (part_names parts) ≡ contents) → FillsKept asked d.bytes end calls
fills_kept asked d e only r trouble end is_kept folder calls parts contents same honest is requests at unpacks holds = if_kept r trouble end _ is (λ right none.
    let its = kept_parts is_kept parts contents in
    let keeps : KeepsParts (unpack_of only d.bytes) [] its =
    subst (λ (result : Result Bool Fault). UnpacksBetween result (unpack_of only d.bytes) [] its) right
    (subst (λ (file : List ℕ). UnpacksBetween r (unpack_of only file) [] its) same.bytes (unpacks (subst (λ (b : Bool). IsTrue b) (sym same.honest) honest))) in
    record {
      only = only;
      requested = requests;
      parts = keeps.parts;
      are = keeps.is;
      holds = subst (λ (ps : List Part). HoldsParts asked.folder.path.now ps calls) keeps.kept
          (subst (λ (f : List ℕ). HoldsParts f its calls) at (kept_held is_kept folder calls parts contents (holds (ap is_right right) none)));
    })
