-- What is told of a value is sound.
use Rattle.std.proofs.Common.{ℕ, suc, Bool, true, false, List, [], ◌∷◌, ◌++◌, map, Some, None, Option, codes, nat_lt, length, if◌then◌else◌}
use Rattle.std.specs.{List.list_all, Str.is_utf8}
use Rattle.uimg_printing.specs.Members.{Member, array_of, text_json}
use Rattle.uimg_printing.proofs.SoundLaws.{AreSound, append_sound, number_sound, number_if_sound, spelled_sound, items_sound, beside_sound, text_sound}
use Rattle.uimg_info.specs.Members.{Fact, texts_members, told_as, length_of, value_members, fact_members, facts_members, cell_number, address_number, most}
use Rattle.uimg_info.specs.declared.forms.Form.{Form}
use Rattle.uimg_info.specs.declared.forms.Form.TheVariants.{Text, Texts, Digest, Cell, Address}

texts_sound : (d : ℕ) (name : List ℕ) (ts : List (List ℕ)) → AreSound (suc d) (texts_members name ts)
texts_sound d name ts = (items_sound d (text_json false) (spelled_sound d false) ts, beside_sound (suc d) (list_all is_utf8 ts) name (array_of (map (text_json true) ts)) (items_sound d (text_json true) (spelled_sound d true) ts))

told_sound : (d : ℕ) (form : Form) (name value : List ℕ) → AreSound (suc d) (told_as form name value)
told_sound d Text name value = text_sound (suc d) name _
told_sound d Texts name value = texts_sound d name _
told_sound d Digest name value = (tt, tt)
told_sound d Cell name value = number_if_sound (suc d) name (cell_number value)
told_sound d Address name value = number_if_sound (suc d) name (address_number value)

length_sound : (d : ℕ) (form : Form) (name : List ℕ) (n : ℕ) → AreSound d (length_of form name n)
length_sound d Text name n = number_sound d (name ++ codes "_length") n
length_sound d Texts name n = number_sound d (name ++ codes "_length") n
length_sound d Digest name n = number_sound d (name ++ codes "_length") n
length_sound d Cell name n = tt
length_sound d Address name n = tt

either_sound : (d : ℕ) (b : Bool) (x y : List Member) → AreSound d x → AreSound d y → AreSound d (if b then x else y)
either_sound d true x y p q = p
either_sound d false x y p q = q

value_sound : (d : ℕ) (form : Form) (name value : List ℕ) → AreSound (suc d) (value_members form name value)
unfolding value_members
value_sound d form name value = either_sound (suc d) (nat_lt most (length value)) _ _ (length_sound (suc d) form name (length value)) (told_sound d form name value)

maybe_sound : (d : ℕ) (form : Form) (name : List ℕ) (value : Option (List ℕ)) → AreSound (suc d) (elim value as (λ _. List Member) [ None ↦ [] | Some value ↦ value_members form name value ])
maybe_sound d form name None = tt
maybe_sound d form name (Some value) = value_sound d form name value

fact_sound : (d : ℕ) (fact : Fact) → AreSound (suc d) (fact_members fact)
unfolding fact_members
fact_sound d fact = maybe_sound d fact.form fact.name fact.value

pub facts_sound : (d : ℕ) (facts : List Fact) → AreSound (suc d) (facts_members facts)
facts_sound d [] = tt
facts_sound d (fact ∷ facts) = append_sound (suc d) (fact_members fact) (facts_members facts) (fact_sound d fact) (facts_sound d facts)
