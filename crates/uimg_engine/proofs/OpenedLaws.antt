-- Files that making opens one after another.
use Rattle.std.proofs.Common.{◌≡◌, ◌≤◌, ◌<◌, ◌+◌, ℕ, List, [], ◌∷◌, ◌++◌, take, drop, get_or, length, Bool, true, false, IsTrue, Option, Some, None, refl, ap, sym, subst, ◌∙◌, append-nil}
use Rattle.std.specs.{Prelude.{unwrap_or, Vec}}
use Rattle.std.proofs.lemmas.List.{take_more, take_all, take-append-drop, map-append}
use Rattle.uimg_base.{specs.{Named.{FileMap}, Opening.OpensJust}, proofs.OpeningLaws.just_then}
use Rattle.uimg_blob_reading.specs.LookUps.{images}
use Rattle.uimg_blob_writing.specs.{Content.{Unread, in_full}, UsingFiles.OpensEach}
use Rattle.uimg_blob_writing.proofs.OpenedLaws.{at_any, each_of, each_then, each_stops}
use Rattle.uimg_its.specs.{Grammar.Spells, Included.included, Words.words}
use Rattle.uimg_fit_base.specs.declared.placement.AlignedPlacement.{AlignedPlacement}
use Rattle.uimg_fit_building.{specs.OpenedFiles.{summed_files, built_files}, proofs.OpenedFilesLaws.each_fails}
use Rattle.uimg_requests.specs.declared.make_command.MakeCommand.{MakeCommand}
use Rattle.uimg_requests.specs.declared.make_command.MakeCommand.TheVariants.{Parts, Tree}
use Rattle.uimg_engine.specs.{Making.texts, OpenedFiles.{FillsAt, OpensToFill, OpensFrom, OpensCommand}}

-- one more name of a list
pub name_more : {Z : Type 0} (names : List (Vec ℕ Z)) (i : ℕ) (d : Vec ℕ Z) (bytes : List ℕ) (a b c : FileMap) → i < length names → OpensJust (texts (take i names)) a b → d ≡ get_or names i d → bytes ≡ d.items → c.opened ≡ bytes ∷ b.opened
    → OpensJust (texts (take (i + 1) names)) a c
name_more {Z = Z} names i d bytes a b c h p is same noted =
    let here : c.opened ≡ (get_or names i d).items ∷ b.opened = noted ∙ ap (λ (l : List ℕ). l ∷ b.opened) (same ∙ ap (λ (v : Vec ℕ Z). v.items) is) in
    subst (λ (l : List (List ℕ)). OpensJust l a c)
    (sym (ap (λ (l : List (Vec ℕ Z)). texts l) (take_more names i d h) ∙ map-append (λ (name : Vec ℕ Z). name.items) (take i names) (get_or names i d ∷ [])))
    (just_then (texts (take i names)) ((get_or names i d).items ∷ []) a b c p here)

-- the first names, and then a fault
pub names_stop : {Z : Type 0} (names : List (Vec ℕ Z)) (k : ℕ) (a b : FileMap) → OpensJust (texts (take k names)) a b → OpensEach true (texts names) a b
names_stop {Z = Z} names k a b p =
    subst (λ (l : List (List ℕ)). OpensEach true l a b)
    (sym (map-append (λ (name : Vec ℕ Z). name.items) (take k names) (drop k names)) ∙ ap (λ (l : List (Vec ℕ Z)). texts l) (take-append-drop k names))
    (each_stops (texts (take k names)) (texts (drop k names)) a b (each_of true (texts (take k names)) a b p))

-- all names
pub names_all : {Z : Type 0} (names : List (Vec ℕ Z)) (k : ℕ) (a b : FileMap) → length names ≤ k → OpensJust (texts (take k names)) a b → OpensEach false (texts names) a b
names_all {Z = Z} names k a b past p =
    subst (λ (l : List (Vec ℕ Z)). OpensEach false (texts l) a b) (take_all k names past) (each_of false (texts (take k names)) a b p)

-- the text of a source that was read
pub text_read : (bytes : Option (List ℕ)) (text : List ℕ) → bytes ≡ Some text → text ≡ unwrap_or bytes []
text_read bytes text is = sym (ap (λ (o : Option (List ℕ)). unwrap_or o []) is)

-- the source could not be read
pub unread_source : (source : List ℕ) (time : ℕ) (a b : FileMap) → b.opened ≡ source ∷ a.opened → OpensToFill source time None true a b
unread_source source time a b noted = record {
  text = unwrap_or (a.bytes source) [];
  tree = None;
  reads = record { text_is = λ honest. refl; spelled = λ honest. tt; fills = tt; whole = tt };
  opened = each_stops (source ∷ []) (included (words (unwrap_or (a.bytes source) [])) ++ []) a b (each_of true (source ∷ []) a b noted);
}

-- a source of this text
module _ (source text : List ℕ) (time : ℕ) (a b c : FileMap) (noted : b.opened ≡ source ∷ a.opened) (is : IsTrue a.honest → text ≡ unwrap_or (a.bytes source) []) where
  -- its text was refused
  pub refused_source : OpensEach true (included (words text)) b c → OpensToFill source time None true a c
  refused_source opens = record {
    text = text;
    tree = None;
    reads = record { text_is = is; spelled = λ honest. tt; fills = tt; whole = tt };
    opened = subst (λ (l : List (List ℕ)). OpensEach true (source ∷ l) a c) (sym (append-nil (included (words text))))
        (each_then true (source ∷ []) (included (words text)) a b c (each_of false (source ∷ []) a b noted) opens);
  }

  -- its text was compiled
  module _ (t : Unread) (d : FileMap) (spelled : IsTrue a.honest → Spells (words text) a.bytes (in_full a.bytes t)) (opens : OpensEach false (included (words text)) b c) where
    summed_then : (e : Bool) → OpensEach e (summed_files (images t)) c d → OpensEach e ((source ∷ included (words text)) ++ summed_files (images t)) a d
    summed_then e sums =
        each_then e (source ∷ included (words text)) (summed_files (images t)) a c d
        (each_then false (source ∷ []) (included (words text)) a b c (each_of false (source ∷ []) a b noted) opens) sums

    -- and its tree was not filled
    pub unfilled_opens : OpensEach true (summed_files (images t)) c d → OpensToFill source time None true a d
    unfilled_opens sums = record {
      text = text;
      tree = Some t;
      reads = record { text_is = is; spelled = spelled; fills = tt; whole = tt };
      opened = summed_then true sums;
    }

    -- and its tree was filled
    pub filled_opens : (u : Unread) → FillsAt time t u → OpensEach false (summed_files (images t)) c d → OpensToFill source time (Some u) false a d
    filled_opens u fills sums = record {
      text = text;
      tree = Some t;
      reads = record { text_is = is; spelled = spelled; fills = fills; whole = (refl, refl) };
      opened = summed_then false sums;
    }

-- no tree was filled
pub opens_unfilled : (source : List ℕ) (time : ℕ) (placement : AlignedPlacement) (a b : FileMap) → OpensToFill source time None true a b → OpensFrom source time placement true a b
opens_unfilled source time placement a b p = record {
  text = p.text;
  tree = p.tree;
  filled = None;
  reads = p.reads;
  opened = subst (λ (l : List (List ℕ)). OpensEach true l a b) (sym (append-nil _)) p.opened;
}

-- a filled tree was written
pub opens_filled : (e : Bool) (source : List ℕ) (time : ℕ) (placement : AlignedPlacement) (u : Unread) (a b c : FileMap) → OpensToFill source time (Some u) false a b → OpensEach e (built_files u placement) b c → OpensFrom source time placement e a c
opens_filled e source time placement u a b c p q = record {
  text = p.text;
  tree = p.tree;
  filled = Some u;
  reads = record { text_is = p.reads.text_is; spelled = p.reads.spelled; fills = p.reads.fills; whole = at_any e p.reads.whole };
  opened = each_then e _ (built_files u placement) a b c p.opened q;
}

-- an image was built, and then its making failed
pub command_fails : (command : MakeCommand) (time align : ℕ) (a b : FileMap) → OpensCommand command time align false a b → OpensCommand command time align true a b
command_fails (Parts options names) time align a b p = each_fails p
command_fails (Tree source placement) time align a b p = record {
  text = p.text;
  tree = p.tree;
  filled = p.filled;
  reads = record { text_is = p.reads.text_is; spelled = p.reads.spelled; fills = p.reads.fills; whole = tt };
  opened = each_fails p.opened;
}
