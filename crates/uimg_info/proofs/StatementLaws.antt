-- What the nodes of a tree state.
use Rattle.std.proofs.Common.{◌≡◌, ◌+◌, ℕ, List, [], ◌∷◌, ◌++◌, map, true, false, Result, Ok, Err, Vec, refl, ap, sym, ◌∙◌, subst, append_assoc, append-nil}
use Rattle.std.specs.{List.flat_map, Result.IsErrAnd}
use Rattle.uimg_blob_reading.specs.Rows.{Row}
use Rattle.uimg_fit_checking.specs.FullSurvey.{ReadsAs}
use Rattle.uimg_fit_checking.specs.SurveyParts.{is_own}
use Rattle.uimg_fit_checking.specs.declared.surveying.fault.SurveyFault.{SurveyFault}
use Rattle.uimg_fit_checking.specs.declared.surveying.fault.SurveyFault.TheVariants.{Stopped, OutOfMemory, Changed}
use Rattle.uimg_blob_reading.specs.declared.roles.Role.{Role, TheVariants.Image}
use Rattle.uimg_blob_reading.proofs.PhaseLaws.{true_false}
use Rattle.uimg_fit_base.specs.declared.fault.Fault.TheVariants as of
use Rattle.uimg_info.specs.declared.statement.Statement.{Statement}
use Rattle.uimg_fit_reading.proofs.PassedLaws.{passed_on}
use Rattle.uimg_base.specs.declared.spans.Span.{Span}
use Rattle.uimg_info.specs.LegacyFields.{field_stated, parts_from, part_key}
use Rattle.uimg_info.specs.{Statement.{Stated, all_stated}, Statements.{StatesFit, fit_stated, is_image, node_path, node_stated, nodes_stated}}

-- what a `?` passes on
pub own_passed : {X Y : Type 0} (read : X → Y) (said : Y) (r : Result X SurveyFault) (e : SurveyFault) → IsErrAnd r (λ g. g ≡ e) → is_own e ≡ true → ReadsAs read said r
own_passed {X = X} read said r e is own = subst (λ (x : Result X SurveyFault). ReadsAs read said x) (sym (passed_on r e is)) own

pub not_image : (r : Role) → (r ≡ Image → ⊥) → false ≡ is_image r
not_image Image other = absurd (other refl)
not_image r other = refl

-- the statements of a file whose survey was made
pub states : {Z : Type 0} (file : List ℕ) (r : Result (Vec Statement Z) SurveyFault) (said : List Stated) → fit_stated file ≡ Ok said → ReadsAs all_stated said r → StatesFit file r
states file (Ok all) said is read = is ∙ ap (λ (l : List Stated). Ok l) (sym read)
states file (Err OutOfMemory) said is own = tt
states file (Err Changed) said is own = absurd (true_false (sym own))
states file (Err (Stopped of.Read)) said is own = tt
states file (Err (Stopped of.Put)) said is own = absurd (true_false (sym own))
states file (Err (Stopped (of.Blob fault at))) said is own = absurd (true_false (sym own))
states file (Err (Stopped (of.Fit fault))) said is own = absurd (true_false (sym own))

pub flat_map_map : {X Y Z : Type 0} (f : Y → List Z) (g : X → Y) (xs : List X) → flat_map (λ x. f (g x)) xs ≡ flat_map f (map g xs)
flat_map_map f g [] = refl
flat_map_map f g (x ∷ xs) = ap (λ (l : List _). f (g x) ++ l) (flat_map_map f g xs)

module _ (file : List ℕ) (totalsize : ℕ) (whole : List Stated) where
  -- one node more
  pub node_more : (all own new : List Stated) (paths more : List (List ℕ)) (rows rest : List Row) (row : Row) (path : List ℕ) → rows ≡ row ∷ rest → path ≡ node_path file paths row
      → own ≡ node_stated file totalsize path row → new ≡ all ++ own → more ≡ paths ++ path ∷ [] → all ++ nodes_stated file totalsize paths rows ≡ whole
      → new ++ nodes_stated file totalsize more rest ≡ whole
  unfolding nodes_stated
  node_more all own new paths more rows rest row path are at states is next before =
      let here = node_path file paths row in
      ap (λ (l : List Stated). l ++ nodes_stated file totalsize more rest) is
      ∙ append_assoc all own (nodes_stated file totalsize more rest)
      ∙ ap (λ (l : List Stated). all ++ (l ++ nodes_stated file totalsize more rest)) (states ∙ ap (λ (p : List ℕ). node_stated file totalsize p row) at)
      ∙ ap (λ (ps : List (List ℕ)). all ++ (node_stated file totalsize here row ++ nodes_stated file totalsize ps rest)) (next ∙ ap (λ (p : List ℕ). paths ++ p ∷ []) at)
      ∙ ap (λ (l : List Row). all ++ nodes_stated file totalsize paths l) (sym are)
      ∙ before

  -- no node is left
  pub nodes_done : (all : List Stated) (paths : List (List ℕ)) (rows : List Row) → rows ≡ [] → all ++ nodes_stated file totalsize paths rows ≡ whole → all ≡ whole
  unfolding nodes_stated
  nodes_done all paths rows none before =
      sym (append-nil all) ∙ ap (λ (l : List Row). all ++ nodes_stated file totalsize paths l) (sym none) ∙ before

module _ (file : List ℕ) (whole : List Stated) where
  -- one part more
  pub part_more : (all new : List Stated) (number : ℕ) (parts rest : List Span) (part : Span) (one : Stated) → parts ≡ part ∷ rest
      → one ≡ field_stated file (record { key = part_key number; value = part }) → new ≡ all ++ one ∷ []
      → all ++ map (field_stated file) (parts_from number parts) ≡ whole → new ++ map (field_stated file) (parts_from (number + 1) rest) ≡ whole
  unfolding parts_from
  part_more all new number parts rest part one are states is before =
      ap (λ (l : List Stated). l ++ map (field_stated file) (parts_from (number + 1) rest)) (is ∙ ap (λ (s : Stated). all ++ s ∷ []) states)
      ∙ append_assoc all (field_stated file (record { key = part_key number; value = part }) ∷ []) (map (field_stated file) (parts_from (number + 1) rest))
      ∙ ap (λ (l : List Span). all ++ map (field_stated file) (parts_from number l)) (sym are)
      ∙ before

  pub parts_done : (all : List Stated) (number : ℕ) (parts : List Span) → parts ≡ [] → all ++ map (field_stated file) (parts_from number parts) ≡ whole → all ≡ whole
  unfolding parts_from
  parts_done all number parts none before =
      sym (append-nil all) ∙ ap (λ (l : List Span). all ++ map (field_stated file) (parts_from number l)) (sym none) ∙ before
