-- Which configuration's signature covers an image, a signature node at a time.
use Rattle.std.proofs.Common.{◌≡◌, ℕ, List, [], ◌∷◌, length, Option, Some, None, Bool, true, false, if◌then◌else◌, ap, sym, ◌∙◌}
use Rattle.std.specs.List.{slice_get}
use Rattle.uimg_base.specs.declared.spans.Span.{Span}
use Rattle.uimg_blob_reading.specs.{Counts.nops_met, Indexed.name_span, Rows.Row}
use Rattle.uimg_fit_base.specs.Files.{bytes_in}
use Rattle.uimg_map.specs.Signatures.{cost_at, cost_of, covered_by, name_of, names}
use Rattle.uimg_signing.specs.ImageNaming.{naming_cost}
use Rattle.uimg_signing.specs.declared.configuration_signatures.SignatureNode.{SignatureNode}

-- what a loop takes where there is no signature node
abbrev pub no_node : SignatureNode
no_node = record { configuration = 0; node = 0 }

module _ (file : List ℕ) (rows : List Row) (name : List ℕ) (s : SignatureNode) (more left : List SignatureNode) (all : Option (List ℕ)) (its : Row) (are : left ≡ s ∷ more) (at : slice_get rows s.configuration ≡ Some its) (same : covered_by file rows name left ≡ all) where
  by_it : (it : Bool) → it ≡ names file name (Some its) → (if it then name_of file (Some its) else covered_by file rows name more) ≡ all
  unfolding covered_by
  by_it it is =
      ap (λ (b : Bool). (let o : Option (List ℕ) = if b then name_of file (Some its) else covered_by file rows name more in o)) is
      ∙ sym (ap (covered_by file rows name) are ∙ ap (λ (r : Option Row). (let o : Option (List ℕ) = if names file name r then name_of file r else covered_by file rows name more in o)) at) ∙ same

  pub covered_here : (span : Span) → true ≡ names file name (Some its) → span ≡ name_span its → bytes_in file (Some span) ≡ all
  covered_here span so is = ap (λ (x : Span). bytes_in file (Some x)) is ∙ by_it true so

  pub covered_later : false ≡ names file name (Some its) → covered_by file rows name more ≡ all
  covered_later so = by_it false so

pub covered_none : (file : List ℕ) (rows : List Row) (name : List ℕ) (left : List SignatureNode) (all : Option (List ℕ)) → left ≡ [] → covered_by file rows name left ≡ all → None ≡ all
unfolding covered_by
covered_none file rows name left all none same = sym (ap (covered_by file rows name) none) ∙ same

-- what a signature node costs
pub cost_is : (file : List ℕ) (rows : List Row) (s : SignatureNode) (its : Row) → slice_get rows s.configuration ≡ Some its → cost_of file rows s ≡ naming_cost (length its.own) (nops_met file)
cost_is file rows s its at = ap (cost_at (nops_met file)) at
