-- The results of signature nodes, a node at a time.
use Rattle.std.proofs.Common.{◌≡◌, ℕ, ◌+◌, List, [], ◌∷◌, ◌++◌, drop, flat_map, get_or, length, map, Option, Some, refl, ap, sym, ◌∙◌, ◌<◌, append_assoc, slice_get}
use Rattle.std.proofs.lemmas.List.{drop_more, Concat.flat_map-cons}
use Rattle.uimg_blob_reading.specs.Rows.{Row}
use Rattle.uimg_signing.specs.declared.configuration_signatures.SignatureNode.{SignatureNode}
use Rattle.uimg_verifying.specs.declared.required.Required.{Required}
use Rattle.uimg_verifying.specs.Results.{SignatureSaid, result_at, result_by, result_of}

-- a node and those after it
pub node_left : (nodes : List SignatureNode) (i : ℕ) (n : SignatureNode) → i < length nodes → drop i nodes ≡ get_or nodes i n ∷ drop (i + 1) nodes
node_left nodes i n within = drop_more nodes i n within

-- the result of a node
one : (required : Required) (file : List ℕ) (rows : List Row) (n : SignatureNode) (its node : Row) → slice_get rows n.configuration ≡ Some its → slice_get rows n.node ≡ Some node
    → result_at required file rows n ≡ result_of required file rows n.configuration its node ∷ []
one required file rows n its node at other =
    ap (λ (o : Option Row). result_by required file rows n.configuration o (slice_get rows n.node)) at
    ∙ ap (λ (o : Option Row). result_by required file rows n.configuration (Some its) o) other

pub one_more : (required : Required) (file : List ℕ) (rows : List Row) (n : SignatureNode) (its node : Row) (more left : List SignatureNode) (old new all : List SignatureSaid) (r : SignatureSaid)
    → left ≡ n ∷ more → slice_get rows n.configuration ≡ Some its → slice_get rows n.node ≡ Some node → r ≡ result_of required file rows n.configuration its node → new ≡ old ++ r ∷ []
    → old ++ flat_map (result_at required file rows) left ≡ all → new ++ flat_map (result_at required file rows) more ≡ all
one_more required file rows n its node more left old new all r are at other is added same =
    let f = result_at required file rows in
    ap (λ (l : List SignatureSaid). l ++ flat_map f more) added ∙ append_assoc old (r ∷ []) (flat_map f more)
    ∙ ap (λ (x : SignatureSaid). old ++ x ∷ flat_map f more) is
    ∙ sym (ap (λ (l : List SignatureSaid). old ++ (l ++ flat_map f more)) (one required file rows n its node at other))
    ∙ sym (ap (λ (l : List SignatureNode). old ++ flat_map f l) are) ∙ same
