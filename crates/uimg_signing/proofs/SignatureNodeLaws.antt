-- The signature nodes of configurations, a node at a time.
use Rattle.std.proofs.Common.{◌≡◌, ℕ, zero, suc, ◌+◌, ◌<◌, ◌≤◌, List, [], ◌∷◌, ◌++◌, length, drop, Option, Some, None, Bool, true, false, slice_get, if◌then◌else◌, IfSome, refl, ap, sym, subst, ◌∙◌, append_assoc, append-nil, arith}
use Rattle.std.{specs.List.All, proofs.lemmas.List.Elements.All-push}
use Rattle.uimg_blob_reading.specs.declared.roles.Role.{Role}
use Rattle.uimg_blob_reading.specs.declared.roles.Role.TheVariants as role
use Rattle.uimg_blob_reading.specs.{Roles.is_signature_role, Rows.Row}
use Rattle.uimg_signing.specs.declared.configuration_signatures.SignatureNode.{SignatureNode}
use Rattle.uimg_signing.specs.SignatureNodes.{IsBelow, configuration_around, is_configuration, is_configuration_role, node_of, nodes_from, signed_configuration}
use Rattle.uimg_signing.proofs.LookLaws.{drop_end}

pub not_configuration : (r : Role) → (r ≡ role.Configuration → ⊥) → false ≡ is_configuration_role r
not_configuration r h = grind arith

-- a parent that there is
pub around_some : (rows : List Row) (o : Option ℕ) (parent : ℕ) (found : Option Row) (is : Bool) → o ≡ Some parent → slice_get rows parent ≡ found → is_configuration found ≡ is
    → (if is then Some parent else None) ≡ configuration_around rows o
around_some rows o parent found is some at its =
    sym (ap (configuration_around rows) some
    ∙ ap (λ (r : Option Row). let p : Option ℕ = if is_configuration r then Some parent else None in p) at
    ∙ ap (λ (b : Bool). let p : Option ℕ = if b then Some parent else None in p) its)

-- one row more
pub nodes_more : (rows : List Row) (i : ℕ) (row : Row) (old new all : List SignatureNode) → drop i rows ≡ row ∷ drop (suc i) rows
    → new ≡ old ++ node_of i (signed_configuration rows row) → old ++ nodes_from rows i (drop i rows) ≡ all → new ++ nodes_from rows (i + 1) (drop (i + 1) rows) ≡ all
unfolding nodes_from
nodes_more rows i row old new all is added left =
    let next : i + 1 ≡ suc i = omega arith in
    let rest = nodes_from rows (i + 1) (drop (suc i) rows) in
    ap (λ (k : ℕ). new ++ nodes_from rows (i + 1) (drop k rows)) next
    ∙ ap (λ (l : List SignatureNode). l ++ rest) added ∙ append_assoc old (node_of i (signed_configuration rows row)) rest
    ∙ ap (λ (l : List Row). old ++ nodes_from rows i l) (sym is) ∙ left

pub nodes_end : (rows : List Row) (i : ℕ) (old all : List SignatureNode) → length rows ≤ i → old ++ nodes_from rows i (drop i rows) ≡ all → old ≡ all
unfolding nodes_from
nodes_end rows i old all past left = sym (append-nil old) ∙ sym (ap (λ (l : List Row). old ++ nodes_from rows i l) (drop_end rows i past)) ∙ left

-- one node more
pub below_more : (count i : ℕ) (o : Option ℕ) (old new : List SignatureNode) → new ≡ old ++ node_of i o → i < count → IfSome o (λ n. n < count) → All (IsBelow count) old → All (IsBelow count) new
below_more count i None old new is within below all = subst (λ (l : List SignatureNode). All (IsBelow count) l) (sym (is ∙ append-nil old)) all
below_more count i (Some signed) old new is within below all =
    subst (λ (l : List SignatureNode). All (IsBelow count) l) (sym is) (All-push (IsBelow count) old (record { configuration = signed; node = i }) all (record { configuration = below; node = within }))

-- there is no row of a number behind the last
pub past_none : (rows : List Row) (k : ℕ) → length rows ≤ k → slice_get rows k ≡ None
past_none [] k h = refl
past_none (x ∷ rows) zero h = absurd (omega (arith, h))
past_none (x ∷ rows) (suc k) h = past_none rows k (omega (arith, h))

pub signed_as : (rows : List Row) (row : Row) (is : Bool) (found : Option ℕ) → is ≡ is_signature_role row.role → found ≡ (let p : Option ℕ = if is then configuration_around rows row.parent else None in p) → found ≡ signed_configuration rows row
signed_as rows row is found role_is told = told ∙ ap (λ (b : Bool). let p : Option ℕ = if b then configuration_around rows row.parent else None in p) role_is
