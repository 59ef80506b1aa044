-- Whether the images that a configuration names have hash nodes, a node at a time.
use Rattle.std.proofs.Common.{◌≡◌, ℕ, zero, suc, ◌+◌, ◌<◌, ◌≤◌, List, [], ◌∷◌, length, drop, Option, Some, None, Result, Err, Bool, true, false, if◌then◌else◌, ◌||◌, refl, ap, sym, ◌∙◌, arith}
use Rattle.std.specs.{List.list_any, Prelude.nat_lt}
use Rattle.uimg_base.specs.declared.spans.Span.{Span}
use Rattle.uimg_blob_reading.specs.{Plain.NamedOf, Roles.is_hash_role, Rows.Row}
use Rattle.uimg_blob_reading.specs.declared.roles.Role.{Role}
use Rattle.uimg_signing.specs.declared.faults.SigningFault.{SigningFault}
use Rattle.uimg_signing.specs.declared.faults.SigningFault.TheVariants.{TooManyNodes, Unhashed}
use Rattle.uimg_signing.specs.{Faults.Refuses, Hashed.{any_after, hashed_as, hashed_from, is_bare, is_parent}}
use Rattle.uimg_signing.specs.Listing.{many_refusal, nodes_refusal}
use Rattle.uimg_signing.proofs.LookLaws.{drop_end}

-- the role tells
pub hash_by_role : (r s : Role) (image : ℕ) (parent : Option ℕ) → r ≡ s → (if is_hash_role r then is_parent image parent else false) ≡ (if is_hash_role s then is_parent image parent else false)
hash_by_role r s image parent same = ap (λ (x : Role). if is_hash_role x then is_parent image parent else false) same

pub not_hash_of : (b : Bool) (image : ℕ) (parent : Option ℕ) → false ≡ b → false ≡ (if b then is_parent image parent else false)
not_hash_of b image parent is = ap (λ (x : Bool). if x then is_parent image parent else false) is

-- one more row
pub any_found : (P : Row → Bool) (row : Row) (rows left : List Row) (all : Bool) → left ≡ row ∷ rows → true ≡ P row → list_any P left ≡ all → true ≡ all
any_found P row rows left all is so same = ap (λ (b : Bool). b || list_any P rows) so ∙ sym (ap (list_any P) is) ∙ same

pub any_more : (P : Row → Bool) (row : Row) (rows left : List Row) (all : Bool) → left ≡ row ∷ rows → false ≡ P row → list_any P left ≡ all → list_any P rows ≡ all
any_more P row rows left all is so same = ap (λ (b : Bool). b || list_any P rows) so ∙ sym (ap (list_any P) is) ∙ same

pub any_none : (P : Row → Bool) (left : List Row) (all : Bool) → left ≡ [] → list_any P left ≡ all → false ≡ all
any_none P left all is same = sym (ap (list_any P) is) ∙ same

module _ (file : List ℕ) (own : List (NamedOf Span)) (rows : List Row) (i : ℕ) (row : Row) (more left : List Row) (some all : Bool) (is : left ≡ row ∷ more) (found : Option Bool) (is_found : found ≡ hashed_as file own rows i row) (same : hashed_from file own rows i some left ≡ all) where
  after : (if is_bare found then false else hashed_from file own rows (i + 1) (any_after found some) more) ≡ all
  unfolding hashed_from
  after = ap (λ (o : Option Bool). if is_bare o then false else hashed_from file own rows (i + 1) (any_after o some) more) is_found ∙ sym (ap (λ (l : List Row). hashed_from file own rows i some l) is) ∙ same

  pub bare : true ≡ is_bare found → false ≡ all
  bare so = ap (λ (b : Bool). if b then false else hashed_from file own rows (i + 1) (any_after found some) more) so ∙ after

  pub hashed_more : false ≡ is_bare found → hashed_from file own rows (i + 1) (any_after found some) more ≡ all
  hashed_more so = ap (λ (b : Bool). if b then false else hashed_from file own rows (i + 1) (any_after found some) more) so ∙ after

pub hashed_end : (file : List ℕ) (own : List (NamedOf Span)) (rows : List Row) (i : ℕ) (some all : Bool) (left : List Row) → left ≡ [] → hashed_from file own rows i some left ≡ all → some ≡ all
unfolding hashed_from
hashed_end file own rows i some all left is same = sym (ap (λ (l : List Row). hashed_from file own rows i some l) is) ∙ same
