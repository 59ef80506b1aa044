-- What a listing asks for is within what it may.
use Rattle.std.proofs.Common.{◌≡◌, ◌≤◌, ◌+◌, ◌*◌, ℕ, List, length, Option, Some, None, Result, Ok, Err, IfSome, refl, ap, sym, ◌∙◌, subst, arith}
use Rattle.std.specs.{Result.IfOk, Option.{option_map, option_map_or}}
use Rattle.uimg_base.{proofs.Slices.length-slice, specs.declared.ranges.MoveFault.MoveFault}
use Rattle.uimg_base.specs.declared.{status.Status.Status, spans.Span.Span}
use Rattle.uimg_base.specs.declared.ranges.MoveFault.TheVariants as move
use Rattle.uimg_blob_reading.specs.{Blob.tree, Counts.{nodes_met, texts_met}, Grammar.Siblings}
use Rattle.uimg_blob_reading.specs.{Reading.Fault as BlobFaultAt, Indexed.value_span}
use Rattle.uimg_blob_reading.specs.{Plain.{NamedOf, NodesOf, no_node, a_node}, Spots.{Spot, spots}}
use Rattle.uimg_blob_reading.specs.LookUps.{NodeOf, first, images, configurations}
use Rattle.uimg_fit_base.specs.{declared.fault.Fault.Fault, Faults.{of_move, end_of}}
use Rattle.uimg_fit_base.specs.Files.{value_bytes, bytes_in, root_own}
use Rattle.uimg_fit_reading.specs.{Allowances.{text_sizes, allowance}, Heads.span_size}
use Rattle.uimg_fit_reading.specs.ListingParts.{configurations_allowance, body_allowance}
use Rattle.uimg_fit_reading.specs.Rows.{length_of_value}
use Rattle.uimg_fit_reading.proofs.AllowanceLaws.{tree-paid}
use Rattle.uimg_fit_reading.proofs.SharesLaws.{images_allowed, both_allowed}
use Rattle.uimg_texts.specs.declared.naming.Naming.{Naming}
use Rattle.uimg_fit_reading.specs.Allowances.{is_text_in}

size_by : (o : Option Spot) → span_size (option_map value_span o) ≡ option_map_or length (option_map (λ s. s.bytes) o) 0
size_by None = refl
size_by (Some s) = refl

-- the length of a span is that of its value
pub value_size : (own : List (NamedOf Spot)) (key : List ℕ) (v : Option Span) → v ≡ option_map value_span (first own key) → span_size v ≡ length_of_value own key
value_size own key v is = ap span_size is ∙ size_by (first own key)

-- the same of a value that ends in the file
bytes_size : (file : List ℕ) (v : Option Span) → IfSome v (λ s. s.place + s.length ≤ length file) → option_map_or length (bytes_in file v) 0 ≡ span_size v
bytes_size file None inside = refl
bytes_size file (Some s) inside = length-slice file s.place s.length inside

pub read_size : (file : List ℕ) (own : List (NamedOf Spot)) (key : List ℕ) (v : Option Span) → IfSome v (λ s. s.place + s.length ≤ length file) → value_bytes own key ≡ bytes_in file v → span_size v ≡ length_of_value own key
read_size file own key v inside is = sym (bytes_size file v inside) ∙ ap (λ (o : Option (List ℕ)). option_map_or length o 0) (sym is)

-- the root's texts, images and configurations
root_texts : (names : Naming) (t : NodesOf Spot) → 4 * text_sizes names (root_own t) ≤ allowance names t
unfolding allowance
root_texts names no_node = omega arith
root_texts names (a_node name own below after) = omega arith

by_images : (names : Naming) (t : NodesOf Spot) (o : Option (List (NodeOf Spot))) (q : Option (NodeOf Spot)) → images t ≡ o → configurations t ≡ q → text_sizes names (root_own t) + body_allowance names t o ≤ allowance names t
by_images names t None q is other = omega (arith, root_texts names t)
by_images names t (Some found) None is other = omega (arith, images_allowed names t found is, ap (configurations_allowance names) other)
by_images names t (Some found) (Some c) is other = omega (arith, both_allowed names t found c is other, ap (configurations_allowance names) other)

pub body_allowed : (names : Naming) (t : NodesOf Spot) → text_sizes names (root_own t) + body_allowance names t (images t) ≤ allowance names t
body_allowed names t = by_images names t (images t) (configurations t) refl refl

pub root_allowed : (names : Naming) (t : NodesOf Spot) → text_sizes names (root_own t) ≤ allowance names t
root_allowed names t = omega (arith, root_texts names t)

pub paid : (names : Naming) (file : List ℕ) (t : Siblings) → tree file ≡ Ok t → allowance names (spots t) ≤ 760 * nodes_met file + 4 * texts_met (is_text_in names) file
paid names file t is = subst (λ (r : Result Siblings BlobFaultAt). IfOk r (λ t. allowance names (spots t) ≤ 760 * nodes_met file + 4 * texts_met (is_text_in names) file)) is (tree-paid names file)

-- a failed read or write has no end
pub no_end : (r : Result Status Fault) (fault : Fault) (f : MoveFault) → r ≡ Err fault → fault ≡ of_move f → end_of r ≡ None
no_end r fault move.Read is of = ap end_of is ∙ ap (λ (x : Fault). end_of (let y : Result Status Fault = Err x in y)) of
no_end r fault move.Put is of = ap end_of is ∙ ap (λ (x : Fault). end_of (let y : Result Status Fault = Err x in y)) of
