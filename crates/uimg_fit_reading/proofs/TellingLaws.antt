-- What is listed of nodes, one after another.
use Rattle.std.proofs.Common.{◌≡◌, ◌≤◌, ◌<◌, ◌+◌, ℕ, List, [], ◌∷◌, ◌++◌, Option, Some, None, IfSome, Bool, true, false, refl, ap, sym, ◌∙◌, subst, add-one, arith}
use Rattle.std.{specs.List.sum_by, proofs.lemmas.List.Sums.sum_by-cons}
use Rattle.uimg_base.specs.{Device.Device, Sink.Sink}
use Rattle.uimg_blob_reading.specs.{declared.nodes.Blob.Blob, Grammar.Siblings, Roles.level_after}
use Rattle.uimg_blob_reading.specs.{LookUps.NodeOf, Spots.Spot}
use Rattle.uimg_fit_reading.specs.{Allowances.node_allowance, Nodes.IsRead, Listing.numbered_lines}
use Rattle.uimg_fit_reading.specs.{declared.listing.listed_nodes.Listed.Listed, NodeLines.level_of}
use Rattle.uimg_fit_reading.specs.Telling.{ListsBetween}
use Rattle.uimg_fit_reading.specs.declared.listing.listed_nodes.Listed.TheVariants.{Image, Configuration}
use Rattle.uimg_fit_reading.proofs.PutLaws.{◌▶◌, cut, nothing}
use Rattle.uimg_texts.specs.declared.naming.Naming.{Naming}

pub then_lists : (e : Bool) (few more : ℕ) (d m f : Device) (s n t : Sink) (xs ys : List ℕ) → ListsBetween false few d m s n xs → ListsBetween e more m f n t ys → ListsBetween e (few + more) d f s t (xs ++ ys)
then_lists e few more d m f s n t xs ys p q = record { asked = omega (arith, p.asked, q.asked); written = p.written.all ▶ q.written }

pub cut_lists : (few more : ℕ) (d m : Device) (s n : Sink) (xs ys : List ℕ) → ListsBetween true few d m s n xs → ListsBetween true (few + more) d m s n (xs ++ ys)
cut_lists few more d m s n xs ys p = record { asked = omega (arith, p.asked); written = cut s n xs ys p.written }

pub more_lists : (e : Bool) (few most : ℕ) (d m : Device) (s n : Sink) (xs : List ℕ) → few ≤ most → ListsBetween e few d m s n xs → ListsBetween e most d m s n xs
more_lists e few most d m s n xs le p = record { asked = omega (arith, p.asked, le); written = p.written }

pub no_lists : (most : ℕ) (d : Device) (s : Sink) → ListsBetween false most d d s s []
no_lists most d s = record { asked = omega arith; written = nothing s }

-- what is told of the nodes that are left is told of all
pub record Left (names : Naming) (At : Option ℕ → List (NodeOf Spot) → Type 0) (texts : ℕ → List (NodeOf Spot) → List ℕ) (i : ℕ) (next : Option ℕ) (d m : Device) (s n : Sink) (all : List (NodeOf Spot)) : Type 0 where
  pub rest : List (NodeOf Spot)
  pub at : At next rest
  pub goes : (e : Bool) (f : Device) (u : Sink) → ListsBetween e (sum_by (node_allowance names) rest) m f n u (texts i rest) → ListsBetween e (sum_by (node_allowance names) all) d f s u (texts 0 all)

one : (names : Naming) (texts : ℕ → List (NodeOf Spot) → List ℕ) (i j : ℕ) (rest more : List (NodeOf Spot)) (x : NodeOf Spot) (text : List ℕ) (e : Bool) (m f : Device) (n u : Sink) → rest ≡ x ∷ more → texts i (x ∷ more) ≡ text ++ texts j more
    → ListsBetween e (node_allowance names x + sum_by (node_allowance names) more) m f n u (text ++ texts j more) → ListsBetween e (sum_by (node_allowance names) rest) m f n u (texts i rest)
one names texts i j rest more x text e m f n u is are told =
    subst (λ (w : List ℕ). ListsBetween e (sum_by (node_allowance names) rest) m f n u w) (sym (ap (texts i) is ∙ are))
    (subst (λ (k : ℕ). ListsBetween e k m f n u (text ++ texts j more)) (sym (ap (sum_by (node_allowance names)) is ∙ sum_by-cons (node_allowance names) x more)) told)

pub left_more : (names : Naming) (At : Option ℕ → List (NodeOf Spot) → Type 0) (texts : ℕ → List (NodeOf Spot) → List ℕ) (i j : ℕ) (next later : Option ℕ) (d m f : Device) (s n u : Sink) (all : List (NodeOf Spot))
    → (left : Left names At texts i next d m s n all) → (x : NodeOf Spot) (more : List (NodeOf Spot)) (text : List ℕ) → left.rest ≡ x ∷ more → texts i (x ∷ more) ≡ text ++ texts j more
    → ListsBetween false (node_allowance names x) m f n u text → At later more → Left names At texts j later d f s u all
left_more names At texts i j next later d m f s n u all left x more text is are told at = record {
  rest = more;
  at = at;
  goes = λ e g v rest.
      left.goes e g v (one names texts i j left.rest more x text e m g n v is are (then_lists e (node_allowance names x) (sum_by (node_allowance names) more) m f g n u v text (texts j more) told rest));
}

pub left_fails : (names : Naming) (At : Option ℕ → List (NodeOf Spot) → Type 0) (texts : ℕ → List (NodeOf Spot) → List ℕ) (i j : ℕ) (next : Option ℕ) (d m f : Device) (s n u : Sink) (all : List (NodeOf Spot))
    → (left : Left names At texts i next d m s n all) → (x : NodeOf Spot) (more : List (NodeOf Spot)) (text : List ℕ) → left.rest ≡ x ∷ more → texts i (x ∷ more) ≡ text ++ texts j more
    → ListsBetween true (node_allowance names x) m f n u text → ListsBetween true (sum_by (node_allowance names) all) d f s u (texts 0 all)
left_fails names At texts i j next d m f s n u all left x more text is are told =
    left.goes true f u (one names texts i j left.rest more x text true m f n u is are (cut_lists (node_allowance names x) (sum_by (node_allowance names) more) m f n u text (texts j more) told))

pub left_ends : (names : Naming) (At : Option ℕ → List (NodeOf Spot) → Type 0) (texts : ℕ → List (NodeOf Spot) → List ℕ) (i : ℕ) (next : Option ℕ) (d m : Device) (s n : Sink) (all : List (NodeOf Spot))
    → (left : Left names At texts i next d m s n all) → left.rest ≡ [] → texts i [] ≡ [] → ListsBetween false (sum_by (node_allowance names) all) d m s n (texts 0 all)
left_ends names At texts i next d m s n all left is none =
    left.goes false m n (subst (λ (w : List ℕ). ListsBetween false (sum_by (node_allowance names) left.rest) m m n n w) (sym (ap (texts i) is ∙ none)) (no_lists (sum_by (node_allowance names) left.rest) m n))

-- the same file and the same entries
pub read_same : (file other : List ℕ) (blob : Blob) (es fs : List (List ℕ)) (t : Siblings) → other ≡ file → fs ≡ es → IsRead file blob es t → IsRead other blob fs t
read_same file other blob es fs t same kept read =
    subst (λ (w : List ℕ). IsRead w blob fs t) (sym same) (subst (λ (w : List (List ℕ)). IsRead file blob w t) (sym kept) read)

-- numbered lines, one more
pub numbered_more : (lines : ℕ → NodeOf Spot → List ℕ) (i : ℕ) (n : NodeOf Spot) (ns : List (NodeOf Spot)) → numbered_lines lines i (n ∷ ns) ≡ lines i n ++ numbered_lines lines (i + 1) ns
unfolding numbered_lines
numbered_more lines i n ns = rw add-one refl

pub numbered_none : (lines : ℕ → NodeOf Spot → List ℕ) (i : ℕ) → numbered_lines lines i [] ≡ []
unfolding numbered_lines
numbered_none lines i = refl

-- the numbers of nodes grow with their count
pub within_next : (o : Option ℕ) (count i size : ℕ) → count ≤ i → IfSome o (λ j. i < j) → IfSome o (λ j. j < size) → IfSome o (λ j. (count + 1 ≤ j) × (j < size))
within_next None count i size le later within = tt
within_next (Some j) count i size le later within = (omega (arith, le, later), within)

pub none_after : (o : Option ℕ) (count size : ℕ) → size ≤ count → IfSome o (λ j. (count ≤ j) × (j < size)) → o ≡ None
none_after None count size le within = refl
none_after (Some j) count size le within = absurd (omega (arith, le, within.0, within.1))

pub same_level : (kind : Listed) (name : List ℕ) → level_after (level_of kind) name ≡ level_of kind
same_level (Image naming time) name = refl
same_level (Configuration naming) name = refl
