-- A message tells the path, the name and the value of each signed property.
use Rattle.std.proofs.Common.{◌≡◌, ℕ, suc, ◌+◌, List, [], ◌∷◌, ◌++◌, length, drop, None, Ok, Err, Bool, true, false, ◌&&◌, ◌||◌, not, if◌then◌else◌, refl, ap, sym, subst, ◌∙◌, arith}
use Rattle.uimg_blob_reading.specs.Tokens.{Token, begin_node, end_node, prop, nop, last, stray, Property}
use Rattle.uimg_base.specs.declared.spans.Span.{Span}
use Rattle.uimg_blob_reading.specs.{Grammar.Siblings, Blob.{tree, met}, Plain.NamedOf, Rows.table}
use Rattle.uimg_signing.specs.{Covering.{in_nodes, innermost, covers, is_exempt, is_marked}, Listing.marks_of, Paths.Path, Message.{message, refusal}}
use Rattle.uimg_signing.specs.SignedParts.{Part, begins_node, ends_node, says, skips, closes, parts, SignedProperty, properties_in, signed_properties, SignsPath, SignsPaths}
use Rattle.uimg_signing.proofs.{GoingLaws.true_false, MessageLaws.tokens_met, ShortLaws.tree_of}
use Rattle.uimg_signing.proofs.{SignedPartLaws.same_parts, MarkLaws.marks_signed, WellSignedLaws.{WellSigned, well_signed}}

-- the signed properties that parts say, inside the nodes of this path
unfoldable said : Path → List Part → List SignedProperty
said path [] = []
said path (begins_node name ∷ ps) = said (name ∷ path) ps
said path (ends_node ∷ ps) = said (drop 1 path) ps
said path (says name value ∷ ps) = record { path = path; name = name; value = value } ∷ said path ps
said path (skips ∷ ps) = said path ps
said path (closes ∷ ps) = said path ps

-- the names of those of the open nodes whose names are signed
abbrev kept : (ℕ → Bool) → List ℕ → Path → Path
kept listed [] path = []
kept listed (a ∷ nodes) [] = []
kept listed (a ∷ nodes) (name ∷ path) = if listed a || innermost listed nodes then name ∷ kept listed nodes path else kept listed nodes path

keeps : (c : Bool) (name : List ℕ) (path more : Path) → c ≡ true → path ≡ more → (if c then name ∷ path else path) ≡ name ∷ more
keeps true name path more is same = ap (λ (p : Path). name ∷ p) same
keeps false name path more is same = true_false false is refl

-- of a node whose path is signed these are all names
all_kept : (listed : ℕ → Bool) (nodes : List ℕ) (path : Path) → length path ≡ length nodes → SignsPath listed nodes → kept listed nodes path ≡ path
all_kept listed [] [] size signs = refl
all_kept listed [] (name ∷ path) size signs = absurd (omega (arith, size))
all_kept listed (a ∷ nodes) [] size signs = absurd (omega (arith, size))
all_kept listed (a ∷ nodes) (name ∷ path) size signs = keeps (listed a || innermost listed nodes) name (kept listed nodes path) path signs.0 (all_kept listed nodes path (omega (arith, size)) signs.1)

begins : (c : Bool) (name : List ℕ) (path : Path) (ps : List Part) → said path ((if c then begins_node name ∷ [] else []) ++ ps) ≡ said (if c then name ∷ path else path) ps
unfolding said
begins true name path ps = refl
begins false name path ps = refl

ends : (c : Bool) (name : List ℕ) (path : Path) (ps : List Part) → said (if c then name ∷ path else path) ((if c then ends_node ∷ [] else []) ++ ps) ≡ said path ps
unfolding said
ends true name path ps = refl
ends false name path ps = refl

silent : (c : Bool) (part : Part) (path : Path) (ps : List Part) → said path (part ∷ ps) ≡ said path ps → said path ((if c then part ∷ [] else []) ++ ps) ≡ said path ps
silent true part path ps none = none
silent false part path ps none = refl

none_said : (path : Path) → said path [] ≡ []
unfolding said
none_said path = refl

skips_on : (path : Path) (ps : List Part) → said path (skips ∷ ps) ≡ said path ps
unfolding said
skips_on path ps = refl

closes_on : (path : Path) (ps : List Part) → said path (closes ∷ ps) ≡ said path ps
unfolding said
closes_on path ps = refl

both_first : (b c : Bool) → (b && c) ≡ true → b ≡ true
both_first true c h = refl
both_first false c h = h

property : (c : Bool) (p : Property) (its path : Path) (ps : List Part) (more : List SignedProperty) → (c ≡ true → its ≡ path) → said its ps ≡ more
    → said its ((if c then says p.name p.value ∷ [] else []) ++ ps) ≡ (if c then record { path = path; name = p.name; value = p.value } ∷ [] else []) ++ more
unfolding said
property true p its path ps more same rest =
    ap (λ (l : List SignedProperty). record { path = its; name = p.name; value = p.value } ∷ l) rest
    ∙ ap (λ (q : Path). (let l : List SignedProperty = record { path = q; name = p.name; value = p.value } ∷ more in l)) (same refl)
property false p its path ps more same rest = rest

-- the parts say the signed properties
says_all : (listed : ℕ → Bool) (nodes : List ℕ) (path : Path) (ts : List Token) → length path ≡ length nodes → WellSigned listed nodes ts → said (kept listed nodes path) (parts listed nodes ts) ≡ properties_in listed nodes path ts
unfolding in_nodes properties_in
says_all listed nodes path [] size well = none_said (kept listed nodes path)
says_all listed nodes path (begin_node at (Ok name) ∷ ts) size well =
    begins (listed at || innermost listed nodes) name (kept listed nodes path) (parts listed (at ∷ nodes) ts) ∙ says_all listed (at ∷ nodes) (name ∷ path) ts (ap suc size) well.2
says_all listed nodes path (begin_node at (Err fault) ∷ ts) size well = true_false true refl well.0
says_all listed [] path (end_node at ∷ ts) size well = true_false true refl well.0
says_all listed (a ∷ nodes) [] (end_node at ∷ ts) size well = absurd (omega (arith, size))
says_all listed (a ∷ nodes) (name ∷ path) (end_node at ∷ ts) size well =
    ends (listed a || innermost listed nodes) name (kept listed nodes path) (parts listed nodes ts) ∙ says_all listed nodes path ts (omega (arith, size)) well.2
says_all listed nodes path (prop at (Ok p) ∷ ts) size well =
    property (covers listed nodes (prop at (Ok p))) p (kept listed nodes path) path (parts listed nodes ts) (properties_in listed nodes path ts)
    (λ covered. all_kept listed nodes path size (well.1 (both_first (innermost listed nodes) (not (is_exempt p.name)) covered))) (says_all listed nodes path ts size well.2)
says_all listed nodes path (prop at (Err fault) ∷ ts) size well = true_false true refl well.0
says_all listed nodes path (nop at ∷ ts) size well =
    silent (innermost listed nodes) skips (kept listed nodes path) (parts listed nodes ts) (skips_on (kept listed nodes path) (parts listed nodes ts)) ∙ says_all listed nodes path ts size well.2
says_all listed nodes path (last at ∷ ts) size well = closes_on (kept listed nodes path) (parts listed nodes ts) ∙ says_all listed nodes path ts size well.2
says_all listed nodes path (stray at fault ∷ ts) size well = true_false true refl well.0

said_by_parts : (listed : ℕ → Bool) (file : List ℕ) (t : Siblings) → tree file ≡ Ok t → SignsPaths listed [] t → said [] (parts listed [] (met file)) ≡ signed_properties listed file
said_by_parts listed file t is signs =
    let r = tree_of file t is in
    let well = subst (WellSigned listed []) (tokens_met file r.0 t r.1 is) (well_signed listed r.0 t signs r.2) in
    says_all listed [] [] (met file) refl well

-- Two trees whose messages are the same bytes have the same signed properties at the same paths, in the same
-- order, if one of the messages is not refused, and the paths of the listed nodes are signed in both.
pub same_properties : (f g : List ℕ) (t u : Siblings) (listed listed' : ℕ → Bool) (s r : ℕ) → tree f ≡ Ok t → tree g ≡ Ok u → SignsPaths listed [] t → SignsPaths listed' [] u
    → refusal listed f s ≡ None → message listed f s ≡ message listed' g r → signed_properties listed f ≡ signed_properties listed' g
same_properties f g t u listed listed' s r f_tree g_tree f_signs g_signs taken same =
    sym (said_by_parts listed f t f_tree f_signs) ∙ ap (said []) (same_parts f g t u listed listed' s r f_tree g_tree taken same) ∙ said_by_parts listed' g u g_tree g_signs

-- The same of the nodes that the signatures of two configurations list.
pub same_signed : (f g : List ℕ) (t u : Siblings) (own own' : List (NamedOf Span)) (n m s r : ℕ) → tree f ≡ Ok t → tree g ≡ Ok u
    → refusal (is_marked (marks_of f own (table t) n)) f s ≡ None → message (is_marked (marks_of f own (table t) n)) f s ≡ message (is_marked (marks_of g own' (table u) m)) g r
    → signed_properties (is_marked (marks_of f own (table t) n)) f ≡ signed_properties (is_marked (marks_of g own' (table u) m)) g
same_signed f g t u own own' n m s r f_tree g_tree taken same =
    same_properties f g t u (is_marked (marks_of f own (table t) n)) (is_marked (marks_of g own' (table u) m)) s r f_tree g_tree (marks_signed f own t n f_tree) (marks_signed g own' u m g_tree) taken same
