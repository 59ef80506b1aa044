-- What is found in a tree, a node or a property at a time.
use Rattle.std.proofs.Common.{◌≡◌, ℕ, zero, suc, ◌+◌, ◌<◌, ◌≤◌, List, [], ◌∷◌, ◌++◌, length, map, drop, flat_map, Option, Some, None, Bool, true, false, bytes_eq, slice_get, get_or, if◌then◌else◌, refl, ap, sym, ◌∙◌, ◌&&◌, append_assoc, append-nil, codes, subst, arith, is_some, true≢false}
use Rattle.std.proofs.lemmas.List.{drop_more, length-map}
use Rattle.std.proofs.lemmas.List.Concat.{flat_map-cons}
use Rattle.std.{specs.{List.All, Option.option_map}, proofs.lemmas.List.Elements.{All-cons, All-nil, All-weaker}}
use Rattle.uimg_base.specs.declared.spans.Span.{Span}
use Rattle.uimg_texts.specs.Slices.{slice}
use Rattle.uimg_blob_reading.specs.declared.{nodes.Blob.Blob, places.PropertyPlace.PropertyPlace}
use Rattle.uimg_blob_reading.specs.{Grammar.Siblings, Indexed.IsIndexed, Kept.{kept_of, entry_of}, LookUps.first, Places.{EndsBy, read_place}, Roles.top, Rows.{Row, table}}
use Rattle.uimg_blob_reading.proofs.{LookLaws.length_rows, PhaseLaws.some_some, SoFarLaws.length_kept}
use Rattle.uimg_blob_reading.specs.{Plain.NamedOf, Properties.places_of}
use Rattle.uimg_signing.specs.{Signatures.rsa_algo, declared.signature.RsaAlgo.RsaAlgo}
use Rattle.uimg_rsa.specs.RSquared.{is_r_squared}
use Rattle.uimg_keys.specs.{Names.{between, joined, key_name}, declared.key.PublicKey.PublicKey}
use Rattle.uimg_keys.specs.Trees.{Said, IsTaken, IsIndexOf, are_helps, found_in, has_helps, is_inverse, names_signature, is_parent, is_required, is_signature, key_in, modulus_in, name_in, number, or_empty, rows_in, rows_of, says, signature_from, value_named}

drop_at : {X : Type 0} (xs : List X) (k : ℕ) → k < length xs → (x : X) × (slice_get xs k ≡ Some x) × (drop k xs ≡ x ∷ drop (suc k) xs)
drop_at [] k h = absurd (omega (arith, h))
drop_at (x ∷ xs) zero h = (x, refl, refl)
drop_at (x ∷ xs) (suc k) h = let r = drop_at xs k (omega (arith, h)) in (r.0, r.1, r.2)

pub drop_end : {X : Type 0} (xs : List X) (k : ℕ) → length xs ≤ k → drop k xs ≡ []
drop_end [] zero h = refl
drop_end [] (suc k) h = refl
drop_end (x ∷ xs) zero h = absurd (omega (arith, h))
drop_end (x ∷ xs) (suc k) h = drop_end xs k (omega (arith, h))

-- the table of the file's tree
pub rows_are : (file : List ℕ) (blob : Blob) (es : List (List ℕ)) → (h : IsIndexOf file blob es) → rows_of file ≡ table h.nodes
rows_are file blob es h = ap rows_in h.is

pub rows_count : (file : List ℕ) (blob : Blob) (es : List (List ℕ)) → IsIndexOf file blob es → length (rows_of file) ≡ length es
rows_count file blob es h =
    ap length (rows_are file blob es h) ∙ length_rows top None 0 h.nodes ∙ sym (length_kept top None 0 h.nodes) ∙ sym (length-map (kept_of h.nodes) entry_of) ∙ ap length (sym h.indexed.kept)

-- the row of a node
pub row_of : (file : List ℕ) (blob : Blob) (es : List (List ℕ)) (n : ℕ) → IsIndexOf file blob es → n < length es
    → (row : Row) × (slice_get (rows_of file) n ≡ Some row) × (drop n (rows_of file) ≡ row ∷ drop (suc n) (rows_of file))
row_of file blob es n h within = drop_at (rows_of file) n (omega (arith, rows_count file blob es h, within))

pub in_table : (file : List ℕ) (blob : Blob) (es : List (List ℕ)) (n : ℕ) (row : Row) → (h : IsIndexOf file blob es) → slice_get (rows_of file) n ≡ Some row → slice_get (table h.nodes) n ≡ Some row
in_table file blob es n row h at = ap (λ (rs : List Row). slice_get rs n) (sym (rows_are file blob es h)) ∙ at

-- the first property of a name
abbrev pub value_at : List ℕ → List ℕ → List PropertyPlace → Option (List ℕ)
value_at file name xs = value_named file (map (read_place file) xs) name

by_test : (file name : List ℕ) (p : PropertyPlace) (ps : List PropertyPlace) (it : Bool) → bytes_eq name (read_place file p).name ≡ it
    → value_at file name (p ∷ ps) ≡ (if bytes_eq name (read_place file p).name then Some (slice file p.value.place p.value.length) else value_at file name ps)
by_test file name p ps true is = rw is refl
by_test file name p ps false is = rw is refl

one_first : (file name : List ℕ) (p : PropertyPlace) (ps : List PropertyPlace) (it : Bool) → bytes_eq name (read_place file p).name ≡ it
    → value_at file name (p ∷ ps) ≡ (if it then Some (slice file p.value.place p.value.length) else value_at file name ps)
one_first file name p ps it is =
    by_test file name p ps (bytes_eq name (read_place file p).name) refl
    ∙ ap (λ (b : Bool). (let o : Option (List ℕ) = if b then Some (slice file p.value.place p.value.length) else value_at file name ps in o)) is

pub value_found : (file name : List ℕ) (p : PropertyPlace) (xs left : List PropertyPlace) (all : Option (List ℕ)) → left ≡ p ∷ xs → bytes_eq name (read_place file p).name ≡ true
    → value_at file name left ≡ all → all ≡ Some (slice file p.value.place p.value.length)
value_found file name p xs left all is so same = sym same ∙ ap (value_at file name) is ∙ one_first file name p xs true so

pub value_more : (file name : List ℕ) (p : PropertyPlace) (xs left : List PropertyPlace) (all : Option (List ℕ)) → left ≡ p ∷ xs → bytes_eq name (read_place file p).name ≡ false
    → value_at file name left ≡ all → value_at file name xs ≡ all
value_more file name p xs left all is so same = sym (one_first file name p xs false so) ∙ sym (ap (value_at file name) is) ∙ same

pub value_none : (file name : List ℕ) (left : List PropertyPlace) (all : Option (List ℕ)) → left ≡ [] → value_at file name left ≡ all → all ≡ None
value_none file name left all is same = sym same ∙ ap (value_at file name) is

-- a property of those that are left
pub place_left : (xs : List PropertyPlace) (i : ℕ) (p : PropertyPlace) → i < length xs → p ≡ get_or xs i p → drop i xs ≡ p ∷ drop (i + 1) xs
place_left xs i p within is = drop_more xs i p within ∙ ap (λ (x : PropertyPlace). x ∷ drop (i + 1) xs) (sym is)

-- /signature
pub signature_found : (file : List ℕ) (i : ℕ) (row : Row) (more left : List Row) (all : Option ℕ) → left ≡ row ∷ more → is_signature file row ≡ true → signature_from file i left ≡ all → Some i ≡ all
unfolding signature_from
signature_found file i row more left all is so same =
    sym (ap (λ (b : Bool). (let o : Option ℕ = if b then Some i else signature_from file (i + 1) more in o)) so) ∙ sym (ap (signature_from file i) is) ∙ same

pub signature_more : (file : List ℕ) (i : ℕ) (row : Row) (more left : List Row) (all : Option ℕ) → left ≡ row ∷ more → is_signature file row ≡ false → signature_from file i left ≡ all → signature_from file (i + 1) more ≡ all
unfolding signature_from
signature_more file i row more left all is so same =
    sym (ap (λ (b : Bool). (let o : Option ℕ = if b then Some i else signature_from file (i + 1) more in o)) so) ∙ sym (ap (signature_from file i) is) ∙ same

pub signature_none : (file : List ℕ) (i : ℕ) (left : List Row) (all : Option ℕ) → left ≡ [] → signature_from file i left ≡ all → None ≡ all
unfolding signature_from
signature_none file i left all is same = sym (ap (signature_from file i) is) ∙ same

-- what is gathered, a row at a time
pub gathered : {X : Type 0} (f : Row → List X) (row : Row) (more left : List Row) (old new found all : List X) → left ≡ row ∷ more → found ≡ f row → new ≡ old ++ found → old ++ flat_map f left ≡ all → new ++ flat_map f more ≡ all
gathered {X} f row more left old new found all is found_is added same =
    ap (λ (l : List X). l ++ flat_map f more) added ∙ append_assoc old found (flat_map f more) ∙ ap (λ (l : List X). old ++ (l ++ flat_map f more)) found_is
    ∙ ap (λ (l : List X). old ++ l) (sym (flat_map-cons f row more)) ∙ sym (ap (λ (l : List Row). old ++ flat_map f l) is) ∙ same

pub all_gathered : {X : Type 0} (f : Row → List X) (left : List Row) (old all : List X) → left ≡ [] → old ++ flat_map f left ≡ all → old ≡ all
all_gathered {X} f left old all is same = sym (append-nil old) ∙ sym (ap (λ (l : List Row). old ++ flat_map f l) is) ∙ same

-- spans that end earlier
pub ends_in : (a b : ℕ) (xs : List PropertyPlace) → a ≤ b → All (EndsBy a) xs → All (EndsBy b) xs
ends_in a b xs le all = All-weaker (EndsBy a) (EndsBy b) (λ x e. record { name = omega (arith, e.name, le); value = omega (arith, e.value, le); short = e.short }) xs all

-- a child of another node
pub not_child : (file : List ℕ) (row : Row) → is_parent 0 row.parent ≡ false → false ≡ is_signature file row
not_child file row is = sym (ap (λ (b : Bool). if b then names_signature (name_in file row) else false) is)

pub not_below : (file : List ℕ) (signature : ℕ) (row : Row) → is_parent signature row.parent ≡ false → [] ≡ found_in file signature row
not_below file signature row is =
    sym (ap (λ (b : Bool). (let l : List Said = if b then (if is_required file (places_of row) then key_in file (places_of row) (name_in file row) ∷ [] else []) else [] in l)) is)

-- a key that is required
pub found_key : (file : List ℕ) (signature : ℕ) (row : Row) (key : Said) → is_parent signature row.parent ≡ true → is_required file (places_of row) ≡ true → key ≡ key_in file (places_of row) (name_in file row) → key ∷ [] ≡ found_in file signature row
found_key file signature row key below required is =
    ap (λ (k : Said). k ∷ []) is
    ∙ sym (ap (λ (b : Bool). (let l : List Said = if b then key_in file (places_of row) (name_in file row) ∷ [] else [] in l)) required)
    ∙ sym (ap (λ (b : Bool). (let l : List Said = if b then (if is_required file (places_of row) then key_in file (places_of row) (name_in file row) ∷ [] else []) else [] in l)) below)

pub says_as : (file : List ℕ) (xs own : List (NamedOf Span)) (name key text said_text : List ℕ) → xs ≡ own → name ≡ key → text ≡ said_text → says (value_named file xs name) text ≡ says (value_named file own key) said_text
says_as file xs own name key text said_text are named is =
    ap (λ (l : List (NamedOf Span)). says (value_named file l name) text) are ∙ ap (λ (n : List ℕ). says (value_named file own n) text) named ∙ ap (λ (t : List ℕ). says (value_named file own key) t) is

pub key_said : (file : List ℕ) (own : List (NamedOf Span)) (one other third m e a items name told : List ℕ) (n : ℕ) (r : Option RsaAlgo) → one ≡ codes "rsa,modulus" → other ≡ codes "rsa,exponent" → third ≡ codes "algo"
    → value_named file own one ≡ Some m → value_named file own other ≡ Some e → value_named file own third ≡ Some a → items ≡ m → n ≡ number e → r ≡ rsa_algo a → told ≡ key_name name
    → ◌≡◌ {A = Said} (items, n, r, told) (key_in file own name)
key_said file own one other third m e a items name told n r first second last modulus exponent algo items_are n_is r_is told_is =
    let found : or_empty (value_named file own (codes "rsa,modulus")) ≡ m = ap (λ (k : List ℕ). or_empty (value_named file own k)) (sym first) ∙ ap or_empty modulus in
    let counted : or_empty (value_named file own (codes "rsa,exponent")) ≡ e = ap (λ (k : List ℕ). or_empty (value_named file own k)) (sym second) ∙ ap or_empty exponent in
    let named : or_empty (value_named file own (codes "algo")) ≡ a = ap (λ (k : List ℕ). or_empty (value_named file own k)) (sym last) ∙ ap or_empty algo in
    ap (λ (x : Option RsaAlgo). (items, n, x, told)) r_is ∙ ap (λ (l : List ℕ). (items, n, rsa_algo a, l)) told_is
    ∙ ap (λ (l : List ℕ). (l, n, rsa_algo a, key_name name)) (items_are ∙ sym found) ∙ ap (λ (x : ℕ). (modulus_in file own, x, rsa_algo a, key_name name)) (n_is ∙ ap number (sym counted))
    ∙ ap (λ (l : List ℕ). (modulus_in file own, number (or_empty (value_named file own (codes "rsa,exponent"))), rsa_algo l, key_name name)) (sym named)

-- what U-Boot's arithmetic begins with
pub helps_said : (file : List ℕ) (own : List (NamedOf Span)) (one other modulus inverse square : List ℕ) → one ≡ codes "rsa,n0-inverse" → other ≡ codes "rsa,r-squared"
    → value_named file own one ≡ Some inverse → value_named file own other ≡ Some square → (is_inverse modulus inverse && is_r_squared modulus square) ≡ has_helps file own modulus
helps_said file own one other modulus inverse square first second found also =
    let a : value_named file own (codes "rsa,n0-inverse") ≡ Some inverse = ap (λ (k : List ℕ). value_named file own k) (sym first) ∙ found in
    let b : value_named file own (codes "rsa,r-squared") ≡ Some square = ap (λ (k : List ℕ). value_named file own k) (sym second) ∙ also in
    sym (ap (λ (o : Option (List ℕ)). are_helps modulus o (value_named file own (codes "rsa,r-squared"))) a ∙ ap (λ (o : Option (List ℕ)). are_helps modulus (Some inverse) o) b)

-- a child of another node is no key
pub no_key : (file : List ℕ) (signature : ℕ) (row : Row) → is_parent signature row.parent ≡ false → IsTaken file signature row
no_key file signature row is = λ below. absurd (grind (arith, is, below))

-- what holds of a row, and of those after it
pub all_from : {X : Type 0} (P : X → Type 0) (x : X) (more left all : List X) → left ≡ x ∷ more → P x → (All P left → All P all) → All P more → All P all
all_from {X} P x more left all is this rest h = rest (subst (λ (l : List X). All P l) (sym is) (All-cons P x more this h))

pub all_done : {X : Type 0} (P : X → Type 0) (left all : List X) → left ≡ [] → (All P left → All P all) → All P all
all_done {X} P left all is rest = rest (subst (λ (l : List X). All P l) (sym is) (All-nil P))

-- the name of a key that is not the first one
abbrev pub next_name : Bool → PublicKey → List ℕ
next_name is_any key = between is_any ++ key.name.items

flat_joined : (is_any : Bool) (keys : List PublicKey) → flat_map (next_name is_any) keys ≡ flat_map (λ (other : List ℕ). between is_any ++ other) (map (λ (key : PublicKey). key.name.items) keys)
flat_joined is_any [] = refl
flat_joined is_any (key ∷ keys) = ap (λ (l : List ℕ). next_name is_any key ++ l) (flat_joined is_any keys)

-- the names of all keys are that of the first one, and those of the others
pub names_joined : (is_any : Bool) (keys : List PublicKey) (first : PublicKey) (text : List ℕ) → slice_get keys 0 ≡ Some first → text ≡ first.name.items ++ flat_map (next_name is_any) (drop 1 keys)
    → text ≡ joined is_any (map (λ (key : PublicKey). key.name.items) keys)
unfolding joined
names_joined is_any [] first text at is = absurd (true≢false (sym (ap is_some at)))
names_joined is_any (key ∷ keys) first text at is =
    is ∙ ap (λ (k : PublicKey). k.name.items ++ flat_map (next_name is_any) keys) (sym (some_some key first at)) ∙ ap (λ (l : List ℕ). key.name.items ++ l) (flat_joined is_any keys)
