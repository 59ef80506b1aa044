-- What taking payloads into nodes keeps.
use Rattle.std.proofs.Common.{◌≡◌, ℕ, zero, suc, ◌+◌, ◌<◌, ◌≤◌, List, [], ◌∷◌, ◌++◌, get_or, set, map, take, drop, Bool, if◌then◌else◌, length, refl, ap, sym, ◌∙◌, arith}
use Rattle.std.proofs.lemmas.List.{set_split, take_all, drop_all, map-append}
use Rattle.std.specs.List.{AllByRecursion}
use Rattle.std.specs.Str.{bytes_eq}
use Rattle.uimg_blob_reading.specs.Plain.{NamedOf, no_node, a_node, AllValues}
use Rattle.uimg_blob_writing.specs.Content.{Content, Unread, bytes, IsBytes}
use Rattle.uimg_blob_writing.specs.{declared.tree.Node.Node, Trees.{siblings, node_of}}
use Rattle.uimg_blob_writing.specs.{declared.props.Prop.Prop, Properties.property}
use Rattle.uimg_fit_updating.specs.Importing.{replaced, IsReplacedAt}

one_replaced : (b : Bool) (q p : NamedOf Content) (own more : List (NamedOf Content))
    → IsBytes q.value → IsBytes p.value → AllByRecursion (λ r. IsBytes r.value) own → AllByRecursion (λ r. IsBytes r.value) more
    → AllByRecursion (λ r. IsBytes r.value) (if b then q ∷ own else p ∷ more)
one_replaced Bool.true q p own more new here rest after = (new, rest)
one_replaced Bool.false q p own more new here rest after = (here, after)

-- bytes in place of a property
pub bytes_replaced : (key : List ℕ) (q : NamedOf Content) (own : List (NamedOf Content)) → IsBytes q.value → AllByRecursion (λ r. IsBytes r.value) own
    → AllByRecursion (λ r. IsBytes r.value) (replaced key q own)
unfolding replaced
bytes_replaced key q [] new h = (new, tt)
bytes_replaced key q (p ∷ own) new h = one_replaced (bytes_eq key p.name) q p own (replaced key q own) new h.0 h.1 (bytes_replaced key q own new h.1)

-- the properties with another at a place
pub replaced_at : {A : Type 0} (key : List ℕ) (ps : List (Prop A)) (i : ℕ) (p : Prop A) → IsReplacedAt key ps i → i < length ps → map property (set ps i p) ≡ replaced key (property p) (map property ps)
replaced_at key ps i p is within =
    let next : suc i ≡ i + 1 = omega arith in
    ap (map property) (set_split ps i p within ∙ ap (λ (n : ℕ). take i ps ++ p ∷ drop n ps) next) ∙ map-append property (take i ps) (p ∷ drop (i + 1) ps)
    ∙ sym (is (property p))

-- the properties with one more
pub replaced_none : {A : Type 0} (key : List ℕ) (ps : List (Prop A)) (i : ℕ) (p : Prop A) → IsReplacedAt key ps i → length ps ≤ i → map property (ps ++ p ∷ []) ≡ replaced key (property p) (map property ps)
replaced_none key ps i p is past =
    map-append property ps (p ∷ [])
    ∙ ap (λ (l : List (NamedOf Content)). l ++ property p ∷ []) (ap (map property) (sym (take_all i ps past)))
    ∙ ap (λ (l : List (NamedOf Content)). map property (take i ps) ++ property p ∷ l) (ap (map property) (sym (drop_all (i + 1) ps (omega (arith, past)))))
    ∙ sym (is (property p))

-- one of some nodes
pub bytes_at : {A : Type 0} (ns : List (Node A)) (i : ℕ) (d : Node A) → AllValues IsBytes (siblings ns) → i < length ns → AllValues IsBytes (node_of (get_or ns i d))
bytes_at [] i d h below = absurd (omega (arith, below))
bytes_at (n ∷ ns) zero d h below = (h.0, h.1, tt)
bytes_at (n ∷ ns) (suc i) d h below = bytes_at ns i d h.2 (omega (arith, below))

-- another in its place
pub bytes_set : {A : Type 0} (ns : List (Node A)) (i : ℕ) (n : Node A) → AllValues IsBytes (siblings ns) → AllValues IsBytes (node_of n) → AllValues IsBytes (siblings (set ns i n))
bytes_set [] i n h p = h
bytes_set (m ∷ ns) zero n h p = (p.0, p.1, h.2)
bytes_set (m ∷ ns) (suc i) n h p = (h.0, h.1, bytes_set ns i n h.2 p)
