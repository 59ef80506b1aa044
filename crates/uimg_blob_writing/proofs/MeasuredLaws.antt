-- The first bad name, one step at a time.
use Rattle.std.proofs.Common.{◌≡◌, ℕ, List, [], ◌∷◌, length, Option, Some, None, Result, Ok, Err, Bool, true, false, is_none, nat_le, ◌&&◌, if◌then◌else◌, refl, ap, sym, ◌∙◌}
use Rattle.std.{proofs.lemmas.Bool.leb-true, specs.{Option.option_or, Result.IsErrAnd}}
use Rattle.std.specs.List.{AllByRecursion}
use Rattle.uimg_blob_reading.specs.{declared.fault.BlobFault.BlobFault, Faults.refuses_memory}
use Rattle.uimg_blob_reading.specs.Plain.{NamedOf, NodesOf, no_node, a_node, IsName, AreNamed}
use Rattle.uimg_blob_reading.specs.declared.fault.BlobFault.TheVariants.{BadNodeName, BadPropertyName, OutOfMemory}
use Rattle.uimg_texts.specs.Nul.{before_nul}
use Rattle.uimg_blob_writing.specs.{declared.tree.Node.Node, Content.{Content, Unread}}
use Rattle.uimg_blob_writing.specs.Trees.{siblings, node_of}
use Rattle.uimg_blob_writing.specs.Measured.{is_name, bad_property, bad_name, fault_in}

pub property-good : {V : Type 0} (p : NamedOf V) (own : List (NamedOf V)) → is_name p.name ≡ true → bad_property (p ∷ own) ≡ bad_property own
unfolding bad_property
property-good p own e = rw e refl

pub property-bad : {V : Type 0} (p : NamedOf V) (own : List (NamedOf V)) → is_name p.name ≡ false → bad_property (p ∷ own) ≡ Some BadPropertyName
unfolding bad_property
property-bad p own e = rw e refl

pub property-none : (let own : List (NamedOf Content) = [] in bad_property own) ≡ None
unfolding bad_property
property-none = refl

pub node-bad : {V : Type 0} (name : List ℕ) (own : List (NamedOf V)) (below after : NodesOf V) → is_name name ≡ false → bad_name (a_node name own below after) ≡ Some BadNodeName
unfolding bad_name
node-bad name own below after e = rw e refl

or-none : (o : Option BlobFault) → option_or o None ≡ o
or-none None = refl
or-none (Some f) = refl

or-more : (good : Bool) (a b c : Option BlobFault) → (if good then option_or a (option_or b c) else Some BadNodeName) ≡ option_or (if good then option_or a (option_or b None) else Some BadNodeName) c
or-more true (Some f) b c = refl
or-more true None (Some f) c = refl
or-more true None None c = refl
or-more false a b c = refl

pub bad_name-more : {A : Type 0} (n : Node A) (ns : List (Node A)) → bad_name (siblings (n ∷ ns)) ≡ option_or (bad_name (node_of n)) (bad_name (siblings ns))
unfolding bad_name
bad_name-more n ns = or-more (is_name n.name) (bad_property n.props) (bad_name n.children) (bad_name (siblings ns))

-- of a node with a good name and good properties
pub bad_name-below : {A : Type 0} (n : Node A) → is_name n.name ≡ true → None ≡ bad_property n.props → bad_name (node_of n) ≡ bad_name n.children
unfolding bad_name
bad_name-below n e p = rw (e, sym p) (or-none (bad_name n.children))

pub bad_name-properties : {A : Type 0} (n : Node A) (f : BlobFault) → is_name n.name ≡ true → Some f ≡ bad_property n.props → bad_name (node_of n) ≡ Some f
unfolding bad_name
bad_name-properties n f e p = rw (e, sym p) refl

pub bad_name-none : (let t : Unread = no_node in bad_name t) ≡ None
unfolding bad_name
bad_name-none = refl

pub fault-err : {X : Type 0} (r : Result X BlobFault) (f : BlobFault) → IsErrAnd r (λ e. e ≡ f) → fault_in r ≡ Some f
fault-err (Ok x) f h = absurd h
fault-err (Err e) f h = ap (λ (x : BlobFault). let y : Option BlobFault = Some x in y) h

none-is : (o : Option (List ℕ)) → is_none o ≡ true → o ≡ None
none-is None h = refl
none-is (Some x) h = absurd (cc)

both : (a b : Bool) → (a && b) ≡ true → (a ≡ true) × (b ≡ true)
both true b h = (refl, h)
both false b h = absurd (cc)

-- a name that passes the test is a name
name-good : (name : List ℕ) → is_name name ≡ true → IsName name
name-good name h =
    let s = both (nat_le (length name) 255) (is_none (before_nul name)) h in
    record { short = leb-true _ _ s.0; no_nul = none-is (before_nul name) s.1 }

good-step : (b : Bool) (f : BlobFault) (o : Option BlobFault) → (if b then o else Some f) ≡ None → (b ≡ true) × (o ≡ None)
good-step true f o h = (refl, h)
good-step false f o h = absurd (cc)

both-none : (a b : Option BlobFault) → option_or a b ≡ None → (a ≡ None) × (b ≡ None)
both-none None b h = (refl, h)
both-none (Some f) b h = absurd (cc)

properties-good : {V : Type 0} (own : List (NamedOf V)) → bad_property own ≡ None → AllByRecursion (λ p. IsName p.name) own
unfolding bad_property
properties-good [] h = tt
properties-good (p ∷ own) h =
    let s = good-step (is_name p.name) BadPropertyName (bad_property own) h in
    (name-good p.name s.0, properties-good own s.1)

-- where no name is bad, all are names
pub are_named : {V : Type 0} (t : NodesOf V) → bad_name t ≡ None → AreNamed t
unfolding bad_name
are_named no_node h = tt
are_named (a_node name own below after) h =
    let s = good-step (is_name name) BadNodeName (option_or (bad_property own) (option_or (bad_name below) (bad_name after))) h in
    let o = both-none (bad_property own) (option_or (bad_name below) (bad_name after)) s.1 in
    let n = both-none (bad_name below) (bad_name after) o.1 in
    (name-good name s.0, properties-good own o.0, are_named below n.0, are_named after n.1)

-- no name is refused for want of memory
abbrev wants_memory : Option BlobFault → Bool
wants_memory None = false
wants_memory (Some f) = refuses_memory f

or-memory : (a b : Option BlobFault) → wants_memory a ≡ false → wants_memory b ≡ false → wants_memory (option_or a b) ≡ false
or-memory None b h k = k
or-memory (Some f) b h k = h

if-memory : (good : Bool) (o : Option BlobFault) (f : BlobFault) → wants_memory o ≡ false → refuses_memory f ≡ false → wants_memory (if good then o else Some f) ≡ false
if-memory true o f h k = h
if-memory false o f h k = k

property-memory : {V : Type 0} (own : List (NamedOf V)) → wants_memory (bad_property own) ≡ false
unfolding bad_property
property-memory [] = refl
property-memory (p ∷ own) = if-memory (is_name p.name) (bad_property own) BadPropertyName (property-memory own) refl

name-memory : {V : Type 0} (t : NodesOf V) → wants_memory (bad_name t) ≡ false
unfolding bad_name
name-memory no_node = refl
name-memory (a_node name own below after) =
    if-memory (is_name name) (option_or (bad_property own) (option_or (bad_name below) (bad_name after))) BadNodeName
    (or-memory (bad_property own) (option_or (bad_name below) (bad_name after)) (property-memory own)
    (or-memory (bad_name below) (bad_name after) (name-memory below) (name-memory after))) refl

pub not-memory : {V : Type 0} (t : NodesOf V) (f : BlobFault) → Some f ≡ bad_name t → f ≡ OutOfMemory → ⊥
not-memory t f bad memory =
    let told : refuses_memory f ≡ false = ap wants_memory bad ∙ name-memory t in
    let is : refuses_memory f ≡ true = ap (λ (x : BlobFault). refuses_memory x) memory in
    cc

pub same-fault : {X : Type 0} (r : Result X BlobFault) (f e : BlobFault) → IsErrAnd r (λ x. x ≡ f) → r ≡ Err e → f ≡ e
same-fault (Ok x) f e h k = absurd h
same-fault (Err x) f e h k = cc
