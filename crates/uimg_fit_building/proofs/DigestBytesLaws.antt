-- Filling, but for the bytes of the digests.
use Rattle.std.proofs.Common.{◌≡◌, ℕ, suc, ◌+◌, ◌<◌, List, [], ◌∷◌, length, map, set, get_or, Option, Some, None, Bool, true, false, not, cond, if◌then◌else◌, refl, ap, sym, ◌∙◌, codes, arith}
use Rattle.std.specs.{Option.{option_map_or, option_and_then}, Str.bytes_eq}
use Rattle.uimg_texts.specs.declared.naming.Naming.{Naming}
use Rattle.uimg_sums.specs.{declared.algo.Algo.Algo, Algorithms.digest_by}
use Rattle.uimg_texts.specs.Nul.{text}
use Rattle.uimg_blob_reading.specs.{Roles.is_hash, Plain.{NamedOf, a_node}, LookUps.{NodeOf, first}}
use Rattle.uimg_blob_writing.specs.{declared.tree.Node.Node, Content.{Content, Unread, bytes}}
use Rattle.uimg_blob_writing.specs.Trees.{siblings}
use Rattle.uimg_fit_base.specs.AlgoNames.{algo_by}
use Rattle.uimg_fit_building.specs.{Behind.entry, ImageFillings.{hashed_in, filled_over}}
use Rattle.uimg_fit_building.specs.PayloadSums.{no_files, in_memory}
use Rattle.uimg_fit_building.specs.Filling.{with, without_external, each, in_first, hash_algo, with_digest_by}
use Rattle.uimg_fit_building.specs.DigestBytes.{zeroed, zeroed_own, zeroed_hash, zeroed_child, zeroed_image, zeroed_parent, zeroed_below}
use Rattle.uimg_fit_building.proofs.ImageFillLaws.{joined}
use Rattle.uimg_fit_building.proofs.FillTreeLaws.{before, is_images, with_children}
use Rattle.uimg_fit_building.proofs.WithLaws.{first-set, first-other, set-twice}

-- a hash node with a value
module _ (naming : Naming) (h : NodeOf Content) (algo : Algo) (known : hash_algo naming in_memory h.own ≡ Some algo) where
  abbrev valued : Content → NodeOf Content
  valued c = record h { own = with (codes "value") c h.own }

  valued-known : (c : Content) → hash_algo naming in_memory (valued c).own ≡ Some algo
  valued-known c =
      ap (λ (o : Option Content). option_and_then (λ v. algo_by naming (text (in_memory v))) o) (first-other (codes "value") (codes "algo") c h.own refl) ∙ known

  valued-zeroed : (c : Content) → zeroed_hash naming (valued c) ≡ valued (zeroed c)
  valued-zeroed c =
      ap (λ (o : Option Algo). option_map_or (λ a. record (valued c) { own = zeroed_own (valued c).own }) o (valued c)) (valued-known c)
      ∙ ap (λ (own : List (NamedOf Content)). let n : NodeOf Content = record h { own = own } in n)
      (ap (λ (o : Option Content). option_map_or (λ v. with (codes "value") (zeroed v) (valued c).own) o (valued c).own) (first-set (codes "value") c h.own)
      ∙ set-twice (codes "value") (zeroed c) c h.own)

  pub hash-zeroed : (c : Content) (message : List ℕ) → zeroed c ≡ zeroed (bytes (digest_by algo message)) → zeroed_hash naming (valued c) ≡ zeroed_hash naming (with_digest_by naming in_memory bytes message h)
  hash-zeroed c message same =
      valued-zeroed c ∙ ap valued same ∙ sym (valued-zeroed (bytes (digest_by algo message)))
      ∙ sym (ap (λ (o : Option Algo). zeroed_hash naming (option_map_or (λ a. valued (bytes (digest_by a message))) o h)) known)

-- a child of an image that is a hash node
zeroed-name : (h : NodeOf Content) (o : Option Algo) → (option_map_or (λ a. record h { own = zeroed_own h.own }) o h).name ≡ h.name
zeroed-name h None = refl
zeroed-name h (Some a) = refl

digest-name : (message : List ℕ) (h : NodeOf Content) (o : Option Algo) → (option_map_or (λ a. record h { own = with (codes "value") (bytes (digest_by a message)) h.own }) o h).name ≡ h.name
digest-name message h None = refl
digest-name message h (Some a) = refl

as-hash : (naming : Naming) (h : NodeOf Content) → is_hash h.name ≡ true → zeroed_child naming h ≡ zeroed_hash naming h
as-hash naming h is = ap (λ (b : Bool). if b then zeroed_hash naming h else h) is

pub child-zeroed : (naming : Naming) (message : List ℕ) (old new : NodeOf Content) → is_hash old.name ≡ true → zeroed_hash naming new ≡ zeroed_hash naming (with_digest_by naming in_memory bytes message old) → zeroed_child naming new ≡ zeroed_child naming (hashed_in naming message old)
child-zeroed naming message old new is same =
    let d : NodeOf Content = with_digest_by naming in_memory bytes message old in
    let named : d.name ≡ old.name = digest-name message old (hash_algo naming in_memory old.own) in
    let alike : new.name ≡ d.name = sym (zeroed-name new (hash_algo naming in_memory new.own)) ∙ ap (λ (n : NodeOf Content). n.name) same ∙ zeroed-name d (hash_algo naming in_memory d.own) in
    as-hash naming new (ap is_hash (alike ∙ named) ∙ is) ∙ same ∙ sym (as-hash naming d (ap is_hash named ∙ is))
    ∙ sym (ap (λ (b : Bool). zeroed_child naming (if b then d else old)) is)

-- nodes that agree one by one
module _ {A : Type 0} (g f : NodeOf Content → NodeOf Content) where
  joined-one : (ns : List (Node A)) → joined (map (λ (n : Node A). g (entry n)) ns) ≡ each g (siblings ns)
  unfolding each
  joined-one [] = refl
  joined-one (n ∷ ns) = ap (λ (t : Unread). a_node (g (entry n)).name (g (entry n)).own (g (entry n)).below t) (joined-one ns)

  joined-two : (ns : List (Node A)) → joined (map (λ (n : Node A). g (f (entry n))) ns) ≡ each g (each f (siblings ns))
  unfolding each
  joined-two [] = refl
  joined-two (n ∷ ns) = ap (λ (t : Unread). a_node (g (f (entry n))).name (g (f (entry n))).own (g (f (entry n))).below t) (joined-two ns)

  pub each-agrees : (old new : List (Node A)) → map (λ (n : Node A). g (entry n)) new ≡ map (λ (n : Node A). g (f (entry n))) old → each g (siblings new) ≡ each g (each f (siblings old))
  each-agrees old new same = sym (joined-one new) ∙ ap joined same ∙ joined-two old

-- an image
pub image-zeroed : (naming : Naming) (image : NodeOf Content) (c : Content) (below : Unread) → first image.own (codes "data") ≡ Some c
    → each (zeroed_child naming) below ≡ each (zeroed_child naming) (each (hashed_in naming (in_memory c)) image.below)
    → zeroed_image naming (record { name = image.name; own = without_external image.own; below = below }) ≡ zeroed_image naming (filled_over naming no_files image)
image-zeroed naming image c below there same =
    ap (λ (t : Unread). let n : NodeOf Content = record { name = image.name; own = without_external image.own; below = t } in n)
    (same ∙ sym (ap (λ (o : Option Content). each (zeroed_child naming) (option_map_or (λ v. each (hashed_in naming (in_memory v)) image.below) o image.below)) there))

-- the children of a root
module _ (naming : Naming) {A : Type 0} (f : Unread → Unread) where
  below-step : (b : Bool) (n : Node A) (ns : List (Node A)) (d new : Node A) → b ≡ is_images n
      → (before ns < length ns → zeroed_parent naming new ≡ zeroed_parent naming (with_children f (get_or ns (before ns) d)) → zeroed_below naming (siblings (set ns (before ns) new)) ≡ zeroed_below naming (in_first (codes "images") f (siblings ns)))
      → cond (not b) (1 + before ns) 0 < length (n ∷ ns) → zeroed_parent naming new ≡ zeroed_parent naming (with_children f (get_or (n ∷ ns) (cond (not b) (1 + before ns) 0) d))
      → zeroed_below naming (siblings (set (n ∷ ns) (cond (not b) (1 + before ns) 0) new))
      ≡ zeroed_below naming (if b then a_node n.name n.props (f n.children) (siblings ns) else a_node n.name n.props n.children (in_first (codes "images") f (siblings ns)))
  unfolding in_first
  below-step true n ns d new e rest within same =
      let named : new.name ≡ n.name = ap (λ (m : Node A). m.name) same in
      let is : is_images new ≡ true = ap (λ (w : List ℕ). bytes_eq (codes "images") w) named ∙ sym e in
      rw (is, sym e) (ap (λ (m : Node A). a_node m.name m.props m.children (siblings ns)) same)
  below-step false n ns d new e rest within same =
      let next : 1 + before ns ≡ suc (before ns) = omega arith in
      ap (λ (k : ℕ). zeroed_below naming (siblings (set (n ∷ ns) k new))) next
      ∙ rw (sym e) (ap (λ (t : Unread). a_node n.name n.props n.children t)
      (rest (omega (arith, within)) (same ∙ ap (λ (k : ℕ). zeroed_parent naming (with_children f (get_or (n ∷ ns) k d))) next)))

  pub below-zeroed : (ns : List (Node A)) (d new : Node A) → before ns < length ns → zeroed_parent naming new ≡ zeroed_parent naming (with_children f (get_or ns (before ns) d))
      → zeroed_below naming (siblings (set ns (before ns) new)) ≡ zeroed_below naming (in_first (codes "images") f (siblings ns))
  unfolding in_first
  below-zeroed [] d new within same = absurd (omega (arith, within))
  below-zeroed (n ∷ ns) d new within same = below-step (is_images n) n ns d new refl (λ w i. below-zeroed ns d new w i) within same
