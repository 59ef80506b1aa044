-- Trees of which a strict check refuses no node.
use Rattle.std.proofs.Common.{◌≡◌, ℕ, List, [], ◌∷◌, ◌++◌, map, find, Option, Some, None, Bool, true, false, not, ◌||◌, ◌&&◌, ◌==◌, cond, if◌then◌else◌, codes, refl, ap, sym, ◌∙◌, subst}
use Rattle.std.specs.Bool.{⊤}
use Rattle.std.specs.List.{AllByRecursion, list_any, filter}
use Rattle.std.specs.Option.{option_map}
use Rattle.std.specs.Str.{bytes_eq}
use Rattle.std.proofs.lemmas.Bool.{false≢true}
use Rattle.std.proofs.lemmas.Slice.Eq.{bytes_eq-Decides}
use Rattle.uimg_strict.specs.declared.loose.Looseness.TheVariants.{DoubledNode}
use Rattle.uimg_blob_reading.specs.LookUps.{NodeOf, listed, first, hashes, images}
use Rattle.uimg_blob_reading.specs.Plain.{NamedOf, NodesOf, no_node, a_node}
use Rattle.uimg_blob_reading.specs.Roles.{is_hash}
use Rattle.uimg_blob_reading.specs.Spots.{Spot}
use Rattle.uimg_blob_reading.proofs.PhaseLaws.{by_bool, some_none, some_some}
use Rattle.uimg_strict.specs.Looseness.{or_then, first_found, found_if, in_node, all_nodes, loose_node}
use Rattle.uimg_strict.specs.Names.{has_at, again, again_after, has_name}
use Rattle.uimg_strict.specs.UBoot.{has_no_at, goes_on_at, nodename_eq, subnode, images_found, is_ignored, is_compared, hashes_compared}

-- nothing of two
pub none_first : {X : Type 0} (a b : Option X) → or_then a b ≡ None → a ≡ None
none_first None b is = refl
none_first (Some x) b is = absurd (some_none is)

pub none_later : {X : Type 0} (a b : Option X) → or_then a b ≡ None → b ≡ None
none_later None b is = is
none_later (Some x) b is = absurd (some_none is)

none_if : {X : Type 0} (b : Bool) (x : X) → found_if b x ≡ None → b ≡ false
none_if true x is = absurd (some_none is)
none_if false x is = refl

-- nothing is found in a list of two parts
none_front : {X Y : Type 0} (f : X → Option Y) (xs ys : List X) → first_found f (xs ++ ys) ≡ None → first_found f xs ≡ None
unfolding first_found
none_front f [] ys is = refl
none_front f (x ∷ xs) ys is =
    ap (λ o. or_then o (first_found f xs)) (none_first (f x) (first_found f (xs ++ ys)) is)
    ∙ none_front f xs ys (none_later (f x) (first_found f (xs ++ ys)) is)

none_back : {X Y : Type 0} (f : X → Option Y) (xs ys : List X) → first_found f (xs ++ ys) ≡ None → first_found f ys ≡ None
unfolding first_found
none_back f [] ys is = is
none_back f (x ∷ xs) ys is = none_back f xs ys (none_later (f x) (first_found f (xs ++ ys)) is)

none_head : {X Y : Type 0} (f : X → Option Y) (x : X) (xs : List X) → first_found f (x ∷ xs) ≡ None → f x ≡ None
unfolding first_found
none_head f x xs is = none_first (f x) (first_found f xs) is

none_tail : {X Y : Type 0} (f : X → Option Y) (x : X) (xs : List X) → first_found f (x ∷ xs) ≡ None → first_found f xs ≡ None
unfolding first_found
none_tail f x xs is = none_later (f x) (first_found f xs) is

-- nothing is found in any element
pub none_found : {X Y : Type 0} (f : X → Option Y) (xs : List X) → first_found f xs ≡ None → AllByRecursion (λ x. f x ≡ None) xs
none_found f [] is = tt
none_found f (x ∷ xs) is = (none_head f x xs is, none_found f xs (none_tail f x xs is))

-- No node is refused by the names in it.
abbrev pub Clean : NodesOf Spot → Type 0
Clean no_node = ⊤
Clean (a_node name own below after) =
    (loose_node (record { name = name; own = own; below = below }) ≡ None) × Clean below × Clean after

pub all_clean : (t : NodesOf Spot) → first_found loose_node (all_nodes t) ≡ None → Clean t
unfolding all_nodes
all_clean no_node is = tt
all_clean (a_node name own below after) is =
    let rest = none_tail loose_node (record { name = name; own = own; below = below }) (all_nodes below ++ all_nodes after) is in (
      none_head loose_node (record { name = name; own = own; below = below }) (all_nodes below ++ all_nodes after) is,
      all_clean below (none_front loose_node (all_nodes below) (all_nodes after) rest),
      all_clean after (none_back loose_node (all_nodes below) (all_nodes after) rest),
    )

-- such a node has no `@` in its name
no_at : (found : NodeOf Spot) → loose_node found ≡ None → has_at found.name ≡ false
no_at found is = none_if (has_at found.name) _ (none_first (found_if (has_at found.name) _) _ is)

-- .. and no property `uboot-ignore`
no_ignore : (found : NodeOf Spot) → loose_node found ≡ None → has_name (codes "uboot-ignore") (map (λ p. p.name) found.own) ≡ false
no_ignore found is = none_if _ _ (none_later _ _ (none_later _ _ (none_later (found_if (has_at found.name) _) _ is)))

-- a name without `@` does not go on by one
no_way_on : (sought name : List ℕ) → has_at name ≡ false → goes_on_at sought name ≡ false
unfolding goes_on_at
no_way_on [] [] none = refl
no_way_on [] (c ∷ name) none = by_bool (c == 0x40) (λ is. absurd (false≢true (sym none ∙ ap (λ b. b || has_at name) is))) (λ is. is)
no_way_on (x ∷ sought) [] none = refl
no_way_on (x ∷ sought) (c ∷ name) none =
    by_bool (c == 0x40) (λ is. absurd (false≢true (sym none ∙ ap (λ b. b || has_at name) is)))
    (λ is. ap (λ b. (x == c) && b) (no_way_on sought name (sym (ap (λ b. b || has_at name) is) ∙ none)) ∙ and_false (x == c))
  where
    and_false : (b : Bool) → (b && false) ≡ false
    and_false true = refl
    and_false false = refl

-- it is found by its whole name alone
same_names : (sought name : List ℕ) → has_at name ≡ false → nodename_eq sought name ≡ bytes_eq sought name
same_names sought name none =
    ap (λ b. bytes_eq sought name || (not (has_at sought) && b)) (no_way_on sought name none) ∙ neither (bytes_eq sought name) (not (has_at sought))
  where
    neither : (a b : Bool) → (a || (b && false)) ≡ a
    neither true b = refl
    neither false true = refl
    neither false false = refl

pub same_subnode : (below : NodesOf Spot) → Clean below → (sought : List ℕ) → subnode below sought ≡ find (λ c. bytes_eq sought c.name) (listed below)
unfolding listed
same_subnode no_node clean sought = refl
same_subnode (a_node name own below after) clean sought =
    ap (λ b. cond b (Some (record { name = name; own = own; below = below })) (subnode after sought)) (same_names sought name (no_at (record { name = name; own = own; below = below }) clean.0))
    ∙ ap (λ o. cond (bytes_eq sought name) (Some (record { name = name; own = own; below = below })) o) (same_subnode after clean.2 sought)

-- the images are the same
pub same_images : (t : NodesOf Spot) → Clean t → images_found t ≡ images t
same_images no_node clean = refl
same_images (a_node name own below after) clean = ap (option_map (λ n. listed n.below)) (same_subnode below clean.1 (codes "images"))

-- a property that no name says
not_there : (own : List (NamedOf Spot)) (key : List ℕ) → has_name key (map (λ p. p.name) own) ≡ false → first own key ≡ None
not_there [] key is = refl
not_there (p ∷ own) key is =
    by_bool (bytes_eq key p.name) (λ same. absurd (false≢true (sym is ∙ ap (λ b. b || has_name key (map (λ p. p.name) own)) same)))
    (λ differs. ap (λ b. option_map (λ p. p.value) (cond b (Some p) (find (λ p. bytes_eq key p.name) own))) differs
    ∙ not_there own key (sym (ap (λ b. b || has_name key (map (λ p. p.name) own)) differs) ∙ is))

-- the hash nodes are the same
same_hash : (file : List ℕ) (h : NodeOf Spot) → loose_node h ≡ None → is_compared file h ≡ is_hash h.name
same_hash file h clean =
    ap (λ o. is_hash h.name && not (is_ignored file o)) (not_there h.own (codes "uboot-ignore") (no_ignore h clean)) ∙ and_true (is_hash h.name)
  where
    and_true : (b : Bool) → (b && true) ≡ b
    and_true true = refl
    and_true false = refl

same_filter : (file : List ℕ) (below : NodesOf Spot) → Clean below → filter (is_compared file) (listed below) ≡ filter (λ h. is_hash h.name) (listed below)
unfolding listed
same_filter file no_node clean = refl
same_filter file (a_node name own below after) clean =
    let h : NodeOf Spot = record { name = name; own = own; below = below } in
    ap (λ b. cond b (h ∷ filter (is_compared file) (listed after)) (filter (is_compared file) (listed after))) (same_hash file h clean.0)
    ∙ ap (λ l. cond (is_hash name) (h ∷ l) l) (same_filter file after clean.2)

pub same_hashes : (file : List ℕ) (below : NodesOf Spot) → Clean below → AllByRecursion (λ image. hashes_compared file image ≡ hashes image) (listed below)
unfolding listed
same_hashes file no_node clean = tt
same_hashes file (a_node name own below after) clean = (same_filter file below clean.1, same_hashes file after clean.2)

-- the children of a clean tree's child are clean
pub clean_below : (below : NodesOf Spot) → Clean below → (key : List ℕ) (n : NodeOf Spot) → find (λ c. bytes_eq key c.name) (listed below) ≡ Some n → Clean n.below
unfolding listed
clean_below no_node clean key n is = absurd (some_none (sym is))
clean_below (a_node name own below after) clean key n is =
    by_bool (bytes_eq key name)
    (λ same. found_here (record { name = name; own = own; below = below }) n clean.1
    (sym (ap (λ b. cond b (Some (record { name = name; own = own; below = below })) (find (λ c. bytes_eq key c.name) (listed after))) same) ∙ is))
    (λ differs. clean_below after clean.2 key n
    (sym (ap (λ b. cond b (Some (record { name = name; own = own; below = below })) (find (λ c. bytes_eq key c.name) (listed after))) differs) ∙ is))
  where
    found_here : (m n : NodeOf Spot) → Clean m.below → Some m ≡ Some n → Clean n.below
    found_here m n clean is = subst (λ (x : NodeOf Spot). Clean x.below) (some_some m n is) clean

-- no name has an `@`
pub all_no_at : (t : NodesOf Spot) → Clean t → has_no_at t ≡ true
unfolding has_no_at
all_no_at no_node clean = refl
all_no_at (a_node name own below after) clean =
    ap (λ b. not b && (has_no_at below && has_no_at after)) (no_at (record { name = name; own = own; below = below }) clean.0)
    ∙ ap (λ b. b && has_no_at after) (all_no_at below clean.1) ∙ all_no_at after clean.2

-- no two children of a node have one name
pub no_again : (found : NodeOf Spot) → loose_node found ≡ None → again (map (λ c. c.name) (listed found.below)) ≡ None
no_again found is = none_map (in_node DoubledNode) (again (map (λ c. c.name) (listed found.below))) (none_first _ _ (none_later (found_if (has_at found.name) _) _ is))
  where
    none_map : {X Y : Type 0} (f : X → Y) (x : Option X) → option_map f x ≡ None → x ≡ None
    none_map f None is = refl
    none_map f (Some x) is = absurd (some_none is)

-- of names that don't come again, none is among those before
fresh_first : (before : List (List ℕ)) (name : List ℕ) (names : List (List ℕ)) → again_after before (name ∷ names) ≡ None → list_any (bytes_eq name) before ≡ false
unfolding again_after
fresh_first before name names is = by_bool (list_any (bytes_eq name) before)
    (λ known. absurd (some_none (sym (ap (λ b. if b then Some name else again_after (name ∷ before) names) known) ∙ is)))
    (λ fresh. fresh)

fresh_rest : (before : List (List ℕ)) (name : List ℕ) (names : List (List ℕ)) → again_after before (name ∷ names) ≡ None → again_after (name ∷ before) names ≡ None
unfolding again_after
fresh_rest before name names is =
    sym (ap (λ b. if b then Some name else again_after (name ∷ before) names) (fresh_first before name names is)) ∙ is

-- each is found by its name, whatever nodes with other names come before
pub find_each : (front : List (NodeOf Spot)) (nodes : List (NodeOf Spot)) → again_after (map (λ c. c.name) front) (map (λ c. c.name) nodes) ≡ None
    → (look : (key : List ℕ) → Option (NodeOf Spot)) → ((key : List ℕ) → list_any (bytes_eq key) (map (λ c. c.name) front) ≡ false → look key ≡ find (λ c. bytes_eq key c.name) nodes)
    → AllByRecursion (λ image. look image.name ≡ Some image) nodes
find_each front [] fresh look says = tt
find_each front (n ∷ nodes) fresh look says =
    let names : List (List ℕ) = map (λ c. c.name) nodes in (
      says n.name (fresh_first (map (λ c. c.name) front) n.name names fresh) ∙ ap (λ b. cond b (Some n) (find (λ c. bytes_eq n.name c.name) nodes)) (same_bytes n.name),
      find_each (n ∷ front) nodes (fresh_rest (map (λ c. c.name) front) n.name names fresh) look
          (λ key other.
          says key (or_second (bytes_eq key n.name) _ other)
          ∙ ap (λ b. cond b (Some n) (find (λ c. bytes_eq key c.name) nodes)) (or_first (bytes_eq key n.name) _ other)),
    )
  where
    same_bytes : (name : List ℕ) → bytes_eq name name ≡ true
    same_bytes name = (bytes_eq-Decides name name).1 refl

    or_first : (a b : Bool) → (a || b) ≡ false → a ≡ false
    or_first true b is = absurd (false≢true (sym is))
    or_first false b is = refl

    or_second : (a b : Bool) → (a || b) ≡ false → b ≡ false
    or_second true b is = absurd (false≢true (sym is))
    or_second false b is = is

-- the node that is found is clean too
pub loose_found : (below : NodesOf Spot) → Clean below → (key : List ℕ) (n : NodeOf Spot) → find (λ c. bytes_eq key c.name) (listed below) ≡ Some n → loose_node n ≡ None
unfolding listed
loose_found no_node clean key n is = absurd (some_none (sym is))
loose_found (a_node name own below after) clean key n is =
    let m : NodeOf Spot = record { name = name; own = own; below = below } in
    by_bool (bytes_eq key name)
    (λ same. subst (λ (x : NodeOf Spot). loose_node x ≡ None) (some_some m n (sym (ap (λ b. cond b (Some m) (find (λ c. bytes_eq key c.name) (listed after))) same) ∙ is)) clean.0)
    (λ differs. loose_found after clean.2 key n (sym (ap (λ b. cond b (Some m) (find (λ c. bytes_eq key c.name) (listed after))) differs) ∙ is))
