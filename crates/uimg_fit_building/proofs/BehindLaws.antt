-- What stands behind a blob before the files are read, and after.
use Rattle.std.proofs.Common.{◌≡◌, ◌≤◌, ◌<◌, ℕ, ◌+◌, ◌-◌, List, [], ◌∷◌, ◌++◌, length, map, replicate, Option, Some, None, Bool, true, false, nat_lt, min, ◌^◌, unwrap_or, if◌then◌else◌, refl, ap, sym, ◌∙◌, codes, arith, append-nil, length-append}
use Rattle.std.specs.{List.{flat_map, AllByRecursion}, Option.{option_map, IfSome}}
use Rattle.std.proofs.lemmas.{Bool.{le-ltb, ltb-false, ltb-true}, List.length-replicate}
use Rattle.uimg_blob_reading.specs.{Plain.with_value, LookUps.{NodeOf, first, images}}
use Rattle.uimg_blob_writing.specs.Content.{Content, Unread, IsKept, AreKept, content_bytes, size_of, in_full}
use Rattle.uimg_blob_writing.{specs.Alignment.{padding_by, padded_by}, proofs.SizeLaws.kept-size}
use Rattle.uimg_blob_writing.specs.declared.reservation.Reservation.{Reservation}
use Rattle.uimg_blob_writing.proofs.AlignmentLaws.{aligned-none}
use Rattle.uimg_blob_writing.proofs.WritesLaws.{flat_map-both, all-both}
use Rattle.uimg_fit_base.specs.declared.fault.FitFault.TheVariants.{PositionTooLow, TooLarge}
use Rattle.uimg_fit_base.specs.declared.placement.AlignedPlacement.{AlignedPlacement}
use Rattle.uimg_fit_base.specs.declared.placement.AlignedPlacement.TheVariants.{Inside, After, At}
use Rattle.uimg_fit_base.specs.Placements.{align_of}
use Rattle.uimg_fit_building.specs.Building.{data_of, placed_with, payloads, behind_with, built_with}
use Rattle.uimg_fit_building.specs.Refusing.{is_low, fault_with}
use Rattle.uimg_fit_building.specs.Behind.{images_in, padded_pieces, payload_pieces, padded_sizes, behind_pieces, file_size, end_fault}
use Rattle.uimg_fit_building.proofs.LookUpLaws.{NodeHas, node_with, first-with, first-has, images-with, images-has}
use Rattle.uimg_fit_building.proofs.{MovedLaws.padded-length, UnreadLaws.padded-same}

module _ (files : List ℕ → Option (List ℕ)) (align : ℕ) where
  abbrev read : Content → List ℕ
  read = content_bytes files

  abbrev kept_node : NodeOf Content → Type 0
  kept_node i = NodeHas (IsKept files) i

  pieces-step : (o : Option Content) → IfSome o (IsKept files) → flat_map read (padded_pieces align o) ≡ padded_by align (unwrap_or (option_map read o) [])
  pieces-step None kept = sym (ap (λ (n : ℕ). let w : List ℕ = replicate (n - 0) 0 in w) (aligned-none align))
  pieces-step (Some c) kept =
      ap (λ (w : List ℕ). read c ++ w) (append-nil (padding_by align (size_of c)) ∙ ap (padding_by align) (sym (kept-size files c kept)))

  pieces-same : (i : NodeOf Content) → kept_node i → flat_map read (payload_pieces align i) ≡ padded_by align (data_of (map (with_value read) i.own))
  pieces-same i kept =
      pieces-step (first i.own (codes "data")) (first-has (IsKept files) i.own (codes "data") kept.0)
      ∙ ap (λ (o : Option (List ℕ)). padded_by align (unwrap_or o [])) (sym (first-with read i.own (codes "data")))

  abbrev padded_of : NodeOf (List ℕ) → List ℕ
  padded_of i = padded_by align (data_of i.own)

  each-same : (is : List (NodeOf Content)) → AllByRecursion kept_node is → flat_map read (flat_map (payload_pieces align) is) ≡ flat_map padded_of (map (node_with read) is)
  each-same [] kept = refl
  each-same (i ∷ is) kept =
      flat_map-both read (payload_pieces align i) (flat_map (payload_pieces align) is)
      ∙ ap (λ (w : List ℕ). w ++ flat_map read (flat_map (payload_pieces align) is)) (pieces-same i kept.0)
      ∙ ap (λ (w : List ℕ). padded_by align (data_of (map (with_value read) i.own)) ++ w) (each-same is kept.1)

  images-step : (o : Option (List (NodeOf Content))) → IfSome o (AllByRecursion kept_node)
      → flat_map read (flat_map (payload_pieces align) (unwrap_or o [])) ≡ flat_map padded_of (unwrap_or (option_map (λ (l : List (NodeOf Content)). map (node_with read) l) o) [])
  images-step None kept = refl
  images-step (Some is) kept = each-same is kept

  -- the payloads that are written are those of the tree in full
  pub payloads-joined : (t : Unread) → AreKept files t → flat_map read (flat_map (payload_pieces align) (images_in t)) ≡ payloads align (in_full files t)
  payloads-joined t kept =
      images-step (images t) (images-has (IsKept files) t kept)
      ∙ ap (λ (o : Option (List (NodeOf (List ℕ)))). flat_map padded_of (unwrap_or o [])) (sym (images-with read t))

  sizes-each : (is : List (NodeOf Content)) → AllByRecursion kept_node is → length (flat_map padded_of (map (node_with read) is)) ≡ padded_sizes align is
  unfolding padded_sizes
  sizes-each [] kept = refl
  sizes-each (i ∷ is) kept =
      let own = padded_by align (data_of (map (with_value read) i.own)) in
      let more = flat_map padded_of (map (node_with read) is) in
      omega (arith, length-append own more, padded-length align (map (with_value read) i.own), padded-same files align i.own kept.0.0, sizes-each is kept.1)

  sizes-step : (o : Option (List (NodeOf Content))) → IfSome o (AllByRecursion kept_node)
      → length (flat_map padded_of (unwrap_or (option_map (λ (l : List (NodeOf Content)). map (node_with read) l) o) [])) ≡ padded_sizes align (unwrap_or o [])
  unfolding padded_sizes
  sizes-step None kept = refl
  sizes-step (Some is) kept = sizes-each is kept

  -- they take as many bytes as are counted
  pub length-payloads : (t : Unread) → AreKept files t → length (payloads align (in_full files t)) ≡ padded_sizes align (images_in t)
  length-payloads t kept =
      ap (λ (o : Option (List (NodeOf (List ℕ)))). length (flat_map padded_of (unwrap_or o []))) (images-with read t)
      ∙ sizes-step (images t) (images-has (IsKept files) t kept)

  pieces-kept : (o : Option Content) → IfSome o (IsKept files) → AllByRecursion (IsKept files) (padded_pieces align o)
  pieces-kept None kept = tt
  pieces-kept (Some c) kept = (kept, (tt, tt))

  each-kept : (is : List (NodeOf Content)) → AllByRecursion kept_node is → AllByRecursion (IsKept files) (flat_map (payload_pieces align) is)
  each-kept [] kept = tt
  each-kept (i ∷ is) kept =
      all-both (IsKept files) (payload_pieces align i) (flat_map (payload_pieces align) is)
      (pieces-kept (first i.own (codes "data")) (first-has (IsKept files) i.own (codes "data") kept.0.0)) (each-kept is kept.1)

  images-kept : (o : Option (List (NodeOf Content))) → IfSome o (AllByRecursion kept_node) → AllByRecursion (IsKept files) (flat_map (payload_pieces align) (unwrap_or o []))
  images-kept None kept = tt
  images-kept (Some is) kept = each-kept is kept

module _ (files : List ℕ → Option (List ℕ)) where
  -- the files of what is written behind the blob are kept where those of the tree are
  pub behind-kept : (size : ℕ) (t : Unread) (placement : AlignedPlacement) → AreKept files t → AllByRecursion (IsKept files) (behind_pieces size t placement)
  behind-kept size t (Inside least) kept = tt
  behind-kept size t (After align) kept = images-kept files align (images t) (images-has (IsKept files) t kept)
  behind-kept size t (At p align) kept = (tt, images-kept files align (images t) (images-has (IsKept files) t kept))

  -- what is written behind the blob of a tree
  pub behind-joined : (rs : List Reservation) (size : ℕ) (t : Unread) (placement : AlignedPlacement) → AreKept files t → length (placed_with rs (in_full files t) placement) ≡ size
      → flat_map (content_bytes files) (behind_pieces size t placement) ≡ behind_with rs (in_full files t) placement
  behind-joined rs size t (Inside least) kept is = refl
  behind-joined rs size t (After align) kept is = payloads-joined files align t kept
  behind-joined rs size t (At p align) kept is =
      ap (λ (w : List ℕ). replicate (p - size) 0 ++ w) (payloads-joined files align t kept)
      ∙ ap (λ (n : ℕ). replicate (p - n) 0 ++ payloads align (in_full files t)) (sym is)

  length-built : (rs : List Reservation) (size : ℕ) (t : Unread) (placement : AlignedPlacement) → AreKept files t → length (placed_with rs (in_full files t) placement) ≡ size → is_low size placement ≡ false
      → length (built_with rs (in_full files t) placement) ≡ file_size size (padded_sizes (align_of placement) (images_in t)) placement
  length-built rs size t (Inside least) kept is high = ap (λ (w : List ℕ). length w) (append-nil (placed_with rs (in_full files t) (Inside least))) ∙ is
  length-built rs size t (After align) kept is high =
      omega (arith, length-append (placed_with rs (in_full files t) (After align)) (payloads align (in_full files t)), is, length-payloads files align t kept)
  length-built rs size t (At p align) kept is high =
      let blob = placed_with rs (in_full files t) (At p align) in
      let gap : List ℕ = replicate (p - length blob) 0 in
      let low : size ≤ p = ltb-false _ _ high in
      omega (arith, length-append blob (gap ++ payloads align (in_full files t)), length-append gap (payloads align (in_full files t)), length-replicate {A = ℕ} (p - length blob) 0, is, low, length-payloads files align t kept)

  fault-step : (a b c d : Bool) → a ≡ false → (b ≡ false → c ≡ d)
      → (if a then Some TooLarge else if b then Some PositionTooLow else if c then Some TooLarge else None) ≡ (if b then Some PositionTooLow else if d then Some TooLarge else None)
  fault-step true b c d h k = absurd (cc)
  fault-step false true c d h k = refl
  fault-step false false c d h k = ap (λ (x : Bool). if x then Some TooLarge else None) (k refl)

  -- why the file of a tree whose blob isn't too large can't be built
  pub fault-same : (rs : List Reservation) (size : ℕ) (t : Unread) (placement : AlignedPlacement) → AreKept files t → length (placed_with rs (in_full files t) placement) ≡ size → size ≤ 4294967295
      → fault_with rs (in_full files t) placement ≡ end_fault size (padded_sizes (align_of placement) (images_in t)) placement
  unfolding fault_with end_fault
  fault-same rs size t placement kept is small =
      let fits : nat_lt 4294967295 (length (placed_with rs (in_full files t) placement)) ≡ false = ap (λ (n : ℕ). nat_lt 4294967295 n) is ∙ le-ltb _ _ small in
      ap (λ (n : ℕ). if nat_lt 4294967295 (length (placed_with rs (in_full files t) placement)) then Some TooLarge else if is_low n placement then Some PositionTooLow else if nat_lt 4294967295 (length (built_with rs (in_full files t) placement)) then Some TooLarge else None) is
      ∙ fault-step (nat_lt 4294967295 (length (placed_with rs (in_full files t) placement))) (is_low size placement) (nat_lt 4294967295 (length (built_with rs (in_full files t) placement)))
      (nat_lt 4294967295 (file_size size (padded_sizes (align_of placement) (images_in t)) placement)) fits
      (λ high. ap (λ (n : ℕ). nat_lt 4294967295 n) (length-built rs size t placement kept is high))

-- counting up to 2^36 is enough

test-step : (n a b : ℕ) (x y : Bool) → nat_lt n a ≡ x → nat_lt n b ≡ y → (n < a → n < b) → (n < b → n < a) → x ≡ y
test-step n a b true true e f h k = refl
test-step n a b false false e f h k = refl
test-step n a b true false e f h k = let l : n < b = h (ltb-true n a e) in let m : b ≤ n = ltb-false n b f in absurd (omega (arith, l, m))
test-step n a b false true e f h k = let l : n < a = k (ltb-true n b f) in let m : a ≤ n = ltb-false n a e in absurd (omega (arith, l, m))

same-test : (n a b : ℕ) → (n < a → n < b) → (n < b → n < a) → nat_lt n a ≡ nat_lt n b
same-test n a b h k = test-step n a b (nat_lt n a) (nat_lt n b) refl refl h k

size-capped : (size room : ℕ) (placement : AlignedPlacement) → nat_lt 4294967295 (file_size size (min room (2 ^ 36)) placement) ≡ nat_lt 4294967295 (file_size size room placement)
size-capped size room (Inside least) = refl
size-capped size room (After align) = same-test 4294967295 (size + min room (2 ^ 36)) (size + room) (λ h. omega (arith, h)) (λ h. omega (arith, h))
size-capped size room (At p align) = same-test 4294967295 (p + min room (2 ^ 36)) (p + room) (λ h. omega (arith, h)) (λ h. omega (arith, h))

pub end-capped : (size room : ℕ) (placement : AlignedPlacement) → end_fault size (min room (2 ^ 36)) placement ≡ end_fault size room placement
unfolding end_fault
end-capped size room placement = ap (λ (b : Bool). if is_low size placement then Some PositionTooLow else if b then Some TooLarge else None) (size-capped size room placement)
