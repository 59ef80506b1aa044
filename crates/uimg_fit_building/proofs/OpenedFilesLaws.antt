-- Files that filling and building open one after another.
use Rattle.std.proofs.Common.{◌≡◌, ◌≢◌, ◌≤◌, ◌<◌, ◌+◌, ℕ, suc, List, [], ◌∷◌, ◌++◌, map, take, drop, get_or, length, Bool, true, false, Option, Some, None, refl, ap, sym, subst, ◌∙◌, append-nil, arith, codes}
use Rattle.std.{specs.List.{flat_map}, proofs.lemmas.{List.take_all, List.Folds.flat_map-map}}
use Rattle.uimg_base.specs.{Named.FileMap, Opening.OpensJust}
use Rattle.uimg_blob_reading.specs.LookUps.{NodeOf, first}
use Rattle.uimg_blob_writing.specs.{declared.tree.Node.Node, Content.{Content, Unread, file_of}}
use Rattle.uimg_blob_writing.specs.UsingFiles.{OpensEach}
use Rattle.uimg_blob_writing.proofs.{OpenedLaws.{each_of, each_then, each_stops}, WritesLaws.{flat_map-both, flat_map-at, flat_map-suc}}
use Rattle.uimg_fit_base.specs.declared.placement.AlignedPlacement.{AlignedPlacement}
use Rattle.uimg_fit_base.specs.declared.placement.AlignedPlacement.TheVariants.{Inside, After, At}
use Rattle.uimg_fit_building.specs.Behind.{entry, images_in, padded_pieces, payload_pieces, behind_pieces}
use Rattle.uimg_fit_building.specs.OpenedFiles.{payload_file, file_if_hashed, summed_file, files_behind}

hashed-file : (hs : List (NodeOf Content)) (c : Content) → hs ≢ [] → file_of c ≡ file_if_hashed hs (Some c)
hashed-file [] c some = absurd (some refl)
hashed-file (h ∷ hs) c some = refl

-- the payload of hash nodes was opened
pub hashed-opened : (e : Bool) (hs : List (NodeOf Content)) (c : Content) (m n : FileMap) → hs ≢ [] → OpensJust (file_of c) m n → OpensEach e (file_if_hashed hs (Some c)) m n
hashed-opened e hs c m n some just = subst (λ (l : List (List ℕ)). OpensEach e l m n) (hashed-file hs c some) (each_of e (file_of c) m n just)

-- without hash nodes nothing is
pub unhashed-opened : (e : Bool) (hs : List (NodeOf Content)) (o : Option Content) (m n : FileMap) → hs ≡ [] → OpensEach e [] m n → OpensEach e (file_if_hashed hs o) m n
unhashed-opened e hs o m n none opened = subst (λ (l : List (NodeOf Content)). OpensEach e (file_if_hashed l o) m n) (sym none) opened

-- all were opened, and then the call failed
pub each_fails : {names : List (List ℕ)} {m n : FileMap} → OpensEach false names m n → OpensEach true names m n
each_fails p = record { all = tt; some = p.some }

-- the images of a list, one after another
module _ {A : Type 0} (ns : List (Node A)) where
  abbrev file_at : Node A → List (List ℕ)
  file_at n = summed_file (entry n)

  -- the first of them
  abbrev pub FirstOpened : ℕ → FileMap → FileMap → Type 0
  FirstOpened i m n = OpensEach false (flat_map file_at (take i ns)) m n

  pub one-more : (i : ℕ) (d : Node A) (h : i < length ns) (m n k : FileMap) → FirstOpened i m n → OpensEach false (file_at (get_or ns i d)) n k → FirstOpened (i + 1) m k
  one-more i d h m n k p q =
      let next : suc i ≡ i + 1 = omega arith in
      subst (λ (l : List (List ℕ)). OpensEach false l m k) (sym (flat_map-suc file_at ns i d h) ∙ ap (λ (j : ℕ). flat_map file_at (take j ns)) next)
      (each_then false (flat_map file_at (take i ns)) (file_at (get_or ns i d)) m n k p q)

  pub one-stops : (e : Bool) (i : ℕ) (d : Node A) (h : i < length ns) (m n k : FileMap) → e ≡ true → FirstOpened i m n → OpensEach true (file_at (get_or ns i d)) n k
      → OpensEach e (flat_map summed_file (map entry ns)) m k
  one-stops e i d h m n k failed p q =
      let front = flat_map file_at (take i ns) in
      let here = file_at (get_or ns i d) in
      let after = flat_map file_at (drop (suc i) ns) in
      subst (λ (b : Bool). OpensEach b (flat_map summed_file (map entry ns)) m k) (sym failed)
      (subst (λ (l : List (List ℕ)). OpensEach true l m k) (sym (flat_map-map summed_file entry ns ∙ flat_map-at file_at ns i d h))
      (each_stops (front ++ here) after m k (each_then true front here m n k p q)))

  pub all-opened : (i : ℕ) (m n : FileMap) → length ns ≤ i → FirstOpened i m n → OpensEach false (flat_map summed_file (map entry ns)) m n
  all-opened i m n past p =
      subst (λ (l : List (List ℕ)). OpensEach false l m n)
      (ap (λ (l : List (Node A)). flat_map file_at l) (take_all i ns past) ∙ sym (flat_map-map summed_file entry ns)) p

-- the files among the pieces after a blob
padded-file : (align : ℕ) (o : Option Content) → flat_map file_of (padded_pieces align o) ≡ payload_file o
padded-file align None = refl
padded-file align (Some c) = append-nil (file_of c)

payloads-files : (align : ℕ) (is : List (NodeOf Content)) → flat_map file_of (flat_map (payload_pieces align) is) ≡ flat_map (λ i. payload_file (first i.own (codes "data"))) is
payloads-files align [] = refl
payloads-files align (i ∷ is) =
    flat_map-both file_of (payload_pieces align i) (flat_map (payload_pieces align) is)
    ∙ ap (λ (l : List (List ℕ)). l ++ flat_map file_of (flat_map (payload_pieces align) is)) (padded-file align (first i.own (codes "data")))
    ∙ ap (λ (l : List (List ℕ)). payload_file (first i.own (codes "data")) ++ l) (payloads-files align is)

pub behind-files : (size : ℕ) (t : Unread) (placement : AlignedPlacement) → flat_map file_of (behind_pieces size t placement) ≡ files_behind t placement
behind-files size t (Inside least) = refl
behind-files size t (After align) = payloads-files align (images_in t)
behind-files size t (At p align) = payloads-files align (images_in t)
