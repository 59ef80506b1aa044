-- The images of a tree, one at a time.
use Rattle.std.proofs.Common.{◌≡◌, ℕ, ◌+◌, ◌*◌, ◌≤◌, List, [], ◌∷◌, ◌++◌, length, map, length-append, Option, Some, Result, Ok, Err, IsTrue, refl, ap, sym, ◌∙◌, subst, arith}
use Rattle.std.proofs.lemmas.List.{length-map}
use Rattle.uimg_texts.specs.Numbers.{be32}
use Rattle.uimg_base.specs.{Device.{Device, SameDevice}, Held.Held, Results.◌>>=◌}
use Rattle.uimg_blob_reading.specs.{Blob.tree, Grammar.Siblings, Rows.{Row, table}}
use Rattle.uimg_blob_reading.specs.{LookUps.{NodeOf, images}, Plain.NodesOf, Reading.Fault as BlobFaultAt, Spots.{Spot, spots}}
use Rattle.uimg_blob_reading.specs.declared.nodes.Blob.{Blob}
use Rattle.uimg_fit_base.specs.{Files.{listed_or, spots_in}, declared.fault.Fault.Fault}
use Rattle.uimg_fit_checking.specs.Survey.{ImageSaid, Said, image_said, said_of, survey_of}
use Rattle.uimg_fit_checking.proofs.SurveyLaws.{Gathered}
use Rattle.uimg_fit_reading.specs.{Nodes.{IsRead, Opened}, PayloadPlaces.PayloadSaid}
use Rattle.uimg_map.specs.{Images.{AreImages, ImageTold, read_image, told_by, told_of}, Signatures.{covered_by, covered_in}}
use Rattle.uimg_map.specs.declared.images.{Image.Image, Images.Images}
use Rattle.uimg_map.specs.Signing.{signing_nodes}
use Rattle.uimg_signing.specs.declared.configuration_signatures.SignatureNode.{SignatureNode}
use Rattle.uimg_signing.proofs.CostLaws.{more_asked, within_asked}

pub told_is : (a b : List ℕ) (p q : PayloadSaid) (c d : Option (List ℕ)) → a ≡ b → p ≡ q → c ≡ d
    → (let it : ImageTold = record { name = a; payload = p; covered = c } in it) ≡ (let it : ImageTold = record { name = b; payload = q; covered = d } in it)
told_is a b p q c d name payload covered = rw (name, payload, covered) refl

-- a device that is what it was
pub opened_still : (d e : Device) (blob : Blob) (old new : Held) (t : Siblings) → SameDevice d e → new ≡ old → Opened d blob old t → Opened e blob new t
opened_still d e blob old new t same room opened = record {
  honest = subst IsTrue (sym same.honest) opened.honest;
  read = subst (λ (file : List ℕ). IsRead file blob new.entries t) (sym same.bytes) (subst (λ (h : Held). IsRead d.bytes blob h.entries t) (sym room) opened.read);
}

-- as many as were gathered and are left
pub gathered_size : (At : Option ℕ → List (NodeOf Spot) → Type 0) (read : Image → ImageTold) (said : NodeOf Spot → ImageTold) (facts : List Image) (next : Option ℕ) (all : List (NodeOf Spot))
    → (k : Gathered Image ImageTold At read said facts next all) → length facts + length k.left ≡ length all
gathered_size At read said facts next all k =
    omega (arith, ap (λ (l : List ImageTold). length l) k.is, length-append (map read facts) (map said k.left), length-map facts read, length-map k.left said, length-map all said)

-- one image more is paid for
pub one_paid : (a b c n left all cost : ℕ) → n + left ≡ all → 1 ≤ left → b ≤ a + n * cost → c ≤ b + cost → c ≤ a + all * cost
one_paid a b c n left all cost size some before more = within_asked a c (n + 1) all cost (more_asked a b c n cost before more) (omega (arith, size, some))

-- the images of a tree are those of its file
pub survey_is : (file : List ℕ) (t : Siblings) (found : List (NodeOf Spot)) → tree file ≡ Ok t → images (spots t) ≡ Some found → survey_of file ≡ Ok (said_of file (spots t) found)
survey_is file t found is has =
    ap (λ (r : Result Siblings BlobFaultAt). spots_in r >>= (λ (s : NodesOf Spot). listed_or (images s) >>= (λ (l : List (NodeOf Spot)). (let o : Result Said Fault = Ok (said_of file s l) in o)))) is
    ∙ ap (λ (o : Option (List (NodeOf Spot))). listed_or o >>= (λ (l : List (NodeOf Spot)). (let o : Result Said Fault = Ok (said_of file (spots t) l) in o))) has

told_all : (file : List ℕ) (t : Siblings) (ss : List SignatureNode) (xs : List (NodeOf Spot)) → tree file ≡ Ok t → ss ≡ signing_nodes (table t) → map (told_by file (table t) ss) xs ≡ map (told_of file) (map image_said xs)
told_all file t ss [] is are = refl
told_all file t ss (x ∷ xs) is are =
    ap (λ (it : ImageTold). it ∷ map (told_by file (table t) ss) xs) (told_is _ _ _ _ _ _ refl refl (ap (covered_by file (table t) x.name) are ∙ sym (ap (λ (r : Result Siblings BlobFaultAt). covered_in file r x.name) is)))
    ∙ ap (λ (l : List ImageTold). told_of file (image_said x) ∷ l) (told_all file t ss xs is are)

pub are_images : (file : List ℕ) (t : Siblings) (ss : List SignatureNode) (all : List (NodeOf Spot)) (found : Images) → tree file ≡ Ok t → images (spots t) ≡ Some all → ss ≡ signing_nodes (table t) → found.totalsize ≡ be32 file 4
    → map (read_image file) found.images.items ≡ map (told_by file (table t) ss) all → AreImages file found
are_images file t ss all found is has are size told = record {
  said = said_of file (spots t) all;
  is = survey_is file t all is has;
  totalsize = size;
  images = told ∙ told_all file t ss all is are;
}
