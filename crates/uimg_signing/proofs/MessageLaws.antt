-- The message of a file with a tree.
use Rattle.std.proofs.Common.{◌≡◌, ℕ, List, [], ◌++◌, ◌+◌, Result, Ok, Err, Bool, IsTrue, ap, sym, subst, ◌∙◌, arith}
use Rattle.uimg_texts.specs.{Slices.slice, Numbers.be32}
use Rattle.uimg_base.specs.{Device.{Device, SameDevice}, Ranges.SumsRange, Results.◌>>=◌}
use Rattle.uimg_blob_reading.specs.declared.extent.Extent.{Extent}
use Rattle.uimg_blob_reading.specs.{Reading.Fault, Grammar.{Siblings, root, without_nops}}
use Rattle.uimg_blob_reading.specs.Tokens.{Token, Blocks, tokens}
use Rattle.uimg_blob_reading.specs.Blob.{blocks, blocks_named, tree, met, met_from, met_in}
use Rattle.uimg_blob_reading.specs.Extents.{blocks_of}
use Rattle.uimg_signing.specs.declared.faults.SigningFault.{SigningFault, TheVariants.StringsOutside}
use Rattle.uimg_signing.specs.{Covering.signed_of, Walking.Feeds, Refusing.{names_size, walk_refusal}, Message.{message, refusal}, Faults.Refuses}
use Rattle.uimg_signing.proofs.TurnLaws.{less_true, less_false}
use Rattle.std.proofs.Common.{Option, Some, if◌then◌else◌, ◌<◌, ◌≤◌}

err_ok : {A F : Type 0} {e : F} {x : A} → (let r : Result A F = Err e in r) ≡ Ok x → ⊥
err_ok h = grind (arith, h)

-- two results that are the same
pub ok_ok : {A F : Type 0} (x y : A) → (let r : Result A F = Ok x in r) ≡ Ok y → x ≡ y
ok_ok x y h = cc

pub named : (file : List ℕ) (b : Blocks) → blocks file ≡ Ok b → blocks_named file ≡ b
unfolding blocks
named file b h = grind (arith, err_ok, ok_ok)

pub tokens_met : (file : List ℕ) (b : Blocks) (t : Siblings) → blocks file ≡ Ok b → tree file ≡ Ok t → tokens b ≡ met file
unfolding tree
tokens_met file b t found is =
    let rooted : root (without_nops (tokens b)) ≡ Ok t = sym (ap (λ (r : Result Blocks Fault). r >>= λ x. root (without_nops (tokens x))) found) ∙ is in
    sym (ap (λ (r : Result Blocks Fault). met_from r) found ∙ ap (λ (r : Result Siblings Fault). met_in r (tokens b)) rooted)

-- two calls leave the device as it was
pub twice : {d e f : Device} → SameDevice d e → SameDevice e f → SameDevice d f
twice first second = record { bytes = second.bytes ∙ first.bytes; honest = second.honest ∙ first.honest }

-- the covered tokens and the strings were fed
pub whole : {T : Type 0} (fed : T → T → List ℕ → Type 0) → ((first between last : T) (xs ys : List ℕ) → fed first between xs → fed between last ys → fed first last (xs ++ ys))
    → (listed : ℕ → Bool) (d e f : Device) (x : Extent) (t : Siblings) (strings : ℕ) (old between new : T) → SameDevice d e → SameDevice e f → IsTrue d.honest
    → tree d.bytes ≡ Ok t → blocks d.bytes ≡ Ok (blocks_of d.bytes x) → Feeds fed e.honest (signed_of listed e.bytes [] (tokens (blocks_of e.bytes x))) old between
    → SumsRange fed f x.strings strings between new → fed old new (message listed d.bytes strings)
whole fed more listed d e f x t strings old between new same after honest is found feeds sums =
    let b = blocks_of d.bytes x in
    let e_honest = subst (λ (b : Bool). IsTrue b) (sym same.honest) honest in
    let f_honest = subst (λ (b : Bool). IsTrue b) (sym after.honest) e_honest in
    let first : feeds.piece ≡ signed_of listed d.bytes [] (met d.bytes) =
    feeds.right e_honest ∙ ap (λ (xs : List ℕ). signed_of listed xs [] (tokens (blocks_of xs x))) same.bytes ∙ ap (λ (ts : List Token). signed_of listed d.bytes [] ts) (tokens_met d.bytes b t found is) in
    let second : sums.piece ≡ slice d.bytes (be32 d.bytes 12) strings =
    sums.right f_honest ∙ ap (λ (xs : List ℕ). slice xs x.strings strings) (after.bytes ∙ same.bytes) ∙ ap (λ (k : Blocks). slice d.bytes k.strings strings) (sym (named d.bytes b found)) in
    subst (λ (xs : List ℕ). fed old new (xs ++ slice d.bytes (be32 d.bytes 12) strings)) first
    (subst (λ (xs : List ℕ). fed old new (feeds.piece ++ xs)) second (more old between new feeds.piece sums.piece feeds.summed sums.summed))

-- the size of the strings block
pub strings_size : (file : List ℕ) (x : Extent) → blocks file ≡ Ok (blocks_of file x) → be32 file 32 ≡ x.strings_size
strings_size file x found = ap (λ (k : Blocks). k.strings_size) (named file (blocks_of file x) found)

-- the end of the structure block
pub structure_end : (file : List ℕ) (x : Extent) → blocks file ≡ Ok (blocks_of file x) → be32 file 8 + be32 file 36 ≡ x.structure_end
structure_end file x found = ap (λ (k : Blocks). k.structure_end) (named file (blocks_of file x) found)

abbrev refusal_in : Bool → Option SigningFault → Option SigningFault
refusal_in past other = if past then Some StringsOutside else other

pub outside : (listed : ℕ → Bool) (file : List ℕ) (strings size : ℕ) → be32 file 32 ≡ size → size < strings → refusal listed file strings ≡ Some StringsOutside
outside listed file strings size is past =
    ap (λ (x : Bool). refusal_in x (walk_refusal listed (blocks_named file) (names_size file (be32 file 12) strings) [] (met file))) (less_true (be32 file 32) strings (omega (arith, is, past)))

-- the refusal is that of the tokens
pub refuses_tokens : (listed : ℕ → Bool) (d e : Device) (x : Extent) (t : Siblings) (strings names : ℕ) (result : Result Unit SigningFault) → SameDevice d e → tree d.bytes ≡ Ok t → blocks d.bytes ≡ Ok (blocks_of d.bytes x)
    → strings ≤ x.strings_size → names ≡ names_size d.bytes x.strings strings → Refuses (walk_refusal listed (blocks_of e.bytes x) names [] (tokens (blocks_of e.bytes x))) result → Refuses (refusal listed d.bytes strings) result
refuses_tokens listed d e x t strings names result same is found within names_are refuses = λ read memory.
    let b = blocks_of d.bytes x in
    let b_is = named d.bytes b found in
    refuses read memory
    ∙ ap (λ (xs : List ℕ). walk_refusal listed (blocks_of xs x) names [] (tokens (blocks_of xs x))) same.bytes
    ∙ ap (λ (k : Blocks). walk_refusal listed k names [] (tokens b)) (sym b_is)
    ∙ ap (λ (ts : List Token). walk_refusal listed (blocks_named d.bytes) names [] ts) (tokens_met d.bytes b t found is)
    ∙ ap (λ (n : ℕ). walk_refusal listed (blocks_named d.bytes) n [] (met d.bytes)) (names_are ∙ ap (λ (k : Blocks). names_size d.bytes k.strings strings) (sym b_is))
    ∙ sym (ap (λ (c : Bool). refusal_in c (walk_refusal listed (blocks_named d.bytes) (names_size d.bytes (be32 d.bytes 12) strings) [] (met d.bytes))) (less_false (be32 d.bytes 32) strings (omega (arith, strings_size d.bytes x found, within))))

-- the tree is that of the tokens
pub rooted : (d e : Device) (x : Extent) (t : Siblings) → SameDevice d e → blocks d.bytes ≡ Ok (blocks_of d.bytes x) → tree d.bytes ≡ Ok t → root (without_nops (tokens (blocks_of e.bytes x))) ≡ Ok t
unfolding tree
rooted d e x t same found is =
    ap (λ (xs : List ℕ). root (without_nops (tokens (blocks_of xs x)))) same.bytes
    ∙ sym (ap (λ (r : Result Blocks Fault). r >>= λ b. root (without_nops (tokens b))) found) ∙ is
