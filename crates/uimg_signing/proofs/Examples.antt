-- Definitions tried on worked cases.
use Rattle.std.specs.Prelude.{◌≡◌, [], ◌∷◌, ◌++◌, refl, Ok, Err, Some, None, true, false, codes, ◌==◌, replicate}
use Rattle.uimg_texts.specs.Nul.{before_nul}
use Rattle.uimg_texts.specs.Numbers.{be32}
use Rattle.uimg_blob_reading.specs.Tokens.{begin_node, last, nop}
use Rattle.uimg_signing.specs.declared.faults.SigningFault.TheVariants.{StringsOffset, StringsOutside}
use Rattle.uimg_signing.specs.{Texts.{count_text, count_from, is_skipped}, Listing.is_over}
use Rattle.uimg_signing.specs.Covering.{covers, placed_in, begins_deep}
use Rattle.uimg_signing.specs.{Reach.is_name, Strings.size_in, Signatures.rsa_algo, Turning.ends_early, Refusing.names_size}
use Rattle.uimg_sums.specs.declared.algo.Algo.TheVariants.{Sha256}

-- a value of three texts, two of which are the same
pub first_text : count_text (97 ∷ 0 ∷ 98 ∷ 99 ∷ 0 ∷ 97 ∷ 0 ∷ []) (97 ∷ []) ≡ 2
unfolding count_from before_nul
first_text = refl

pub second_text : count_text (97 ∷ 0 ∷ 98 ∷ 99 ∷ 0 ∷ 97 ∷ 0 ∷ []) (98 ∷ 99 ∷ []) ≡ 1
unfolding count_from before_nul
second_text = refl

pub no_such_text : count_text (97 ∷ 0 ∷ 98 ∷ 99 ∷ 0 ∷ []) (99 ∷ []) ≡ 0
unfolding count_from before_nul
no_such_text = refl

-- a value that does not end with a NUL has none, nor has an empty one
pub unended_text : count_text (97 ∷ 0 ∷ 98 ∷ 99 ∷ []) (97 ∷ []) ≡ 0
unfolding count_from before_nul
unended_text = refl

pub empty_value : count_text [] [] ≡ 0
unfolding count_from before_nul
empty_value = refl

-- 100 nodes with 4096 bytes of paths are not too many, one more is
pub most_nodes : is_over 100 4096 ≡ false
most_nodes = refl

pub node_over : is_over 101 4096 ≡ true
node_over = refl

pub byte_over : is_over 100 4097 ≡ true
byte_over = refl

pub skipped : is_skipped (codes "compatible") ≡ true
skipped = refl

pub not_skipped : is_skipped (codes "kernel") ≡ false
not_skipped = refl

-- of a listed node at 8 inside the root at 0, which is not listed, and its child at 40
pub child_begins : covers (λ at. at == 8) (40 ∷ 8 ∷ 0 ∷ []) (begin_node 40 (Ok [])) ≡ true
child_begins = refl

pub property_of_child : covers (λ at. at == 8) (40 ∷ 8 ∷ 0 ∷ []) (nop 48) ≡ false
property_of_child = refl

pub root_begins : covers (λ at. at == 8) (0 ∷ []) (begin_node 0 (Ok [])) ≡ false
root_begins = refl

-- a node in 32 others is too deep, one in 31 is not
pub deep : begins_deep (placed_in (replicate 32 0) (begin_node 8 (Ok []))) ≡ true
deep = refl

pub not_deep : begins_deep (placed_in (replicate 31 0) (begin_node 8 (Ok []))) ≡ false
not_deep = refl

-- strings that end inside a name hold none
pub two_strings : names_size (97 ∷ 0 ∷ 98 ∷ 0 ∷ 99 ∷ []) 0 4 ≡ 4
unfolding before_nul
two_strings = refl

pub cut_string : names_size (97 ∷ 0 ∷ 98 ∷ 0 ∷ 99 ∷ []) 2 3 ≡ 0
unfolding before_nul
cut_string = refl

-- FDT_END at 40 ends a block of 44 bytes, not one of 48
pub whole : ends_early 44 (last 40) ≡ false
whole = refl

pub goes_on : ends_early 48 (last 40) ≡ true
goes_on = refl

-- a name has no slash and at least one byte
pub plain_name : is_name (codes "kernel-1") ≡ true
plain_name = refl

pub two_names : is_name (codes "images/kernel-1") ≡ false
two_names = refl

pub no_name : is_name [] ≡ false
no_name = refl

-- an algorithm needs its NUL, and ECDSA is none
pub named_algo : rsa_algo (codes "sha256,rsa4096" ++ 0 ∷ []) ≡ Some (record { sum = Sha256; bits = 4096 })
unfolding rsa_algo
named_algo = refl

pub unended_algo : rsa_algo (codes "sha256,rsa4096") ≡ None
unfolding rsa_algo
unended_algo = refl

pub other_algo : rsa_algo (codes "sha256,ecdsa256" ++ 0 ∷ []) ≡ None
unfolding rsa_algo
other_algo = refl

-- `hashed-strings` of mkimage for a strings block of 197 bytes of which 142 are signed
pub two_cells : size_in (0 ∷ 0 ∷ 0 ∷ 0 ∷ 0 ∷ 0 ∷ 0 ∷ 142 ∷ []) 197 ≡ Ok 142
unfolding be32
two_cells = refl

pub with_offset : size_in (0 ∷ 0 ∷ 0 ∷ 1 ∷ 0 ∷ 0 ∷ 0 ∷ 142 ∷ []) 197 ≡ Err StringsOffset
unfolding be32
with_offset = refl

pub past_block : size_in (0 ∷ 0 ∷ 0 ∷ 0 ∷ 0 ∷ 0 ∷ 0 ∷ 198 ∷ []) 197 ≡ Err StringsOutside
unfolding be32
past_block = refl
