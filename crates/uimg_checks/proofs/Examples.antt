-- What a check finds, tried on worked cases.
use Rattle.std.specs.Prelude.{◌≡◌, ℕ, [], ◌∷◌, ◌++◌, length, take, drop, refl, codes, Some, None, Ok, Err}
use Rattle.uimg_sums.specs.Crc
use Rattle.uimg_sums.specs.declared.algo.Algo.TheVariants as algo
use Rattle.uimg_texts.specs.Nul.{before_nul, text}
use Rattle.uimg_texts.specs.Numbers.{be32}
use Rattle.uimg_blob_reading.specs.Tokens.{tokens_from, token_at}
use Rattle.uimg_blob_reading.specs.Grammar.{root, properties, children, without_nops}
use Rattle.uimg_blob_reading.specs.Blob.{tree, blocks}
use Rattle.uimg_blob_reading.specs.Plain.{Nodes, no_node, a_node}
use Rattle.uimg_blob_reading.specs.LookUps.{listed}
use Rattle.uimg_blob_reading.specs.Spots.{spots}
use Rattle.uimg_blob_writing.specs.Alignment.{aligned}
use Rattle.uimg_blob_writing.specs.Encoding.{word, with_names, with_names_in, name_offset, property_bytes, nodes_bytes, blob, encode}
use Rattle.uimg_fit_base.specs.declared.fault.Fault.TheVariants.{Fit}
use Rattle.uimg_fit_base.specs.declared.fault.FitFault.TheVariants.{NoImages}
use Rattle.uimg_fit_base.specs.declared.verdicts.Verdict.TheVariants as word_of
use Rattle.uimg_fit_base.specs.Files.{number}
use Rattle.uimg_fit_base.specs.Places.{bytes_at}
use Rattle.uimg_fit_base.specs.Report.{compared}
use Rattle.uimg_fit_base.specs.AlgoSets.{has, marked}
use Rattle.uimg_fit_reading.specs.Plans.{plan_for, with_all}
use Rattle.uimg_engine.proofs.ReadingExamples.{set, hash, demo, inside, crc, one_hash}
use Rattle.uimg_fit_checking.specs.declared.checking.Finding.TheVariants.{Right, Unhashed, Wrong, Weak, Overlapping, NoImage}
use Rattle.uimg_fit_checking.specs.Checks.{wrong_in, first_told, unhashed_in, check_of}

-- a check: all is right, the strength is too small, and a payload was changed
one-check : (check_of None (encode one_hash) ≡ Ok (Right 1 1)) × (check_of (Some algo.Crc32) (encode one_hash) ≡ Ok (Right 1 1)) × (check_of (Some algo.Md5) (encode one_hash) ≡ Ok (Weak (codes "kernel")))
unfolding with_names with_names_in name_offset property_bytes nodes_bytes blob aligned tree blocks tokens_from token_at before_nul root properties children without_nops be32 listed spots number text bytes_at compared plan_for with_all has marked wrong_in first_told unhashed_in Crc.bits Crc.number_of Crc.polynomial Crc.rem_by Crc.rem Crc.dividend Crc.xor_bits Crc.invert_prefix Crc.crc
one-check = (refl, refl, refl)

changed-check : check_of (Some algo.Md5) (take 168 (encode one_hash) ++ 0x62 ∷ drop 169 (encode one_hash)) ≡ Ok (Wrong (codes "kernel") (codes "hash-1") word_of.Wrong)
unfolding with_names with_names_in name_offset property_bytes nodes_bytes blob aligned tree blocks tokens_from token_at before_nul root properties children without_nops be32 listed spots number text bytes_at compared plan_for with_all has marked wrong_in first_told unhashed_in Crc.bits Crc.number_of Crc.polynomial Crc.rem_by Crc.rem Crc.dividend Crc.xor_bits Crc.invert_prefix Crc.crc
changed-check = refl

-- an image without a hash node, and no image
unhashed-check : (check_of None (encode (demo no_node)) ≡ Ok (Unhashed (codes "kernel"))) × (check_of (Some algo.Crc32) (encode (demo no_node)) ≡ Ok (Weak (codes "kernel")))
unfolding with_names with_names_in name_offset property_bytes nodes_bytes blob aligned tree blocks tokens_from token_at before_nul root properties children without_nops be32 listed spots number text bytes_at compared plan_for with_all has marked wrong_in first_told unhashed_in Crc.bits Crc.number_of Crc.polynomial Crc.rem_by Crc.rem Crc.dividend Crc.xor_bits Crc.invert_prefix Crc.crc
unhashed-check = (refl, refl)

abbrev empty : Nodes
empty = a_node [] [] (a_node (codes "images") [] no_node no_node) no_node

empty-check : (check_of None (encode empty) ≡ Ok (Right 0 0)) × (check_of (Some algo.Crc32) (encode empty) ≡ Ok NoImage) × (check_of None (encode (a_node [] [] no_node no_node)) ≡ Err (Fit NoImages))
unfolding with_names with_names_in name_offset property_bytes nodes_bytes blob aligned tree blocks tokens_from token_at before_nul root properties children without_nops be32 listed spots number text bytes_at compared plan_for with_all has marked wrong_in first_told unhashed_in Crc.bits Crc.number_of Crc.polynomial Crc.rem_by Crc.rem Crc.dividend Crc.xor_bits Crc.invert_prefix Crc.crc
empty-check = (refl, refl, refl)

-- a second payload is read where it has just the bytes that are left, and is told where it has one more
abbrev two : ℕ → Nodes
two size = a_node [] []
    (a_node (codes "images") []
    (a_node (codes "a") inside (hash (codes "hash") (codes "crc32") crc no_node)
    (a_node (codes "b") (set (codes "data-position") (word 0) ∷ set (codes "data-size") (word size) ∷ []) (hash (codes "hash") (codes "crc32") crc no_node) no_node)) no_node) no_node

overlapping-check : (length (encode (two 302)) ≡ 304) × (check_of None (encode (two 302)) ≡ Ok (Overlapping (codes "b"))) × (check_of None (encode (two 301)) ≡ Ok (Wrong (codes "b") (codes "hash") word_of.Wrong))
unfolding with_names with_names_in name_offset property_bytes nodes_bytes blob aligned tree blocks tokens_from token_at before_nul root properties children without_nops be32 listed spots number text bytes_at compared plan_for with_all has marked wrong_in first_told unhashed_in Crc.bits Crc.number_of Crc.polynomial Crc.rem_by Crc.rem Crc.dividend Crc.xor_bits Crc.invert_prefix Crc.crc
overlapping-check = (refl, refl, refl)
