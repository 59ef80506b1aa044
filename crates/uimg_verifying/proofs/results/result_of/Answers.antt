use Rattle.std.proofs.Common.{rules, ◌≡◌, List, ℕ, Option, refl, option_map}
use Rattle.uimg_blob_reading.specs.Rows.{table}
use Rattle.uimg_blob_reading.specs.declared.keys.Key.TheVariants as key
use Rattle.uimg_fit_reading.proofs.OpenedLaws.{still}
use Rattle.uimg_signing.specs.Listing.{name_in}
use Rattle.uimg_verifying.specs.Results.{text_of}
use Rattle.uimg_verifying.specs.Signatures.{span_of}
use Rattle.uimg_verifying.proofs.RefusalLaws.{over}
use Rattle.uimg_verifying.proofs.results.result_of.Goals as goal

pub returns-clause-told : goal.returns-clause-told
returns-clause-told g c = λ t o its row at other.
    let device = g.S.Source.device in
    let d = device c.args.source.now in
    let d1 = device c.node_refusal.new.source in
    let d2 = device c.read_name.new.source in
    let d3 = device c.read_name-2.new.source in
    let d4 = device c.read_text.new.source in
    let d5 = device c.read_text-2.new.source in
    let s1 = c.in_ok-refusal.ensures.uses.same in
    let s2 = c.in_ok-configuration.ensures.uses.same in
    let s3 = c.in_ok-node.ensures.uses.same in
    let s4 = c.in_ok-algo.ensures.uses.same in
    let s5 = c.in_ok-padding.ensures.uses.same in
    let o1 = still s1 c.in_ok-refusal.ensures.room o in
    let o2 = still s2 refl o1 in
    let o3 = still s3 refl o2 in
    let o4 = still s4 refl o3 in
    let o5 = still s5 refl o4 in
    let refusal = c.in_ok-refusal.ensures.told t o its row at other in
    let first = λ (file : List ℕ). c.in_ok-configuration.configuration.items ≡ name_in file its in
    let named = over d d1 first s1 (c.in_ok-configuration.ensures.told o1.honest t o1.read.indexed its at) in
    let second = λ (file : List ℕ). c.in_ok-node.node.items ≡ name_in file row in
    let called = over d d1 second s1 (over d1 d2 second s2 (c.in_ok-node.ensures.told o2.honest t o2.read.indexed row other)) in
    let third = λ (file : List ℕ). option_map (λ it. it.items) c.in_ok-algo.algo ≡ text_of file (span_of row key.Algo) in
    let algo = over d d1 third s1 (over d1 d2 third s2 (over d2 d3 third s3 (c.in_ok-algo.ensures.told o3.honest t o3.read.indexed row other))) in
    let fourth = λ (file : List ℕ). option_map (λ it. it.items) c.in_ok-padding.padding ≡ text_of file (span_of row key.Padding) in
    let padding = over d d1 fourth s1 (over d1 d2 fourth s2 (over d2 d3 fourth s3 (over d3 d4 fourth s4 (c.in_ok-padding.ensures.told o4.honest t o4.read.indexed row other)))) in
    let fifth = λ (file : List ℕ). option_map (λ it. it.items) c.in_ok-key.key ≡ text_of file (span_of row key.KeyName) in
    let hint = over d d1 fifth s1 (over d1 d2 fifth s2 (over d2 d3 fifth s3 (over d3 d4 fifth s4 (over d4 d5 fifth s5 (c.in_ok-key.ensures.told o5.honest t o5.read.indexed row other))))) in
    rw (refusal, named, called, algo, padding, hint) refl
