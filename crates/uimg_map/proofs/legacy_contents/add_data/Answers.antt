use Rattle.std.proofs.Common.{ℕ, ◌+◌, List, Bool, Ok, ◌∙◌, sym, subst}
use Rattle.uimg_legacy.specs.Image.{payload}
use Rattle.uimg_map.specs.{Contents.{GrowsBy, Gathers}, Found.{the_data, thing}}
use Rattle.uimg_map.specs.{LegacyContents.data_told, Work.legacy_table_work}
use Rattle.uimg_map.proofs.ContentsLaws.{reads_and_grows, none_asked}
use Rattle.uimg_map.proofs.legacy_contents.add_data.Goals as goal

pub returns-then-not-has_parts : goal.returns-then-not-has_parts
returns-then-not-has_parts g c =
    let d = g.S.Source.device c.args.source.now in
    let h = c.args.header.now in
    let before = c.args.contents.now in
    let after = c.add.new.self in
    let whole = λ (file : List ℕ). subst (λ (n : ℕ). GrowsBy file (thing the_data 64 n) before after) c.end_of.ensures (c.in_ok-add.ensures.grows file) in
    subst (λ (parts : Bool). Gathers {X = Unit {0}} (λ file. legacy_table_work parts (payload file h)) (λ file. data_told file h parts) (Ok tt) d d before after)
    (sym c.if-not-has_parts.true ∙ c.has_parts.ensures)
    (reads_and_grows {v = λ _. 0} {n = λ _. thing the_data 64 (64 + h.size)} (none_asked d) whole)
