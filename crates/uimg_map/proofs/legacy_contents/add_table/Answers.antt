use Rattle.std.proofs.{Common.{ℕ, List, ◌∙◌, sym, subst}, lemmas.Result.err_from_is_err_and}
use Rattle.uimg_map.specs.{Contents.GrowsBy, Found.{the_table, thing}}
use Rattle.uimg_map.proofs.LegacyLaws.{table_then, table_endless}
use Rattle.uimg_map.proofs.legacy_contents.add_table.Goals as goal

pub returns-in_err-add_parts-in-Some : goal.returns-in_err-add_parts-in-Some
returns-in_err-add_parts-in-Some g c =
    let p = err_from_is_err_and c.from_residual-in_err-add_parts-in-Some.result c.from_residual-in_err-add_parts-in-Some.ensures.1 in
    let table = λ (file : List ℕ). subst (λ (n : ℕ). GrowsBy file (thing the_table 64 n) c.args.contents.now c.add.new.self) c.first_part.ensures (c.in_ok-add-in-Some.ensures.grows file) in
    rw (p.1, p.2)
    (table_then c.args.size c.in-Some.count c.in_ok-count.ensures.uses (λ h. sym c.in-Some.is ∙ c.in_ok-count.ensures.count h) c.in_ok-add-in-Some.ensures.size table c.in_err-add_parts-in-Some.ensures)

pub returns-in_ok-add_parts-in-Some : goal.returns-in_ok-add_parts-in-Some
returns-in_ok-add_parts-in-Some g c =
    let table = λ (file : List ℕ). subst (λ (n : ℕ). GrowsBy file (thing the_table 64 n) c.args.contents.now c.add.new.self) c.first_part.ensures (c.in_ok-add-in-Some.ensures.grows file) in
    table_then c.args.size c.in-Some.count c.in_ok-count.ensures.uses (λ h. sym c.in-Some.is ∙ c.in_ok-count.ensures.count h) c.in_ok-add-in-Some.ensures.size table c.in_ok-add_parts-in-Some.ensures

pub returns-in_ok-add_endless-in-None : goal.returns-in_ok-add_endless-in-None
returns-in_ok-add_endless-in-None g c =
    table_endless c.args.size c.in_ok-count.ensures.uses (λ h. sym c.in-None.is ∙ c.in_ok-count.ensures.count h) c.requires c.in_ok-add_endless-in-None.ensures
