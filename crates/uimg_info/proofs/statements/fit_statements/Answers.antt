use Rattle.std.proofs.Common.{◌≡◌, List, ℕ, [], length, map, ap, sym, ◌∙◌, subst, IsTrue, refl, Ok, Option, None, Result, rules}
use Rattle.std.specs.List.{All}
use Rattle.uimg_base.specs.Results.{◌>>=◌}
use Rattle.uimg_blob_reading.specs.{Grammar.Siblings, Reading.Fault as BlobFaultAt, Rows.table, Blob.tree}
use Rattle.uimg_fit_base.specs.declared.fault.{Fault.Fault, FitFault.FitFault}
use Rattle.uimg_fit_checking.specs.FullSurvey.{ReadsAs}
use Rattle.uimg_fit_checking.specs.{Survey.{Said, read_image, read_survey}, SurveyParts.ImageInside}
use Rattle.uimg_fit_checking.specs.declared.surveying.facts.ImageFacts.{ImageFacts}
use Rattle.uimg_fit_reading.proofs.OpenedLaws.{still}
use Rattle.uimg_info.specs.{Placing.first_fault, Statement.{Stated, all_stated}}
use Rattle.uimg_info.specs.Statements.{fit_stated, nodes_stated, tree_stated, unless_faulty}
use Rattle.uimg_info.proofs.StatementLaws.{states}
use Rattle.uimg_info.proofs.statements.fit_statements.Goals as goal

pub first_fault-requires-clause-inside : goal.first_fault-requires-clause-inside
first_fault-requires-clause-inside g c =
    let inside = c.in_ok-facts.ensures.inside _ c.in_ok-blob.ensures.inside in
    subst (λ (l : List ImageFacts). All (ImageInside c.in_ok-facts.facts.totalsize) l) (sym c.as_slice.ensures.value) inside.images

pub returns-clause-told : goal.returns-clause-told
returns-clause-told g c = λ honest.
    let device = g.S.Source.device in
    let file = (device c.args.source.now).bytes in
    let first = c.in_ok-blob.ensures in
    let has = first.gives honest in
    let facts = c.in_ok-facts.facts in
    let said = read_survey file facts in
    let t = has.nodes in
    let sized = c.in_ok-size.ensures in
    let looked = c.in_ok-fault.ensures in
    let honest_size = subst IsTrue (sym (sized.same.honest ∙ first.inspects.uses.same.honest)) honest in
    let same_size = sized.same.bytes ∙ first.inspects.uses.same.bytes in
    let same = looked.uses.same.bytes ∙ same_size in
    let size : c.in_ok-size.size ≡ length file = sized.length ∙ ap (λ (f : List ℕ). length f) first.inspects.uses.same.bytes in
    let items : c.as_slice.result.now ≡ facts.images.items = search rules in
    let found : c.in_ok-fault.field-0 ≡ first_fault (length file) facts.totalsize (map (read_image file) facts.images.items) =
    looked.told honest_size
    ∙ ap (λ (n : ℕ). first_fault n facts.totalsize (map (read_image (device c.size.new.self).bytes) c.as_slice.result.now)) size
    ∙ ap (λ (f : List ℕ). first_fault (length file) facts.totalsize (map (read_image f) c.as_slice.result.now)) same_size
    ∙ ap (λ (is : List ImageFacts). first_fault (length file) facts.totalsize (map (read_image file) is)) items in
    let placed : first_fault (length file) said.totalsize said.images ≡ None = sym found ∙ c.in-None.is in
    let is : fit_stated file ≡ Ok (nodes_stated file c.in_ok-blob.blob.totalsize [] (table t)) =
    ap (λ (r : Result Said Fault). r >>= (λ s. unless_faulty (first_fault (length file) s.totalsize s.images) (tree_stated file s.totalsize (tree file)))) (c.in_ok-facts.ensures.told file has)
    ∙ ap (λ (o : Option FitFault). unless_faulty o (tree_stated file facts.totalsize (tree file))) placed
    ∙ ap (λ (r : Result Siblings BlobFaultAt). Ok (tree_stated file facts.totalsize r)) has.read.is
    ∙ ap (λ (n : ℕ). Ok (nodes_stated file n [] (table t))) c.in_ok-facts.ensures.totalsize in
    let later = still {d = device c.args.source.now} (record { bytes = same; honest = looked.uses.same.honest ∙ sized.same.honest ∙ first.inspects.uses.same.honest }) refl (record { honest = honest; read = has.read }) in
    states file c.tree_statements.result (nodes_stated file c.in_ok-blob.blob.totalsize [] (table t)) is
    (subst (λ (f : List ℕ). ReadsAs all_stated (nodes_stated f c.in_ok-blob.blob.totalsize [] (table t)) c.tree_statements.result) same (c.tree_statements.ensures.told t later))
