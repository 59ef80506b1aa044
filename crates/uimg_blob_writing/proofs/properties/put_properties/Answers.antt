use Rattle.std.proofs.{Common.{◌<◌, ◌^◌, List, ap, sym, subst, ◌∙◌}, lemmas.List.Folds.flat_map-map}
use Rattle.std.specs.List.{flat_map, AllByRecursion}
use Rattle.uimg_blob_reading.specs.Plain.{NamedOf}
use Rattle.uimg_blob_writing.specs.{declared.props.Prop.Prop, Content.{Content, size_of}}
use Rattle.uimg_blob_writing.specs.{Names.name_texts, Properties.{content, property}}
use Rattle.uimg_blob_writing.specs.Pieces.{property_pieces, WritesPieces}
use Rattle.uimg_blob_writing.proofs.WritesLaws.{none-yet, went_well, failed, refused, each-goes, each-stops, each-all, all-at}
use Rattle.uimg_blob_writing.proofs.properties.put_properties.Goals as goal

pub put_property-requires-clause-fits : goal.put_property-requires-clause-fits
put_property-requires-clause-fits g c =
    let items = c.items-prop-items.result.now in
    let fit = subst (λ (l : List (NamedOf Content)). AllByRecursion (λ p. size_of p.value < 2 ^ 32) l) (sym c.items-prop-items.ensures) c.requires.fit in
    let here = all-at (λ (p : NamedOf Content). size_of p.value < 2 ^ 32) property items c.loop-prop.prop-index c.prop-item.result c.loop-prop-test.true fit in
    subst (λ (p : Prop g.row.A.Denot). size_of (content p.value) < 2 ^ 32) (sym c.prop-item.is) here

pub returns-in_err-put_property : goal.returns-in_err-put_property
returns-in_err-put_property g c =
    let device = g.F.Files.map in
    let m = device c.args.files.now in
    let n = device c.loop-prop.files in
    let k = device c.put_property.new.files in
    let items = c.items-prop-items.result.now in
    let names = name_texts c.args.names.now in
    let f : Prop g.row.A.Denot → List Content = λ p. property_pieces names (property p) in
    let d = c.prop-item.result in
    let fault = c.in_err-put_property.field-0.0 in
    let here = subst (λ (p : Prop g.row.A.Denot). WritesPieces g.F.Opened.Source.steady (failed fault) n k c.loop-prop.out c.put_property.new.out (f p)) c.prop-item.is c.in_err-put_property.ensures in
    let whole = each-stops g.F.Opened.Source.steady f items c.loop-prop.prop-index d c.loop-prop-test.true m n k c.args.out.now c.loop-prop.out c.put_property.new.out fault c.loop-prop.invariant here in
    refused g.F.Opened.Source.steady c.from_residual.result fault m k c.args.out.now c.put_property.new.out _ c.from_residual.ensures.1
    (subst (λ (ps : List Content). WritesPieces g.F.Opened.Source.steady (failed fault) m k c.args.out.now c.put_property.new.out ps)
    (sym (flat_map-map (property_pieces names) property items) ∙ ap (λ (l : List (NamedOf Content)). flat_map (property_pieces names) l) c.items-prop-items.ensures) whole)

pub loop-prop-preserved : goal.loop-prop-preserved
loop-prop-preserved g c =
    let device = g.F.Files.map in
    let n = device c.loop-prop.files in
    let k = device c.put_property.new.files in
    let items = c.items-prop-items.result.now in
    let f : Prop g.row.A.Denot → List Content = λ p. property_pieces (name_texts c.args.names.now) (property p) in
    let here = subst (λ (p : Prop g.row.A.Denot). WritesPieces g.F.Opened.Source.steady went_well n k c.loop-prop.out c.put_property.new.out (f p)) c.prop-item.is c.in_ok-put_property.ensures in
    each-goes g.F.Opened.Source.steady f items c.loop-prop.prop-index c.prop-item.result c.loop-prop-test.true (device c.args.files.now) n k c.args.out.now c.loop-prop.out c.put_property.new.out c.loop-prop.invariant here

pub returns : goal.returns
returns g c =
    let device = g.F.Files.map in
    let m = device c.args.files.now in
    let n = device c.loop-prop.files in
    let items = c.items-prop-items.result.now in
    let names = name_texts c.args.names.now in
    let f : Prop g.row.A.Denot → List Content = λ p. property_pieces names (property p) in
    let whole = each-all g.F.Opened.Source.steady f items c.loop-prop.prop-index c.loop-prop-test.false m n c.args.out.now c.loop-prop.out c.loop-prop.invariant in
    subst (λ (ps : List Content). WritesPieces g.F.Opened.Source.steady went_well m n c.args.out.now c.loop-prop.out ps)
    (sym (flat_map-map (property_pieces names) property items) ∙ ap (λ (l : List (NamedOf Content)). flat_map (property_pieces names) l) c.items-prop-items.ensures) whole

pub loop-prop-init : goal.loop-prop-init
loop-prop-init g c = none-yet g.F.Opened.Source.steady (g.F.Files.map c.args.files.now) c.args.out.now
