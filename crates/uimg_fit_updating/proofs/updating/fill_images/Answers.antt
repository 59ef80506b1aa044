use Rattle.std.proofs.Common.{◌∙◌, List, ap}
use Rattle.uimg_blob_reading.specs.Plain.{NamedOf, no_node, a_node}
use Rattle.uimg_blob_writing.specs.Content.{Content}
use Rattle.uimg_fit_updating.proofs.RefillLaws.{with_props}
use Rattle.uimg_fit_updating.proofs.updating.fill_images.Goals as goal

pub returns : goal.returns
returns c =
    let root = c.in_ok-filled.filled.root in
    ap (λ (own : List (NamedOf Content)). a_node root.name own root.children no_node) c.in_ok-props.ensures
    ∙ with_props root.name c.args.tree.root.name root.props c.args.tree.root.props _ root.children _ c.in_ok-filled.ensures
