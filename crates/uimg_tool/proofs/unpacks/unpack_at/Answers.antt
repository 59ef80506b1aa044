use Rattle.std.proofs.Common.{rules, ◌≡◌, ◌∷◌, ◌∙◌, List, Option, Some, Bool, IsTrue, true, refl, ap, subst, sym}
use Rattle.std.proofs.Common.{ℕ, Global, Vec}
use Rattle.std.specs.{BTreeSet.BTreeSet, Option.option_copied}
use Rattle.uimg_base.specs.Named.{Opens}
use Rattle.uimg_tool.specs.Unpackings.{HoldsPayloads, IsChosen, IsRight, unpacking_of}
use Rattle.uimg_unpacking.specs.declared.unpacking.Unpacking.{Unpacking}
use Rattle.uimg_world.specs.Deeds.{Identifies, Opens as Opened}
use Rattle.uimg_unpacking.specs.Places.{Obeys, terms_of}
use Rattle.uimg_tool.proofs.{LeaveLaws.left_at, UnpackLaws.{kept_at, right_at}, UnpackTells.{ended_at, unchosen_at}}
use Rattle.uimg_tool.proofs.unpacks.unpack_at.Goals as goal

-- the image was opened, and is honest; then what is chosen was unpacked as requested
pub returns-in-Ok-chosen_by-clause-done : goal.returns-in-Ok-chosen_by-clause-done
returns-in-Ok-chosen_by-clause-done g c = λ honest told.
    let files = g.D.World.map c.args.world.now in
    let opened : Opens files c.args.path.now (g.D.Opened.Source.device c.in-Ok.source) = c.in-Ok.ensures.opened in
    let same = c.chosen_by.ensures.same in
    let file = (g.D.Opened.Source.device c.chosen_by.new.source).bytes in
    let here = subst (λ (b : Bool). IsTrue b) (sym same.honest) (opened.honest honest) in
    let request = c.args.request.now in
    let among = c.as_ref.result in
    let asked = unpacking_of request among c.file_at.result c.args.path in
    let chosen : IsChosen request.config file (option_copied among) =
    subst (λ (o : Option (BTreeSet (Vec ℕ Global))). IsChosen request.config file o) (sym c.as_ref.ensures.value)
    (subst (λ (w : List ℕ). IsChosen request.config w c.in-Ok-chosen_by.chosen) (sym same.bytes) (c.in-Ok-chosen_by.ensures.chosen (opened.honest honest))) in
    let is : c.unpacking_of-asked.result ≡ asked = c.unpacking_of-asked.ensures in
    let middle = g.D.World.trace c.file_at.new.self in
    let after = g.D.World.trace c.unpack_as_asked.new.world in
    let looked : middle ≡ Identifies c.args.path.now c.file_at.result ∷ Opened c.args.path.now true ∷ g.D.World.trace c.args.world.now = search rules in (
      file,
      opened.bytes honest ∙ ap (λ (w : List ℕ). Some w) (sym same.bytes),
      right_at request c.args.terms.now.required c.args.path among c.file_at.result file (g.D.World.trace c.args.world.now) middle after looked chosen
          (subst (λ (a : Unpacking). Obeys (terms_of a.folder) true middle after) is c.unpack_as_asked.ensures.obeys)
          (subst (λ (a : Unpacking). IsRight a file) is (c.unpack_as_asked.ensures.done here told))
          (subst (λ (a : Unpacking). HoldsPayloads a file after) is (c.unpack_as_asked.ensures.holds here (g.D.World.known c.args.world.now honest) told))
          (c.unpack_as_asked.ensures.signed here told),
    )

-- so its end is that of the file at the path
pub returns-in-Ok-chosen_by-clause-ended : goal.returns-in-Ok-chosen_by-clause-ended
returns-in-Ok-chosen_by-clause-ended g c = λ honest.
    let files = g.D.World.map c.args.world.now in
    let opened : Opens files c.args.path.now (g.D.Opened.Source.device c.in-Ok.source) = c.in-Ok.ensures.opened in
    let same = c.chosen_by.ensures.same in
    let file = (g.D.Opened.Source.device c.chosen_by.new.source).bytes in
    let here = subst (λ (b : Bool). IsTrue b) (sym same.honest) (opened.honest honest) in
    let request = c.args.request.now in
    let chosen : IsChosen request.config file (option_copied c.as_ref.result) =
    subst (λ (o : Option (BTreeSet (Vec ℕ Global))). IsChosen request.config file o) (sym c.as_ref.ensures.value)
    (subst (λ (w : List ℕ). IsChosen request.config w c.in-Ok-chosen_by.chosen) (sym same.bytes) (c.in-Ok-chosen_by.ensures.chosen (opened.honest honest))) in
    ended_at files request c.args.terms.now c.args.path c.as_ref.result c.file_at.result file c.unpacking_of-asked.result c.unpack_as_asked.result
    c.unpacking_of-asked.ensures c.requires.terms (opened.bytes honest ∙ ap (λ (w : List ℕ). Some w) (sym same.bytes)) chosen (c.unpack_as_asked.ensures.ended here)

pub returns-clause-ended : goal.returns-clause-ended
returns-clause-ended g c = λ honest.
    let files = g.D.World.map c.args.world.now in
    let opened : Opens files c.args.path.now (g.D.Opened.Source.device c.in-Ok.source) = c.in-Ok.ensures.opened in
    unchosen_at files c.args.request.now c.args.terms.now.required c.args.path (g.D.Opened.Source.device c.in-Ok.source).bytes c.in-Err.answer _ refl (opened.bytes honest) (c.in-Err.ensures.unchosen (opened.honest honest))

-- files are changed only if the keys sign the image
pub returns-in-Ok-chosen_by-clause-kept : goal.returns-in-Ok-chosen_by-clause-kept
returns-in-Ok-chosen_by-clause-kept g c = λ honest.
    let files = g.D.World.map c.args.world.now in
    let opened : Opens files c.args.path.now (g.D.Opened.Source.device c.in-Ok.source) = c.in-Ok.ensures.opened in
    let same = c.chosen_by.ensures.same in
    let file = (g.D.Opened.Source.device c.chosen_by.new.source).bytes in
    let here = subst (λ (b : Bool). IsTrue b) (sym same.honest) (opened.honest honest) in
    let looked : g.D.World.trace c.file_at.new.self ≡ Identifies c.args.path.now c.file_at.result ∷ Opened c.args.path.now true ∷ g.D.World.trace c.args.world.now = search rules in
    kept_at files c.args.terms.now.required c.args.path.now file c.file_at.result (g.D.World.trace c.args.world.now) (g.D.World.trace c.file_at.new.self) (g.D.World.trace c.unpack_as_asked.new.world)
    (opened.bytes honest ∙ ap (λ (w : List ℕ). Some w) (sym same.bytes)) looked (c.unpack_as_asked.ensures.kept here)

pub returns-in-Ok-chosen_by-clause-left : goal.returns-in-Ok-chosen_by-clause-left
returns-in-Ok-chosen_by-clause-left g c =
    let looked : g.D.World.trace c.file_at.new.self ≡ Identifies c.args.path.now c.file_at.result ∷ Opened c.args.path.now true ∷ g.D.World.trace c.args.world.now = search rules in
    left_at c.args.request.now c.args.path c.as_ref.result c.file_at.result c.unpacking_of-asked.result c.unpack_as_asked.result (g.D.World.trace c.args.world.now) (g.D.World.trace c.file_at.new.self) (g.D.World.trace c.unpack_as_asked.new.world)
    c.unpacking_of-asked.ensures looked c.unpack_as_asked.ensures.left
