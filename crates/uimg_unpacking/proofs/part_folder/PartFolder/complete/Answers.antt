use Rattle.std.proofs.Common.{rules, ◌≡◌, ◌∙◌, ◌++◌, ◌∷◌, [], ℕ, List, length, take, ap, ap₂, sym, subst, true}
use Rattle.std.proofs.Math.Seq.{take-append_seam}
use Rattle.std.specs.Option.{ForSome}
use Rattle.uimg_base.specs.declared.opened_names.OpenedNames.{OpenedNames}
use Rattle.uimg_fit_checking.specs.Unpacking.{as_bytes}
use Rattle.uimg_legacy.specs.Unpacking.{part_if}
use Rattle.uimg_unpacking.specs.{FileNames.image_name, Given.newest, PartFilling.{held_parts, part_names}, Refusals.last_name, Staged.staged}
use Rattle.uimg_unpacking.proofs.PartFillingLaws.{held_next, is_next, names_next}
use Rattle.uimg_unpacking.proofs.part_folder.PartFolder.complete.Goals as goal

pub complete-requires : goal.complete-requires
complete-requires g c =
    let it = c.args.self.now in
    let is : c.is_next.result ≡ true = search rules in
    let next = is_next it.is_kept it.begun c.args.number (as_bytes c.in_ok-image.image) (last_name it.taker.staging.files.items) (sym c.is_next.ensures ∙ is) in
    it.shelved c.args.number next.its ∙ sym c.in_ok-image.ensures

pub invariant_of-self-in-Ok-1 : goal.invariant_of-self-in-Ok-1
invariant_of-self-in-Ok-1 g c =
    let it = c.args.self.now in
    let old = it.taker.staging in
    let now = c.complete.new.self.staging in
    let number = c.args.number in
    let size = c.args.file.size in
    let is : c.is_next.result ≡ true = search rules in
    let next = is_next it.is_kept it.begun number (as_bytes c.in_ok-image.image) (last_name old.files.items) (sym c.is_next.ensures ∙ is) in
    let items : c.push.new.self.items ≡ it.parts.items ++ (number, size) ∷ [] = search rules in
    record {
      names = names_next old.files.items now.files.items old.is_writing now.is_writing it.parts.items number size c.in-Ok.ensures.complete it.names (next.name ∙ c.in_ok-image.ensures) ∙ ap part_names (sym items);
      shelved = subst (λ (b : OpenedNames). ForSome it.begun (λ (n : ℕ). newest b.names ≡ image_name n)) (sym c.complete.ensures.begun) it.shelved;
    }

pub invariant_of-self-in-Err : goal.invariant_of-self-in-Err
invariant_of-self-in-Err g c =
    let it = c.args.self.now in
    let part : ℕ × ℕ = (c.args.number, c.args.file.size) in
    let count : c.len-count.result ≡ length it.parts.items = search rules in
    let pushed : c.push.new.self.items ≡ it.parts.items ++ part ∷ [] = search rules in
    let items = c.truncate.ensures.items ∙ ap₂ take count pushed ∙ take-append_seam it.parts.items (part ∷ []) in
    record {
      names = c.in-Err.ensures.complete ∙ it.names ∙ ap part_names (sym items);
      shelved = subst (λ (b : OpenedNames). ForSome it.begun (λ (n : ℕ). newest b.names ≡ image_name n)) (sym c.complete.ensures.begun) it.shelved;
    }

pub returns-in-Ok-clause-held : goal.returns-in-Ok-clause-held
returns-in-Ok-clause-held g c = λ knows bytes holds.
    let it = c.args.self.now in
    let old = it.taker.staging in
    let now = c.complete.new.self.staging in
    let number = c.args.number in
    let size = c.args.file.size in
    let before = g.W.World.trace old.world.now in
    let contents = staged (g.W.World.trace now.world.now) now.files.items now.is_writing in
    let is : c.is_next.result ≡ true = search rules in
    let next = is_next it.is_kept it.begun number (as_bytes c.in_ok-image.image) (last_name old.files.items) (sym c.is_next.ensures ∙ is) in
    let items : c.push.new.self.items ≡ it.parts.items ++ (number, size) ∷ [] = search rules in
    subst (λ (parts : List (ℕ × ℕ)). held_parts it.is_kept parts contents ≡ held_parts it.is_kept it.parts.items (staged before old.files.items old.is_writing) ++ part_if true number bytes) (sym items)
    (held_next it.is_kept it.parts.items number size before old.files.items old.is_writing bytes contents next.held (c.in-Ok.ensures.staged knows bytes holds) it.names)
