use Rattle.std.proofs.Common.{rules, ◌≡◌, ◌≤◌, ◌+◌, ◌∙◌, ℕ, List, length, true, false, refl, ap, subst, sym}
use Rattle.std.specs.Prelude.{Ok, Err}
use Rattle.uimg_blob_reading.specs.Roles.{in_images}
use Rattle.uimg_fit_base.specs.Places.{TellsPlace}
use Rattle.uimg_fit_checking.specs.Unpacking.{is_asked, as_bytes, which}
use Rattle.uimg_fit_reading.proofs.OpenedLaws.{still}
use Rattle.uimg_fit_checking.proofs.ClaimLaws.{found_lacks}
use Rattle.uimg_fit_checking.proofs.unpacking.requested.find_requested.Goals as goal

pub returns-then-not-is_asked-clause-told : goal.returns-then-not-is_asked-clause-told
returns-then-not-is_asked-clause-told g c = λ t o found n.
    let file = (g.S.Source.device c.args.source.now).bytes in
    let only = which c.args.only in
    let named : as_bytes c.in_ok-name.name ≡ found.name = c.in_ok-name.ensures.bytes o.honest (c.name_of.ensures.short file t o.read in_images found n) ∙ c.name_of.ensures.name file t o.read in_images found n in
    let not_it : c.is_asked.result ≡ false = search rules in
    sym (ap (is_asked only) named) ∙ sym c.is_asked.ensures ∙ not_it

pub returns-in_err-span-clause-told : goal.returns-in_err-span-clause-told
returns-in_err-span-clause-told g c = λ t o found n.
    let file = (g.S.Source.device c.args.source.now).bytes in
    let only = which c.args.only in
    let same = c.read_name.ensures.uses.same in
    let named : as_bytes c.in_ok-name.name ≡ found.name = c.in_ok-name.ensures.bytes o.honest (c.name_of.ensures.short file t o.read in_images found n) ∙ c.name_of.ensures.name file t o.read in_images found n in
    let it : c.is_asked.result ≡ true = search rules in
    let asked : is_asked only found.name ≡ true = sym (ap (is_asked only) named) ∙ sym c.is_asked.ensures ∙ it in
    let here = still same refl o in
    let fault = c.in_err-span.field-0.0 in
    let is : c.from_residual-in_err-span.result ≡ Err fault = search rules in
    found_lacks file only found fault c.from_residual-in_err-span.result is asked (subst (λ (xs : List ℕ). TellsPlace xs found (Err fault)) same.bytes (c.in_err-span.ensures.told here.honest t here.read found n))

pub returns-clause-its : goal.returns-clause-its
returns-clause-its g c = record {
  number = refl;
  inside = subst (λ (xs : List ℕ). c.in_ok-span.span.place + c.in_ok-span.span.length ≤ length xs) c.read_name.ensures.uses.same.bytes c.in_ok-span.ensures.inside;
}

pub returns-clause-told : goal.returns-clause-told
returns-clause-told g c = λ t o found n.
    let file = (g.S.Source.device c.args.source.now).bytes in
    let only = which c.args.only in
    let same = c.read_name.ensures.uses.same in
    let named : as_bytes c.in_ok-name.name ≡ found.name = c.in_ok-name.ensures.bytes o.honest (c.name_of.ensures.short file t o.read in_images found n) ∙ c.name_of.ensures.name file t o.read in_images found n in
    let it : c.is_asked.result ≡ true = search rules in
    let here = still same refl o in
    record {
      asked = sym (ap (is_asked only) named) ∙ sym c.is_asked.ensures ∙ it;
      named = named;
      is = subst (λ (xs : List ℕ). TellsPlace xs found (Ok c.in_ok-span.span)) same.bytes (c.in_ok-span.ensures.told here.honest t here.read found n);
    }
