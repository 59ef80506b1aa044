use Rattle.std.proofs.Common.{◌++◌, [], ◌∷◌, ap, refl, sym, ℕ, List, ◌∙◌, drop}
use Rattle.std.{specs.{Int.{to_be_bytes, w16}, List.fold}, proofs.lemmas.List.Sums.fold-append}
use Rattle.uimg_sums.specs.Crc16.{byte_down, crc16}
use Rattle.uimg_sums.proofs.crc16.Crc16Summer.finish.Goals as goal

pub returns-clause-digest : goal.returns-clause-digest
unfolding crc16
returns-clause-digest c = λ fed held. (
  refl,
  ap (λ (w : List ℕ). w ++ drop 2 c.args.to.now) (c.copy_from_slice.ensures.after ∙ c.to_be_bytes-digest.ensures
      ∙ ap (λ (n : ℕ). to_be_bytes w16 n) (c.bytes_down.ensures
      ∙ ap (λ (r : ℕ). fold byte_down r (0 ∷ 0 ∷ [])) held ∙ sym (fold-append byte_down 0 fed (0 ∷ 0 ∷ [])))),
)
