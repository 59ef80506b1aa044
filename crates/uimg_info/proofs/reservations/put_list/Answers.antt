use Rattle.std.proofs.Common.{ap, codes, ◌∷◌, List, map, sym, append-nil}
use Rattle.json.specs.{Token.Token, Tree.json_tokens}
use Rattle.uimg_printing.{specs.Members.array_of, proofs.StepLaws.{one, after, appended_as}}
use Rattle.uimg_info.specs.Reservations.{reservation_json}
use Rattle.uimg_info.proofs.reservations.put_list.Goals as goal

pub returns : goal.returns
returns c =
    appended_as _ _ _ _ (ap (λ (l : List Token). Token.key (codes "reservations") ∷ l) (sym (append-nil (json_tokens (array_of (map reservation_json c.args.entries.now))))))
    (after (one c.in_ok-key.ensures.ok c.key.ensures.room.0) c.in_ok-put_entries.ensures)
