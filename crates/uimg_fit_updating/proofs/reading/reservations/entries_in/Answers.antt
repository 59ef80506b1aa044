use Rattle.std.proofs.Common.{◌≡◌, ◌≤◌, ◌<◌, ◌∷◌, ◌++◌, [], List, length, drop, true, false, sym, subst, rules}
use Rattle.std.specs.Option.{option_map}
use Rattle.uimg_blob_writing.specs.declared.reservation.Reservation.{Reservation}
use Rattle.uimg_fit_updating.specs.Reservations.{reservation_at, ends_list, entries_in}
use Rattle.uimg_fit_updating.proofs.EntryLaws.{one_more, all_there, none_there}
use Rattle.uimg_fit_updating.proofs.reading.reservations.entries_in.Goals as goal

pub returns-then-is_end : goal.returns-then-is_end
returns-then-is_end c =
    let rest = c.loop-rest.rest.now in
    let entry = c.entry_of-entry.result in
    let some : 16 ≤ length rest = search rules in
    let read : entry ≡ reservation_at rest = search rules in
    let ends : ends_list entry ≡ true = search rules in
    all_there c.loop-rest.entries.items entry rest (entries_in c.args.bytes.now) some read ends c.loop-rest.invariant.all

pub loop-rest-preserved : goal.loop-rest-preserved
loop-rest-preserved c =
    let rest = c.loop-rest.rest.now in
    let entry = c.entry_of-entry.result in
    let some : 16 ≤ length rest = search rules in
    let read : entry ≡ reservation_at rest = search rules in
    let goes : ends_list entry ≡ false = search rules in
    let left : c.behind-rest.result.now ≡ drop 16 rest = search rules in
    let pushed : c.push.new.self.items ≡ c.loop-rest.entries.items ++ entry ∷ [] = search rules in
    record {
      all = subst (λ (es : List Reservation). option_map (λ more. es ++ more) (entries_in c.behind-rest.result.now) ≡ entries_in c.args.bytes.now) (sym pushed)
          (one_more c.loop-rest.entries.items entry rest c.behind-rest.result.now (entries_in c.args.bytes.now) some read goes left c.loop-rest.invariant.all);
    }

pub returns : goal.returns
returns c =
    let rest = c.loop-rest.rest.now in
    let few : length rest < 16 = search rules in
    none_there c.loop-rest.entries.items rest (entries_in c.args.bytes.now) few c.loop-rest.invariant.all
