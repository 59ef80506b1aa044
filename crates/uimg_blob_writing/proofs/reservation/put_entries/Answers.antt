use Rattle.std.proofs.Common.{rules, ◌≡◌, ◌+◌, ◌++◌, ◌∙◌, List, ℕ, suc, is_err, true, false, take, drop, get_or, ap, sym, subst, arith}
use Rattle.std.{proofs.lemmas.List.take_all, specs.List.flat_map}
use Rattle.uimg_base.{specs.Writing.Writes, proofs.WritingLaws.{stops, ◌▷◌}}
use Rattle.uimg_blob_writing.specs.{declared.reservation.Reservation.Reservation, Encoding.entry_bytes}
use Rattle.uimg_blob_writing.proofs.WritesLaws.{flat_map-at, flat_map-suc}
use Rattle.uimg_blob_writing.proofs.reservation.put_entries.Goals as goal

-- no entry
none : Reservation
none = record { address = 0; size = 0 }

pub returns-in_err-put_entry : goal.returns-in_err-put_entry
unfolding none
returns-in_err-put_entry g c =
    let rs = c.args.reservations.now in
    let i = c.loop-reservation.reservation-index in
    let s = c.args.out.now in
    let t = c.put_entry.new.out in
    let failed : is_err c.from_residual.result ≡ true = search rules in
    let whole = sym (flat_map-at entry_bytes rs i none c.loop-reservation-test.true) in
    let written : Writes true s t (flat_map entry_bytes (take i rs) ++ entry_bytes (get_or rs i none)) = c.loop-reservation.invariant ▷ c.in_err-put_entry.ensures in
    rw failed (subst (λ (w : List ℕ). Writes true s t w) whole (stops s t _ (flat_map entry_bytes (drop (suc i) rs)) written))

pub loop-reservation-preserved : goal.loop-reservation-preserved
unfolding none
loop-reservation-preserved g c =
    let rs = c.args.reservations.now in
    let i = c.loop-reservation.reservation-index in
    let next : suc i ≡ i + 1 = omega arith in
    let written : Writes false c.args.out.now c.put_entry.new.out (flat_map entry_bytes (take i rs) ++ entry_bytes (get_or rs i none)) = c.loop-reservation.invariant ▷ c.in_ok-put_entry.ensures in
    subst (λ (w : List ℕ). Writes false c.args.out.now c.put_entry.new.out w)
    (sym (flat_map-suc entry_bytes rs i none c.loop-reservation-test.true) ∙ ap (λ (j : ℕ). flat_map entry_bytes (take j rs)) next) written

pub returns : goal.returns
returns g c =
    let rs = c.args.reservations.now in
    let i = c.loop-reservation.reservation-index in
    let every : take i rs ≡ rs = take_all i rs c.loop-reservation-test.false in
    subst (λ (w : List ℕ). Writes false c.args.out.now c.loop-reservation.out w)
    (ap (λ (l : List Reservation). flat_map entry_bytes l) every) c.loop-reservation.invariant
