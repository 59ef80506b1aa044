use Rattle.std.proofs.Common.{rules, true, is_err, ◌≡◌, Some, [], ℕ, List, Ok, Bool, IsTrue, subst, sym}
use Rattle.std.{specs.Bool.⊤, proofs.lemmas.Result.err_from_is_err_and}
use Rattle.uimg_base.specs.{Outcome.Tells, declared.status.Status.Status}
use Rattle.uimg_engine.specs.{Faults.end_of, Commands.listing_of}
use Rattle.uimg_engine.proofs.CommandLaws.{building_stops_command, writing_stops_command, keeping_command, listing_makes_command, listing_stops_command, listing_loses_none, room_stays, holds_nothing, holds_listed}
use Rattle.uimg_engine.proofs.OpenedLaws.{command_fails}
use Rattle.uimg_engine.proofs.making.make_by.Goals as goal

pub returns-in_err-build_image-clause-made : goal.returns-in_err-build_image-clause-made
returns-in_err-build_image-clause-made g c = λ files shelf empty.
    let p = err_from_is_err_and c.from_residual.result c.from_residual.ensures.1 in
    let never = c.in_err-build_image.ensures.image.never_keep in
    rw (p.1, p.2) (building_stops_command _ g.H.Kept.Source.device c.args.manner.naming c.args.command.now c.args.manner.time c.args.manner.align _ c.in_err-build_image.field-0.0 _ _ _ never (c.in_err-build_image.ensures.built files))

pub returns-in_err-list_kept-clause-made : goal.returns-in_err-list_kept-clause-made
returns-in_err-list_kept-clause-made g c = λ files shelf empty.
    let p = err_from_is_err_and c.from_residual-in_err-list_kept.result c.from_residual-in_err-list_kept.ensures.1 in
    let kept = c.in_ok-kept.ensures.kept shelf in
    let none : c.new-image.result.contents ≡ Some [] = search rules in
    let keeps = keeping_command c.args.command.now c.args.manner.time c.args.manner.align _ _ _ _ _ (g.H.Kept.Source.device c.in_ok-kept.kept) (c.in_ok-build_image.ensures.built files) none c.in_ok-shelf.ensures.written kept.0 kept.1 in
    rw (p.1, p.2) (listing_stops_command g.H.Kept.Source.device c.args.manner.naming c.args.command.now c.args.manner.time c.args.manner.align _ _ c.in_err-list_kept.field-0.0 _ _ _ _ keeps c.in_err-list_kept.ensures.not_making c.in_err-list_kept.ensures.room (c.in_err-list_kept.ensures.told kept.1))

pub returns-clause-made : goal.returns-clause-made
returns-clause-made g c = λ files shelf empty.
    let kept = c.in_ok-kept.ensures.kept shelf in
    let none : c.new-image.result.contents ≡ Some [] = search rules in
    let keeps = keeping_command c.args.command.now c.args.manner.time c.args.manner.align _ _ _ _ _ (g.H.Kept.Source.device c.in_ok-kept.kept) (c.in_ok-build_image.ensures.built files) none c.in_ok-shelf.ensures.written kept.0 kept.1 in
    listing_makes_command g.H.Kept.Source.device _ c.args.manner.naming c.args.command.now c.args.manner.time c.args.manner.align _ _ c.in_ok-list_kept.field-0 _ _ keeps c.list_kept.ensures.uses.same (c.in_ok-list_kept.ensures.told kept.1)

pub returns-in_err-build_image-clause-peak : goal.returns-in_err-build_image-clause-peak
returns-in_err-build_image-clause-peak g c = λ files shelf empty.
    holds_nothing c.args.command.now c.args.manner.time c.args.manner.align _ _ _ c.clear.ensures

pub returns-in_err-list_kept-clause-peak : goal.returns-in_err-list_kept-clause-peak
returns-in_err-list_kept-clause-peak g c = λ files shelf empty.
    let kept = c.in_ok-kept.ensures.kept shelf in
    let none : c.new-image.result.contents ≡ Some [] = search rules in
    let keeps = keeping_command c.args.command.now c.args.manner.time c.args.manner.align _ _ _ _ _ (g.H.Kept.Source.device c.in_ok-kept.kept) (c.in_ok-build_image.ensures.built files) none c.in_ok-shelf.ensures.written kept.0 kept.1 in
    holds_listed c.args.command.now c.args.manner.time c.args.manner.align _ _ _ _ _ _ c.clear.ensures keeps c.in_err-list_kept.ensures.room

pub returns-clause-peak : goal.returns-clause-peak
returns-clause-peak g c = λ files shelf empty.
    let kept = c.in_ok-kept.ensures.kept shelf in
    let none : c.new-image.result.contents ≡ Some [] = search rules in
    let keeps = keeping_command c.args.command.now c.args.manner.time c.args.manner.align _ _ _ _ _ (g.H.Kept.Source.device c.in_ok-kept.kept) (c.in_ok-build_image.ensures.built files) none c.in_ok-shelf.ensures.written kept.0 kept.1 in
    holds_listed c.args.command.now c.args.manner.time c.args.manner.align _ _ _ _ _ _ c.clear.ensures keeps c.in_ok-list_kept.ensures.room

pub returns-in_err-build_image-clause-makes : goal.returns-in_err-build_image-clause-makes
returns-in_err-build_image-clause-makes g c = record {
  files = search rules;
  output = record { quiet = search rules; puts = search rules; put = search rules };
  reads = search rules;
  payloads = search rules;
  keeps = search rules;
  listed = search rules;
  kept_reads = search rules;
  room =
      let p = err_from_is_err_and c.from_residual.result c.from_residual.ensures.1 in
      rw (p.1, p.2) (room_stays _ g.H.Kept.Source.device _ c.args.command.now c.args.manner.time c.args.manner.align _ c.in_err-build_image.field-0.0 _ _ _ _ c.clear.ensures c.in_err-build_image.ensures.built);
}

pub returns-in_err-list_kept-clause-makes : goal.returns-in_err-list_kept-clause-makes
returns-in_err-list_kept-clause-makes g c = record {
  files = search rules;
  output = record { quiet = search rules; puts = search rules; put = search rules };
  reads = search rules;
  payloads = λ steady files.
      let p = err_from_is_err_and c.from_residual-in_err-list_kept.result c.from_residual-in_err-list_kept.ensures.1 in
      rw (p.1, p.2) (listing_loses_none Status ⊤ c.in_err-list_kept.field-0.0 c.in_err-list_kept.ensures.not_making);
  keeps = search rules;
  listed = search rules;
  kept_reads = search rules;
  room = search rules;
}

pub returns-clause-makes : goal.returns-clause-makes
returns-clause-makes g c = record {
  files = search rules;
  output = record { quiet = search rules; puts = search rules; put = search rules };
  reads = search rules;
  payloads = search rules;
  keeps = search rules;
  listed = λ honest. (
    c.in_ok-list_kept.field-0,
    subst (λ (b : List ℕ). Tells (end_of (Ok c.in_ok-list_kept.field-0)) (listing_of c.args.manner.naming c.args.command.now b) c.args.out.now c.list_kept.new.out)
        (sym c.list_kept.ensures.uses.same.bytes) (c.in_ok-list_kept.ensures.told (subst (λ (b : Bool). IsTrue b) c.list_kept.ensures.uses.same.honest honest)),
  );
  kept_reads = search rules;
  room = search rules;
}

pub returns-in_err-build_image-clause-opened : goal.returns-in_err-build_image-clause-opened
returns-in_err-build_image-clause-opened g c =
    let failed : is_err c.from_residual.result ≡ true = search rules in
    rw failed c.in_err-build_image.ensures.opened

pub returns-in_err-shelf-clause-opened : goal.returns-in_err-shelf-clause-opened
returns-in_err-shelf-clause-opened g c =
    let failed : is_err c.from_residual-in_err-shelf.result ≡ true = search rules in
    rw failed (command_fails c.args.command.now c.args.manner.time c.args.manner.align _ _ c.in_ok-build_image.ensures.opened)

pub returns-in_err-kept-clause-opened : goal.returns-in_err-kept-clause-opened
returns-in_err-kept-clause-opened g c =
    let failed : is_err c.from_residual-in_err-kept.result ≡ true = search rules in
    rw failed (command_fails c.args.command.now c.args.manner.time c.args.manner.align _ _ c.in_ok-build_image.ensures.opened)

pub returns-in_err-list_kept-clause-opened : goal.returns-in_err-list_kept-clause-opened
returns-in_err-list_kept-clause-opened g c =
    let failed : is_err c.from_residual-in_err-list_kept.result ≡ true = search rules in
    rw failed (command_fails c.args.command.now c.args.manner.time c.args.manner.align _ _ c.in_ok-build_image.ensures.opened)

pub returns-clause-opened : goal.returns-clause-opened
returns-clause-opened g c = c.in_ok-build_image.ensures.opened

pub returns-in_err-shelf-clause-made : goal.returns-in_err-shelf-clause-made
returns-in_err-shelf-clause-made g c = λ files shelf empty.
    let p = err_from_is_err_and c.from_residual-in_err-shelf.result c.from_residual-in_err-shelf.ensures.1 in
    rw (p.1, p.2, c.in_err-shelf.ensures.fault) (writing_stops_command g.H.Kept.Source.device c.args.manner.naming c.args.command.now c.args.manner.time c.args.manner.align _ _ _ _ c.args.out.now (c.in_ok-build_image.ensures.built files))
