use Rattle.std.proofs.{Common.{rules, ◌≡◌, ◌+◌, true, is_err, arith}, Math.ListN.length-map}
use Rattle.std.proofs.lemmas.{List.take-map, Grind.common_steps}
use Rattle.uimg_blob_writing.proofs.OpenedLaws.{each_unopened}
use Rattle.uimg_engine.proofs.OpenedLaws.{name_more, names_stop, names_all}
use Rattle.uimg_engine.proofs.MakingLaws.{have_files}
use Rattle.uimg_engine.proofs.making_parts.open_all.Goals as goal

pub returns-in_default-clause-opened : goal.returns-in_default-clause-opened
returns-in_default-clause-opened g c = λ honest. record {
  within = rw length-map c.loop-i-test.true;
  before = rw (take-map (λ name. name.items) c.loop-i.i c.args.names.now) (have_files _ _ _ (c.loop-i.invariant.parts honest));
}

pub returns-in_err-opened-clause-in_order : goal.returns-in_err-opened-clause-in_order
returns-in_err-opened-clause-in_order g c =
    let failed : is_err c.from_residual.result ≡ true = search rules in
    rw failed (each_unopened _ _)

pub returns-clause-in_order : goal.returns-clause-in_order
returns-clause-in_order g c = names_all c.args.names.now c.loop-i.i (g.F.Files.map c.args.files.now) (g.F.Files.map c.loop-i.files) (omega arith) c.loop-i.invariant.opened

pub returns-in_default-clause-in_order : goal.returns-in_default-clause-in_order
returns-in_default-clause-in_order g c =
    let a = g.F.Files.map c.args.files.now in
    let b = g.F.Files.map c.loop-i.files in
    names_stop c.args.names.now (c.loop-i.i + 1) a (g.F.Files.map c.open.new.self)
    (name_more c.args.names.now c.loop-i.i c.index-names-i.result c.deref.result.now a b (g.F.Files.map c.open.new.self) c.loop-i-test.true c.loop-i.invariant.opened c.index-names-i.is c.deref.ensures.value c.open.ensures.noted)

pub returns-then-is_err-clause-in_order : goal.returns-then-is_err-clause-in_order
returns-then-is_err-clause-in_order g c =
    let a = g.F.Files.map c.args.files.now in
    let b = g.F.Files.map c.loop-i.files in
    names_stop c.args.names.now (c.loop-i.i + 1) a (g.F.Files.map c.open.new.self)
    (name_more c.args.names.now c.loop-i.i c.index-names-i.result c.deref.result.now a b (g.F.Files.map c.open.new.self) c.loop-i-test.true c.loop-i.invariant.opened c.index-names-i.is c.deref.ensures.value c.open.ensures.noted)

pub loop-i-preserved : goal.loop-i-preserved
loop-i-preserved g c =
    let a = g.F.Files.map c.args.files.now in
    let b = g.F.Files.map c.loop-i.files in
    record {
      same = search rules;
      opened = name_more c.args.names.now c.loop-i.i c.index-names-i.result c.deref.result.now a b (g.F.Files.map c.open.new.self) c.loop-i-test.true c.loop-i.invariant.opened c.index-names-i.is c.deref.ensures.value c.open.ensures.noted;
      refusals = search rules;
      count = search rules;
      parts = grind (arith, common_steps);
      honest = grind (arith, common_steps);
    }
