use Rattle.std.proofs.Common.{rules, arith}
use Rattle.uimg_its.proofs.StepLaws.{refused}
use Rattle.uimg_its.proofs.ValueLaws.{before_none, before_end, hex_end, hex_odd, hex_more, hex_bad}
use Rattle.uimg_its.proofs.lists.push_bytes.Goals as goal

pub returns-then-i-name : goal.returns-then-i-name
returns-then-i-name g c = record {
  gives = refused _ _ (before_none c.loop-i.out.items _ _ (hex_odd c.args.name.now c.loop-i.i c.loop-i-test.true c.if-i-name.true) c.loop-i.invariant.0);
  no_file = search rules;
}

pub returns-in-None : goal.returns-in-None
returns-in-None g c = record {
  gives = refused _ _ (hex_bad c.loop-i.out.items c.args.name.now c.loop-i.i _ (omega (arith, c.if-i-name.false)) c.in-None.ensures c.loop-i.invariant.0);
  no_file = search rules;
}

pub loop-i-preserved : goal.loop-i-preserved
loop-i-preserved g c = (rw c.in_ok-append-in-Some.ensures.appended (hex_more c.loop-i.out.items c.args.name.now c.loop-i.i c.in-Some.b _ (omega (arith, c.if-i-name.false)) c.in-Some.ensures c.loop-i.invariant.0), omega (arith, c.if-i-name.false))

pub returns : goal.returns
returns g c = record {
  gives = before_end c.loop-i.out.items _ _ (hex_end c.args.name.now c.loop-i.i c.loop-i-test.false) c.loop-i.invariant.0;
  no_file = search rules;
}
