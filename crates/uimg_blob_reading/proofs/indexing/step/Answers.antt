use Rattle.std.proofs.Common.{◌∙◌, sym, ap, subst, refl, Result, Option, rules}
use Rattle.uimg_base.specs.Held.{Held}
use Rattle.uimg_blob_reading.specs.declared.fault.IndexFault.{IndexFault, TheVariants.Read}
use Rattle.uimg_blob_reading.specs.{declared.states.State.State, Extents.blocks_of}
use Rattle.uimg_blob_reading.specs.{Tokens.{token_at, next}, Passes.{step, PassesToken}}
use Rattle.uimg_blob_reading.proofs.KeyLaws.{passed_on, on_err}
use Rattle.uimg_blob_reading.proofs.PassLaws.{acts_read, refuses_read}
use Rattle.uimg_blob_reading.proofs.ActLaws.{adds_grows, found, step_goes, step_ends}
use Rattle.uimg_blob_reading.proofs.indexing.step.Goals as goal

pub returns-in_err-token : goal.returns-in_err-token
returns-in_err-token g c =
    let t = token_at (blocks_of (g.S.Source.device c.args.source.now).bytes c.args.extent) c.args.state.at in
    let is = passed_on c.from_residual.result Read c.from_residual.ensures.1 in
    record {
      uses = search rules;
      room = search rules;
      steps = λ p h. record {
        token = t;
        is = λ honest. refl;
        acts = acts_read (step p t) (next t) c.from_residual.result c.args.room.now.entries c.read_token.new.room.entries is (ap (λ (x : Held). x.entries) c.read_token.ensures.room);
        refuses = refuses_read t c.from_residual.result is;
        lies = on_err _ c.from_residual.result Read is;
      };
      no_making = search rules;
      ahead = search rules;
    }

pub returns-then-is_done : goal.returns-then-is_done
returns-then-is_done g c =
    let d = g.S.Source.device c.args.source.now in
    let b = blocks_of d.bytes c.args.extent in
    let s = c.args.state in
    let f = found d.honest b s.at c.in_ok-token.token c.in_ok-token.ensures.read c.in_ok-token.ensures.sound c.in_ok-token.ensures.stands in
    record {
      uses = search rules;
      room = search rules;
      steps = λ p h. step_ends d.honest b p s c.in_ok-token.token c.args.room.now c.read_token.new.room f c.read_token.ensures.room
          (λ now. sym (c.is_done.ensures p f.token_is now f.read) ∙ c.if-is_done.true) h;
      no_making = search rules;
      ahead = search rules;
    }

pub returns-in_err-next : goal.returns-in_err-next
returns-in_err-next g c =
    let d = g.S.Source.device c.args.source.now in
    let b = blocks_of d.bytes c.args.extent in
    let s = c.args.state in
    let f = found d.honest b s.at c.in_ok-token.token c.in_ok-token.ensures.read c.in_ok-token.ensures.sound c.in_ok-token.ensures.stands in
    let is = passed_on c.from_residual-in_err-next.result c.in_err-next.field-0.0 c.from_residual-in_err-next.ensures.1 in
    let room = adds_grows _ _ c.args.room.now c.read_token.new.room c.act.new.room c.read_token.ensures.room c.act.ensures.room in
    record {
      uses = search rules;
      room = search (rules, room);
      steps = λ p h. subst (λ (r : Result (Option State) IndexFault). PassesToken d.honest b p s.at r c.args.room.now.entries c.act.new.room.entries) (sym is)
          (step_goes d.honest b p s c.in_ok-token.token _ c.args.room.now c.read_token.new.room c.act.new.room f c.read_token.ensures.room
          (λ now. sym (c.is_done.ensures p f.token_is now f.read) ∙ c.if-is_done.false) c.in_err-next.ensures h);
      no_making = search rules;
      ahead = search rules;
    }

pub returns : goal.returns
returns g c =
    let d = g.S.Source.device c.args.source.now in
    let b = blocks_of d.bytes c.args.extent in
    let s = c.args.state in
    let f = found d.honest b s.at c.in_ok-token.token c.in_ok-token.ensures.read c.in_ok-token.ensures.sound c.in_ok-token.ensures.stands in
    record {
      uses = search rules;
      room = adds_grows _ _ c.args.room.now c.read_token.new.room c.act.new.room c.read_token.ensures.room c.in_ok-next.ensures.room;
      steps = λ p h. step_goes d.honest b p s c.in_ok-token.token _ c.args.room.now c.read_token.new.room c.act.new.room f c.read_token.ensures.room
          (λ now. sym (c.is_done.ensures p f.token_is now f.read) ∙ c.if-is_done.false) c.in_ok-next.ensures h;
      no_making = search rules;
      ahead = c.in_ok-next.ensures.ahead c.args.extent.structure_end c.in_ok-token.ensures.stands;
    }
