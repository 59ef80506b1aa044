use Rattle.std.proofs.Common.{Bool, IsTrue, inl, inr, refl, subst, sym}
use Rattle.uimg_tool.proofs.{LeaveLaws.{left_failed, left_keyed}, UnpackLaws.{keys_kept, keys_right}, UnpackTells.{image_same, unless_cleaned}}
use Rattle.uimg_tool.specs.Statuses.{closing_status}
use Rattle.uimg_tool.proofs.unpacks.unpack_image.Goals as goal

pub returns-in-Err-clause-guards : goal.returns-in-Err-clause-guards
returns-in-Err-clause-guards g c = λ cleans. record { keyed = λ honest. inl c.in-Err.ensures.changes; left = left_failed c.args.request.now _ (g.D.World.trace c.args.world.now) (g.D.World.trace c.keys_of.new.world) c.in-Err.ensures.fails }

pub returns-in-Err-clause-means : goal.returns-in-Err-clause-means
returns-in-Err-clause-means g c = λ honest old new. inl c.in-Err.ensures.fails

pub returns-clause-guards : goal.returns-clause-guards
returns-clause-guards g c = λ cleans.
    let same = c.keys_of.ensures.same in
    record {
      keyed = λ honest.
          let still = subst (λ (b : Bool). IsTrue b) (sym same.honest) honest in
          inr (c.in-Ok.required, c.in-Ok.ensures.keys, keys_kept _ _ c.args.request.now c.in-Ok.required c.args.request.now.image _ _ _ same c.in-Ok.ensures.noted (c.unpack_by.ensures.kept still cleans));
      left = left_keyed c.args.request.now (closing_status c.unpack_by.result) (g.D.World.trace c.args.world.now) (g.D.World.trace c.keys_of.new.world) (g.D.World.trace c.unpack_by.new.world) c.in-Ok.ensures.noted (c.unpack_by.ensures.left cleans);
    }

pub returns-clause-means : goal.returns-clause-means
returns-clause-means g c = λ honest before after.
    let old = g.D.World.map c.args.world.now in
    let new = g.D.World.map c.keys_of.new.world in
    let same = c.keys_of.ensures.same in
    let still = subst (λ (b : Bool). IsTrue b) (sym same.honest) honest in
    let image = c.args.request.now.image in
    let first = g.D.World.trace c.args.world.now in
    let middle = g.D.World.trace c.keys_of.new.world in
    let last = g.D.World.trace c.unpack_by.new.world in
    unless_cleaned c.args.request.now.cleans _ (closing_status c.unpack_by.result) refl (c.unpack_by.ensures.tells still) (λ cleans told. (
      c.in-Ok.required,
      c.in-Ok.ensures.keys,
      record {
        right = λ done. keys_right old new c.args.request.now c.in-Ok.required image first middle last same c.in-Ok.ensures.noted (c.unpack_by.ensures.right still cleans done);
        tells = image_same old new c.args.request.now c.in-Ok.required image _ _ same told;
      },
    ))
