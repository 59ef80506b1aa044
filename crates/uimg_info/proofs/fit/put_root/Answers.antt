use Rattle.std.proofs.Common.{List, ℕ, ap, sym, ◌∙◌, subst, IsTrue}
use Rattle.uimg_fit_checking.specs.Survey.{read_survey}
use Rattle.uimg_printing.specs.Members.{tokens_of}
use Rattle.uimg_printing.proofs.StepLaws.{after, appended_as, tokens_append}
use Rattle.uimg_info.specs.{Members.facts_members, Fit.root_facts}
use Rattle.uimg_info.specs.Reservations.{reservations_of, reservations_members}
use Rattle.uimg_info.proofs.WorkLaws.{asks_then}
use Rattle.uimg_info.proofs.fit.put_root.Goals as goal

pub returns : goal.returns
returns g c =
    let file = (g.S.Source.device c.args.source.now).bytes in
    let survey = c.args.survey.now in
    let rows = c.in_ok-put_rows.ensures in
    let reserved = c.in_ok-put_reservations.ensures in
    let facts = facts_members (root_facts (read_survey file survey)) in
    let entries = reservations_members (reservations_of file survey.totalsize) in
    record {
      uses = asks_then rows.uses reserved.uses;
      own = tt;
      before = reserved.before ∙ rows.before;
      told = λ honest.
          let here = subst IsTrue (sym rows.uses.same.honest) honest in
          let second = appended_as _ _ _ _ (ap (λ (f : List ℕ). tokens_of (reservations_members (reservations_of f survey.totalsize))) rows.uses.same.bytes) (reserved.told here) in
          appended_as _ _ _ _ (sym (tokens_append facts entries)) (after (rows.told honest) second);
    }
