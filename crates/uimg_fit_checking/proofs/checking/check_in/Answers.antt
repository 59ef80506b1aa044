use Rattle.std.proofs.Common.{rules, length, ◌≡◌, ◌∙◌, ◌&&◌, Option, Some, None, is_none, true, false, subst, sym, ap, arith}
use Rattle.std.specs.Prelude.{Result, Ok, Err}
use Rattle.std.specs.Option.{is_some, option_map}
use Rattle.uimg_base.specs.Held.{Held}
use Rattle.uimg_fit_base.specs.declared.fault.Fault.{Fault}
use Rattle.uimg_fit_base.specs.Faults.{Gives}
use Rattle.uimg_base.specs.declared.spans.Span.{Span}
use Rattle.uimg_fit_checking.specs.declared.checking.Finding.{Finding}
use Rattle.uimg_fit_checking.specs.Checks.{NamedFinding, named_finding, check_of}
use Rattle.uimg_fit_reading.specs.Nodes.{InFile, IsRead, Opened}
use Rattle.uimg_fit_checking.proofs.CheckLaws.{check_within, check_lacks, check_has, check_cut, check_ends}
use Rattle.uimg_fit_checking.proofs.checking.check_in.Goals as goal

pub returns-then-is_some-is_none-clause-told : goal.returns-then-is_some-is_none-clause-told
returns-then-is_some-is_none-clause-told g c = λ honest.
    let d = g.S.Source.device in
    let file = (d c.args.source.now).bytes in
    let h = c.requires.tree honest in
    let found = c.in_ok-first.ensures.told h.nodes h.read.indexed in
    let lacks : (is_some c.args.need && is_none c.in_ok-first.first) ≡ true = search rules in
    check_lacks file h.nodes c.args.need found.found c.in_ok-first.first h.read.is found.is found.from lacks

pub returns-in_err-finding-clause-asked : goal.returns-in_err-finding-clause-asked
returns-in_err-finding-clause-asked g c = λ honest.
    let d = g.S.Source.device in
    let file = (d c.args.source.now).bytes in
    let h = c.requires.tree honest in
    let found = c.in_ok-first.ensures.told h.nodes h.read.indexed in
    let opened : Opened (d c.args.source.now) c.args.blob.now c.args.room.now h.nodes = record { honest = honest; read = h.read } in
    let told = c.in_err-finding.ensures.told h.nodes opened found.found found.from in
    omega (arith, told.paid, check_within file h.nodes found.found h.read.is found.is)

pub returns-in_err-finding-clause-told : goal.returns-in_err-finding-clause-told
returns-in_err-finding-clause-told g c = λ honest.
    let d = g.S.Source.device in
    let file = (d c.args.source.now).bytes in
    let h = c.requires.tree honest in
    let found = c.in_ok-first.ensures.told h.nodes h.read.indexed in
    let opened : Opened (d c.args.source.now) c.args.blob.now c.args.room.now h.nodes = record { honest = honest; read = h.read } in
    let told = c.in_err-finding.ensures.told h.nodes opened found.found found.from in
    let some : (is_some c.args.need && is_none c.in_ok-first.first) ≡ false = search rules in
    let has = check_has file h.nodes c.args.need found.found c.in_ok-first.first h.read.is found.is found.from some in
    let is : c.from_residual-in_err-finding.result ≡ Err c.in_err-finding.field-0.0 = search rules in
    subst (λ (r : Result (Finding Span) Fault). Gives (named_finding file) r (check_of c.args.need file)) (sym is)
    (check_cut file c.args.need found.found c.in_err-finding.field-0.0 has told.told)

pub returns-in-Some-clause-asked : goal.returns-in-Some-clause-asked
returns-in-Some-clause-asked g c = λ honest.
    let d = g.S.Source.device in
    let file = (d c.args.source.now).bytes in
    let h = c.requires.tree honest in
    let found = c.in_ok-first.ensures.told h.nodes h.read.indexed in
    let opened : Opened (d c.args.source.now) c.args.blob.now c.args.room.now h.nodes = record { honest = honest; read = h.read } in
    let told = c.in_ok-finding.ensures.told h.nodes opened found.found found.from in
    omega (arith, told.paid, check_within file h.nodes found.found h.read.is found.is)

pub returns-in-Some-clause-told : goal.returns-in-Some-clause-told
returns-in-Some-clause-told g c = λ honest.
    let d = g.S.Source.device in
    let file = (d c.args.source.now).bytes in
    let h = c.requires.tree honest in
    let found = c.in_ok-first.ensures.told h.nodes h.read.indexed in
    let opened : Opened (d c.args.source.now) c.args.blob.now c.args.room.now h.nodes = record { honest = honest; read = h.read } in
    let told = c.in_ok-finding.ensures.told h.nodes opened found.found found.from in
    let some : (is_some c.args.need && is_none c.in_ok-first.first) ≡ false = search rules in
    let has = check_has file h.nodes c.args.need found.found c.in_ok-first.first h.read.is found.is found.from some in
    check_ends file c.args.need found.found (Some (named_finding file c.in-Some.finding)) has
    (told.told ∙ ap (λ (o : Option (Finding Span)). Ok (option_map (named_finding file) o)) c.in-Some.is)

pub returns-clause-asked : goal.returns-clause-asked
returns-clause-asked g c = λ honest.
    let d = g.S.Source.device in
    let file = (d c.args.source.now).bytes in
    let h = c.requires.tree honest in
    let found = c.in_ok-first.ensures.told h.nodes h.read.indexed in
    let opened : Opened (d c.args.source.now) c.args.blob.now c.args.room.now h.nodes = record { honest = honest; read = h.read } in
    let told = c.in_ok-finding.ensures.told h.nodes opened found.found found.from in
    omega (arith, told.paid, check_within file h.nodes found.found h.read.is found.is)

pub returns-clause-told : goal.returns-clause-told
returns-clause-told g c = λ honest.
    let d = g.S.Source.device in
    let file = (d c.args.source.now).bytes in
    let h = c.requires.tree honest in
    let found = c.in_ok-first.ensures.told h.nodes h.read.indexed in
    let opened : Opened (d c.args.source.now) c.args.blob.now c.args.room.now h.nodes = record { honest = honest; read = h.read } in
    let told = c.in_ok-finding.ensures.told h.nodes opened found.found found.from in
    let some : (is_some c.args.need && is_none c.in_ok-first.first) ≡ false = search rules in
    let has = check_has file h.nodes c.args.need found.found c.in_ok-first.first h.read.is found.is found.from some in
    let read = subst (λ (r : Held). IsRead file c.args.blob.now r.entries h.nodes) (sym c.first_finding.ensures.leaves.room) h.read in
    check_ends file c.args.need found.found None has (told.told ∙ ap (λ (o : Option (Finding Span)). Ok (option_map (named_finding file) o)) c.in_default.is)
    ∙ ap (λ (x : NamedFinding). Ok x) (sym (c.all_right.ensures.told file h.nodes read found.found found.from))

pub returns-clause-inside : goal.returns-clause-inside
returns-clause-inside g c =
    let d = g.S.Source.device in
    let size = length (d c.args.source.now).bytes in
    c.all_right.ensures.inside size
    (subst (λ (r : Held). InFile size c.args.blob.now r.entries) (sym c.first_finding.ensures.leaves.room) c.requires.file)
