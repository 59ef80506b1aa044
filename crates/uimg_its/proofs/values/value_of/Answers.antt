use Rattle.std.proofs.Common.{rules, ◌∷◌, ℕ, List, Ok, Bor, refl, sym, subst}
use Rattle.uimg_its.specs.{Words.{words, mark}, Seen.seen_word, Included.OpensIncludedBetween}
use Rattle.uimg_its.specs.declared.tokens.Word.{Word as Found, TheVariants.Text}
use Rattle.uimg_its.specs.declared.lists.Listed.TheVariants.{Cells, Bytes}
use Rattle.uimg_its.proofs.IncludedLaws.{passed, follows, unopened, lists}
use Rattle.uimg_its.proofs.values.value_of.Goals as goal

pub returns-in_err-append_string-in-Text-clause-included : goal.returns-in_err-append_string-in-Text-clause-included
returns-in_err-append_string-in-Text-clause-included g c = unopened _ _ (search rules)

pub returns-in_err-append-in-Text-clause-included : goal.returns-in_err-append-in-Text-clause-included
returns-in_err-append-in-Text-clause-included g c = unopened _ _ (search rules)

pub returns-in-Mark-Less-clause-included : goal.returns-in-Mark-Less-clause-included
returns-in-Mark-Less-clause-included g c =
    let m = g.F.Files.map c.args.files.now in
    let read = c.read_list in
    subst (λ (w : Found). OpensIncludedBetween (λ (rest : Bor (List ℕ)). words rest.now) read.result (seen_word w ∷ words c.args.text.now) m m) (sym c.in-Mark-Less.is)
    (lists Cells _ read.result c.args.out.now.items read.new.out.items (mark c.in-Mark-Less.field-0) (words c.args.text.now) m (λ ws. refl) read.ensures.gives)

pub returns-in-Mark-BracketOpen-clause-included : goal.returns-in-Mark-BracketOpen-clause-included
returns-in-Mark-BracketOpen-clause-included g c =
    let m = g.F.Files.map c.args.files.now in
    let read = c.read_list-in-Mark-BracketOpen in
    subst (λ (w : Found). OpensIncludedBetween (λ (rest : Bor (List ℕ)). words rest.now) read.result (seen_word w ∷ words c.args.text.now) m m) (sym c.in-Mark-BracketOpen.is)
    (lists Bytes _ read.result c.args.out.now.items read.new.out.items (mark c.in-Mark-BracketOpen.field-0) (words c.args.text.now) m (λ ws. refl) read.ensures.gives)

pub returns-in_ok-append-in-Text-clause-included : goal.returns-in_ok-append-in-Text-clause-included
returns-in_ok-append-in-Text-clause-included g c =
    let m = g.F.Files.map c.args.files.now in
    subst (λ (w : Found). OpensIncludedBetween (λ (rest : Bor (List ℕ)). words rest.now) (Ok c.args.text) (seen_word w ∷ words c.args.text.now) m m) (sym c.in-Text.is)
    (follows _ _ (passed (seen_word (Text c.in-Text.string) ∷ words c.args.text.now) (words c.args.text.now) m refl))

pub returns-in_default-clause-included : goal.returns-in_default-clause-included
returns-in_default-clause-included g c = unopened _ _ refl
