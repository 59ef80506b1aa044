-- A word that does not begin with a hyphen is the value of the option before it, or an operand.
use Rattle.std.proofs.Common.{◌≡◌, ◌∙◌, ◌==◌, ℕ, Bool, List, [], ◌∷◌, Option, Some, None, Ok, codes, false, true, refl, ap, ap₂, sym, bytes_eq}
use Rattle.clap.proofs.OnLiterals.{clap_on_literals}
use Rattle.clap.specs.Faults.{step_fault, turn_fault}
use Rattle.clap.specs.Kinds.{Kinds, or_else}
use Rattle.clap.specs.Lexer.{long_of, short_of, strip_byte}
use Rattle.clap.specs.Simple.{Shape}
use Rattle.clap.specs.Walk.{Rule, Text, Waiting, Walk, after_step, idle, nothing_held, option, plain_word, positional, subcommand_met, walk_from, walked}
use Rattle.uimg_cli.specs.CommandLines.{words_asked}
use Rattle.uimg_cli.specs.Makings.{plain_making, source}
use Rattle.uimg_cli.specs.Readings.{decimal_of, or_wrong}
use Rattle.uimg_cli.specs.Runs.{plain_run}
use Rattle.uimg_cli.specs.Wanted.{makes, runs}
use Rattle.uimg_cli.specs.Wrong.{and_then, bad_number}
use Rattle.uimg_cli.proofs.EnteringLaws.{by_level, by_walk, entered_walk, entering, shape_named}
use Rattle.uimg_cli.proofs.Examples.{uimg_on_literals}
use Rattle.uimg_fit_base.specs.declared.placement.Placement.TheVariants.{Inside}
use Rattle.uimg_requests.specs.declared.command.Action.TheVariants.{Extract}
use Rattle.uimg_requests.specs.declared.command.Form.TheVariants.{Guess}

-- the word does not begin with a hyphen (45)
abbrev pub IsPlainWord : Text → Type 0
IsPlainWord word = strip_byte 45 word ≡ None

-- such a word is no option and not `--`
no_command : (waiting : Waiting) (word : Text) → subcommand_met [] waiting word ≡ None
no_command idle word = refl
no_command (option id) word = refl
no_command positional word = refl

no_hyphens : (word : Text) → IsPlainWord word → bytes_eq word (45 ∷ 45 ∷ []) ≡ false
no_hyphens [] is = refl
no_hyphens (x ∷ rest) is = go (x == 45) refl
  where
    go : (b : Bool) → x == 45 ≡ b → bytes_eq (x ∷ rest) (45 ∷ 45 ∷ []) ≡ false
    go true e = absurd (some_none (sym (rw e refl) ∙ is)) where
      some_none : Some rest ≡ None → ⊥
      some_none e = cc
    go false e = rw e refl

no_long : (word : Text) → IsPlainWord word → long_of word ≡ None
no_long word is = rw is refl

no_letters : (word : Text) → IsPlainWord word → short_of word ≡ None
no_letters word is = rw is refl

-- the walk over such a word, and that nothing is wrong with it as an option
plain_walk : (c : List Rule) (w : Walk) (word : Text) → IsPlainWord word → w.stopped ≡ None → w.is_trailing ≡ false
    → walked c [] w word ≡ after_step c word w (plain_word c w.waiting word w.held).0 (plain_word c w.waiting word w.held).1
unfolding walked
plain_walk c w word is going on = rw (going, on, no_command w.waiting word, no_hyphens word is, no_long word is, no_letters word is) refl

plain_turn : (s : Shape) (w : Walk) (word : Text) → IsPlainWord word → w.stopped ≡ None → w.is_trailing ≡ false
    → turn_fault s [] w word ≡ step_fault s w.position (plain_word s.rules w.waiting word w.held).0 (plain_word s.rules w.waiting word w.held).1
plain_turn s w word is going on = rw (going, on, no_command w.waiting word, no_hyphens word is, no_long word is, no_letters word is) refl

-- ---- the walk over the words of a command

abbrev met : Shape → Walk → Text → Walk
met s w word = walked s.rules [] w word

abbrev plain_met : Shape → Walk → Text → Walk
plain_met s w word = after_step s.rules word w (plain_word s.rules w.waiting word w.held).0 (plain_word s.rules w.waiting word w.held).1

abbrev fault : Shape → Walk → Text → Kinds
fault s w word = turn_fault s [] w word

abbrev first : Shape → Text → Walk
first s word = met s (walk_from nothing_held) word

-- ---- dumpimage -p NUMBER -o FILE IMAGE

abbrev dumping : Shape
dumping = shape_named (codes "dumpimage")

-- the walk after the number, after `-o`, after the file
abbrev d2 : Text → Walk
d2 number = plain_met dumping (first dumping (codes "-p")) number

abbrev d3 : Text → Walk
d3 number = met dumping (d2 number) (codes "-o")

abbrev d4 : Text → Text → Walk
d4 number file = plain_met dumping (d3 number) file

dump_walks : (number file image : Text) → IsPlainWord number → IsPlainWord file → IsPlainWord image
    → met dumping (met dumping (met dumping (met dumping (first dumping (codes "-p")) number) (codes "-o")) file) image ≡ plain_met dumping (d4 number file) image
unfolding clap_on_literals uimg_on_literals
dump_walks number file image p q r =
    ap (λ w. met dumping (met dumping (met dumping w (codes "-o")) file) image) (plain_walk dumping.rules (first dumping (codes "-p")) number p refl refl)
    ∙ ap (λ w. met dumping w image) (plain_walk dumping.rules (d3 number) file q refl refl)
    ∙ plain_walk dumping.rules (d4 number file) image r refl refl

abbrev faults_from : Walk → Text → Text → Kinds
faults_from w file image =
    let next = met dumping w (codes "-o") in
    or_else (fault dumping w (codes "-o")) (or_else (fault dumping next file) (or_else (fault dumping (met dumping next file) image) []))

dump_faults : (number file image : Text) → IsPlainWord number → IsPlainWord file → IsPlainWord image
    → or_else (fault dumping (first dumping (codes "-p")) number) (faults_from (met dumping (first dumping (codes "-p")) number) file image) ≡ []
unfolding clap_on_literals uimg_on_literals
dump_faults number file image p q r =
    ap₂ (λ k w. or_else k (faults_from w file image)) (plain_turn dumping (first dumping (codes "-p")) number p refl refl) (plain_walk dumping.rules (first dumping (codes "-p")) number p refl refl)
    ∙ ap₂ (λ k w. or_else k (or_else (fault dumping w image) [])) (plain_turn dumping (d3 number) file q refl refl) (plain_walk dumping.rules (d3 number) file q refl refl)
    ∙ ap (λ k. or_else k []) (plain_turn dumping (d4 number file) image r refl refl)

dumped : (epoch : Option Text) (moment : ℕ) (number file image : Text) → IsPlainWord number → IsPlainWord file → IsPlainWord image
    → by_walk epoch moment (entered_walk (codes "dumpimage") (codes "-p" ∷ number ∷ codes "-o" ∷ file ∷ image ∷ [])) []
    ≡ by_level epoch moment (codes "dumpimage") (plain_met dumping (d4 number file) image) []
unfolding clap_on_literals uimg_on_literals
dumped epoch moment number file image p q r =
    ap₂ (by_level epoch moment (codes "dumpimage")) (dump_walks number file image p q r) (dump_faults number file image p q r)

-- The payload at the position is written to the file.
pub any_extraction : (epoch : Option Text) (moment : ℕ) (number file image : Text) (position : ℕ) → IsPlainWord number → IsPlainWord file → IsPlainWord image
    → decimal_of number ≡ Some position
    → words_asked epoch moment (codes "uimg" ∷ codes "dumpimage" ∷ codes "-p" ∷ number ∷ codes "-o" ∷ file ∷ image ∷ [])
    ≡ Ok (runs (plain_run (Extract position) Guess image (Some file))) ∷ []
unfolding clap_on_literals uimg_on_literals
any_extraction epoch moment number file image position p q r is =
    entering epoch moment (codes "dumpimage") (codes "-p" ∷ number ∷ codes "-o" ∷ file ∷ image ∷ []) refl refl
    ∙ dumped epoch moment number file image p q r
    ∙ ap (λ found. and_then (and_then (or_wrong bad_number found) (λ n. Ok (plain_run (Extract n) Guess image (Some file)))) (λ it. Ok (runs it)) ∷ []) is

-- ---- mkimage -f PATH IMAGE

abbrev making : Shape
making = shape_named (codes "mkimage")

abbrev m2 : Text → Walk
m2 path = plain_met making (first making (codes "-f")) path

make_walks : (path image : Text) → IsPlainWord path → IsPlainWord image
    → met making (met making (first making (codes "-f")) path) image ≡ plain_met making (m2 path) image
unfolding clap_on_literals uimg_on_literals
make_walks path image p q =
    ap (λ w. met making w image) (plain_walk making.rules (first making (codes "-f")) path p refl refl)
    ∙ plain_walk making.rules (m2 path) image q refl refl

make_faults : (path image : Text) → IsPlainWord path → IsPlainWord image
    → or_else (fault making (first making (codes "-f")) path) (or_else (fault making (met making (first making (codes "-f")) path) image) []) ≡ []
unfolding clap_on_literals uimg_on_literals
make_faults path image p q =
    ap₂ (λ k w. or_else k (or_else (fault making w image) [])) (plain_turn making (first making (codes "-f")) path p refl refl) (plain_walk making.rules (first making (codes "-f")) path p refl refl)
    ∙ ap (λ k. or_else k []) (plain_turn making (m2 path) image q refl refl)

made : (epoch : Option Text) (moment : ℕ) (path image : Text) → IsPlainWord path → IsPlainWord image
    → by_walk epoch moment (entered_walk (codes "mkimage") (codes "-f" ∷ path ∷ image ∷ [])) []
    ≡ by_level epoch moment (codes "mkimage") (plain_met making (m2 path) image) []
unfolding clap_on_literals uimg_on_literals
made epoch moment path image p q =
    ap₂ (by_level epoch moment (codes "mkimage")) (make_walks path image p q) (make_faults path image p q)

-- The image is made from the source, with its payloads inside, at the current time.
pub any_making : (moment : ℕ) (path image : Text) → IsPlainWord path → IsPlainWord image
    → words_asked None moment (codes "uimg" ∷ codes "mkimage" ∷ codes "-f" ∷ path ∷ image ∷ [])
    ≡ Ok (makes (plain_making (source path Inside) moment image)) ∷ []
unfolding clap_on_literals uimg_on_literals
any_making moment path image p q =
    entering None moment (codes "mkimage") (codes "-f" ∷ path ∷ image ∷ []) refl refl ∙ made None moment path image p q
