-- The images of `check` are the words after `--`, all of them and in their order.
use Rattle.std.proofs.Common.{◌≡◌, ◌∙◌, ◌&&◌, if◌then◌else◌, ◌++◌, ℕ, suc, arith, le-ltb, ne_eqb, List, [], ◌∷◌, Option, Some, None, Result, Ok, Err, codes, false, true, refl, ap, ap₂, append-nil, append_assoc, fold, length, nat_lt}
use Rattle.std.specs.Option.{option_map_or}
use Rattle.clap.proofs.OnLiterals.{clap_on_literals}
use Rattle.clap.specs.Faults.{check_fault, defaults_fault, settle_fault, walk_fault}
use Rattle.clap.specs.Lexer.{usize_max}
use Rattle.clap.specs.Kinds.{Kinds, or_else, values_kinds}
use Rattle.clap.specs.Simple.{Shape}
use Rattle.clap.specs.Walk.{is_empty, Text, Walk, finished, positional, settled, walked}
use Rattle.clap.specs.declared.builder.value_parser.ValueParser.TheVariants as vp
use Rattle.uimg_cli.specs.Check.{Checking, reads_again}
use Rattle.uimg_cli.specs.CommandLines.{answers, asked_by, words_asked}
use Rattle.uimg_cli.specs.Wanted.{Wanted, checks}
use Rattle.uimg_cli.specs.Wrong.{Wrong, and_then, input_twice, no_images}
use Rattle.uimg_cli.proofs.EnteringLaws.{by_level, by_walk, entered_walk, entering, shape_named}
use Rattle.uimg_cli.proofs.Examples.{uimg_on_literals}

abbrev shape : Shape
shape = shape_named (codes "check")

-- the walk after `--` and these images
abbrev behind : List Text → Walk
behind so_far = record {
  held = record { rows = []; pending = Some (codes "image", so_far); skip = 0 };
  waiting = positional;
  position = 1;
  is_trailing = true;
  stopped = None;
}

all_held : (so_far words : List Text) → fold (walked shape.rules []) (behind so_far) words ≡ behind (so_far ++ words)
unfolding clap_on_literals uimg_on_literals
all_held so_far [] = rw (append-nil so_far) refl
all_held so_far (word ∷ rest) = all_held (so_far ++ word ∷ []) rest ∙ ap behind (append_assoc so_far (word ∷ []) rest)

nothing_wrong : (so_far words : List Text) → walk_fault shape [] (behind so_far) words ≡ []
unfolding clap_on_literals uimg_on_literals
nothing_wrong so_far [] = refl
nothing_wrong so_far (word ∷ rest) = nothing_wrong (so_far ++ word ∷ []) rest

all_accepted : (words : List Text) → values_kinds false vp.String words ≡ []
all_accepted [] = refl
all_accepted (word ∷ rest) = all_accepted rest

checking : (epoch : Option Text) (moment : ℕ) (image : Text) (images : List Text)
    → by_walk epoch moment (entered_walk (codes "check") (codes "--" ∷ image ∷ images)) [] ≡ by_level epoch moment (codes "check") (behind (image ∷ images)) []
unfolding clap_on_literals uimg_on_literals
checking epoch moment image images =
    ap₂ (by_level epoch moment (codes "check")) (all_held (image ∷ []) images) (nothing_wrong (image ∷ []) images)

none_below_zero : (n : ℕ) → nat_lt n 0 ≡ false
none_below_zero n = le-ltb n 0 (omega arith)

-- a use of the operand with images, of which there are not too many
settles : (image : Text) (images : List Text) → nat_lt usize_max (length (image ∷ images)) ≡ false
    → settle_fault shape.rules false (behind (image ∷ images)).held ≡ []
unfolding clap_on_literals uimg_on_literals
settles image images few = rw (few, none_below_zero (suc (length images)), all_accepted (image ∷ images)) refl

-- a check of images without an option
abbrev pub check_of : List Text → Checking
check_of images = record { need = None; is_strict = false; key = None; images = images; is_recursive = false; files_from = None; has_nuls = false; as_json = false; junit = None; is_quiet = false; allows_none = false; most_input = 4294967296 }

some_images : (image : Text) (images : List Text) → is_empty (image ∷ images) ≡ false
some_images image images = ne_eqb (suc (length images)) 0 (λ none. absurd (omega (arith, none)))

abbrev by_end : Option Text → ℕ → List Text → Kinds → List (Result Wanted Wrong)
by_end epoch moment images wrong =
    answers (asked_by epoch moment (codes "check") (finished shape.rules (behind images).held))
    (or_else (or_else [] (or_else [] (or_else wrong
    (or_else (defaults_fault (settled shape.rules (behind images).held).rows shape.rules)
    (check_fault shape (finished shape.rules (behind images).held) false))))) [])

ending : (epoch : Option Text) (moment : ℕ) (image : Text) (images : List Text) → nat_lt usize_max (length (image ∷ images)) ≡ false
    → reads_again false (image ∷ images) ≡ false → by_level epoch moment (codes "check") (behind (image ∷ images)) [] ≡ Ok (checks (check_of (image ∷ images))) ∷ []
unfolding clap_on_literals uimg_on_literals
ending epoch moment image images few once =
    ap (by_end epoch moment (image ∷ images)) (settles image images few)
    ∙ ap₂ (λ none twice. and_then (if none && true then Err no_images else option_map_or (λ wrong. Err wrong) (if twice then Some input_twice else None) (Ok (check_of (image ∷ images)))) (λ it. Ok (checks it)) ∷ [])
    (some_images image images) once

-- No image is lost, and their order stays, unless standard input is given twice.
pub all_images : (epoch : Option Text) (moment : ℕ) (image : Text) (images : List Text) → nat_lt usize_max (length (image ∷ images)) ≡ false
    → reads_again false (image ∷ images) ≡ false → words_asked epoch moment (codes "uimg" ∷ codes "check" ∷ codes "--" ∷ image ∷ images)
    ≡ Ok (checks (check_of (image ∷ images))) ∷ []
unfolding clap_on_literals uimg_on_literals
all_images epoch moment image images few once =
    entering epoch moment (codes "check") (codes "--" ∷ image ∷ images) refl refl ∙ checking epoch moment image images ∙ ending epoch moment image images few once
