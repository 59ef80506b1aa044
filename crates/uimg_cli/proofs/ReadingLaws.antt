-- Words that ask for nothing are refused.
use Rattle.std.proofs.Common.{◌≡◌, ℕ, List, [], ◌∷◌, Option, Result, Ok, Err, inl, inr, true, refl}
use Rattle.std.specs.Prelude.{is_err}
use Rattle.std.specs.List.{list_all}
use Rattle.clap.specs.Walk.{Text}
use Rattle.uimg_cli.specs.CommandLines.{TellsOneOf, words_asked}
use Rattle.uimg_cli.specs.Reading.{AsksNothing, ReadsWords}
use Rattle.uimg_cli.specs.Wanted.{Wanted, wanted_of}
use Rattle.uimg_cli.specs.Wrong.{Wrong}
use Rattle.uimg_cli.specs.declared.command_line.{Asked.Asked, words_fault.WordsFault.WordsFault}

none_told : (answers : List (Result Wanted Wrong)) (result : Result Asked WordsFault) → list_all is_err answers ≡ true → TellsOneOf wanted_of answers result → is_err result ≡ true
none_told answers (Err fault) all tells = refl
none_told [] (Ok asked) all tells = absurd tells
none_told (Ok wanted ∷ rest) (Ok asked) all tells = cc
none_told (Err wrong ∷ rest) (Ok asked) all (inl tells) = cc
none_told (Err wrong ∷ rest) (Ok asked) all (inr more) = none_told rest (Ok asked) all more

pub nothing_read : (epoch : Option Text) (moment : ℕ) (words : List Text) (result : Result Asked WordsFault) → AsksNothing epoch moment words
    → ReadsWords epoch moment words result → is_err result ≡ true
unfolding AsksNothing ReadsWords
nothing_read epoch moment words result nothing reads = none_told (words_asked epoch moment words) result nothing reads
