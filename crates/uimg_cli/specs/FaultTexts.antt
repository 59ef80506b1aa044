-- What the program prints for a command line that requests nothing.
use Rattle.std.specs.Prelude.{ℕ, List, ◌++◌, codes, string_bytes}
use Rattle.uimg_cli.specs.declared.command_line.words_fault.WordsFault.{WordsFault}
use Rattle.uimg_cli.specs.declared.command_line.words_fault.WordsFault.TheVariants as fault

-- a word that is no number, and what it should be
abbrev pub not_number : List ℕ → List ℕ
not_number word = codes "'" ++ word ++ codes "' is not a decimal number below 2^64"

-- the line of a fault, or all that is told of words that are no command
abbrev pub text_of : WordsFault → List ℕ
text_of (fault.NoCommand text) = string_bytes text
text_of fault.NoSubcommand = codes "no command"
text_of fault.NoListOrOutfile = codes "no -l or -o"
text_of fault.NoDataOrSource = codes "no -d or -f"
text_of fault.NoImages = codes "no image"
text_of fault.InputTwice = codes "- is given twice, but standard input is read once"
text_of fault.NoFolder = codes "-C: no folder"
text_of (fault.UnknownAlgo name) = codes "--need: unknown algorithm '" ++ string_bytes name
    ++ codes "'; use crc32, md5, sha1, sha256, sha384 or sha512"
text_of (fault.NotNumber option text) =
    codes "--" ++ option.now ++ codes ": " ++ not_number (string_bytes text)
text_of (fault.ToOutput option) = codes "--" ++ option.now
    ++ codes " -: standard output is not supported; for a file of that name use ./-"
text_of fault.CleansWithJson = codes "--clean with --json"
text_of fault.OnlyWithConfig = codes "--only with --config"
text_of (fault.WithoutKey option) = codes "--" ++ option.now ++ codes " without --key"
text_of fault.DataWithSource = codes "-d with -f"
text_of fault.UnknownName = codes "unknown name"
text_of fault.FlatDtNeedsSource = codes "flat_dt needs -f"
text_of fault.BadNumber = codes "bad number"
text_of fault.BadEpoch = codes "bad SOURCE_DATE_EPOCH"
text_of fault.OutOfMemory = codes "out of memory"
