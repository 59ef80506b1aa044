-- The texts of faults: the lines that the program prints.
use Rattle.std.specs.Prelude.{ℕ, List, codes, decimal, ◌++◌, ◌==◌, not}
use Rattle.std.specs.List.{take_while}
use Rattle.uimg_its.specs.declared.fault.{Construct.Construct, FaultKind.FaultKind}
use Rattle.uimg_its.specs.declared.fault.ItsFault.{ItsFault}
use Rattle.uimg_its.specs.declared.fault.Construct.TheVariants as omitted
use Rattle.uimg_its.specs.declared.fault.FaultKind.TheVariants as of

-- a construct that the profile omits
abbrev pub construct_text : Construct → List ℕ
construct_text omitted.Reference = codes "reference"
construct_text omitted.CharacterLiteral = codes "character literal"
construct_text omitted.Expression = codes "expression"
construct_text omitted.Directive = codes "directive"
construct_text omitted.SecondRoot = codes "second root"
construct_text omitted.IncbinRange = codes "incbin range"
construct_text omitted.Escape = codes "escape"
construct_text omitted.Preprocessor = codes "preprocessor"
construct_text omitted.Depth = codes "depth"

-- the beginning of the line of a source's fault, without its line number
abbrev pub fault_text : FaultKind → List ℕ
fault_text of.BadToken = codes "I1 bad token"
fault_text of.BadSyntax = codes "I2 bad syntax"
fault_text (of.OutOfProfile construct) = codes "I3 out of profile: " ++ construct_text construct
fault_text of.BadNumber = codes "I4 bad number"
fault_text of.NoFile = codes "I5 no file"
fault_text of.ReadFailed = codes "I6 read failed"
fault_text of.OutOfMemory = codes "I7 out of memory"

-- its letter and number: the first word of the line
abbrev pub fault_code : FaultKind → List ℕ
fault_code kind = take_while (λ byte. not (byte == 32)) (fault_text kind)

-- the line of a source's fault
abbrev pub text_of : ItsFault → List ℕ
text_of fault = fault_text fault.kind ++ codes " at line " ++ decimal fault.line
