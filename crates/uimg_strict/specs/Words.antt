-- The words of what strictness refuses.
use Rattle.std.specs.Prelude.{ℕ, List, codes}
use Rattle.uimg_strict.specs.declared.loose.Looseness.{Looseness}
use Rattle.uimg_strict.specs.declared.loose.Looseness.TheVariants.{NoDescription, NoTimestamp}
use Rattle.uimg_strict.specs.declared.loose.Looseness.TheVariants.{UnitAddress, DoubledNode}
use Rattle.uimg_strict.specs.declared.loose.Looseness.TheVariants.{DoubledProperty, IgnoredHash}
use Rattle.uimg_strict.specs.declared.loose.Looseness.TheVariants.{OddCell, TwoPayloads}
use Rattle.uimg_strict.specs.declared.loose.Looseness.TheVariants.{HalfPlace, UnsoundBlob}
use Rattle.uimg_strict.specs.declared.loose.Looseness.TheVariants.{Misplaced, EmptyData}
use Rattle.uimg_strict.specs.declared.loose.Looseness.TheVariants.{UnknownType, UnknownArchitecture}
use Rattle.uimg_strict.specs.declared.loose.Looseness.TheVariants.{UnknownSystem}
use Rattle.uimg_strict.specs.declared.loose.Looseness.TheVariants.{UnknownCompression}
use Rattle.uimg_strict.specs.declared.loose.Looseness.TheVariants.{Unsigned, UnknownSignature}
use Rattle.uimg_strict.specs.declared.loose.Looseness.TheVariants.{WeakSignature, SignedStrings}
use Rattle.uimg_strict.specs.declared.loose.Looseness.TheVariants.{SignedNodes, SignatureLength}
use Rattle.uimg_strict.specs.declared.loose.Looseness.TheVariants.{SignatureRange, BadSignature}

abbrev pub word_of : Looseness → List ℕ
word_of NoDescription = codes "no-description"
word_of NoTimestamp = codes "no-timestamp"
word_of UnitAddress = codes "unit-address"
word_of DoubledNode = codes "doubled-node"
word_of DoubledProperty = codes "doubled-property"
word_of IgnoredHash = codes "ignored-hash"
word_of OddCell = codes "odd-cell"
word_of TwoPayloads = codes "two-payloads"
word_of HalfPlace = codes "half-place"
word_of UnsoundBlob = codes "unsound-blob"
word_of Misplaced = codes "misplaced"
word_of EmptyData = codes "empty-data"
word_of UnknownType = codes "unknown-type"
word_of UnknownArchitecture = codes "unknown-architecture"
word_of UnknownSystem = codes "unknown-system"
word_of UnknownCompression = codes "unknown-compression"
word_of Unsigned = codes "unsigned"
word_of UnknownSignature = codes "unknown-signature"
word_of WeakSignature = codes "weak-signature"
word_of SignedStrings = codes "signed-strings"
word_of SignedNodes = codes "signed-nodes"
word_of SignatureLength = codes "signature-length"
word_of SignatureRange = codes "signature-range"
word_of BadSignature = codes "bad-signature"
