-- From the kind of an error to what the words ask for.
use Rattle.std.proofs.Common.{◌≡◌, ◌⊎◌, ◌∷◌, [], Result, Err, map, inl, inr, subst}
use Rattle.clap.specs.Kinds.{IsAmong, Kinds}
use Rattle.clap.specs.declared.error.kind.ErrorKind.{ErrorKind}
use Rattle.clap.specs.declared.error.kind.ErrorKind.TheVariants as kind
use Rattle.uimg_cli.specs.CommandLines.{TellsOneOf, answers, refusal}
use Rattle.uimg_cli.specs.Wanted.{Wanted, wanted_of}
use Rattle.uimg_cli.specs.Wrong.{Tells, Wrong}
use Rattle.uimg_cli.specs.declared.command_line.Asked.{Asked}
use Rattle.uimg_cli.specs.declared.command_line.words_fault.WordsFault.{WordsFault}
use Rattle.uimg_cli.specs.declared.command_line.words_fault.WordsFault.TheVariants as fault

-- an answer to one of the kinds is one of the answers
among : (k : ErrorKind) (ks : Kinds) (result : Result Asked WordsFault) → IsAmong k ks → Tells wanted_of (refusal k) result
    → TellsOneOf wanted_of (map refusal ks) result
among k [] result is tells = absurd is
among k (x ∷ ks) result (inl is) tells = inl (subst (λ y. Tells wanted_of (refusal y) result) is tells)
among k (x ∷ ks) result (inr is) tells = inr (among k ks result is tells)

pub refused : (k : ErrorKind) (ks : Kinds) (asked : Result Wanted Wrong) (result : Result Asked WordsFault) → (k ≡ kind.OutOfMemory) ⊎ IsAmong k ks
    → (k ≡ kind.OutOfMemory → (any : Result Wanted Wrong) → Tells wanted_of any result) → Tells wanted_of (refusal k) result
    → TellsOneOf wanted_of (answers asked ks) result
refused k [] asked result (inl is) memory tells = inl (memory is asked)
refused k [] asked result (inr is) memory tells = absurd is
refused k (x ∷ ks) asked result (inl is) memory tells = inl (memory is (refusal x))
refused k (x ∷ ks) asked result (inr is) memory tells = among k (x ∷ ks) result is tells

pub alone : (ks : Kinds) (asked : Result Wanted Wrong) (result : Result Asked WordsFault) → ks ≡ [] → Tells wanted_of asked result
    → TellsOneOf wanted_of (answers asked ks) result
alone ks asked result none tells = rw none (inl tells)

pub without_memory : (ks : Kinds) (asked : Result Wanted Wrong) → TellsOneOf wanted_of (answers asked ks) (Err fault.OutOfMemory)
without_memory [] asked = inl tt
without_memory (x ∷ ks) asked = inl tt
