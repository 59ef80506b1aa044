use Rattle.std.proofs.Common.{◌≡◌, ap, sym, arith, ℕ, ◌∙◌, ◌*◌, ◌/◌, ◌++◌, List, take, length}
use Rattle.std.{specs.List.{concat, fold}, proofs.lemmas.List.{take-append-drop, Sums.fold-append}}
use Rattle.uimg_sums.specs.CrcSteps.{byte_step}
use Rattle.uimg_sums.proofs.CrcLaw.{register_of-append, bytes-append, bytes_of}
use Rattle.uimg_sums.proofs.CrcWord.{concat-first_chunks}
use Rattle.uimg_sums.proofs.crc.CrcSummer.feed.Goals as goal

pub returns : goal.returns
returns c = λ fed held.
    let bytes = c.args.bytes.now in
    let k = length bytes / 16 in
    let prefix : concat c.as_chunks.result.0.now ≡ take (k * 16) bytes = ap concat c.as_chunks.ensures.front ∙ concat-first_chunks 16 k bytes in
    let all : concat c.as_chunks.result.0.now ++ c.as_chunks.result.1.now ≡ bytes =
    ap (λ (w : List ℕ). w ++ c.as_chunks.result.1.now) prefix ∙ ap (λ (w : List ℕ). take (k * 16) bytes ++ w) c.as_chunks.ensures.back ∙ take-append-drop (k * 16) bytes in
    let folded : c.byte_steps_of-self.result ≡ fold byte_step c.args.self.now.register bytes =
    c.byte_steps_of-self.ensures
    ∙ ap (λ (x : ℕ). fold byte_step x c.as_chunks.result.1.now) c.word_steps_of-register.ensures
    ∙ sym (fold-append byte_step c.args.self.now.register (concat c.as_chunks.result.0.now) c.as_chunks.result.1.now)
    ∙ ap (fold byte_step c.args.self.now.register) all in
    (folded ∙ ap (λ (x : ℕ). fold byte_step x bytes) held.0 ∙ sym (register_of-append fed bytes), bytes-append fed bytes held.1 (bytes_of bytes (λ i. omega (arith, c.type_inv.bytes i))))
