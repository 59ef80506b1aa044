use Rattle.std.proofs.Common.{◌∙◌, List, ℕ, ap, sym, length, take, replicate, arith}
use Rattle.std.proofs.lemmas.List.{length-take-le}
use Rattle.uimg_sums.{specs.Algorithms.digest_size, proofs.DigestSizes.length-digest_by}
use Rattle.uimg_blob_writing.specs.Content.{Content, bytes}
use Rattle.uimg_fit_building.proofs.FilledHashLaws.{front-digest, digest-fits}
use Rattle.uimg_fit_building.proofs.filling.filled_hashes.digest_value.Goals as goal

pub returns-clause-digest : goal.returns-clause-digest
returns-clause-digest g c = λ message all in_use.
    ap (λ (w : List ℕ). let v : Content = bytes w in v)
    (c.in_ok-copied.ensures.made ∙ ap (λ (n : ℕ). take n c.by-digest.result) c.len.ensures
    ∙ ap (λ (w : List ℕ). take (digest_size c.args.algo) w) (c.by-digest.ensures message all in_use) ∙ front-digest c.args.algo message)

pub returns-clause-rest : goal.returns-clause-rest
returns-clause-rest g c = λ message.
    ap (λ (n : ℕ). let v : Content = bytes (replicate n 0) in v)
    (ap (λ (w : List ℕ). length w) c.in_ok-copied.ensures.made ∙ ap (λ (n : ℕ). length (take n c.by-digest.result)) c.len.ensures
    ∙ length-take-le (digest_size c.args.algo) c.by-digest.result (omega (arith, digest-fits c.args.algo)) ∙ sym (length-digest_by c.args.algo message))
