use Rattle.std.proofs.Common.{rules, ◌≡◌, [], List, ℕ, subst}
use Rattle.uimg_sums.specs.Bundle.{Holds}
use Rattle.uimg_blob_writing.specs.{Content.content_bytes, Properties.content}
use Rattle.uimg_fit_building.proofs.filling.payload_sums.feed_payload.Goals as goal

pub returns-in-Bytes-clause-fed : goal.returns-in-Bytes-clause-fed
returns-in-Bytes-clause-fed g c = λ honest algos held.
    let same : c.items.result.now ≡ content_bytes (g.F.Files.map c.args.files.now).bytes (content c.args.payload.now) = search rules in
    subst (λ (w : List ℕ). Holds c.feed.new.self algos w) same (c.feed.ensures algos [] held)
