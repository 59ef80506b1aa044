use Rattle.std.proofs.Common.{◌≡◌, ◌∙◌, ℕ, List, Some, None, refl, sym}
use Rattle.uimg_blob_reading.specs.{Properties.places_of, Rows.table}
use Rattle.uimg_fit_reading.proofs.OpenedLaws.{still}
use Rattle.uimg_signing.specs.Covering.{is_marked}
use Rattle.uimg_signing.specs.Hashed.{are_hashed}
use Rattle.uimg_signing.specs.Listing.{are_many, listing_refusal, marks_of}
use Rattle.uimg_signing.specs.{Message.{message, refusal}}
use Rattle.uimg_verifying.specs.Signatures.{signature_of, value_refusal}
use Rattle.uimg_verifying.proofs.RefusalLaws.{digest_taken, judged, message_stop, nodes_stop, over, stopped, strings_stop, unknown, weak}
use Rattle.uimg_verifying.proofs.signatures.signature_refusal.Goals as goal

pub returns-in-Err-clause-told : goal.returns-in-Err-clause-told
returns-in-Err-clause-told g c = λ t o its node at other.
    let file = (g.S.Source.device c.args.source.now).bytes in
    let stops = c.in-Err.ensures.told o.honest t o.read.is o.read.indexed o.read.totalsize node other in
    stopped ℕ _ c.in-Err.fault c.stop.result _ c.stop.ensures stops (strings_stop c.args.by.takes_sha1 c.args.by.key.now file (table t) c.args.at.configuration its node c.in-Err.fault)

pub returns-in_default-clause-told : goal.returns-in_default-clause-told
returns-in_default-clause-told g c = λ t o its node at other.
    let d = g.S.Source.device c.args.source.now in
    let e = g.S.Source.device c.strings_size.new.source in
    let same = c.in-Ok.ensures.uses.same in
    let o1 = still same c.in-Ok.ensures.room o in
    let are = c.in-Ok.ensures.told o.honest t o.read.is o.read.indexed o.read.totalsize node other refl refl in
    let said = over d e (λ (file : List ℕ). c.in_ok-it.field-0 ≡ signature_of c.args.by.key.now file node) same (c.in_ok-it.ensures.told o1.honest t o1.read.is o1.read.indexed o1.read.totalsize node other) in
    unknown c.args.by.takes_sha1 c.args.by.key.now d.bytes (table t) c.args.at.configuration its node c.in-Ok.strings are (sym c.in_default.is ∙ said)

pub returns-then-is_weak-clause-told : goal.returns-then-is_weak-clause-told
returns-then-is_weak-clause-told g c = λ t o its node at other.
    let d = g.S.Source.device c.args.source.now in
    let e = g.S.Source.device c.strings_size.new.source in
    let same = c.in-Ok.ensures.uses.same in
    let o1 = still same c.in-Ok.ensures.room o in
    let strings = c.in-Ok.strings in
    let are = c.in-Ok.ensures.told o.honest t o.read.is o.read.indexed o.read.totalsize node other refl refl in
    let it = sym c.in-Some.is ∙ over d e (λ (file : List ℕ). c.in_ok-it.field-0 ≡ signature_of c.args.by.key.now file node) same (c.in_ok-it.ensures.told o1.honest t o1.read.is o1.read.indexed o1.read.totalsize node other) in
    weak c.args.by.takes_sha1 c.args.by.key.now d.bytes (table t) c.args.at.configuration its node strings are c.in-Some.it it (sym c.is_weak.ensures ∙ c.if-is_weak.true)

pub returns-in-Err-list_nodes-clause-told : goal.returns-in-Err-list_nodes-clause-told
returns-in-Err-list_nodes-clause-told g c = λ t o its node at other.
    let d = g.S.Source.device c.args.source.now in
    let e = g.S.Source.device c.strings_size.new.source in
    let same = c.in-Ok.ensures.uses.same in
    let o1 = still same c.in-Ok.ensures.room o in
    let strings = c.in-Ok.strings in
    let are = c.in-Ok.ensures.told o.honest t o.read.is o.read.indexed o.read.totalsize node other refl refl in
    let it = sym c.in-Some.is ∙ over d e (λ (file : List ℕ). c.in_ok-it.field-0 ≡ signature_of c.args.by.key.now file node) same (c.in_ok-it.ensures.told o1.honest t o1.read.is o1.read.indexed o1.read.totalsize node other) in
    let f = g.S.Source.device c.read_signature.new.source in
    let same2 = c.in_ok-it.ensures.uses.same in
    let o2 = still same2 refl o1 in
    let fault = c.in-Err-list_nodes.fault in
    let stops = c.in-Err-list_nodes.ensures.refused o2.honest t o2.read.is o2.read.indexed o2.read.totalsize its at in
    stopped ℕ _ fault c.stop-in-Err-list_nodes.result _ c.stop-in-Err-list_nodes.ensures stops (λ refused.
    nodes_stop c.args.by.takes_sha1 c.args.by.key.now d.bytes (table t) c.args.at.configuration its node strings are c.in-Some.it it (sym c.is_weak.ensures ∙ c.if-is_weak.false) fault
    (over d e (λ (file : List ℕ). Some fault ≡ listing_refusal (places_of its) (are_many file (places_of its) (table t) c.args.at.configuration) (are_hashed file (places_of its) (table t))) same
    (over e f (λ (file : List ℕ). Some fault ≡ listing_refusal (places_of its) (are_many file (places_of its) (table t) c.args.at.configuration) (are_hashed file (places_of its) (table t))) same2 refused)))

pub returns-in-Err-message_digest-clause-told : goal.returns-in-Err-message_digest-clause-told
returns-in-Err-message_digest-clause-told g c = λ t o its node at other.
    let d = g.S.Source.device c.args.source.now in
    let e = g.S.Source.device c.strings_size.new.source in
    let same = c.in-Ok.ensures.uses.same in
    let o1 = still same c.in-Ok.ensures.room o in
    let strings = c.in-Ok.strings in
    let are = c.in-Ok.ensures.told o.honest t o.read.is o.read.indexed o.read.totalsize node other refl refl in
    let it = sym c.in-Some.is ∙ over d e (λ (file : List ℕ). c.in_ok-it.field-0 ≡ signature_of c.args.by.key.now file node) same (c.in_ok-it.ensures.told o1.honest t o1.read.is o1.read.indexed o1.read.totalsize node other) in
    let f = g.S.Source.device c.read_signature.new.source in
    let same2 = c.in_ok-it.ensures.uses.same in
    let o2 = still same2 refl o1 in
    let h = g.S.Source.device c.list_nodes.new.source in
    let same3 = c.in-Ok-list_nodes.ensures.uses.same in
    let o3 = still same3 c.in-Ok-list_nodes.ensures.room o2 in
    let none = over d e (λ (file : List ℕ). None ≡ listing_refusal (places_of its) (are_many file (places_of its) (table t) c.args.at.configuration) (are_hashed file (places_of its) (table t))) same
    (over e f (λ (file : List ℕ). None ≡ listing_refusal (places_of its) (are_many file (places_of its) (table t) c.args.at.configuration) (are_hashed file (places_of its) (table t))) same2
    (c.in-Ok-list_nodes.ensures.refused o2.honest t o2.read.is o2.read.indexed o2.read.totalsize its at refl refl)) in
    let fault = c.in-Err-message_digest.fault in
    let stops = c.in-Err-message_digest.ensures.refused o3.honest t o3.read.is o3.read.totalsize in
    let marks = c.deref.result.now in
    let marked = λ (file : List ℕ). c.in-Ok-list_nodes.marks.items ≡ marks_of file (places_of its) (table t) c.args.at.configuration in
    let listed = c.deref.ensures.value ∙ over d e marked same (over e f marked same2
    (c.in-Ok-list_nodes.ensures.told o2.honest t o2.read.is o2.read.indexed o2.read.totalsize its at)) in
    let said = λ (file : List ℕ). Some fault ≡ refusal (is_marked marks) file strings in
    stopped ℕ _ fault c.stop-in-Err-message_digest.result _ c.stop-in-Err-message_digest.ensures stops (λ refused.
    message_stop c.args.by.takes_sha1 c.args.by.key.now d.bytes (table t) c.args.at.configuration its node strings are c.in-Some.it it (sym c.is_weak.ensures ∙ c.if-is_weak.false) none marks listed fault (over d e said same (over e f said same2 (over f h said same3 refused))))

pub returns-clause-told : goal.returns-clause-told
returns-clause-told g c = λ t o its node at other.
    let d = g.S.Source.device c.args.source.now in
    let e = g.S.Source.device c.strings_size.new.source in
    let same = c.in-Ok.ensures.uses.same in
    let o1 = still same c.in-Ok.ensures.room o in
    let strings = c.in-Ok.strings in
    let are = c.in-Ok.ensures.told o.honest t o.read.is o.read.indexed o.read.totalsize node other refl refl in
    let it = sym c.in-Some.is ∙ over d e (λ (file : List ℕ). c.in_ok-it.field-0 ≡ signature_of c.args.by.key.now file node) same (c.in_ok-it.ensures.told o1.honest t o1.read.is o1.read.indexed o1.read.totalsize node other) in
    let f = g.S.Source.device c.read_signature.new.source in
    let same2 = c.in_ok-it.ensures.uses.same in
    let o2 = still same2 refl o1 in
    let h = g.S.Source.device c.list_nodes.new.source in
    let same3 = c.in-Ok-list_nodes.ensures.uses.same in
    let o3 = still same3 c.in-Ok-list_nodes.ensures.room o2 in
    let none = over d e (λ (file : List ℕ). None ≡ listing_refusal (places_of its) (are_many file (places_of its) (table t) c.args.at.configuration) (are_hashed file (places_of its) (table t))) same
    (over e f (λ (file : List ℕ). None ≡ listing_refusal (places_of its) (are_many file (places_of its) (table t) c.args.at.configuration) (are_hashed file (places_of its) (table t))) same2
    (c.in-Ok-list_nodes.ensures.refused o2.honest t o2.read.is o2.read.indexed o2.read.totalsize its at refl refl)) in
    let k = g.S.Source.device c.message_digest.new.source in
    let same4 = c.in-Ok-message_digest.ensures.uses.same in
    let o4 = still same4 c.in-Ok-message_digest.ensures.room o3 in
    let marks = c.deref.result.now in
    let unrefused = λ (file : List ℕ). None ≡ refusal (is_marked marks) file strings in
    let fine = over d e unrefused same (over e f unrefused same2 (over f h unrefused same3
    (c.in-Ok-message_digest.ensures.refused o3.honest t o3.read.is o3.read.totalsize refl refl))) in
    let marked = λ (file : List ℕ). c.in-Ok-list_nodes.marks.items ≡ marks_of file (places_of its) (table t) c.args.at.configuration in
    let listed = c.deref.ensures.value ∙ over d e marked same (over e f marked same2
    (c.in-Ok-list_nodes.ensures.told o2.honest t o2.read.is o2.read.indexed o2.read.totalsize its at)) in
    let whole = λ (file : List ℕ). message (is_marked marks) file strings in
    let taken = digest_taken c.in-Some.it.algo (whole h.bytes) c.in-Ok-message_digest.digest (c.in-Ok-message_digest.ensures.digest o3.honest t o3.read.is o3.read.totalsize) in
    let why = c.in_ok-value_refusal.field-0 in
    let told = λ (file : List ℕ). why ≡ value_refusal c.args.by.key.now file c.in-Some.it (whole file) in
    let last = c.in_ok-value_refusal.ensures.told o4.honest (whole h.bytes) taken in
    let is = over d e told same (over e f told same2 (over f h told same3
    (over h k (λ (file : List ℕ). why ≡ value_refusal c.args.by.key.now file c.in-Some.it (whole h.bytes)) same4 last))) in
    judged c.args.by.takes_sha1 c.args.by.key.now d.bytes (table t) c.args.at.configuration its node strings are c.in-Some.it it (sym c.is_weak.ensures ∙ c.if-is_weak.false) none marks listed fine why is
