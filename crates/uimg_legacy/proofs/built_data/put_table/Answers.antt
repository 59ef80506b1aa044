use Rattle.std.proofs.Common.{rules, ◌≡◌, true, ℕ, List, [], length, map, get_or, ◌∙◌, ap, arith}
use Rattle.std.specs.Int.{to_be_bytes, w32}
use Rattle.uimg_base.{specs.Sink.AppendsAll, proofs.SinkLaws.{prefix_then, prefix_all, all_then}}
use Rattle.uimg_legacy.specs.{Building.size_table, Devices.bytes_of, Faults.is_read}
use Rattle.uimg_legacy.proofs.{DevicesLaws.{count_bytes, uses_then, unasked}, PartStepsLaws.puts_by}
use Rattle.uimg_legacy.proofs.TableLaws.{size_words}
use Rattle.uimg_legacy.proofs.JoinedLaws.{words_all, table_whole, table_start, table_prefix}
use Rattle.uimg_legacy.proofs.built_data.put_table.Goals as goal

pub returns-in_err-size_word : goal.returns-in_err-size_word
returns-in_err-size_word g c =
    let failed : is_read c.from_residual.result ≡ true = search rules in
    let inv = c.loop-i.invariant in
    puts_by (rw failed (uses_then (record { same = inv.same; failures = inv.failures }) (unasked c.in_err-size_word.ensures.uses))) (search rules) (search rules)
    (λ sure. record { all = search rules; prefix = table_start c.args.out.now c.loop-i.out _ c.loop-i.i (omega (arith, count_bytes g.S.Source.device c.args.parts.now)) inv.written })

pub returns-in_err-put_all : goal.returns-in_err-put_all
returns-in_err-put_all g c =
    let bytes = bytes_of (map g.S.Source.device c.args.parts.now) in
    let i = c.loop-i.i in
    let here : get_or (bytes_of (map g.S.Source.device c.loop-i.parts)) i [] ≡ get_or bytes i [] = ap (λ (ps : List (List ℕ)). get_or ps i []) c.loop-i.invariant.same.bytes in
    let word : c.in_ok-size_word.field-0 ≡ to_be_bytes w32 (length (get_or bytes i [])) = c.in_ok-size_word.ensures.answer ∙ ap (λ (p : List ℕ). to_be_bytes w32 (length p)) here in
    puts_by (search rules) (search rules) (search rules)
    (λ sure. record { all = search rules; prefix = table_prefix c.args.out.now c.loop-i.out c.put_all.new.self bytes i (omega (arith, count_bytes g.S.Source.device c.args.parts.now)) c.loop-i.invariant.written (rw word at c.put_all.ensures.writes.prefix) })

pub returns-in_err-put_all-2 : goal.returns-in_err-put_all-2
returns-in_err-put_all-2 g c =
    let bytes = bytes_of (map g.S.Source.device c.args.parts.now) in
    let words = rw (words_all bytes c.loop-i.i (omega (arith, count_bytes g.S.Source.device c.args.parts.now))) at c.loop-i.invariant.written in
    puts_by (search rules) (search rules) (search rules)
    (λ sure. record { all = search rules; prefix = rw table_whole (prefix_then c.args.out.now c.loop-i.out c.put_all-2.new.self (size_words bytes) (to_be_bytes w32 0) words (rw c.to_be_bytes.ensures at c.put_all-2.ensures.writes.prefix)) })

pub returns : goal.returns
returns g c =
    let bytes = bytes_of (map g.S.Source.device c.args.parts.now) in
    let words = rw (words_all bytes c.loop-i.i (omega (arith, count_bytes g.S.Source.device c.args.parts.now))) at c.loop-i.invariant.written in
    let all : AppendsAll c.args.out.now c.put_all-2.new.self (size_table bytes) = rw table_whole (all_then c.args.out.now c.loop-i.out c.put_all-2.new.self (size_words bytes) (to_be_bytes w32 0) words (rw c.to_be_bytes.ensures at c.in_ok-put_all-2.ensures.writes.all)) in
    puts_by (search rules) (search rules) (search rules) (λ sure. record { all = all; prefix = prefix_all c.args.out.now c.put_all-2.new.self (size_table bytes) all })
