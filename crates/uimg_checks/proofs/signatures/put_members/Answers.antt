use Rattle.std.proofs.Common.{rules, ◌≡◌, List, ℕ, ◌++◌, codes, ap, sym}
use Rattle.uimg_printing.specs.Members.{Member, string_member, text_members, tokens_of}
use Rattle.uimg_printing.proofs.StepLaws.{after, appended_as, tokens_append}
use Rattle.uimg_checks.specs.Objects.{result_word, text_if}
use Rattle.uimg_checks.proofs.signatures.put_members.Goals as goal

pub returns : goal.returns
returns c =
    let it = c.args.signature.now in
    let named : c.as_slice.result.now ≡ it.configuration.items = search rules in
    let called : c.as_slice-2.result.now ≡ it.node.items = search rules in
    let last : List Member = string_member (codes "result") (result_word it.refusal) in
    let key : List Member = text_if (codes "key") it.key in
    let padding : List Member = text_if (codes "padding") it.padding in
    let algo : List Member = text_if (codes "algo") it.algo in
    let node : List Member = text_members (codes "node") it.node.items in
    let configuration : List Member = text_members (codes "configuration") it.configuration.items in
    appended_as _ _ _ _ (sym (tokens_append configuration (node ++ (algo ++ (padding ++ (key ++ last)))))) (after (appended_as _ _ _ _ (ap (λ (t : List ℕ). tokens_of (text_members (codes "configuration") t)) named) c.in_ok-put_text.ensures)
    (appended_as _ _ _ _ (sym (tokens_append node (algo ++ (padding ++ (key ++ last))))) (after (appended_as _ _ _ _ (ap (λ (t : List ℕ). tokens_of (text_members (codes "node") t)) called) c.in_ok-put_text-2.ensures)
    (appended_as _ _ _ _ (sym (tokens_append algo (padding ++ (key ++ last)))) (after c.in_ok-put_text_if.ensures
    (appended_as _ _ _ _ (sym (tokens_append padding (key ++ last))) (after c.in_ok-put_text_if-2.ensures
    (appended_as _ _ _ _ (sym (tokens_append key last)) (after c.in_ok-put_text_if-3.ensures
    (appended_as _ _ _ _ (ap (λ (t : List ℕ). tokens_of (string_member (codes "result") t)) c.result_word.ensures) c.in_ok-put_string.ensures))))))))))
