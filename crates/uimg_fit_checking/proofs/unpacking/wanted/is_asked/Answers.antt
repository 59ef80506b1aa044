use Rattle.std.proofs.Common.{List, ℕ, map, ap, sym, ◌∙◌}
use Rattle.std.specs.List.{list_any}
use Rattle.std.specs.Str.{bytes_eq}
use Rattle.uimg_fit_checking.specs.Unpacking.{as_bytes, is_asked, which}
use Rattle.uimg_fit_checking.specs.declared.unpacking.wanted.Wanted.{Wanted}
use Rattle.uimg_fit_checking.proofs.WantedLaws.{has_among}
use Rattle.uimg_fit_checking.proofs.unpacking.wanted.is_asked.Goals as goal

pub returns-in-Among : goal.returns-in-Among
returns-in-Among c =
    let keys = c.in-Among.names.now.keys in
    c.contains.ensures ∙ has_among c.bytes-in-Among.result.now keys
    ∙ ap (λ (name : List ℕ). list_any (bytes_eq name) (map (λ known. known.items) keys)) c.bytes-in-Among.ensures
    ∙ ap (λ (wanted : Wanted). is_asked (which wanted) (as_bytes c.args.name.now)) (sym c.in-Among.is)
