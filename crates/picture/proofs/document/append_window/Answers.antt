use Rattle.std.proofs.Common.{List, ℕ, ◌++◌, codes, string_bytes, ap, ◌∙◌}
use Rattle.picture.specs.Documents.{window_text}
use Rattle.picture.specs.Escaping.{escaped}
use Rattle.picture.proofs.Joining.{last_piece, three_pieces}
use Rattle.picture.proofs.document.append_window.Goals as goal

pub returns : goal.returns
returns c =
    last_piece c.push_str-2.result (string_bytes c.append_escaped.new.document) (string_bytes c.push_str-2.new.self) (codes "</text>\n") _ c.push_str-2.ensures.bytes
    (three_pieces (string_bytes c.args.text.now) (string_bytes c.push_str.new.self) (string_bytes c.append_escaped.new.document)
    (codes "<text class=\"window\" x=\"12\" y=\"48\">") (escaped (window_text c.args.count c.args.span)) (codes "</text>\n") c.in_ok-push_str.ensures.bytes
    (c.in_ok-append_escaped.ensures
    ∙ ap (λ (words : List ℕ). string_bytes c.push_str.new.self ++ escaped words) (c.as_str.ensures.value ∙ c.in_ok-words.ensures)))
