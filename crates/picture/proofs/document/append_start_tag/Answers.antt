use Rattle.std.proofs.Common.{codes, string_bytes}
use Rattle.picture.specs.Documents.{size_text}
use Rattle.picture.proofs.Joining.{four_pieces, last_piece}
use Rattle.picture.proofs.document.append_start_tag.Goals as goal

pub returns : goal.returns
returns c =
    last_piece c.push_str-2.result (string_bytes c.append_size-2.new.text) (string_bytes c.push_str-2.new.self) (codes ">\n") _ c.push_str-2.ensures.bytes
    (four_pieces (string_bytes c.args.text.now) (string_bytes c.push_str.new.self) (string_bytes c.append_size.new.text) (string_bytes c.append_size-2.new.text)
    (codes "<svg xmlns=\"http://www.w3.org/2000/svg\"") (size_text (codes " width=\"") c.args.width) (size_text (codes " height=\"") c.args.height) (codes ">\n")
    c.in_ok-push_str.ensures.bytes c.in_ok-append_size.ensures c.in_ok-append_size-2.ensures)
