use Rattle.std.proofs.Common.{codes, string_bytes}
use Rattle.picture.specs.Shapes.{attribute_text, start_text}
use Rattle.picture.proofs.Joining.{last_piece, six_pieces}
use Rattle.picture.proofs.shape.append_box.Goals as goal

pub returns : goal.returns
unfolding lib.Utf8.encode
returns c =
    last_piece c.push.result (string_bytes c.append_attribute-4.new.text) (string_bytes c.push.new.self) (codes ">") _ c.push.ensures.bytes
    (six_pieces (string_bytes c.args.text.now) (string_bytes c.append_start.new.text) (string_bytes c.append_attribute.new.text)
    (string_bytes c.append_attribute-2.new.text) (string_bytes c.append_attribute-3.new.text) (string_bytes c.append_attribute-4.new.text)
    (start_text (codes "<rect") c.args.class) (attribute_text (codes "x") c.args.corner.x) (attribute_text (codes "y") c.args.corner.y)
    (attribute_text (codes "width") c.args.width) (attribute_text (codes "height") c.args.height) (codes ">") c.in_ok-append_start.ensures
    c.in_ok-append_attribute.ensures c.in_ok-append_attribute-2.ensures c.in_ok-append_attribute-3.ensures c.in_ok-append_attribute-4.ensures)
