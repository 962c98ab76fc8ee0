use Rattle.std.proofs.Common.{codes, string_bytes}
use Rattle.picture.specs.declared.style.TheConstants.{STYLE}
use Rattle.picture.specs.Documents.{start_tag, window_element}
use Rattle.picture.specs.Shapes.{shapes_text}
use Rattle.picture.proofs.Joining.{from_nothing}
use Rattle.picture.proofs.document.document.Goals as goal

pub returns : goal.returns
returns c = record {
  width = c.args.sheet.now.width;
  height = c.args.sheet.now.height;
  shapes = c.args.shapes.now;
  is =
      from_nothing (string_bytes c.new-text.result) (string_bytes c.append_start_tag.new.text) (string_bytes c.push_str.new.self)
      (string_bytes c.append_window.new.text) (string_bytes c.append_shapes.new.text) (string_bytes c.push_str-2.new.self)
      (start_tag c.args.sheet.now.width c.args.sheet.now.height) STYLE.now (window_element c.args.layout.now.count c.args.layout.now.span)
      (shapes_text c.args.shapes.now) (codes "</svg>\n") c.new-text.ensures.bytes c.in_ok-append_start_tag.ensures c.in_ok-push_str.ensures.bytes
      c.in_ok-append_window.ensures c.in_ok-append_shapes.ensures c.in_ok-push_str-2.ensures.bytes;
}
