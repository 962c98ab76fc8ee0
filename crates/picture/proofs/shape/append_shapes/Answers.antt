use Rattle.std.proofs.Common.{string_bytes, arith}
use Rattle.picture.proofs.Joining.{one_shaped}
use Rattle.picture.proofs.shape.append_shapes.Goals as goal

pub loop-shape-preserved : goal.loop-shape-preserved
loop-shape-preserved c =
    one_shaped c.args.shapes.now c.loop-shape.shape-index c.shape-item.result (string_bytes c.args.text.now) (string_bytes c.loop-shape.text)
    (string_bytes c.append_shape.new.text) (omega arith) c.shape-item.is c.loop-shape.invariant c.in_ok-append_shape.ensures
