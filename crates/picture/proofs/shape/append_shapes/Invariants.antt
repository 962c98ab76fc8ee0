use Rattle.std.proofs.Common.{◌≡◌, ◌++◌, string_bytes, take}
use Rattle.picture.specs.Shapes.{shapes_text}
use Rattle.picture.proofs.shape.append_shapes.Given as goal

-- the shapes so far were appended
abbrev pub invariant-loop-shape : goal.invariant-loop-shape
invariant-loop-shape l = string_bytes l.text ≡ string_bytes l.fn.text ++ shapes_text (take l.shape-index l.shapes)
