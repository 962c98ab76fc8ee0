use Rattle.std.proofs.Common.{ℕ, List, ◌++◌, string_bytes, sym, ap, ◌∙◌}
use Rattle.std.proofs.lemmas.Iterator.{YieldsList-from_chars}
use Rattle.std.proofs.lemmas.Iterator.Consumers.{YieldsList-end}
use Rattle.picture.specs.Escaping.{escaped_chars}
use Rattle.picture.proofs.Joining.{map_same, one_escaped}
use Rattle.picture.proofs.escape.append_escaped.Goals as goal

pub loop-c-preserved : goal.loop-c-preserved
loop-c-preserved c =
    one_escaped (string_bytes c.args.document.now) (string_bytes c.loop-c.document) (string_bytes c.append_char.new.document) c.loop-c.yielded c.in-Some.c
    c.loop-c.invariant c.in_ok-append_char.ensures

pub returns : goal.returns
returns c =
    let t = YieldsList-end (YieldsList-from_chars c.args.text.now c.utf8.text cc) c.loop-c.yielded _ c.loop-c.yielded_by _ _ c.in-None.is c.next.ensures.steps in
    c.loop-c.invariant
    ∙ ap (λ (cs : List ℕ). string_bytes c.args.document.now ++ escaped_chars cs) (sym (map_same c.loop-c.yielded) ∙ t.0)
