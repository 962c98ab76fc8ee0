use Rattle.std.proofs.Common.{ap, sym, ◌∙◌}
use Rattle.guardian_objects.specs.Parts.{with_part}
use Rattle.guardian_objects.proofs.preparing.put.Goals as goal

pub returns-in_default : goal.returns-in_default
returns-in_default c = sym (ap (λ o. with_part c.args.number o c.args.parts.now.entries) c.in_default.is)

pub returns : goal.returns
returns c = c.in_ok-insert.ensures.entries ∙ sym (ap (λ o. with_part c.args.number o c.args.parts.now.entries) c.in-Some.is)
