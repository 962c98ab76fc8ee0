use Rattle.std.proofs.Common.{◌≡◌, ◌∙◌, Some, subst, sym}
use Rattle.values.specs.Tags.{tag_kind}
use Rattle.script_parts.proofs.Asked.{need_some}
use Rattle.script_parts.proofs.Named.{found_named}
use Rattle.script_parts.proofs.contents.variant_in.Goals as goal

pub identifier-requires : goal.identifier-requires
identifier-requires c =
    let found : tag_kind c.deref.result.now c.in_ok-name.name.now ≡ Some c.in_ok-kind.kind =
    sym c.kind_under.ensures ∙ need_some c.kind_under.result _ _ _ c.in_ok-kind.ensures in
    found_named c.in_ok-tags.tags.items c.in_ok-name.name.now c.in_ok-kind.kind c.in_ok-tags.ensures.named
    (subst (λ ts. tag_kind ts c.in_ok-name.name.now ≡ Some c.in_ok-kind.kind) c.deref.ensures.value found)
