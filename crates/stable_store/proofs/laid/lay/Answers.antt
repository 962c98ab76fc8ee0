use Rattle.std.proofs.Common.{◌≡◌, ◌≤◌, ◌+◌, IsSome, length, vec_len, vec_capacity, arith, sym, ap, subst, ◌∙◌}
use Rattle.std.specs.FinMap as map
use Rattle.std.specs.Map.Iter.{deref_pair}
use Rattle.std.proofs.lemmas.Map.Iter.{rest_more}
use Rattle.stable_store.specs.Stored.{laid, put_over}
use Rattle.stable_store.specs.Held.{parts_in}
use Rattle.stable_store.specs.Undone.{restored, undone, CanUndo}
use Rattle.stable_store.proofs.Maps.{found_inserted}
use Rattle.stable_store.proofs.WayBack.{restored_laid, undone_last, CanUndo-push}
use Rattle.stable_store.proofs.laid.lay.Goals as goal

pub loop-object-preserved : goal.loop-object-preserved
loop-object-preserved c =
    let base = parts_in c.loop-object.base in
    let now = parts_in c.lay_one.new.base in
    let object = c.in-Some.field-0-0.now in
    let replaced = c.loop-object.replaced.items in
    let pushed = c.push_reserved.ensures.items in
    let taken = rest_more deref_pair _ _ _ (c.in-Some.field-0-0, c.in-Some.part) c.in-Some.is c.next.ensures.steps in
    let room : vec_len c.push_reserved.new.self + length c.next.new.self ≤ vec_capacity c.push_reserved.new.self =
    omega (arith, c.push_reserved.ensures.len, c.push_reserved.ensures.capacity, ap length taken, c.loop-object.invariant.3) in
    let is_laid : now ≡ put_over object c.in-Some.part.now base = c.in-Ok.ensures.ok in
    let undone_is : restored object c.in-Ok.before now ≡ base =
    ap (restored object c.in-Ok.before) is_laid ∙ restored_laid base _ _ _ c.in-Ok.ensures.before in
    let here : IsSome (map.get now object) =
    subst (λ m. IsSome (map.get m object)) (sym is_laid) (found_inserted base _ _) in
    let can = CanUndo-push replaced _ _ now (subst (CanUndo replaced) (sym undone_is) c.loop-object.invariant.2) here in (
      ap (laid c.next.new.self) is_laid ∙ ap (λ it. laid it base) (sym taken) ∙ c.loop-object.invariant.0,
      ap (λ rs. undone rs now) pushed ∙ undone_last replaced _ _ now ∙ ap (undone replaced) undone_is ∙ c.loop-object.invariant.1,
      subst (λ rs. CanUndo rs now) (sym pushed) can,
      room,
    )
