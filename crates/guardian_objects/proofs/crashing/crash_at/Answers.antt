use Rattle.std.proofs.Common.{arith, subst, suc, sym, ◌≡◌}
use Rattle.guardian_objects.specs.Crashes.{HasCrashed}
use Rattle.guardian_objects.proofs.Places.{changed_nowhere, changed_one, object_read, object_within}
use Rattle.guardian_objects.proofs.crashing.crash_at.Goals as goal

pub returns-then-place-objects : goal.returns-then-place-objects
returns-then-place-objects g c =
    let stays = g.S.Survivors.stays c.args.survivors.now in
    let objects = c.args.objects.now in
    let place = c.in-Some.place in
    let object = c.index-objects-place in
    let number : c.args.number ≡ suc place = omega (arith, c.in-Some.ensures) in
    changed_one (HasCrashed stays) objects c.args.number place object.result c.crash.new.self number (omega (arith, c.if-place-objects.true))
    (object_read objects c.args.number place object.result number (omega (arith, c.if-place-objects.true)) object.is)
    (subst (λ z. HasCrashed stays z c.crash.new.self) (sym object.is) c.crash.ensures.shows)

pub returns-else-place-objects : goal.returns-else-place-objects
returns-else-place-objects g c =
    changed_nowhere (HasCrashed (g.S.Survivors.stays c.args.survivors.now)) c.args.objects.now c.args.number
    (λ k there. let w = object_within c.args.objects.now c.args.number k there in omega (arith, w.0, w.1, c.in-Some.ensures, c.if-place-objects.false))
