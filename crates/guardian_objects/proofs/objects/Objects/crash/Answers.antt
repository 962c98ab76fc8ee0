use Rattle.std.proofs.Common.{ap, drop, length, refl, subst, sym, take, ◌&&◌, ◌++◌, ◌∙◌, ◌≡◌}
use Rattle.guardian_index.specs.Held.{has_object}
use Rattle.guardian_objects.specs.Crashes.{HaveCrashed}
use Rattle.guardian_objects.specs.Objects.{holds_at}
use Rattle.guardian_objects.proofs.Crashed.{Crashes, all_written, crashed_stands}
use Rattle.guardian_objects.proofs.Places.{by_view}
use Rattle.guardian_objects.proofs.objects.Objects.crash.Goals as goal

pub returns-clause-crashed : goal.returns-clause-crashed
returns-clause-crashed g c =
    let stays = g.S.Survivors.stays c.args.survivors.now in
    let old = c.self.inside in
    let items = c.crash_held.new.objects in
    let written : take old.objects.len (items ++ drop (length items) old.objects.items) ≡ items =
    all_written old.objects.len old.objects.items items old.objects.ok.0 (c.crash_held.ensures.count ∙ ap length c.deref_mut.ensures.value) in
    subst (λ l. Crashes stays c.args.self.now (record { guardian = old.guardian; objects = l; held = c.retain.new.self.rows; renames = c.retain.new.self.renames })) (sym written)
    (by_view (λ o n. Crashes stays o n) (record { guardian = old.guardian; objects = items; held = c.retain.new.self.rows; renames = c.retain.new.self.renames })
    (record { guardian = old.guardian; objects = old.objects.items; held = old.held.rows; renames = old.held.renames }) c.args.self.now c.self.view_is
    (crashed_stands stays c.requires.tops (record { guardian = old.guardian; objects = old.objects.items; held = old.held.rows; renames = old.held.renames })
    (record { guardian = old.guardian; objects = items; held = c.retain.new.self.rows; renames = c.retain.new.self.renames }) refl
    (subst (λ l. HaveCrashed stays old.held.rows l items) c.deref_mut.ensures.value c.crash_held.ensures)
    (λ b n. c.retain.ensures b n ∙ ap (λ os. has_object old.held.rows b n && holds_at os b n) (c.deref.ensures.value ∙ written))))

pub returns-clause-count : goal.returns-clause-count
returns-clause-count g c =
    let old = c.self.inside.objects in
    let items = c.crash_held.new.objects in
    let count : length items ≡ length old.items = c.crash_held.ensures.count ∙ ap length c.deref_mut.ensures.value in
    ap length (all_written old.len old.items items old.ok.0 count) ∙ count ∙ ap (λ o. length o.objects) c.self.view_is
