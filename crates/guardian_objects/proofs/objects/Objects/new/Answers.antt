use Rattle.std.proofs.Common.{[], ap, arith, false, length, subst, sym, ℕ, ◌+◌, ◌∙◌, ◌≡◌}
use Rattle.std.proofs.lemmas.List.{length_push}
use Rattle.run_model.specs.Openings.{first_content, objects_at, opening_in}
use Rattle.object_laws.specs.Changes.{given}
use Rattle.object_laws.specs.Shown.{Shows}
use Rattle.object_model.specs.Objects.{untouched}
use Rattle.atomic_object.specs.Kept.{seen}
use Rattle.guardian_objects.specs.Objects.{AreObjects}
use Rattle.guardian_objects.specs.Restored.{AreGivenBack}
use Rattle.guardian_objects.proofs.Begun.{AreUntouched, HaveBegun, begun_stands, none_there, one_more}
use Rattle.guardian_objects.proofs.GivenBack.{nothing_given}
use Rattle.guardian_objects.proofs.objects.Objects.new.Goals as goal

pub loop-place-init : goal.loop-place-init
loop-place-init c = record {
  count = ap (λ l. length l) c.in_ok-objects.ensures.items;
  begun = subst (λ l. HaveBegun (opening_in c.args.opening.now) c.args.guardian l) (sym c.in_ok-objects.ensures.items)
      (none_there (λ n k. Shows (first_content (opening_in c.args.opening.now) (record { guardian = c.args.guardian; number = n })) (given (λ b. false) []) (seen k)));
  untouched = subst (λ l. AreUntouched (opening_in c.args.opening.now) c.args.guardian l) (sym c.in_ok-objects.ensures.items)
      (none_there (λ n k. seen k ≡ untouched (first_content (opening_in c.args.opening.now) (record { guardian = c.args.guardian; number = n }))));
}

pub loop-place-preserved : goal.loop-place-preserved
loop-place-preserved c =
    let os = c.loop-place.objects.items in
    let content = λ (n : ℕ). first_content (opening_in c.args.opening.now) (record { guardian = c.args.guardian; number = n }) in
    record {
      count = ap (λ l. length l) c.in_ok-push.ensures.items ∙ length_push os c.new-object.result ∙ ap (λ n. n + 1) c.loop-place.invariant.count;
      begun = one_more (λ n k. Shows (content n) (given (λ b. false) []) (seen k)) os c.push.new.self.items c.new-object.result (c.loop-place.place + 1)
          c.in_ok-push.ensures.items (omega (arith, c.loop-place.invariant.count))
          (subst (λ b. Shows b (given (λ a. false) []) (seen c.new-object.result)) c.in_ok-content.ensures (c.new-object.ensures.shows (λ a. false))) c.loop-place.invariant.begun;
      untouched = one_more (λ n k. seen k ≡ untouched (content n)) os c.push.new.self.items c.new-object.result (c.loop-place.place + 1) c.in_ok-push.ensures.items
          (omega (arith, c.loop-place.invariant.count)) (c.new-object.ensures.untouched ∙ ap untouched c.in_ok-content.ensures) c.loop-place.invariant.untouched;
    }

pub returns-clause-objects : goal.returns-clause-objects
returns-clause-objects c =
    let opening = opening_in c.args.opening.now in
    let os = c.loop-place.objects.items in
    subst (λ h. AreObjects opening [] (record { guardian = c.args.guardian; objects = os; held = h; renames = c.new-held.result.renames })) (sym c.new-held.ensures)
    (begun_stands opening c.args.guardian os c.requires
    (let e : length os ≡ length c.objects-count.result.now = omega (arith, c.loop-place.invariant.count, c.loop-place-test.false, c.loop-place.auto.place-end) in
    e ∙ ap (λ l. length l) (c.objects-count.ensures.found c.requires ∙ ap (λ s. objects_at s c.args.guardian) c.setup.ensures))
    c.loop-place.invariant.begun)

pub returns-clause-given : goal.returns-clause-given
returns-clause-given c =
    let opening = opening_in c.args.opening.now in
    let os = c.loop-place.objects.items in
    subst (λ h. AreGivenBack opening [] (record { guardian = c.args.guardian; objects = os; held = h; renames = c.new-held.result.renames })) (sym c.new-held.ensures)
    (nothing_given opening c.args.guardian os c.requires
    (let e : length os ≡ length c.objects-count.result.now = omega (arith, c.loop-place.invariant.count, c.loop-place-test.false, c.loop-place.auto.place-end) in
    e ∙ ap (λ l. length l) (c.objects-count.ensures.found c.requires ∙ ap (λ s. objects_at s c.args.guardian) c.setup.ensures))
    c.loop-place.invariant.untouched)

pub first_content-requires-clause-there : goal.first_content-requires-clause-there
first_content-requires-clause-there c =
    let e : length c.objects-count.result.now ≡ length (objects_at c.args.opening.now.setup c.args.guardian) =
    ap (λ l. length l) (c.objects-count.ensures.found c.requires ∙ ap (λ s. objects_at s c.args.guardian) c.setup.ensures) in
    omega (arith, e, c.loop-place-test.true)
