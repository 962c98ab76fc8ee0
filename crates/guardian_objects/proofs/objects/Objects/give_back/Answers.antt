use Rattle.std.proofs.Common.{Some, ap, arith, length, refl, subst, sym, take, ℕ, ◌∙◌, ◌≡◌}
use Rattle.std.proofs.lemmas.List.{take_all}
use Rattle.std.proofs.lemmas.Option.{slice_get_read}
use Rattle.std.proofs.Math.Numerals.{add-one}
use Rattle.std.specs.Prelude.{slice_get}
use Rattle.guardian_objects.specs.Restored.{HaveBack}
use Rattle.guardian_objects.proofs.GivenBack.{all_given, given_so_far, have_more, may_take_at}
use Rattle.guardian_objects.proofs.objects.Objects.give_back.Goals.{In_ok-copy}
use Rattle.guardian_objects.proofs.objects.Objects.give_back.Goals as goal

-- the part that is given back, in a copy
is_part : (c : In_ok-copy) → slice_get c.args.parts.now c.loop-number.number-index ≡ Some (c.loop-number-item.result.0, c.in_ok-copy.field-0)
is_part c =
    slice_get_read c.args.parts.now (length c.args.parts.now) c.loop-number.number-index c.loop-number-item.result refl (omega (arith, c.loop-number-test.true))
    c.loop-number-item.is
    ∙ ap (λ p. Some (c.loop-number-item.result.0, p)) (sym c.in_ok-copy.ensures)

pub loop-number-init : goal.loop-number-init
loop-number-init c = record { guardian = refl; given = λ opening records home have may. have }

pub give_back_at-requires : goal.give_back_at-requires
give_back_at-requires c =
    let may = c.requires in
    may_take_at may.0 may.1 may.2 c.args.holder.now c.args.parts.now c.args.self.now.guardian c.loop-number.number-index
    (c.loop-number-item.result.0, c.in_ok-copy.field-0) may.4 (is_part c) c.loop-number.self c.loop-number.invariant.guardian
    (c.loop-number.invariant.given may.0 may.1 may.2 may.3 may.4)

pub loop-number-preserved : goal.loop-number-preserved
loop-number-preserved c = record {
  guardian = c.give_back_at.ensures.guardian ∙ c.loop-number.invariant.guardian;
  given = λ opening records home have may.
      let so_far : ℕ → Type 0 = λ i. HaveBack opening (λ n. given_so_far c.args.self.now.guardian c.args.holder.now (take i c.args.parts.now) records n) c.give_back_at.new.self in
      subst so_far (sym (add-one c.loop-number.number-index))
      (have_more opening records home c.args.holder.now c.args.parts.now c.args.self.now.guardian c.loop-number.number-index
      (c.loop-number-item.result.0, c.in_ok-copy.field-0) may (is_part (goal.at.loop-number-preserved c).In_ok-copy) c.loop-number.self c.loop-number.invariant.guardian
      (c.loop-number.invariant.given opening records home have may) c.give_back_at.new.self c.give_back_at.ensures.guardian c.in_ok-give_back_at.ensures.objects
      c.in_ok-give_back_at.ensures.held);
}

pub returns-clause-given : goal.returns-clause-given
returns-clause-given c = λ opening records home have may.
    all_given opening records home c.args.holder.now c.args.parts.now c.args.self.now.guardian c.loop-number.number-index c.loop-number.self
    c.loop-number.invariant.guardian
    (take_all c.loop-number.number-index c.args.parts.now (omega (arith, c.loop-number-test.false)))
    (c.loop-number.invariant.given opening records home have may)
