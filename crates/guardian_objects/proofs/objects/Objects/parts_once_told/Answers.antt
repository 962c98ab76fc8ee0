use Rattle.std.proofs.Common.{[], ap, arith, refl, subst, sym, true, ℕ, ◌++◌, ◌∙◌, ◌≡◌, ◌↔◌}
use Rattle.std.proofs.lemmas.List.{append-nil, nil_from_length}
use Rattle.std.specs.Map.{keys_of}
use Rattle.guardian_index.specs.Held.{HoldsBelow, IsRising, has_number}
use Rattle.guardian_objects.specs.Objects.{object_of}
use Rattle.guardian_objects.proofs.Parted.{no_parts, parts_all, parts_more, parts_rise}
use Rattle.guardian_objects.proofs.objects.Objects.parts_once_told.Goals as goal

pub loop-number-init : goal.loop-number-init
loop-number-init c = record {
  rising = subst (λ l. IsRising l)
      (sym (append-nil c.in_ok-numbers.numbers.items) ∙ ap (λ es. c.in_ok-numbers.numbers.items ++ keys_of es) (sym c.new-parts.ensures.empty)) c.in_ok-numbers.ensures.rising;
  partly = no_parts c.args.self.now c.args.top.now c.args.outcomes.now c.in_ok-numbers.numbers.items c.new-parts.result.entries c.new-parts.ensures.empty;
}

pub loop-number-preserved : goal.loop-number-preserved
loop-number-preserved c =
    let o = c.args.self.now in
    let n = c.in-Some.number in
    record {
      rising = parts_rise c.pop.new.self.items c.loop-number.numbers.items n c.in_ok-part_once_told_at.field-0 c.loop-number.parts.entries c.put.new.parts.entries
          c.in-Some.ensures.items c.loop-number.invariant.rising c.in_ok-put.ensures;
      partly = parts_more o c.args.top.now c.args.outcomes.now c.in_ok-numbers.numbers.items c.pop.new.self.items c.loop-number.numbers.items n
          c.in_ok-part_once_told_at.field-0 c.loop-number.parts.entries c.put.new.parts.entries c.in-Some.ensures.items c.loop-number.invariant.rising c.in_ok-put.ensures
          (subst (λ o. (m : ℕ) → (has_number c.in_ok-numbers.numbers.items m ≡ true) ↔ HoldsBelow o.held c.args.top.now m) c.self.view_is c.in_ok-numbers.ensures.objects)
          (λ opening here e told there.
          c.in_ok-part_once_told_at.ensures opening here e told.are told.highest told.untold told.same told.tells told.below (told.tree (object_of o n) refl) there)
          c.loop-number.invariant.partly;
    }

pub returns : goal.returns
returns c = λ opening here e are top untold same tells below tree.
    let none : c.loop-number.numbers.items ≡ [] = nil_from_length c.loop-number.numbers.items (omega (arith, c.loop-number.numbers.ok.0, c.in_default.ensures.cases)) in
    parts_all c.args.self.now c.args.top.now c.args.outcomes.now c.in_ok-numbers.numbers.items c.loop-number.numbers.items c.loop-number.parts.entries none
    c.in_ok-numbers.ensures.rising (subst (λ o. (m : ℕ) → (has_number c.in_ok-numbers.numbers.items m ≡ true) ↔ HoldsBelow o.held c.args.top.now m) c.self.view_is c.in_ok-numbers.ensures.objects) c.loop-number.invariant.partly opening here e
    (record { are = are; highest = top; untold = untold; same = same; tells = tells; below = below; tree = tree })
