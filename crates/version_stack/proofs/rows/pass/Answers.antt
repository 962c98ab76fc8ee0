use Rattle.std.proofs.Common.{◌≡◌, ◌-◌, ◌<◌, false, true, get_or, set, sym, ap, ◌∙◌, subst, arith}
use Rattle.std.specs.List.{position}
use Rattle.action_names.specs.Names.{Name, same_name}
use Rattle.version_stack.proofs.Handing.{IsPassed, are_others, unpassed, raised_at, renamed_at}
use Rattle.version_stack.proofs.rows.pass.Goals as goal
use Rattle.version_stack.proofs.rows.pass.Goals.{else-at-gt0-via-then-at-gt0+else-eq, else-at-gt0-via-else-at-gt0}

pub returns-in_default-clause-passed : goal.returns-in_default-clause-passed
returns-in_default-clause-passed c =
    let ns = c.args.owners.now.items in
    let a = c.args.owner.now in
    sym (unpassed ns c.args.ends.now.items a c.args.to
    (are_others ns a (ap (position (λ b. same_name b a)) (sym c.deref.ensures.value) ∙ sym c.in_default.ensures)))

pub returns-then-eq : goal.returns-then-eq
returns-then-eq c =
    let ns = c.args.owners.now.items in
    let es = c.args.ends.now.items in
    let a = c.args.owner.now in
    let p = c.args.to in
    let at = c.in-Some.at in
    let lower = c.index.result.now in
    let next : same_name (get_or ns (at - 1) lower) p ≡ true =
    subst (λ (x : Name). same_name x p ≡ true) c.index.ensures (sym c.eq.ensures ∙ c.if-eq.true) in
    let is = raised_at ns es a p lower at c.requires.paired c.requires.rising
    (ap (position (λ b. same_name b a)) (sym c.deref.ensures.value) ∙ sym c.in-Some.ensures) (omega arith) next in
    record {
      paired = rw (c.remove.ensures.items, c.remove-then-eq-3.ensures.items) is.paired;
      rising = rw c.remove.ensures.items is.rising;
      ends = λ s n h. rw c.remove-then-eq-3.ensures.items (is.ends s n h);
      passed = rw (c.remove.ensures.items, c.remove-then-eq-3.ensures.items) is.passes;
    }

pub returns : goal.returns
returns c =
    let ns = c.args.owners.now.items in
    let es = c.args.ends.now.items in
    let a = c.args.owner.now in
    let p = c.args.to in
    let with = λ (d : Name) (other : 0 < c.in-Some.at → same_name (get_or ns (c.in-Some.at - 1) d) p ≡ false).
    renamed_at ns es a p d c.in-Some.at c.requires.paired c.requires.rising
    (ap (position (λ b. same_name b a)) (sym c.deref.ensures.value) ∙ sym c.in-Some.ensures) other c.requires.ancestor c.requires.between in
    let is : IsPassed ns (set ns c.in-Some.at p) es es a p = elim c.else-at-gt0.branch [
      | else-at-gt0-via-then-at-gt0+else-eq w ↦ with w.index.result.now
          (λ h. subst (λ (x : Name). same_name x p ≡ false) w.index.ensures (sym w.eq.ensures ∙ w.if-eq.false))
      | else-at-gt0-via-else-at-gt0 w ↦ with a (λ h. absurd (omega (arith, w.if-at-gt0.false)))
    ] in
    record { paired = is.paired; rising = is.rising; ends = is.ends; passed = is.passes }
