use Rattle.std.proofs.Common.{ap, ap₂, arith, length, rules, slice_get, sym, Some, [], ◌++◌, ◌+◌, ◌-◌, ◌∙◌, ◌∷◌, ◌≡◌}
use Rattle.std.proofs.lemmas.Iterator.Adapters.{YieldsList-from_vec}
use Rattle.std.proofs.lemmas.Iterator.Consumers.{YieldsList-turn}
use Rattle.std.proofs.lemmas.List.{length-append}
use Rattle.std.proofs.lemmas.Option.{slice_get-get_or}
use Rattle.locked_run.specs.Beginning.{held_first}
use Rattle.locked_run.proofs.Begun.{first_place, held_at, held_more, other_places, seen_first}
use Rattle.locked_run.proofs.beginning.hold.Goals as goal

pub split-others-requires : goal.split-others-requires
split-others-requires g c = c.loop-guardian.invariant.table ∙ sym c.args.shared.now.table

pub new-requires : goal.new-requires
new-requires g c =
    let all = c.args.guardians.items in
    let k = length c.loop-guardian.yielded in
    let t = YieldsList-turn (YieldsList-from_vec all (cc) (cc)) c.loop-guardian.yielded _ c.loop-guardian.yielded_by _ c.next.new.self c.in-Some.guardian c.in-Some.is c.next.ensures.steps in
    let at : slice_get all k ≡ Some c.in-Some.guardian = slice_get-get_or all k c.in-Some.guardian t.0 ∙ ap (λ x. Some x) (sym t.1) in
    held_at (k + 1) (omega arith) (omega (arith, t.0, c.requires.count)) c.new-history.ensures (c.split-others.ensures.of.0 ∙ c.loop-guardian.invariant.table)
    (c.split-others.ensures.first ∙ first_place k (length all) c.loop-guardian.rest.token.me.0 c.loop-guardian.invariant.places t.0)
    (c.requires.each k c.in-Some.guardian at)

pub push_reserved-requires : goal.push_reserved-requires
push_reserved-requires g c =
    let all = c.args.guardians.items in
    let t = YieldsList-turn (YieldsList-from_vec all (cc) (cc)) c.loop-guardian.yielded _ c.loop-guardian.yielded_by _ c.next.new.self c.in-Some.guardian c.in-Some.is c.next.ensures.steps in
    omega (arith, t.0, c.loop-guardian.invariant.count, c.loop-guardian.invariant.room, c.loop-guardian.held.ok)

pub loop-guardian-preserved : goal.loop-guardian-preserved
loop-guardian-preserved g c =
    let all = c.args.guardians.items in
    let xs = c.loop-guardian.yielded in
    let k = length xs in
    let x = c.in-Some.guardian in
    let t = YieldsList-turn (YieldsList-from_vec all (cc) (cc)) xs _ c.loop-guardian.yielded_by _ c.next.new.self x c.in-Some.is c.next.ensures.steps in
    let longer : length (xs ++ x ∷ []) ≡ k + 1 = length-append xs (x ∷ []) in
    let parts = first_place k (length all) c.loop-guardian.rest.token.me.0 c.loop-guardian.invariant.places t.0 in
    let added : c.new.result ≡ held_first (k + 1) x =
    c.new.ensures ∙ seen_first (k + 1) x c.split-others.new.part.token.me.0 (c.split-others.ensures.first ∙ parts) in
    let number : k + 1 ≡ 1 + k = omega arith in
    record {
      can_next = search rules;
      is_finite = search rules;
      table = c.split-others.ensures.of.1 ∙ c.loop-guardian.invariant.table;
      places =
          c.split-others.ensures.others ∙ other_places k (length all) c.loop-guardian.rest.token.me.0 c.loop-guardian.invariant.places t.0
          ∙ ap (λ n. Rattle.one_run.specs.Pieces.places_from (n + 2) (length all - n)) (sym longer);
      held =
          c.push_reserved.ensures.items
          ∙ ap₂ (λ l y. l ++ y ∷ []) c.loop-guardian.invariant.held (added ∙ ap (λ n. held_first n x) number)
          ∙ sym (held_more 1 xs x);
      count = ap length c.push_reserved.ensures.items ∙ length-append c.loop-guardian.held.items (c.new.result ∷ []) ∙ ap (λ n. n + 1) c.loop-guardian.invariant.count ∙ sym longer;
      room = search rules;
    }
