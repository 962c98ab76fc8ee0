use Rattle.std.proofs.Common.{Some, ap, arith, length, refl, rules, sym, true, ◌++◌, ◌+◌, ◌∷◌, [], ◌∙◌, ◌≡◌, slice_get}
use Rattle.std.proofs.lemmas.List.{length_push}
use Rattle.std.proofs.lemmas.Option.{slice_get_read}
use Rattle.action_names.specs.Names.{same_name}
use Rattle.activities.specs.Apart.{ended_name, ended_names}
use Rattle.activities.proofs.Making.{makes_nowhere, makes_through}
use Rattle.client_threads.proofs.Running.{ended_more, learned, named_there, one_of_names}
use Rattle.client_threads.proofs.caller.Caller.take_back.Goals as goal

pub returns-in_err-ended-clause-makes : goal.returns-in_err-ended-clause-makes
returns-in_err-ended-clause-makes g c = makes_nowhere _ _ _

pub push_reserved-requires : goal.push_reserved-requires
push_reserved-requires g c =
    let l = c.loop-name in
    let many = ap length c.as_slice-name-items.ensures in
    let full = l.ended.ok.0 in
    omega (arith, l.invariant.count, l.invariant.room, c.loop-name-test.true, many, full)

pub loop-name-preserved : goal.loop-name-preserved
loop-name-preserved g c =
    let l = c.loop-name in
    let names = c.args.names.now in
    let arm = c.in-Some.arm in
    let name = c.name-item.result in
    let same : same_name (ended_name arm.arm) name ≡ true = ap (λ n. same_name n name) (sym c.name.ensures) ∙ (sym c.eq.ensures ∙ c.if-eq.true) in
    let slice = c.as_slice-name-items.result.now in
    let read : slice_get slice l.name-index ≡ Some name = slice_get_read slice (length slice) l.name-index name refl c.loop-name-test.true c.name-item.is in
    let at : slice_get names l.name-index ≡ Some (ended_name arm.arm) =
    named_there names l.name-index (ended_name arm.arm) name same (ap (λ x. slice_get x l.name-index) (sym c.as_slice-name-items.ensures) ∙ read) in
    record {
      calls = c.learn.ensures.calls ∙ l.invariant.calls;
      makes =
          makes_through names names _ _ _ l.invariant.makes
          (learned l.self.calls.now.opening.now c.learn.new.self.calls.now.opening.now names (ended_name arm.arm) l.self.receipts arm.receipts
          c.learn.new.self.receipts (ap (λ k. k.opening.now) c.learn.ensures.calls) (one_of_names names l.name-index (ended_name arm.arm) at)
          c.learn.ensures.receipts arm.own arm.commits);
      count = ap length c.push_reserved.ensures.items ∙ length_push l.ended.items _ ∙ ap (λ n. n + 1) l.invariant.count;
      room = search rules;
      ended =
          ap ended_names (c.push_reserved.ensures.items ∙ ap (λ x. l.ended.items ++ x ∷ []) c.learn.ensures.arm)
          ∙ ended_more names l.ended.items l.name-index arm.arm l.invariant.ended at;
    }
