use Rattle.std.proofs.Common.{Some, ap, arith, length, refl, rules, subst, sym, take, [], ◌++◌, ◌+◌, ◌∷◌, ◌∙◌, ◌≡◌, slice_get}
use Rattle.std.proofs.lemmas.Iterator.Adapters.{YieldsList-from_vec}
use Rattle.std.proofs.lemmas.Iterator.Consumers.{YieldsList-end, YieldsList-turn}
use Rattle.std.proofs.lemmas.List.{length_push, take_all}
use Rattle.std.proofs.lemmas.Option.{slice_get_read}
use Rattle.client_threads.specs.Clients.{AllDid}
use Rattle.client_threads.proofs.Running.{as_many, did_next}
use Rattle.client_threads.proofs.clients.ends_of.Goals as goal

pub push_reserved-requires : goal.push_reserved-requires
push_reserved-requires g c =
    let all = c.args.done.items in
    let l = c.loop-one in
    let t = YieldsList-turn (YieldsList-from_vec all c.into_iter-one-iterator.ensures.into_iter_gives.0 (c.into_iter-one-iterator.ensures.into_iter_gives.1 ∙ c.args.done.ok.0)) l.yielded _ l.yielded_by _ c.next.new.self c.in-Some.one c.in-Some.is c.next.ensures.steps in
    let full = l.ends.ok.0 in
    omega (arith, t.0, l.invariant.count, l.invariant.room, full)

pub loop-one-preserved : goal.loop-one-preserved
loop-one-preserved g c =
    let all = c.args.done.items in
    let l = c.loop-one in
    let one = c.in-Some.one in
    let t = YieldsList-turn (YieldsList-from_vec all c.into_iter-one-iterator.ensures.into_iter_gives.0 (c.into_iter-one-iterator.ensures.into_iter_gives.1 ∙ c.args.done.ok.0)) l.yielded _ l.yielded_by _ c.next.new.self one c.in-Some.is c.next.ensures.steps in
    let at : slice_get all (length l.yielded) ≡ Some one = slice_get_read all (length all) (length l.yielded) one refl t.0 t.1 in
    let longer : length (l.yielded ++ one ∷ []) ≡ length l.yielded + 1 = length_push l.yielded one in
    record {
      can_next = search rules;
      is_finite = search rules;
      count = ap length c.push_reserved.ensures.items ∙ length_push l.ends.items c.in_ok-end.end ∙ ap (λ n. n + 1) l.invariant.count ∙ sym longer;
      room = search rules;
      did = λ clients are.
          subst (λ n. AllDid (take n clients) c.push_reserved.new.self.items c.join_receipts.new.receipts) (sym longer)
          (subst (λ es. AllDid (take (length l.yielded + 1) clients) es c.join_receipts.new.receipts) (sym c.push_reserved.ensures.items)
          (subst (λ rs. AllDid (take (length l.yielded + 1) clients) (l.ends.items ++ c.in_ok-end.end ∷ []) rs) (sym c.join_receipts.ensures)
          (did_next clients all (length l.yielded) one c.in_ok-end.end l.ends.items l.receipts are at c.in_ok-end.was (l.invariant.did clients are))));
    }

pub returns : goal.returns
returns g c = λ clients are.
    let all = c.args.done.items in
    let l = c.loop-one in
    let e = YieldsList-end (YieldsList-from_vec all c.into_iter-one-iterator.ensures.into_iter_gives.0 (c.into_iter-one-iterator.ensures.into_iter_gives.1 ∙ c.args.done.ok.0)) l.yielded _ l.yielded_by _ c.next.new.self c.in-None.is c.next.ensures.steps in
    let many = as_many clients all are in
    subst (λ cs. AllDid cs l.ends.items l.receipts) (take_all (length l.yielded) clients (omega (arith, e.1, many))) (l.invariant.did clients are)
