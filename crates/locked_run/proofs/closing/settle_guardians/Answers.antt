use Rattle.std.proofs.Common.{ap, length, rules, subst, sym, [], ◌++◌, ◌+◌, ◌∙◌, ◌∷◌, ◌≡◌}
use Rattle.std.specs.List.{AllZip}
use Rattle.std.proofs.lemmas.List.{length-append}
use Rattle.locked_run.specs.Settling.{IsSettled}
use Rattle.locked_run.proofs.Joined.{joined_more, zip_push}
use Rattle.locked_run.proofs.closing.settle_guardians.Goals as goal

pub loop-held-preserved : goal.loop-held-preserved
loop-held-preserved g c =
    let xs = c.loop-held.yielded in
    let x = c.in-Some.held in
    let was = c.loop-held.invariant in
    let longer : length (xs ++ x ∷ []) ≡ length xs + 1 = length-append xs (x ∷ []) in
    let R = IsSettled g.G.Guardian.stands g.G.Guardian.stored g.K.OfRun.opening in
    record {
      can_next = search rules;
      is_finite = search rules;
      table = c.settle_one.ensures.table;
      parts = joined_more xs x _ _ _ was.parts c.settle_one.ensures.part;
      each =
          subst (λ l. AllZip R (xs ++ x ∷ []) l) (sym c.push_reserved.ensures.items)
          (zip_push R xs c.loop-held.ended.items x c.settle_one.result was.each c.settle_one.ensures.settled);
      count = ap length c.push_reserved.ensures.items ∙ length-append c.loop-held.ended.items (c.settle_one.result ∷ []) ∙ ap (λ n. n + 1) was.count ∙ sym longer;
      room = search rules;
    }
