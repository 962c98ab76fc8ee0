use Rattle.std.proofs.Common.{◌≡◌, ◌<◌, ◌∷◌, [], ℕ, List, Some, length, length-append, sym, ap, ◌∙◌, subst, arith}
use Rattle.std.specs.List.{slice_get}
use Rattle.serde_json.specs.View.{items_view}
use Rattle.serde_json.proofs.Views.{items_len-items_view}
use Rattle.script_model.specs.Signatures.{handlers_before}
use Rattle.script.proofs.Numbered.{handlers_before-next, handlers_before-most, each-push}
use Rattle.script.proofs.signatures.Handlers.new.Goals as goal

pub overflow_add-count : goal.overflow_add-count
overflow_add-count c =
    let most = handlers_before-most c.loop-guardian.guardian-index (items_view c.args.guardians.now) in
    omega arith

pub loop-guardian-preserved : goal.loop-guardian-preserved
loop-guardian-preserved c =
    let l = c.loop-guardian in
    let gs = c.args.guardians.now in
    let pushed = c.in_ok-push.ensures.items in
    let next = handlers_before-next gs l.guardian-index c.guardian-item.result (omega arith) c.guardian-item.is in
    let last : l.count ≡ handlers_before (length l.before.items) (items_view gs) = l.invariant.count ∙ ap (λ n. handlers_before n (items_view gs)) (sym l.invariant.for_each) in
    record {
      for_each = omega (arith, ap length pushed, length-append l.before.items (l.count ∷ []));
      count = omega (arith, next);
      counts = subst (λ (bs : List ℕ). (n : ℕ) → n < length bs → slice_get bs n ≡ Some (handlers_before n (items_view gs))) (sym pushed)
          (each-push l.before.items l.count (λ n. handlers_before n (items_view gs)) last l.invariant.counts);
    }

pub invariant_of-result : goal.invariant_of-result
invariant_of-result c =
    let each = items_len-items_view c.args.guardians.now in
    record { few = omega arith; for_each = omega arith; counts = c.loop-guardian.invariant.counts }
