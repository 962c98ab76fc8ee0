use Rattle.smallvec.specs.SmallVec.{small_vec_len}
use Rattle.std.proofs.Common.{◌≡◌, ◌+◌, ◌∷◌, length, get_or, drop, ap, ◌∙◌, arith}
use Rattle.std.proofs.lemmas.List.{drop_more}
use Rattle.std.proofs.lemmas.Result.{IfOk-at_ok}
use Rattle.action_names.specs.Deps.{IsRising, with_least, lowered, least_at, count_new}
use Rattle.action_names.proofs.Entries.{rising_drop, merge_step, places_step}
use Rattle.action_names.proofs.deps.merge_in.Goals as goal

-- with no new guardian no room is asked for, and that is always there
pub returns-in_err-reserve-clause-known : goal.returns-in_err-reserve-clause-known
returns-in_err-reserve-clause-known c none =
    let nothing : c.count_new-new.result ≡ 0 =
    c.count_new-new.ensures ∙ ap (λ es. count_new es c.args.others.now) c.as_slice.ensures ∙ none in
    absurd (omega (arith, c.if-capacity-len.true, nothing))

pub loop-at-preserved : goal.loop-at-preserved
loop-at-preserved c =
    let es = c.loop-at.least.items in
    let others = c.args.others.now in
    let at = c.loop-at.at in
    let rest = drop (at + 1) others in
    let e = get_or others at (0, 0) in
    let n = lowered (least_at es e.0) e.1 in
    let after : c.lower_in.new.least.items ≡ with_least es e.0 n = IfOk-at_ok (λ _. c.lower_in.new.least.items ≡ with_least es e.0 n) c.unwrap.ensures c.lower_in.ensures.ok in
    let left : drop at others ≡ e ∷ rest = drop_more others at (0, 0) c.loop-at-test.true in
    let rises : IsRising (e ∷ rest) = rw left at (rising_drop others at c.requires.others) in
    let long : small_vec_len c.lower_in.new.least ≡ length (with_least es e.0 n) = ap length after in
    record {
      rising = c.lower_in.ensures.rising;
      merged = λ g. rw after (merge_step es e rest rises g ∙ rw left at (c.loop-at.invariant.merged g));
      room = omega (arith, places_step es e rest c.loop-at.invariant.rising n, ap (λ xs. count_new xs rest) after, ap (count_new es) left, c.loop-at.invariant.room, c.lower_in.ensures.capacity);
    }
