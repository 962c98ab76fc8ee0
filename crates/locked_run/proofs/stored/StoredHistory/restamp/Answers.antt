use Rattle.std.proofs.Common.{ap, arith, length, refl, reverse, vec_len, ◌-◌, ◌<◌, ◌∙◌, ◌≡◌}
use Rattle.std.proofs.Math.ListN.{set}
use Rattle.std.proofs.lemmas.Bool.{false≢true}
use Rattle.locked_run.specs.Stored.{with_stamps}
use Rattle.locked_run.proofs.Stamps.{nothing_restamped, restamped_is}
use Rattle.locked_run.proofs.stored.StoredHistory.restamp.Goals as goal
use Rattle.locked_run.proofs.stored.StoredHistory.restamp.Goals.{in-Some, in_default}

pub returns : goal.returns
returns c =
    let h = c.self.inside in
    let ok = h.stamps.ok in
    elim c.match-last_mut.branch [
      | in-Some w ↦
          let count : vec_len h.stamps ≡ length h.stamps.items = omega arith in
          let more = w.in-Some.ensures.variant.0 refl in
          let some : 0 < length h.stamps.items = omega arith in
          ap (λ i. with_stamps (reverse i.stamps.items) i.events) w.self-inside-is
          ∙ ap (λ n. with_stamps (reverse (set h.stamps.items (n - 1) c.args.stamp)) h.events) count
          ∙ restamped_is h.stamps.items h.events c.self.invariant c.self.view_is c.args.stamp some
      | in_default w ↦
          let no : ¬ (0 < length h.stamps.items) = λ some. false≢true (w.in_default.ensures.variant.1 (omega arith)) in
          let none : length h.stamps.items ≡ 0 = omega arith in
          ap (λ i. with_stamps (reverse i.stamps.items) i.events) w.self-inside-is
          ∙ nothing_restamped h.stamps.items h.events c.self.invariant c.self.view_is c.args.stamp none
    ]
