use Rattle.std.proofs.Common.{ap, sym, true≢false, ◌∙◌}
use Rattle.store_recovery.proofs.Nothing.{empty_at, nothing_held}
use Rattle.store_recovery.proofs.beginning.are_empty.Goals as goal

pub returns-then-not-is_empty : goal.returns-then-not-is_empty
returns-then-not-is_empty g c =
    let seen = g.S.Stable.seen in
    let store = c.store-item.result in (
      λ h. absurd (true≢false (sym h)),
      λ all.
          let here = empty_at seen c.args.stores.now c.loop-store.store-index store c.loop-store-test.true all in
          let nothing = nothing_held c.kept_in.result.now (sym c.kept_in.ensures ∙ ap (λ s. (seen s).content) c.store-item.is ∙ here) in
          absurd (true≢false (sym (c.is_empty.ensures.1 nothing) ∙ c.if-not-is_empty.true)),
    )
