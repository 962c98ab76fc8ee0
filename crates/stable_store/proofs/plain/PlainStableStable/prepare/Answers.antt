use Rattle.std.proofs.Common.{◌≡◌, ◌+◌, max, ap, ◌∙◌}
use Rattle.stable_store.specs.Held.{held, record_of}
use Rattle.stable_store.proofs.Maps.{given_seen}
use Rattle.stable_store.proofs.Made.{made}
use Rattle.stable_store.proofs.plain.PlainStableStable.prepare.Goals as goal

pub returns-clause-makes : goal.returns-clause-makes
returns-clause-makes c =
    let s = held c.args.self.now.kept in
    let prepared = given_seen record_of _ _ c.args.top _ c.in_ok-insert.ensures.updates.0 in
    let next_top : c.max-self.result ≡ max s.next_top (c.args.top + 1) =
    c.max-self.ensures ∙ ap (λ t. max s.next_top (t + 1)) c.from.ensures in
    made tt _ _ _ _ _ (λ i. record s { prepared = prepared i; next_top = next_top i })
