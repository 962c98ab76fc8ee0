use Rattle.std.proofs.Common.{rules}
use Rattle.std.proofs.lemmas.List.Sorted.{answers_always}
use Rattle.action_names.proofs.Entries.{searched}
use Rattle.action_names.proofs.deps.search.Goals as goal

-- the closure gives an entry's guardian
pub returns : goal.returns
returns c =
    let facts = c.binary_search_by_key.ensures in
    let by_guardian = facts.position (λ e. e.0) (answers_always _ _ _ (λ f a r g called. search rules)) in
    searched c.args.least.now c.requires c.args.guardian _ facts.bound by_guardian
