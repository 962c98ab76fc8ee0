use Rattle.std.proofs.Common.{rules}
use Rattle.std.proofs.lemmas.List.Sorted.{answers_always}
use Rattle.action_names.proofs.Entries.{searched}
use Rattle.places.proofs.children.search.Goals as goal

-- the closure gives a child's number
pub returns-in_default : goal.returns-in_default
returns-in_default c =
    let facts = c.binary_search_by_key.ensures in
    let by_number = facts.position (λ e. e.0) (answers_always _ _ _ (λ f a r g called. search rules)) in
    searched c.args.places.now c.requires c.args.number _ facts.bound by_number
