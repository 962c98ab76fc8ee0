use Rattle.std.proofs.Common.{rules}
use Rattle.std.proofs.lemmas.List.Sorted.{answers_always}
use Rattle.two_phase.proofs.Places.{searched}
use Rattle.two_phase.proofs.ballot.place.Goals as goal

-- the closure gives a vote's guardian
pub returns : goal.returns
returns c =
    let facts = c.binary_search_by_key.ensures in
    searched c.args.votes.now c.requires c.args.guardian _ facts.bound (facts.position (λ v. v.0) (answers_always _ _ _ (λ f a r g called. search rules)))
