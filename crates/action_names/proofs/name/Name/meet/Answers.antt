use Rattle.std.proofs.Common.{ℕ, ◌==◌, ◌∙◌, rules}
use borrow.Author.Tests.{tests}
use Rattle.std.specs.List.{zip}
use Rattle.std.proofs.lemmas.Iterator.{YieldsList-from_slice, YieldsList-from_zip}
use Rattle.std.proofs.lemmas.Iterator.Consumers.{YieldsList-at, count_from_yields_List}
use Rattle.std.proofs.lemmas.Iterator.Search.{YieldsList-from_take_while}
use Rattle.std.proofs.lemmas.List.Folds.{length-prefix_len}
use Rattle.action_names.proofs.Paths.{meet_of-zip}
use Rattle.action_names.proofs.name.Name.meet.Goals as goal

pub returns : goal.returns
returns c =
    let a = c.self.inside.parts in
    let b = c.other.inside.parts in
    let same = λ (p : ℕ × ℕ). p.0 == p.1 in
    let counted =
    count_from_yields_List c.take_while.result c.count.result c.count.ensures.ran
    (YieldsList-from_take_while _ same
    (YieldsList-at c.take_while.ensures.source (YieldsList-from_zip (YieldsList-from_slice a (cc)) (YieldsList-from_slice b (cc))))
    c.take_while.ensures.closure c.take_while.ensures.done (λ x r q k. search (rules, tests)))
    ∙ length-prefix_len same (zip a b) ∙ meet_of-zip a b in
    cc
