use Rattle.std.proofs.Common.{sym, ◌∙◌}
use Rattle.std.proofs.lemmas.Bool.{false≢true}
use Rattle.orphans.proofs.Histories.{learnt_event, learnt_nothing, learnt_uncounted}
use Rattle.orphans.proofs.lists.Lists.learn.Goals as goal

pub returns-then-is_empty-clause-lists : goal.returns-then-is_empty-clause-lists
returns-then-is_empty-clause-lists c = λ here e are stays is.
    learnt_nothing c.args.self.now c.args.lesson.now (c.is_empty.ensures.0 c.if-is_empty.true) here e are stays is

pub learn-requires : goal.learn-requires
learn-requires c = (c.requires (λ none. false≢true (sym c.if-is_empty.false ∙ c.is_empty.ensures.1 none))).log

pub learn-requires-2 : goal.learn-requires-2
learn-requires-2 c = (c.requires (λ none. false≢true (sym c.if-is_empty.false ∙ c.is_empty.ensures.1 none))).counts

pub count-requires : goal.count-requires
count-requires c = (c.requires (λ none. false≢true (sym c.if-is_empty.false ∙ c.is_empty.ensures.1 none))).place

pub returns-then-lesson-eq0-2-clause-lists : goal.returns-then-lesson-eq0-2-clause-lists
returns-then-lesson-eq0-2-clause-lists c = λ here e are stays is.
    learnt_uncounted c.args.self.now _ _ c.args.lesson.now c.learn.ensures c.learn-2.ensures c.if-lesson-eq0.true c.if-lesson-eq0-2.true here e are stays is

pub returns-clause-lists : goal.returns-clause-lists
returns-clause-lists c = λ here e are stays is.
    learnt_event c.args.self.now _ _ _ c.args.lesson.now c.learn.ensures c.learn-2.ensures c.count.ensures here e are stays is
