use Rattle.std.proofs.Common.{◌⊎◌, inl, Ok, Err, IsTrue, refl, sym, subst}
use Rattle.sqlite.specs.Held.{state}
use Rattle.stable_store.specs.Held.{held}
use Rattle.stable_store.specs.Numbers.{has_zero}
use Rattle.stable_store.specs.Stored.{after_save}
use Rattle.stable_store.specs.Calls.{Makes, IsRefused}
use Rattle.stable_store.specs.declared.fault.StoreFault.TheVariants.{Failed, NotOurs}
use Rattle.store_writing.specs.Steps.{IsAtRest}
use Rattle.sql_store.specs.Views.{sql_view}
use Rattle.sql_store.proofs.Made.{Shelf, shelf, made_ok, made_err, untouched, excused_more, excused_as}
use Rattle.sql_store.proofs.store.SqlStableStable.save.Goals as goal

pub invariant_of-self-in-Ok : goal.invariant_of-self-in-Ok
invariant_of-self-in-Ok g c known holds clean up =
    subst (IsAtRest (state g.A.Store c.save.new.conn)) (sym c.in-Ok.ensures.changes) ((c.in-Ok.ensures.carries (c.self.invariant known holds)).ok clean).2

pub invariant_of-self-in-Err : goal.invariant_of-self-in-Err
invariant_of-self-in-Err g c known holds clean up =
    subst (IsAtRest (state g.A.Store c.save.new.conn)) (sym c.in-Err.ensures.changes) ((c.in-Err.ensures.carries (c.self.invariant known holds)).err clean up)

pub returns-in-Ok-clause-makes : goal.returns-in-Ok-clause-makes
returns-in-Ok-clause-makes g c =
    let s = c.self.inside in
    let at = g.A.Store in
    let was = shelf at s.kept s.conn s.failures s.is_known s.holds_content in
    let now = shelf at c.save.new.kept c.save.new.conn s.failures s.is_known s.holds_content in
    subst (λ (old : Shelf at). Makes {T = Unit {0}} (sql_view at old) (sql_view at now) (Unit {0} ⊎ IsTrue (has_zero c.args.contents.now.entries)) (after_save c.args.contents.now.entries (sql_view at old).content) (Ok tt)) c.self.view_is
    (made_ok at c.one_content_is_held.ensures (λ h up db may. g.met.A.Store.settled h.store db up may) was now c.if-not-self.false refl refl (after_save c.args.contents.now.entries (held s.kept)) (λ known. c.self.invariant known c.if-not-self.false) (Unit {0} ⊎ IsTrue (has_zero c.args.contents.now.entries)) tt
    (λ known. c.in-Ok.ensures.carries (c.self.invariant known c.if-not-self.false)) c.in-Ok.ensures.changes refl)

pub returns-in-Err-clause-makes : goal.returns-in-Err-clause-makes
returns-in-Err-clause-makes g c =
    let s = c.self.inside in
    let at = g.A.Store in
    let told = c.count_fault-in-Err in
    let was = shelf at s.kept s.conn s.failures s.is_known s.holds_content in
    let now = shelf at c.save.new.kept c.save.new.conn told.new.failures s.is_known s.holds_content in
    let counted = excused_as (Unit {0}) s.failures told.new.failures c.in-Err.fault told.result told.ensures.same told.ensures.counts in
    subst (λ (old : Shelf at). Makes {T = Unit {0}} (sql_view at old) (sql_view at now) (Unit {0} ⊎ IsTrue (has_zero c.args.contents.now.entries)) (after_save c.args.contents.now.entries (sql_view at old).content) (Err c.count_fault-in-Err.result)) c.self.view_is
    (made_err at c.one_content_is_held.ensures (λ h up db may. g.met.A.Store.settled h.store db up may) was now c.if-not-self.false refl refl (after_save c.args.contents.now.entries (held s.kept)) (λ known. c.self.invariant known c.if-not-self.false) (Unit {0} ⊎ IsTrue (has_zero c.args.contents.now.entries)) c.in-Err.fault told.result
    (λ known. c.in-Err.ensures.carries (c.self.invariant known c.if-not-self.false)) c.in-Err.ensures.changes (excused_more (Unit {0}) (Unit {0} ⊎ IsTrue (has_zero c.args.contents.now.entries)) inl _ _ _ (counted)))

pub returns-then-not-self-clause-makes : goal.returns-then-not-self-clause-makes
returns-then-not-self-clause-makes g c =
    let s = c.self.inside in
    let at = g.A.Store in
    let told = c.count_fault in
    let was = shelf at s.kept s.conn s.failures s.is_known s.holds_content in
    let now = shelf at s.kept s.conn told.new.failures s.is_known s.holds_content in
    let counted = excused_as (Unit {0}) s.failures told.new.failures NotOurs told.result told.ensures.same told.ensures.counts in
    subst (λ (old : Shelf at). Makes {T = Unit {0}} (sql_view at old) (sql_view at now) (Unit {0} ⊎ IsTrue (has_zero c.args.contents.now.entries)) (after_save c.args.contents.now.entries (sql_view at old).content) (Err c.count_fault.result)) c.self.view_is
    (untouched at c.one_content_is_held.ensures (λ h up db may. g.met.A.Store.settled h.store db up may) was now refl refl refl refl (after_save c.args.contents.now.entries (held s.kept)) c.self.invariant (Unit {0} ⊎ IsTrue (has_zero c.args.contents.now.entries)) told.result (excused_more (Unit {0}) (Unit {0} ⊎ IsTrue (has_zero c.args.contents.now.entries)) inl _ _ _ (counted))
    (λ _. subst (λ f. IsRefused {T = Unit {0}} (Err f)) (sym told.ensures.same) tt))

pub returns-then-has_zero-clause-makes : goal.returns-then-has_zero-clause-makes
returns-then-has_zero-clause-makes g c =
    let s = c.self.inside in
    let at = g.A.Store in
    let told = c.count_fault-then-has_zero in
    let was = shelf at s.kept s.conn s.failures s.is_known s.holds_content in
    let now = shelf at s.kept s.conn told.new.failures s.is_known s.holds_content in
    let counted = excused_as (Unit {0}) s.failures told.new.failures Failed told.result told.ensures.same told.ensures.counts in
    subst (λ (old : Shelf at). Makes {T = Unit {0}} (sql_view at old) (sql_view at now) (Unit {0} ⊎ IsTrue (has_zero c.args.contents.now.entries)) (after_save c.args.contents.now.entries (sql_view at old).content) (Err c.count_fault-then-has_zero.result)) c.self.view_is
    (untouched at c.one_content_is_held.ensures (λ h up db may. g.met.A.Store.settled h.store db up may) was now refl refl refl refl (after_save c.args.contents.now.entries (held s.kept)) c.self.invariant (Unit {0} ⊎ IsTrue (has_zero c.args.contents.now.entries)) told.result (excused_more (Unit {0}) (Unit {0} ⊎ IsTrue (has_zero c.args.contents.now.entries)) inl _ _ _ (counted))
    (λ _. subst (λ f. IsRefused {T = Unit {0}} (Err f)) (sym told.ensures.same) tt))
