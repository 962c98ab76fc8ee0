use Rattle.std.proofs.Common.{◌≡◌, ◌<◌, ℕ, Bor, None, Option, Some, false, length, nat_cmp, subst, sym}
use Rattle.std.specs.Prelude.{◌↔◌, IfNone, IfSome, IsSome, IsTrue}
use Rattle.std.specs.BTreeSet.{IsUpperBound, contains}
use Rattle.std.proofs.lemmas.Bool.{false≢true}
use Rattle.std.specs.Option.{option_copied}
use Rattle.argus_c.specs.Keeping.{IsLastMarked, is_marked}
use Rattle.argus_c.specs.declared.changes.Changes.{Changes}
use Rattle.argus_c.proofs.Marks.{none_above, none_marked}
use Rattle.argus_c.proofs.changes.Changes.last.Goals as goal

last_of : (changes : Changes) (o : Option (Bor ℕ)) → IfSome o (λ k. IsTrue (contains nat_cmp changes.changed k.now))
    → IfSome o (λ k. IsUpperBound nat_cmp changes.changed k.now) → IfSome (option_copied o) (IsLastMarked changes)
last_of changes None marked bound = tt
last_of changes (Some k) marked bound = record { marked = marked; none_after = none_above changes.changed k.now bound }

pub returns-clause-last : goal.returns-clause-last
returns-clause-last c =
    subst (λ o. IfSome o (IsLastMarked c.args.self.now)) (sym c.copied.ensures)
    (last_of c.args.self.now c.last.result c.last.ensures.member c.last.ensures.greatest)

none_of : (changes : Changes) (o : Option (Bor ℕ)) → (IsSome o ↔ (0 < length changes.changed.keys)) → IfNone (option_copied o) ((g : ℕ) → is_marked changes g ≡ false)
none_of changes None some = none_marked changes.changed (λ there. false≢true (some.1 there))
none_of changes (Some k) some = tt

pub returns-clause-none : goal.returns-clause-none
returns-clause-none c =
    subst (λ o. IfNone o ((g : ℕ) → is_marked c.args.self.now g ≡ false)) (sym c.copied.ensures)
    (none_of c.args.self.now c.last.result c.last.ensures.variant)
