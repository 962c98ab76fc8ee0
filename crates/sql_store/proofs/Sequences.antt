-- Readings one after another.
use Rattle.std.proofs.Common.{◌≡◌, ℕ, List, [], ◌∷◌, ◌++◌, Result, Ok, Err, IfOk, sym, ap, subst, ◌∙◌}
use Rattle.sqlite.specs.Order.{Row}
use Rattle.sqlite.specs.Effect.{Database}
use Rattle.sqlite.specs.Schema.{Schema}
use Rattle.sqlite.specs.State.{State}
use Rattle.stable_store.specs.declared.fault.StoreFault.{StoreFault}
use Rattle.sql_store.specs.Reading.{IsQuietWith, QuietsWith, ShowsTheSame, LooksUp, IsAnswerOf, AreAnswersOf}

pub ok_leads : {T : Type 0} (r : Result T StoreFault) (P Q : T → Type 0) → ((x : T) → P x → Q x) → IfOk r P → IfOk r Q
ok_leads (Ok x) P Q leads h = leads x h
ok_leads (Err e) P Q leads h = tt

the_same_then : (a b c : State) → ShowsTheSame a b → ShowsTheSame b c → ShowsTheSame a c
the_same_then a b c p q =
    record { was_open = p.was_open; is_open = q.is_open; now = q.now ∙ p.now; committed = q.committed ∙ p.committed; mode = q.mode ∙ p.mode }

-- what was read was understood, or not
pub then_reads : {tables : Schema} {T U : Type 0} (old new : State) (P : Database → T → Type 0) (Q : Database → U → Type 0) (x : T) (r : Result U StoreFault)
    → QuietsWith tables old → LooksUp old new P (Ok x)
    → (IsQuietWith tables old → P old.now x → IfOk r (Q old.now)) → LooksUp old new Q r
then_reads old new P Q x (Ok y) quiet first leads = record {
  clean = first.clean;
  ok = λ clean. let h = first.ok clean in (h.0, leads (quiet (first.clean clean) h.0.was_open) h.1);
  err = λ clean. tt;
  leaves = first.leaves;
}
then_reads old new P Q x (Err e) quiet first leads =
    record { clean = first.clean; ok = λ clean. tt; err = λ clean up. (first.ok clean).0; leaves = first.leaves }

-- what was not read, with whatever fault that is told
pub failed_reads : {T U : Type 0} (old new : State) (P : Database → T → Type 0) (Q : Database → U → Type 0) (e d : StoreFault) (r : Result U StoreFault) → r ≡ Err d → LooksUp {T = T} old new P (Err e)
    → LooksUp {T = U} old new Q r
failed_reads old new P Q e d r is h =
    subst (LooksUp old new Q) (sym is) (record { clean = h.clean; ok = λ clean. tt; err = h.err; leaves = h.leaves })

-- one reading after another
pub and_reads : {T U : Type 0} (a b c : State) (P : Database → T → Type 0) (Q : Database → U → Type 0) (x : T) (r : Result U StoreFault)
    → LooksUp a b P (Ok x) → LooksUp b c Q r
    → LooksUp a c (λ db y. ShowsTheSame a b × (P db x × Q db y)) r
and_reads a b c P Q x (Ok y) first second = record {
  clean = λ clean. first.clean (second.clean clean);
  ok = λ clean.
      let f = first.ok (second.clean clean) in
      let s = second.ok clean in
      (the_same_then a b c f.0 s.0, (f.0, (f.1, subst (λ (d : Database). Q d y) f.0.now s.1)));
  err = λ clean. tt;
  leaves = λ clean up db may. first.leaves (second.clean clean) up db (second.leaves clean (first.ok (second.clean clean)).0.is_open db may);
}
and_reads a b c P Q x (Err e) first second = record {
  clean = λ clean. first.clean (second.clean clean);
  ok = λ clean. tt;
  err = λ clean up. the_same_then a b c (first.ok (second.clean clean)).0 (second.err clean up);
  leaves = λ clean up db may. first.leaves (second.clean clean) up db (second.leaves clean (first.ok (second.clean clean)).0.is_open db may);
}

pub quiet_after : {tables : Schema} {T : Type 0} (a b : State) (P : Database → T → Type 0) (x : T) → QuietsWith tables a → LooksUp a b P (Ok x) → QuietsWith tables b
quiet_after a b P x quiet first clean up =
    let same = (first.ok clean).0 in
    let q = quiet (first.clean clean) same.was_open in
    record { schema = ap (λ (d : Database). d.schema) same.now ∙ q.schema; mode = same.mode ∙ q.mode; settled = same.now ∙ (q.settled ∙ sym same.committed) }

-- ---- checks one after another

pub weaker_reads : {T : Type 0} (old new : State) (P Q : Database → T → Type 0) (r : Result T StoreFault)
    → ((db : Database) (x : T) → P db x → Q db x) → LooksUp old new P r → LooksUp old new Q r
weaker_reads old new P Q (Ok x) leads h =
    record { clean = h.clean; ok = λ clean. let k = h.ok clean in (k.0, leads old.now x k.1); err = λ _. tt; leaves = h.leaves }
weaker_reads old new P Q (Err e) leads h = record { clean = h.clean; ok = λ _. tt; err = h.err; leaves = h.leaves }

pub and_checks : {tables : Schema} {T U : Type 0} (a b c : State) (P : Database → T → Type 0) (Q : Database → U → Type 0) (x : T) (r : Result U StoreFault)
    → QuietsWith tables a → LooksUp a b P (Ok x)
    → (QuietsWith tables b → LooksUp b c Q r) → LooksUp a c (λ db y. P db x × Q db y) r
and_checks a b c P Q x r quiet first next =
    weaker_reads a c (λ db y. ShowsTheSame a b × (P db x × Q db y)) (λ db y. P db x × Q db y) r (λ db y h. h.1)
    (and_reads a b c P Q x r first (next (quiet_after a b P x quiet first)))

-- ---- answers one after another

pub one_answer : (tables : Schema) (d : Database) (qs : List (List ℕ)) (shown : List (List Row)) (q : List ℕ) (a : List Row) → AreAnswersOf tables d qs shown → IsAnswerOf tables d q a
    → AreAnswersOf tables d (qs ++ q ∷ []) (shown ++ a ∷ [])
one_answer tables d [] [] q a h k = (k, tt)
one_answer tables d [] (x ∷ shown) q a h k = absurd h
one_answer tables d (x ∷ qs) [] q a h k = absurd h
one_answer tables d (x ∷ qs) (y ∷ shown) q a h k = (h.0, one_answer tables d qs shown q a h.1 k)
