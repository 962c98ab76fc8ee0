use Rattle.std.proofs.Common.{◌≡◌, Result, Ok, Err, IsOk, OnOk, OnErr, refl, sym, ap, subst, ◌∙◌, option_map}
use Rattle.std.specs.FinMap.{from_entries}
use Rattle.stable_store.specs.Held.{record_of, records_of}
use Rattle.sql_store.specs.Mirror.{record_back}
use Rattle.stable_store.proofs.Maps.{get_is, lookup-seen, given_seen, taken_seen, found_something}
use Rattle.sql_store.proofs.mirror.put_record_back.Goals as goal

-- a call of which no failure can come has succeeded
ok_unless : {T E P : Type 0} (r : Result T E) → OnErr r P → ¬ P → IsOk r
ok_unless (Ok x) failed never = refl
ok_unless (Err e) failed never = absurd (never failed)

-- what comes of success
of_ok : {T E P : Type 0} (r : Result T E) (x : T) → r ≡ Ok x → OnOk r P → P
of_ok {P = P} r x is come = subst (λ s. OnOk s P) is come

pub unwrap-requires : goal.unwrap-requires
unwrap-requires c =
    ok_unless _ c.insert-replaced.ensures.absent (λ none. found_something _ c.requires
    (get_is _ c.args.top ∙ (lookup-seen record_of _ c.args.prepared.now.entries ∙ ap (option_map record_of) none)))

pub returns-in-Some : goal.returns-in-Some
returns-in-Some c =
    let updates = of_ok _ _ c.unwrap.ensures c.insert-replaced.ensures.updates in
    given_seen record_of _ _ c.args.top c.in-Some.record updates.0
    ∙ ap (λ before. record_back c.args.top (option_map record_of before) (from_entries (records_of c.args.prepared.now.entries))) (sym c.in-Some.is)

pub returns-in-None : goal.returns-in-None
returns-in-None c =
    taken_seen record_of _ _ c.args.top c.remove.ensures.updates.0
    ∙ ap (λ before. record_back c.args.top (option_map record_of before) (from_entries (records_of c.args.prepared.now.entries))) (sym c.in-None.is)
