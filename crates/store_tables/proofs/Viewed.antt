-- What answers stand for, their tables hold.
use Rattle.std.proofs.Common.{List, sym, subst}
use Rattle.sqlite.specs.Order.{Row}
use Rattle.sqlite.specs.Tree.{Trees}
use Rattle.stable_store.specs.Stored.{Stored}
use Rattle.store_tables.specs.Listed.{Lists}
use Rattle.store_tables.specs.Shown.{ShowsPart, ShowsHome, ShowsRecord, ShowsTop, ShowsNumber, IsValueText, IsAddedBy}
use Rattle.store_tables.specs.Holds.{Tables, tables_of, Holds, AreViews, IsViewOf, numbers_shown, pair_shown, part_shown, key_shown}
use Rattle.store_tables.proofs.Listed.{looked}

pub held_by : (t : Tables) (db : Trees) (c : Stored) → AreViews t db → Holds 0 t c → Holds 1 (tables_of db) c
held_by t db c v h = record {
  numbered = looked ShowsNumber ShowsNumber numbers_shown t.numbers (db 0) _ v.numbers.each v.numbers.from
      (λ r x s. record { place = s.place; name = s.name; number = s.number }) h.numbered;
  next_low = h.next_low;
  next_high = h.next_high;
  base = looked (ShowsPart 1) (ShowsPart 0) pair_shown t.base (db 2) _ v.base.each v.base.from
      (λ r x s. record { object = s.object; part = s.part }) h.base;
  homes = looked (ShowsHome 1) (ShowsHome 0) pair_shown t.homes (db 3) _ v.homes.each v.homes.from
      (λ r x s. record { top = s.top; home = s.home }) h.homes;
  values = looked (ShowsRecord IsValueText 1) (ShowsRecord IsValueText 0) part_shown t.values (db 4) _ v.values.each v.values.from
      (λ r x s. record { top = s.top; object = s.object; part = s.part }) h.values;
  deltas = looked (ShowsRecord IsAddedBy 1) (ShowsRecord IsAddedBy 0) part_shown t.deltas (db 7) _ v.deltas.each v.deltas.from
      (λ r x s. record { top = s.top; object = s.object; part = s.part }) h.deltas;
  rising = h.rising;
  decided = looked ShowsTop ShowsTop key_shown t.decided (db 6) _ v.decided.each v.decided.from (λ r x s. s) h.decided;
}

-- what a table lists, an answer that shows it lists
shown_by : {X : Type 0} (Shows Shown : Row → X → Type 0) (project : Row → Row) (answer table : List Row) (Is : X → Type 0) → IsViewOf project answer table
    → ((r : Row) (x : X) → Shows r x → Shown (project r) x) → Lists Shows table Is → Lists Shown answer Is
shown_by Shows Shown project answer table Is view reads h = record {
  each = λ a there.
      let r = view.from a there in
      let e = h.each r.0 r.1 in
      (e.0, subst (λ x. Shown x e.0) (sym r.2) (reads r.0 e.0 e.1), e.2);
  from = λ x is. let f = h.from x is in (project f.0, view.each f.0 f.1, reads f.0 x f.2);
}

-- what tables hold, their answers stand for
pub stands_for : (t : Tables) (db : Trees) (c : Stored) → AreViews t db → Holds 1 (tables_of db) c → Holds 0 t c
stands_for t db c v h = record {
  numbered = shown_by ShowsNumber ShowsNumber numbers_shown t.numbers (db 0) _ v.numbers
      (λ r x s. record { place = s.place; name = s.name; number = s.number }) h.numbered;
  next_low = h.next_low;
  next_high = h.next_high;
  base = shown_by (ShowsPart 1) (ShowsPart 0) pair_shown t.base (db 2) _ v.base (λ r x s. record { object = s.object; part = s.part }) h.base;
  homes = shown_by (ShowsHome 1) (ShowsHome 0) pair_shown t.homes (db 3) _ v.homes (λ r x s. record { top = s.top; home = s.home }) h.homes;
  values = shown_by (ShowsRecord IsValueText 1) (ShowsRecord IsValueText 0) part_shown t.values (db 4) _ v.values
      (λ r x s. record { top = s.top; object = s.object; part = s.part }) h.values;
  deltas = shown_by (ShowsRecord IsAddedBy 1) (ShowsRecord IsAddedBy 0) part_shown t.deltas (db 7) _ v.deltas
      (λ r x s. record { top = s.top; object = s.object; part = s.part }) h.deltas;
  rising = h.rising;
  decided = shown_by ShowsTop ShowsTop key_shown t.decided (db 6) _ v.decided (λ r x s. s) h.decided;
}
