-- What the maps of a store stand for.
use Rattle.std.specs.Prelude.{ℕ, List, map}
use Rattle.std.specs.Ordering.{nat_cmp}
use Rattle.std.specs.BTreeMap.{BTreeMap}
use Rattle.std.specs.FinMap.{FinMap, from_entries}
use Rattle.std.specs.FinSet as set
use Rattle.atomic_types.specs.declared.part.Part.{Part}
use Rattle.stable_store.specs.Stored.{Stored, Record}
use Rattle.stable_store.specs.declared.kept.Prepared.{Prepared}
use Rattle.stable_store.specs.declared.kept.Kept.{Kept}

-- the parts by object number
abbrev pub parts_in : BTreeMap ℕ Part → FinMap nat_cmp Part
parts_in m = from_entries m.entries

abbrev pub record_of : Prepared → Record
record_of p = record { home = p.home; parts = p.parts.entries }

abbrev pub records_of : List (ℕ × Prepared) → List (ℕ × Record)
records_of es = map (λ e. (e.0, record_of e.1)) es

abbrev pub held : Kept → Stored
held k = record {
  base = parts_in k.base;
  prepared = from_entries (records_of k.prepared.entries);
  decided = set.from_list k.decided.keys;
  count = k.count;
  next_top = k.next_top;
}
