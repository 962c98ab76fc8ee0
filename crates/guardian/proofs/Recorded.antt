-- Of which top actions what is kept has a record.
use Rattle.std.proofs.Common.{Bool, List, None, Option, Some, ap, is_some, option_map, refl, sym, true, ℕ, ◌&&◌, ◌∙◌, ◌≡◌}
use Rattle.std.specs.BTreeMap.{is_at}
use Rattle.std.specs.FinMap as map
use Rattle.std.specs.Map.{lookup}
use Rattle.std.specs.Ordering.{nat_cmp}
use Rattle.action_names.specs.Names.{Name, is_top, last_of}
use Rattle.stable_store.specs.Held.{record_of, records_of}
use Rattle.stable_store.specs.declared.kept.Kept.{Kept}
use Rattle.stable_store.specs.declared.kept.Prepared.{Prepared}
use Rattle.stable_store.proofs.Maps.{get_is, lookup-seen}
use Rattle.guardian.specs.Writes.{is_recorded}

some_alike : {X Y : Type 0} (f : X → Y) (o : Option X) → is_some (option_map f o) ≡ is_some o
some_alike f None = refl
some_alike f (Some x) = refl

entry_found : (es : List (ℕ × Prepared)) (k : ℕ) → is_some (lookup (is_at (nat_cmp k)) es) ≡ is_some (map.get (map.from_entries {R = nat_cmp} (records_of es)) k)
entry_found es k =
    sym (ap (λ o. is_some o) (get_is (records_of es) k ∙ lookup-seen record_of (is_at (nat_cmp k)) es) ∙ some_alike record_of (lookup (is_at (nat_cmp k)) es))

pub recorded_is : (o : Option Kept) (k : Kept) (a : Name) (found : Bool) (key : ℕ) → o ≡ Some k → is_top a ≡ true → key ≡ last_of a
    → found ≡ is_some (lookup (is_at (nat_cmp key)) k.prepared.entries) → found ≡ is_recorded o a
recorded_is o k a found key is top key_is says =
    says ∙ ap (λ n. is_some (lookup (is_at (nat_cmp n)) k.prepared.entries)) key_is ∙ entry_found k.prepared.entries (last_of a)
    ∙ ap (λ t. t && is_some (map.get (map.from_entries {R = nat_cmp} (records_of k.prepared.entries)) (last_of a))) (sym top)
    ∙ ap (λ kept. is_recorded kept a) (sym is)
