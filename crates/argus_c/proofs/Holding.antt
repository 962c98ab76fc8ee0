-- What the store of a guardian contains.
use Rattle.std.proofs.Common.{◌≡◌, ◌&&◌, ◌+◌, ◌-◌, ◌∙◌, ℕ, Bool, false, true, Option, Some, None, option_map, is_some, nat_cmp, slice_get, ap, refl, subst, sym, arith}
use Rattle.std.specs.BTreeMap.{is_at}
use Rattle.std.specs.FinMap.{get}
use Rattle.std.specs.Map.{lookup}
use Rattle.action_names.specs.Names.{Name, is_top, last_of}
use Rattle.guardian.specs.Guardians.{InParts}
use Rattle.guardian_laws.specs.Stored.{has_record}
use Rattle.stable_store.specs.Calls.{found}
use Rattle.stable_store.specs.Held.{held, record_of, records_of}
use Rattle.stable_store.specs.Plain.{plain_view}
use Rattle.stable_store.specs.Stored.{Stored}
use Rattle.stable_store.specs.declared.kept.Kept.{Kept}
use Rattle.stable_store.specs.declared.kept.Prepared.{Prepared}
use Rattle.stable_store.specs.declared.plain.PlainStable.{PlainStable}
use Rattle.stable_store.proofs.Maps.{get_is, lookup-seen}
use Rattle.world.specs.Worlds.{InWorld, seen_of}
use Rattle.argus_c.specs.Keeping.{content_at}

same_some : {X : Type 0} (x y : X) → Some x ≡ Some y → x ≡ y
same_some x y e = cc

-- the maps of a guardian's store are what it contains
pub content_is : (world : InWorld PlainStable) (g : ℕ) (x : InParts PlainStable) (store : PlainStable) (k : Kept) → slice_get world.guardians (g - 1) ≡ Some x
    → store ≡ x.store → found (plain_view store) ≡ Some (held k) → content_at world (g - 1) ≡ Some (held k)
content_is world g x store k at is kept =
    ap (option_map (λ y. (seen_of plain_view y).content)) at ∙ ap (λ s. found (plain_view s)) (sym is) ∙ kept

pub held_is : (world : InWorld PlainStable) (g i : ℕ) (x : InParts PlainStable) (store : PlainStable) (k : Kept) (s : Stored) → slice_get world.guardians (g - 1) ≡ Some x
    → store ≡ x.store → found (plain_view store) ≡ Some (held k) → g ≡ i + 1 → content_at world i ≡ Some s → s ≡ held k
held_is world g i x store k s at is kept number holds =
    let same : g - 1 ≡ i = omega arith in
    same_some s (held k) (sym holds ∙ subst (λ n. content_at world n ≡ Some (held k)) same (content_is world g x store k at is kept))

mapped : (o : Option Prepared) → is_some (option_map record_of o) ≡ is_some o
mapped None = refl
mapped (Some p) = refl

and_false : (b : Bool) → (b && false) ≡ false
and_false true = refl
and_false false = refl

-- no record was found
pub unrecorded : (k : Kept) (s : Stored) (t : Name) → s ≡ held k → is_some (lookup (is_at (nat_cmp (last_of t))) k.prepared.entries) ≡ false → has_record s t ≡ false
unrecorded k s t same none =
    let got : get s.prepared (last_of t) ≡ option_map record_of (lookup (is_at (nat_cmp (last_of t))) k.prepared.entries) =
    ap (λ c. get c.prepared (last_of t)) same ∙ get_is (records_of k.prepared.entries) (last_of t) ∙ lookup-seen record_of (is_at (nat_cmp (last_of t))) k.prepared.entries in
    ap (λ b. is_top t && b) (ap is_some got ∙ mapped (lookup (is_at (nat_cmp (last_of t))) k.prepared.entries) ∙ none) ∙ and_false (is_top t)
