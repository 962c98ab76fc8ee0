-- The way back from a record that was put in.
use Rattle.std.proofs.Common.{◌≡◌, ℕ, List, Bool, true, false, cond, Option, Some, None, option_map, refl, ap, ◌∙◌, nat_cmp}
use Rattle.std.specs.Ordering.{is_eq, eq_by_cmp}
use Rattle.std.specs.Cmp.{nat_cmp_total}
use Rattle.std.proofs.lemmas.Cmp.{tied_itself}
use Rattle.std.specs.Map.{lookup}
use Rattle.std.specs.BTreeMap.{is_at}
use Rattle.std.specs.FinMap.{FinMap, get, insert, same_map, get-insert, get-remove, from_entries, nat_cmp-IsAntisymmetric}
use Rattle.stable_store.specs.declared.kept.Prepared.{Prepared}
use Rattle.stable_store.specs.Stored.{Record}
use Rattle.stable_store.specs.Held.{record_of, records_of}
use Rattle.sql_store.specs.Mirror.{record_back as back_to}
use Rattle.stable_store.proofs.Maps.{found_alike, get_is, lookup-seen}

get-back_to : (k : ℕ) (before : Option Record) (m : FinMap nat_cmp Record) (q : ℕ)
    → get (back_to k before m) q ≡ cond (eq_by_cmp nat_cmp q k) before (get m q)
get-back_to k None m q = get-remove nat_cmp_total m k q
get-back_to k (Some r) m q = get-insert nat_cmp_total m k r q

pub record_back : (m : FinMap nat_cmp Record) (k : ℕ) (r : Record) (before : Option Record) → before ≡ get m k
    → back_to k before (insert m k r) ≡ m
record_back m k r before had = same_map nat_cmp_total nat_cmp-IsAntisymmetric _ _ (λ q.
    get-back_to k before _ q
    ∙ (ap (cond (eq_by_cmp nat_cmp q k) before) (get-insert nat_cmp_total m k r q) ∙ at (eq_by_cmp nat_cmp q k) q refl))
  where
    at : (b : Bool) (q : ℕ) → eq_by_cmp nat_cmp q k ≡ b → cond b before (cond b (Some r) (get m q)) ≡ get m q
    at false q e = refl
    at true q e = had ∙ found_alike m q k e

-- the record of the maps is that of the content
pub record_found : (records : List (ℕ × Prepared)) (top : ℕ) → get (from_entries {R = nat_cmp} (records_of records)) top ≡ option_map record_of (lookup (is_at (nat_cmp top)) records)
record_found records top = get_is (records_of records) top ∙ lookup-seen record_of _ records

-- what was put in is found
pub put_found : {X : Type 0} (es fs : List (ℕ × X)) (k : ℕ) (v : X)
    → ((q : ℕ) → lookup (is_at (nat_cmp q)) fs ≡ cond (is_at (nat_cmp k) q) (Some v) (lookup (is_at (nat_cmp q)) es))
    → lookup (is_at (nat_cmp k)) fs ≡ Some v
put_found es fs k v h = h k ∙ ap (λ b. cond b (Some v) (lookup (is_at (nat_cmp k)) es)) (ap is_eq (tied_itself nat_cmp_total k))

pub same_some : {X : Type 0} (x y : X) → Some x ≡ Some y → x ≡ y
same_some x y e = cc
