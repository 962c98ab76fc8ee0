-- What ON DELETE CASCADE does: the values and the deltas of a deleted record are deleted with it.
use Rattle.std.proofs.Common.{◌≡◌, ◌⊎◌, inl, inr, ℕ, zero, suc, ℤ, List, [], ◌∷◌, ◌++◌, length, cond}
use Rattle.std.proofs.Common.{Some, None, Ok, refl, sym, ap, subst, subst₂, arith, length-append}
use Rattle.std.specs.List.{cons_option, list_any}
use Rattle.sqlite.specs.Order.{Row}
use Rattle.sqlite.specs.Tree.{Trees}
use Rattle.sqlite.specs.Table.{Table}
use Rattle.sqlite.specs.Edit.{edit_of, Applies}
use Rattle.sqlite.specs.Rowids.TheVariants.{Given}
use Rattle.sqlite_value.specs.Keys.{plain, joined}
use Rattle.sqlite_schema.specs.Names.{same_name}
use Rattle.sqlite_rules.specs.Action.{Work, works, Leads, Acts, ActsOn, AreChildren, pairs, loses}
use Rattle.sqlite_rules.specs.declared.action.Deed.TheVariants.{Delete}
use Rattle.sqlite_schema.specs.declared.schema.Keys.TheVariants.{Enforced}
use Rattle.store_tables.specs.Tables.{prepared_val, prepared_delta, to_prepared, stable_schema}

abbrev pub values_table : Table
values_table = record prepared_val { tree = 4 }

abbrev pub deltas_table : Table
deltas_table = record prepared_delta { tree = 7 }

-- to delete the rows of a table that refer to rows that went
abbrev pub work : Table → List (Row × Row) → Work
work child moves = record { depth = 0; child = child; ref = to_prepared; places = 0 ∷ []; order = plain; deed = Delete; moves = moves }

-- what a deletion from `prepared` sets off, and nothing else
pub works_are : (rows : List Row)
    → works stable_schema Enforced 0 3 rows []
    ≡ cons_option (cond (list_any (loses plain (0 ∷ [])) (pairs rows [])) (Some (work values_table (pairs rows []))) None) []
    ++ (cons_option (cond (list_any (loses plain (0 ∷ [])) (pairs rows [])) (Some (work deltas_table (pairs rows []))) None) [] ++ [])
unfolding same_name joined
works_are rows = refl

pub ended : (n : ℕ) (mid next : Trees) → Leads stable_schema Enforced n mid [] (Ok next) → next ≡ mid
ended zero mid next h = let e = h.1 in cc
ended (suc n) mid next h = absurd (omega (arith, ap length h.2, length-append h.0 (h.1 ∷ [])))

one_last : (below : List Work) (v w : Work) → (w ∷ []) ≡ below ++ v ∷ [] → (below ≡ []) × (v ≡ w)
one_last [] v w e = (refl, cc)
one_last (x ∷ below) v w e = absurd (omega (arith, ap length e, length-append below (v ∷ [])))

two_last : (below : List Work) (v a b : Work) → (a ∷ b ∷ []) ≡ below ++ v ∷ [] → (below ≡ a ∷ []) × (v ≡ b)
two_last [] v a b e = absurd (omega (arith, ap length e))
two_last (x ∷ below) v a b e =
    let rest : (b ∷ []) ≡ below ++ v ∷ [] = cc in
    let first : x ≡ a = cc in
    let last = one_last below v b rest in
    ((λ i. first i ∷ last.0 i), last.1)

-- the children of the deleted row, if it had any, were deleted too, and nothing else
pub record Cascades (mid next : Trees) (child : Table) (moves : List (Row × Row)) : Type 0 where
  pub ids : List ℤ
  pub children : AreChildren mid (work child moves) ids
  pub ends : ((ids ≡ []) × (next ≡ mid)) ⊎ Applies stable_schema Enforced mid (edit_of mid child ids Given 0 []) next

-- the deltas went, and then the values
pub record CascadesTwice (mid next : Trees) (moves : List (Row × Row)) : Type 0 where
  pub between : Trees
  pub deltas : Cascades mid between deltas_table moves
  pub values : Cascades between next values_table moves

values_went : (n : ℕ) (mid next : Trees) (moves : List (Row × Row)) → Leads stable_schema Enforced n mid (work values_table moves ∷ []) (Ok next)
    → Cascades mid next values_table moves
unfolding same_name joined
values_went zero mid next moves h = absurd (let e = h.0 in cc)
values_went (suc n) mid next moves h = go h.0 h.1 (one_last h.0 h.1 (work values_table moves) h.2) h.3
  where
    emptied : (ids : List ℤ) → ActsOn stable_schema Enforced (Leads stable_schema Enforced n) mid (work values_table moves) [] (Ok next) ids
        → ((ids ≡ []) × (next ≡ mid)) ⊎ Applies stable_schema Enforced mid (edit_of mid values_table ids Given 0 []) next
    emptied [] h = inl (refl, ended n mid next h)
    emptied (id ∷ ids) (inl refused) = absurd (let e = refused.2 in cc)
    emptied (id ∷ ids) (inr (inl big)) = absurd (let e = big.3 in cc)
    emptied (id ∷ ids) (inr (inr made)) =
        inr (subst (Applies stable_schema Enforced mid (edit_of mid values_table (id ∷ ids) Given 0 [])) (sym (ended n made.0 next made.2)) made.1)

    go : (below : List Work) (v : Work) → (below ≡ []) × (v ≡ work values_table moves)
        → Acts stable_schema Enforced (Leads stable_schema Enforced n) mid v below (Ok next) → Cascades mid next values_table moves
    go below v same acts =
        let it : Acts stable_schema Enforced (Leads stable_schema Enforced n) mid (work values_table moves) [] (Ok next) =
        subst₂ (λ b u. Acts stable_schema Enforced (Leads stable_schema Enforced n) mid u b (Ok next)) same.0 same.1 acts in
        record { ids = it.0; children = it.1; ends = emptied it.0 it.2 }

pub cascades : (n : ℕ) (mid next : Trees) (moves : List (Row × Row))
    → Leads stable_schema Enforced n mid (work values_table moves ∷ work deltas_table moves ∷ []) (Ok next)
    → CascadesTwice mid next moves
unfolding same_name joined
cascades zero mid next moves h = absurd (let e = h.0 in cc)
cascades (suc n) mid next moves h = go h.0 h.1 (two_last h.0 h.1 (work values_table moves) (work deltas_table moves) h.2) h.3
  where
    then_values : (ids : List ℤ) → AreChildren mid (work deltas_table moves) ids
        → ActsOn stable_schema Enforced (Leads stable_schema Enforced n) mid (work deltas_table moves) (work values_table moves ∷ []) (Ok next) ids
        → CascadesTwice mid next moves
    then_values [] are h = record {
      between = mid;
      deltas = record { ids = []; children = are; ends = inl (refl, refl) };
      values = values_went n mid next moves h;
    }
    then_values (id ∷ ids) are (inl refused) = absurd (let e = refused.2 in cc)
    then_values (id ∷ ids) are (inr (inl big)) = absurd (let e = big.3 in cc)
    then_values (id ∷ ids) are (inr (inr made)) = record {
      between = made.0;
      deltas = record { ids = id ∷ ids; children = are; ends = inr made.1 };
      values = values_went n made.0 next moves made.2;
    }

    go : (below : List Work) (v : Work) → (below ≡ work values_table moves ∷ []) × (v ≡ work deltas_table moves)
        → Acts stable_schema Enforced (Leads stable_schema Enforced n) mid v below (Ok next) → CascadesTwice mid next moves
    go below v same acts =
        let it : Acts stable_schema Enforced (Leads stable_schema Enforced n) mid (work deltas_table moves) (work values_table moves ∷ []) (Ok next) =
        subst₂ (λ b u. Acts stable_schema Enforced (Leads stable_schema Enforced n) mid u b (Ok next)) same.0 same.1 acts in
        then_values it.0 it.1 it.2
