-- Lists of few items, and the automatic indexes of a store.
use Rattle.std.proofs.Common.{◌≡◌, List, [], ◌∷◌, codes, true, length, get_or, refl, sym, ap, arith}
use Rattle.sqlite_value.specs.Keys.{plain}
use Rattle.sqlite_catalog.specs.Listing.{automatic}
use Rattle.sqlite_tied.specs.Compute.{everything}
use Rattle.store_tables.specs.Tables.{meta, prepared_val, prepared_delta}

pub one_item : {X : Type 0} (xs : List X) (x : X) → length xs ≡ 1 → x ≡ get_or xs 0 x → xs ≡ x ∷ []
one_item [] x len is = absurd (omega (arith, len))
one_item (y ∷ []) x len is = ap (λ z. z ∷ []) (sym is)
one_item (y ∷ z ∷ more) x len is = absurd (omega (arith, len))

pub meta_index : automatic meta 0 (1 ∷ []) 1 ≡ record { name = codes "sqlite_autoindex_meta_1"; tree = 1; table = 0; columns = 1 ∷ []; order = plain; is_unique = true }
unfolding everything
meta_index = refl

pub value_index : automatic (record prepared_val { tree = 4 }) 0 (1 ∷ 2 ∷ []) 5
    ≡ record { name = codes "sqlite_autoindex_prepared_val_1"; tree = 5; table = 4; columns = 1 ∷ 2 ∷ []; order = plain; is_unique = true }
unfolding everything
value_index = refl

pub delta_index : automatic (record prepared_delta { tree = 7 }) 0 (1 ∷ 2 ∷ []) 8
    ≡ record { name = codes "sqlite_autoindex_prepared_delta_1"; tree = 8; table = 7; columns = 1 ∷ 2 ∷ []; order = plain; is_unique = true }
unfolding everything
delta_index = refl
