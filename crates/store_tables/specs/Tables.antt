-- The schemas of a store, as an empty database has them once the tables are made.
use Rattle.sqlite.specs.Collation.TheVariants.{Binary}
use Rattle.std.specs.Prelude.{true, false, [], ◌∷◌, Some, None, codes, List, ℕ}
use Rattle.sqlite.specs.declared.types.Value.TheVariants.{Null}
use Rattle.sqlite.specs.Table.{Table}
use Rattle.sqlite.specs.Schema.{Schema}
use Rattle.sqlite.specs.Kind.TheVariants.{Integer, Text}
use Rattle.sqlite_schema.specs.declared.schema.Column.{Column}
use Rattle.sqlite_schema.specs.declared.schema.Kind.{Kind}
use Rattle.std.specs.Prelude.{Bool}
use Rattle.sqlite_value.specs.Keys.{plain}
use Rattle.sqlite_schema.specs.declared.schema.Reference.{Reference}
use Rattle.sqlite_schema.specs.declared.schema.Action.TheVariants.{NoAction, Cascade}
use Rattle.sqlite_catalog.specs.Listing.{automatic}

abbrev pub column : List ℕ → Kind → Bool → Column
column name kind not_null =
    record { name = name; kind = kind; is_strict = false; not_null = not_null; default = Null; collation = Binary }

abbrev pub decided : Table
decided = record {
  name = codes "decided";
  tree = 0;
  columns = column (codes "top") Integer false ∷ [];
  key = Some 0;
  primary = 0 ∷ [];
  uniques = [];
  orders = [];
  checks = [];
  references = [];
  computed = [];
  stamps = record { places = []; terms = []; formats = [] };
  is_counted = false;
}

abbrev pub meta : Table
meta = record {
  name = codes "meta";
  tree = 0;
  columns = column (codes "k") Text false ∷ column (codes "v") Integer true ∷ [];
  key = None;
  primary = 1 ∷ [];
  uniques = (1 ∷ []) ∷ [];
  orders = plain ∷ [];
  checks = [];
  references = [];
  computed = [];
  stamps = record { places = []; terms = []; formats = [] };
  is_counted = false;
}

abbrev pub base : Table
base = record {
  name = codes "base";
  tree = 0;
  columns = column (codes "obj") Integer false ∷ column (codes "val") Text true ∷ [];
  key = Some 0;
  primary = 0 ∷ [];
  uniques = [];
  orders = [];
  checks = [];
  references = [];
  computed = [];
  stamps = record { places = []; terms = []; formats = [] };
  is_counted = false;
}

abbrev pub prepared : Table
prepared = record {
  name = codes "prepared";
  tree = 0;
  columns = column (codes "top") Integer false ∷ column (codes "home") Integer true ∷ [];
  key = Some 0;
  primary = 0 ∷ [];
  uniques = [];
  orders = [];
  checks = [];
  references = [];
  computed = [];
  stamps = record { places = []; terms = []; formats = [] };
  is_counted = false;
}

abbrev pub to_prepared : Reference
to_prepared =
    record {
      columns = 1 ∷ [];
      parent = codes "prepared";
      parent_columns = codes "top" ∷ [];
      on_delete = Cascade;
      on_update = NoAction;
      is_deferred = false;
    }

abbrev pub prepared_val : Table
prepared_val = record {
  name = codes "prepared_val";
  tree = 0;
  columns = column (codes "top") Integer true ∷ column (codes "obj") Integer true
      ∷ column (codes "val") Text true ∷ [];
  key = None;
  primary = 1 ∷ 2 ∷ [];
  uniques = (1 ∷ 2 ∷ []) ∷ [];
  orders = plain ∷ [];
  checks = [];
  references = to_prepared ∷ [];
  computed = [];
  stamps = record { places = []; terms = []; formats = [] };
  is_counted = false;
}

-- a delta that a record would install
abbrev pub prepared_delta : Table
prepared_delta = record {
  name = codes "prepared_delta";
  tree = 0;
  columns = column (codes "top") Integer true ∷ column (codes "obj") Integer true
      ∷ column (codes "add_by") Integer true ∷ [];
  key = None;
  primary = 1 ∷ 2 ∷ [];
  uniques = (1 ∷ 2 ∷ []) ∷ [];
  orders = plain ∷ [];
  checks = [];
  references = to_prepared ∷ [];
  computed = [];
  stamps = record { places = []; terms = []; formats = [] };
  is_counted = false;
}

abbrev pub no_schema : Schema
no_schema = record { tables = []; indexes = []; views = [] }

-- the tables of version 1
abbrev pub first_schema : Schema
first_schema = record {
  tables =
      meta ∷ (record base { tree = 2 }) ∷ (record prepared { tree = 3 })
      ∷ (record prepared_val { tree = 4 }) ∷ (record decided { tree = 6 }) ∷ [];
  indexes = automatic meta 0 (1 ∷ []) 1
      ∷ automatic (record prepared_val { tree = 4 }) 0 (1 ∷ 2 ∷ []) 5 ∷ [];
  views = [];
}

-- The tables of version 2: those of version 1, and that of the deltas behind them, so that a database that was migrated
-- has them at the places of a new one.
abbrev pub stable_schema : Schema
stable_schema = record {
  tables =
      meta ∷ (record base { tree = 2 }) ∷ (record prepared { tree = 3 })
      ∷ (record prepared_val { tree = 4 })
      ∷ (record decided { tree = 6 }) ∷ (record prepared_delta { tree = 7 }) ∷ [];
  indexes =
      automatic meta 0 (1 ∷ []) 1 ∷ automatic (record prepared_val { tree = 4 }) 0 (1 ∷ 2 ∷ []) 5
      ∷ automatic (record prepared_delta { tree = 7 }) 0 (1 ∷ 2 ∷ []) 8 ∷ [];
  views = [];
}
