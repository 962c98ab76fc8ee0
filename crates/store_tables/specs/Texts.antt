-- The texts of the statements that write.
use Rattle.std.specs.Prelude.{ℕ, List, ◌++◌, codes}

abbrev pub decide_text : List ℕ
decide_text = codes "INSERT OR REPLACE INTO decided VALUES (?1)"

-- each number of `meta` has its row
abbrev pub count_text : List ℕ
count_text = codes "INSERT OR REPLACE INTO meta(rowid, k, v) VALUES (2, 'count', ?1)"

abbrev pub next_text : List ℕ
next_text = codes "INSERT OR REPLACE INTO meta(rowid, k, v) VALUES (3, 'next_top', ?1)"

abbrev pub base_text : List ℕ
base_text = codes "INSERT OR REPLACE INTO base VALUES (?1, ?2)"

-- sixteen parts of the base
abbrev pub base_run_text : List ℕ
base_run_text =
    codes
    "INSERT OR REPLACE INTO base VALUES (?1, ?2), (?3, ?4), (?5, ?6), (?7, ?8), (?9, ?10), (?11, ?12), (?13, ?14), "
    ++ codes
    "(?15, ?16), (?17, ?18), (?19, ?20), (?21, ?22), (?23, ?24), (?25, ?26), (?27, ?28), (?29, ?30), (?31, ?32)"

abbrev pub discard_text : List ℕ
discard_text = codes "DELETE FROM prepared WHERE top = ?1"

abbrev pub record_text : List ℕ
record_text = codes "INSERT INTO prepared VALUES (?1, ?2)"

abbrev pub value_text : List ℕ
value_text = codes "INSERT INTO prepared_val VALUES (?1, ?2, ?3)"

-- sixteen values of a record
abbrev pub value_run_text : List ℕ
value_run_text =
    codes
    "INSERT INTO prepared_val VALUES (?1, ?2, ?3), (?1, ?4, ?5), (?1, ?6, ?7), (?1, ?8, ?9), (?1, ?10, ?11), (?1, ?12, ?13), "
    ++ codes
    "(?1, ?14, ?15), (?1, ?16, ?17), (?1, ?18, ?19), (?1, ?20, ?21), (?1, ?22, ?23), (?1, ?24, ?25), (?1, ?26, ?27), "
    ++ codes "(?1, ?28, ?29), (?1, ?30, ?31), (?1, ?32, ?33)"

abbrev pub delta_text : List ℕ
delta_text = codes "INSERT INTO prepared_delta VALUES (?1, ?2, ?3)"

abbrev pub forget_text : List ℕ
forget_text = codes "DELETE FROM decided"
