-- What is so where calls succeed, one after another.
use Rattle.std.proofs.Common.{Err, Ok, OnOk, Result}
use Rattle.std.specs.Result.{result_and}

-- what is so where both succeed
pub both_ok : {A B E : Type 0} {P Q R : Type 0} (first : Result A E) (second : Result B E) → OnOk first P → OnOk second Q → (P → Q → R)
    → OnOk (result_and first second) R
both_ok (Ok x) (Ok y) p q f = f p q
both_ok (Ok x) (Err e) p q f = tt
both_ok (Err e) second p q f = tt

-- what follows on success
pub ok_then : {A E : Type 0} {P Q : Type 0} (result : Result A E) → OnOk result P → (P → Q) → OnOk result Q
ok_then (Ok x) p f = f p
ok_then (Err e) p f = tt

-- what is so whatever came
pub on_ok_any : {A E : Type 0} {P : Type 0} (result : Result A E) → P → OnOk result P
on_ok_any (Ok x) p = p
on_ok_any (Err e) p = tt
