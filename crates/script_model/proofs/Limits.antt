-- What is read as a script has no more guardians, and no more objects at each, than there may be.
use Rattle.std.proofs.Common.{Bool, List, Ok, [], ap, arith, codes, length, nat_le, refl, subst, sym, true, suc, ℕ, ◌&&◌, ◌++◌, ◌≤◌, ◌∙◌, ◌∷◌, ◌≡◌}
use Rattle.std.proofs.lemmas.Bool.{and_parts, leb-true}
use Rattle.std.specs.List.{AllByRecursion}
use Rattle.serde_json.specs.Data.{Data, Items, no_items, item}
use Rattle.serde_json.specs.Events.{items_len}
use Rattle.values.specs.declared.content.Content.{Content}
use Rattle.script_model.specs.declared.fault.FaultKind.TheVariants as is
use Rattle.script_model.specs.declared.checked.Handler.{Handler}
use Rattle.script_model.specs.declared.checked.Client.{Client}
use Rattle.script_model.specs.declared.checked.Checked.{Checked}
use Rattle.script_model.specs.ContentReading.{content}
use Rattle.script_model.specs.Reading.{Read, ask, at, each, nth, reads, ◌>>=◌, ◌>>◌}
use Rattle.script_model.specs.Shapes.{the_array, the_list, the_two}
use Rattle.script_model.specs.ScriptReading.{Guardians, Site, add_guardian, clients, guardian, guardians_from, guardians_in, handlers, objects, script}
use Rattle.limits.specs.Limits.{max_guardians, max_objects}
use Rattle.script_model.specs.Reaching.{Fits}
use Rattle.script_model.specs.Laws.{HasFewObjects, IsWithinLimits}
use Rattle.script_model.proofs.Steps.{asked_ok, same_ok, then_read}
use Rattle.script_model.proofs.Scripts.{Goes, goes_on}

list_few : (least most : ℕ) (d : Data) (place : List ℕ) (ds : Items) → the_list least most d place ≡ Ok ds → items_len ds ≤ most
list_few least most d place ds h =
    let (found, p, q) = then_read (the_array d) (λ ds. ask (within ds) is.Limit >> reads ds) place ds h in
    let (u, r, s) = then_read (ask (within found) is.Limit) (λ _. reads found) place ds q in
    subst (λ ds. items_len ds ≤ most) (same_ok found ds s) (leb-true (items_len found) most (and_parts _ _ (asked_ok (within found) is.Limit place u r)).1)
  where
    within : Items → Bool
    within ds = nat_le least (items_len ds) && nat_le (items_len ds) most

each_counted : {A : Type 0} (read : Data → Read A) (i : ℕ) (ds : Items) (place : List ℕ) (xs : List A) → each read i ds place ≡ Ok xs
    → length xs ≡ items_len ds
each_counted read i no_items place xs h = ap length (sym (same_ok [] xs h))
each_counted read i (item d ds) place xs h =
    let (x, p, q) = then_read (nth i (read d)) (λ x. each read (suc i) ds >>= λ rest. reads (x ∷ rest)) place xs h in
    let (rest, r, s) = then_read (each read (suc i) ds) (λ rest. reads (x ∷ rest)) place xs q in
    ap length (sym (same_ok (x ∷ rest) xs s)) ∙ ap suc (each_counted read (suc i) ds place rest r)

objects_few : (d : Data) (place : List ℕ) (contents : List Content) → objects d place ≡ Ok contents → HasFewObjects contents
objects_few d place contents h =
    let (ds, p, q) = then_read (the_list 0 max_objects d) (each content 0) place contents h in
    subst (λ n. n ≤ max_objects) (sym (each_counted content 0 ds place contents q)) (list_few 0 max_objects d place ds p)

guardian_few : (guardians : Items) (n first : ℕ) (d : Data) (place : List ℕ) (g : List Content × List Handler)
    → guardian guardians n first d place ≡ Ok g → HasFewObjects g.0
guardian_few guardians n first d place g h =
    let (parts, p0, h0) = then_read (the_two (codes "objects") (codes "handlers") d) by_parts place g h in
    let (contents, p1, h1) = then_read (at (codes "objects") (objects parts.0)) (by_contents parts) place g h0 in
    let (hs, p2, h2) = then_read (at (codes "handlers") (handlers (site contents) first parts.1)) (λ hs. reads (contents, hs)) place g h1 in
    subst (λ (g : List Content × List Handler). HasFewObjects g.0) (same_ok (contents, hs) g h2) (objects_few parts.0 _ contents p1)
  where
    site : List Content → Site
    site contents = record { guardian = n; objects = contents; guardians = guardians }

    by_contents : Data × Data → List Content → Read (List Content × List Handler)
    by_contents parts contents = at (codes "handlers") (handlers (site contents) first parts.1) >>= λ hs. reads (contents, hs)

    by_parts : Data × Data → Read (List Content × List Handler)
    by_parts parts = at (codes "objects") (objects parts.0) >>= by_contents parts

one_after : (all : List (List Content)) (contents : List Content) → AllByRecursion HasFewObjects all → HasFewObjects contents
    → AllByRecursion HasFewObjects (all ++ contents ∷ [])
one_after [] contents each few = (few, tt)
one_after (c ∷ all) contents each few = (each.0, one_after all contents each.1 few)

all_few : (guardians : Items) (i : ℕ) (so_far : Guardians) (ds : Items) (place : List ℕ) (gs : Guardians)
    → guardians_from guardians i so_far ds place ≡ Ok gs → AllByRecursion HasFewObjects so_far.objects
    → AllByRecursion HasFewObjects gs.objects
all_few guardians i so_far no_items place gs h few =
    subst (λ (x : Guardians). AllByRecursion HasFewObjects x.objects) (same_ok so_far gs h) few
all_few guardians i so_far (item d ds) place gs h few =
    let (next, p, q) = then_read (nth i (add_guardian guardians (suc i) so_far d)) (λ g. guardians_from guardians (suc i) g ds) place gs h in
    let (g, r, s) = then_read (guardian guardians (suc i) (length so_far.handlers) d) (λ g. reads (added g)) _ next p in
    all_few guardians (suc i) next ds place gs q
    (subst (λ (x : Guardians). AllByRecursion HasFewObjects x.objects) (same_ok (added g) next s)
    (one_after so_far.objects g.0 few (guardian_few guardians (suc i) (length so_far.handlers) d _ g r)))
  where
    added : List Content × List Handler → Guardians
    added g = record { objects = so_far.objects ++ g.0 ∷ []; handlers = so_far.handlers ++ g.1 }

script_within : (d : Data) (c : Checked) → script d [] ≡ Ok c → IsWithinLimits c.guardians
script_within d c h =
    let (parts, p0, h0) = then_read (the_two (codes "guardians") (codes "clients") d) by_parts [] c h in
    let (ds, p1, h1) = then_read (at (codes "guardians") (the_list 1 max_guardians parts.0)) (by_list parts) [] c h0 in
    let (gs, p2, h2) = then_read (at (codes "guardians") (guardians_in ds ds)) (by_guardians parts ds) [] c h1 in
    let (cs, p3, h3) = then_read (at (codes "clients") (clients ds gs.objects parts.1)) (λ cs. reads (made gs cs)) [] c h2 in
    let start : Guardians = record { objects = []; handlers = [] } in
    let goes = goes_on ds 0 start ds _ gs p2 in
    let count : length gs.objects ≡ items_len ds = ap length goes.objects ∙ goes.count in
    subst (λ (c : Checked). IsWithinLimits c.guardians) (same_ok (made gs cs) c h3) (record {
      count = subst (λ n. n ≤ max_guardians) (sym count) (list_few 1 max_guardians parts.0 _ ds p1);
      each = all_few ds 0 start ds _ gs p2 tt;
    })
  where
    made : Guardians → List Client → Checked
    made gs cs = record { guardians = gs.objects; handlers = gs.handlers; clients = cs }

    by_guardians : Data × Data → Items → Guardians → Read Checked
    by_guardians parts ds gs = at (codes "clients") (clients ds gs.objects parts.1) >>= λ cs. reads (made gs cs)

    by_list : Data × Data → Items → Read Checked
    by_list parts ds = at (codes "guardians") (guardians_in ds ds) >>= by_guardians parts ds

    by_parts : Data × Data → Read Checked
    by_parts parts = at (codes "guardians") (the_list 1 max_guardians parts.0) >>= by_list parts

pub reading_keeps_limits : (document : Data) (c : Checked) → Fits document c → IsWithinLimits c.guardians
reading_keeps_limits document c fits = script_within document c fits.read
