-- Each handler of a script that was read stands in a guardian of a number from 1 on.
use Rattle.std.proofs.Common.{◌≡◌, ◌≤◌, ℕ, zero, suc, List, [], ◌∷◌, ◌++◌, length, get_or, Contains, Ok, codes, decimal, not, nat_lt, sym, ap, subst, arith}
use Rattle.std.specs.List.{AllByRecursion}
use Rattle.serde_json.specs.Data.{Data, Items, no_items, item, Members, no_members, member}
use Rattle.values.specs.declared.content.Content.{Content}
use Rattle.script_model.specs.declared.fault.FaultKind.TheVariants as is
use Rattle.script_model.specs.declared.checked.Handler.{Handler}
use Rattle.script_model.specs.declared.checked.Checked.{Checked}
use Rattle.script_model.specs.Reading.{step, ask}
use Rattle.script_model.specs.Shapes.{the_object, the_two, the_three, the_list, are_named}
use Rattle.script_model.specs.Signatures.{max_handlers, gives_in}
use Rattle.script_model.specs.StatementReading.{body_in}
use Rattle.script_model.specs.ScriptReading.{Site, context_at, may_lack_value, parameters, the_gives, handler, handlers_from, handlers, objects, Guardians, guardian, add_guardian, guardians_from, guardians_in, clients, script}
use Rattle.limits.specs.Limits.{max_guardians}
use Rattle.script_parts.proofs.Asked.{and_then_ok, ok_is}

abbrev AreNumbered : List Handler → Type 0
AreNumbered hs = AllByRecursion (λ h. 1 ≤ h.guardian) hs

numbered_append : (hs more : List Handler) → AreNumbered hs → AreNumbered more → AreNumbered (hs ++ more)
numbered_append [] more first second = second
numbered_append (h ∷ hs) more first second = (first.0, numbered_append hs more first.1 second)

numbered_at : (hs : List Handler) (n : ℕ) (h : Handler) → AreNumbered hs → suc n ≤ length hs → get_or hs n h ≡ h → 1 ≤ h.guardian
numbered_at [] n h all less is = absurd (omega arith)
numbered_at (x ∷ hs) zero h all less is = subst (λ (y : Handler). 1 ≤ y.guardian) is all.0
numbered_at (x ∷ hs) (suc n) h all less is = numbered_at hs n h all.1 (omega arith) is

handler_guardian : (site : Site) (n : ℕ) (name : List ℕ) (d : Data) (place : List ℕ) (h : Handler) → handler site n name d place ≡ Ok h
    → h.guardian ≡ site.guardian
handler_guardian site n name d place h e =
    let parts = and_then_ok (the_three (codes "params") (codes "gives") (codes "body") d place) _ h e in
    let asked = and_then_ok (ask (nat_lt n max_handlers) is.Limit place) _ h parts.2 in
    let flows = and_then_ok (ask (not (may_lack_value (gives_in (parts.0).1) (parts.0).2)) is.Flow place) _ h asked.2 in
    let scope = and_then_ok (parameters (parts.0).0 (step place (codes "params"))) _ h flows.2 in
    let gives = and_then_ok (the_gives (parts.0).1 (step place (codes "gives"))) _ h scope.2 in
    let body = and_then_ok (body_in (context_at site gives.0) scope.0 (parts.0).2 (step place (codes "body"))) _ h gives.2 in
    sym (ap (λ (x : Handler). x.guardian) (ok_is _ h body.2))

handlers_numbered : (site : Site) (n : ℕ) (ms : Members) (place : List ℕ) (hs : List Handler) → 1 ≤ site.guardian
    → handlers_from site n ms place ≡ Ok hs → AreNumbered hs
handlers_numbered site n no_members place hs some e = subst AreNumbered (ok_is [] hs e) tt
handlers_numbered site n (member name d ms) place hs some e =
    let first = and_then_ok (handler site n name d (step place name)) _ hs e in
    let rest = and_then_ok (handlers_from site (suc n) ms place) _ hs first.2 in
    let numbered : 1 ≤ (first.0).guardian = omega (arith, handler_guardian site n name d (step place name) first.0 first.1) in
    subst AreNumbered (ok_is (first.0 ∷ rest.0) hs rest.2) (numbered, handlers_numbered site (suc n) ms place rest.0 some rest.1)

guardian_numbered : (gs : Items) (n first : ℕ) (d : Data) (place : List ℕ) (g : List Content × List Handler) → 1 ≤ n
    → guardian gs n first d place ≡ Ok g → AreNumbered g.1
guardian_numbered gs n first d place g some e =
    let parts = and_then_ok (the_two (codes "objects") (codes "handlers") d place) _ g e in
    let contents = and_then_ok (objects (parts.0).0 (step place (codes "objects"))) _ g parts.2 in
    let site : Site = record { guardian = n; objects = contents.0; guardians = gs } in
    let inside = step place (codes "handlers") in
    let hs = and_then_ok (handlers site first (parts.0).1 inside) _ g contents.2 in
    let members = and_then_ok (the_object (parts.0).1 inside) _ hs.0 hs.1 in
    let named = and_then_ok (ask (are_named members.0) is.Shape inside) _ hs.0 members.2 in
    subst AreNumbered (ap (λ p. p.1) (ok_is (contents.0, hs.0) g hs.2)) (handlers_numbered site first members.0 inside hs.0 some named.2)

added_numbered : (gs : Items) (n : ℕ) (before : Guardians) (d : Data) (place : List ℕ) (after : Guardians) → 1 ≤ n
    → add_guardian gs n before d place ≡ Ok after
    → AreNumbered before.handlers → AreNumbered after.handlers
added_numbered gs n before d place after some e so_far =
    let g = and_then_ok (guardian gs n (length before.handlers) d place) _ after e in
    let added = numbered_append before.handlers (g.0).1 so_far (guardian_numbered gs n (length before.handlers) d place g.0 some g.1) in
    subst AreNumbered (ap (λ (x : Guardians). x.handlers) (ok_is _ after g.2)) added

guardians_numbered : (gs : Items) (i : ℕ) (before : Guardians) (ds : Items) (place : List ℕ) (after : Guardians)
    → guardians_from gs i before ds place ≡ Ok after
    → AreNumbered before.handlers → AreNumbered after.handlers
guardians_numbered gs i before no_items place after e so_far =
    subst AreNumbered (ap (λ (x : Guardians). x.handlers) (ok_is before after e)) so_far
guardians_numbered gs i before (item d ds) place after e so_far =
    let inside = step place (decimal i) in
    let g = and_then_ok (add_guardian gs (suc i) before d inside) _ after e in
    guardians_numbered gs (suc i) g.0 ds place after g.2 (added_numbered gs (suc i) before d inside g.0 (omega arith) g.1 so_far)

pub handlers_have_guardians : (d : Data) (c : Checked) → script d [] ≡ Ok c → (h : Handler) → Contains c.handlers h → 1 ≤ h.guardian
handlers_have_guardians d c e h held =
    let place = step [] (codes "guardians") in
    let parts = and_then_ok (the_two (codes "guardians") (codes "clients") d []) _ c e in
    let documents = and_then_ok (the_list 1 max_guardians (parts.0).0 place) _ c parts.2 in
    let gs = and_then_ok (guardians_in documents.0 documents.0 place) _ c documents.2 in
    let cs = and_then_ok (clients documents.0 (gs.0).objects (parts.0).1 (step [] (codes "clients"))) _ c gs.2 in
    let numbered = guardians_numbered documents.0 0 (record { objects = []; handlers = [] }) documents.0 place gs.0 gs.1 tt in
    let are : AreNumbered c.handlers = subst AreNumbered (ap (λ (x : Checked). x.handlers) (ok_is _ c cs.2)) numbered in
    numbered_at c.handlers held.0 h are (omega (arith, held.1)) held.2
