-- A handler, a client and a script, read part after part.
use Rattle.std.proofs.Common.{◌≡◌, ◌≤◌, ◌<◌, ℕ, zero, suc, ℤ, pos, negsuc, List, [], length, Bool, true, false, ◌&&◌, not, nat_le, nat_lt, cond, codes, Some, None, Ok, Err, refl, sym, ap, subst, arith}
use Rattle.std.proofs.lemmas.Bool.{leb-true}
use Rattle.serde_json.specs.Data.{Data, Items}
use Rattle.serde_json.specs.Events.{items_len}
use Rattle.serde_json.specs.View.{items_view}
use Rattle.serde_json.specs.declared.value.Value.{Value}
use Rattle.serde_json.proofs.Views.{items_len-items_view}
use Rattle.values.specs.declared.content.Content.{Content}
use Rattle.script_model.specs.declared.fault.FaultKind.TheVariants as is
use Rattle.script_model.specs.declared.fault.ScriptFault.{ScriptFault}
use Rattle.script_model.specs.declared.names.Gives.{Gives}
use Rattle.script_model.specs.declared.names.Gives.TheVariants.{Anything}
use Rattle.script_model.specs.declared.names.Sort.TheVariants.{Int, Text}
use Rattle.script_model.specs.declared.checked.Handler.{Handler}
use Rattle.script_model.specs.declared.checked.Client.{Client}
use Rattle.script_model.specs.Reading.{and_then, step, ask}
use Rattle.script_model.specs.Scopes.{Scope, count_bound}
use Rattle.script_model.specs.Shapes.{the_array, the_int, the_list, the_two, the_three}
use Rattle.script_model.specs.Signatures.{max_handlers, gives_in}
use Rattle.script_model.specs.StatementReading.{body_in, guardian_index, guardian_numbered}
use Rattle.script_model.specs.ScriptReading.{Site, context_at, may_lack_value, parameters, the_gives, kind_given, handler, objects_of, client, clients, guardians_in, Guardians, script}
use Rattle.limits.specs.Limits.{max_guardians}
use Rattle.script_parts.proofs.Asked.{and_then_ok, ask_true, need_some, ok_is}

-- ---- handlers

pub handler_flow : (site : Site) (n : ℕ) (name : List ℕ) (d : Data) (place : List ℕ) (p g b : Data) (e : ScriptFault)
    → the_three (codes "params") (codes "gives") (codes "body") d place ≡ Ok (p, g, b)
    → ask (nat_lt n max_handlers) is.Limit place ≡ Ok tt → ask (not (may_lack_value (gives_in g) b)) is.Flow place ≡ Err e
    → handler site n name d place ≡ Err e
handler_flow site n name d place p g b e parts few flow = rw (parts, few, flow)

-- all that is read of a handler before its body
pub record HandlerBefore (site : Site) (n : ℕ) (d : Data) (place : List ℕ) (b : Data) (scope : Scope) (gives : Gives) : Type 0 where
  pub params : Data
  pub given : Data
  pub parts : the_three (codes "params") (codes "gives") (codes "body") d place ≡ Ok (params, given, b)
  pub few : ask (nat_lt n max_handlers) is.Limit place ≡ Ok tt
  pub flow : ask (not (may_lack_value (gives_in given) b)) is.Flow place ≡ Ok tt
  pub scope_is : parameters params (step place (codes "params")) ≡ Ok scope
  pub gives_is : the_gives given (step place (codes "gives")) ≡ Ok gives

handler_is : (site : Site) (n : ℕ) (name : List ℕ) (d : Data) (place : List ℕ) (b : Data) (scope : Scope) (gives : Gives)
    → HandlerBefore site n d place b scope gives
    → handler site n name d place ≡ and_then (body_in (context_at site gives) scope b (step place (codes "body"))) (λ body. Ok (record {
      name = name;
      guardian = site.guardian;
      ints = count_bound Int scope;
      texts = count_bound Text scope;
      gives = kind_given gives;
      body = body;
    }))
handler_is site n name d place b scope gives h = rw (h.parts, h.few, h.flow, h.scope_is, h.gives_is)

pub handler_stop : (site : Site) (n : ℕ) (name : List ℕ) (d : Data) (place : List ℕ) (b : Data) (scope : Scope) (gives : Gives)
    (e : ScriptFault) → HandlerBefore site n d place b scope gives
    → body_in (context_at site gives) scope b (step place (codes "body")) ≡ Err e → handler site n name d place ≡ Err e
handler_stop site n name d place b scope gives e h stop = rw (handler_is site n name d place b scope gives h, stop)

pub handler_read : (site : Site) (n : ℕ) (name : List ℕ) (d : Data) (place : List ℕ) (b : Data) (scope : Scope) (gives : Gives)
    (h : Handler) → HandlerBefore site n d place b scope gives
    → body_in (context_at site gives) scope b (step place (codes "body")) ≡ Ok h.body → h.name ≡ name → h.guardian ≡ site.guardian
    → h.ints ≡ count_bound Int scope
    → h.texts ≡ count_bound Text scope → h.gives ≡ kind_given gives → handler site n name d place ≡ Ok h
handler_read site n name d place b scope gives h before body named stands ints texts given =
    rw (handler_is site n name d place b scope gives before, body)
    (λ i. Ok (let x : Handler = record {
      name = sym named i;
      guardian = sym stands i;
      ints = sym ints i;
      texts = sym texts i;
      gives = sym given i;
      body = h.body;
    } in x))

-- ---- clients

pub client_lost : (gs : Items) (all : List (List Content)) (d : Data) (place home : List ℕ) (h b : Data) (count : ℕ) (e : ScriptFault)
    → the_two (codes "home") (codes "body") d place ≡ Ok (h, b) → home ≡ step place (codes "home") → count ≡ items_len gs
    → guardian_numbered count h home ≡ Err e → client gs all d place ≡ Err e
client_lost gs all d place home h b count e parts at counts lost =
    let told : guardian_numbered (items_len gs) h (step place (codes "home")) ≡ Err e =
    subst (λ q. guardian_numbered (items_len gs) h q ≡ Err e) at (subst (λ c. guardian_numbered c h home ≡ Err e) counts lost) in
    rw (parts, told)

-- what is read of a client before its body
pub record ClientBefore (gs : Items) (d : Data) (place : List ℕ) (b : Data) (n : ℕ) : Type 0 where
  pub home : Data
  pub parts : the_two (codes "home") (codes "body") d place ≡ Ok (home, b)
  pub found : guardian_numbered (items_len gs) home (step place (codes "home")) ≡ Ok n

client_is : (gs : Items) (all : List (List Content)) (d : Data) (place : List ℕ) (b : Data) (n k : ℕ) → ClientBefore gs d place b n
    → client gs all d place ≡ and_then (body_in (context_at
    (record { guardian = k; objects = objects_of all n; guardians = gs }) Anything) [] b (step place (codes "body")))
    (λ body. Ok (record { home = suc n; body = body }))
client_is gs all d place b n k h = rw (h.parts, h.found)

pub client_stop : (gs : Items) (all : List (List Content)) (d : Data) (place : List ℕ) (b : Data) (n k : ℕ) (e : ScriptFault)
    → ClientBefore gs d place b n
    → body_in (context_at (record { guardian = k; objects = objects_of all n; guardians = gs }) Anything) [] b
    (step place (codes "body")) ≡ Err e → client gs all d place ≡ Err e
client_stop gs all d place b n k e h stop = rw (client_is gs all d place b n k h, stop)

pub client_read : (gs : Items) (all : List (List Content)) (d : Data) (place : List ℕ) (b : Data) (n k : ℕ) (c : Client)
    → ClientBefore gs d place b n
    → body_in (context_at (record { guardian = k; objects = objects_of all n; guardians = gs }) Anything) [] b
    (step place (codes "body")) ≡ Ok c.body → c.home ≡ suc n
    → client gs all d place ≡ Ok c
client_read gs all d place b n k c h body home =
    rw (client_is gs all d place b n k h, body) (λ i. Ok (let x : Client = record { home = sym home i; body = c.body } in x))

below_at : (b : Bool) (count m n : ℕ) → nat_le (suc m) count ≡ b → cond b (Some m) None ≡ Some n → n < count
below_at true count m n few e = let same : m ≡ n = cc in omega (arith, leb-true _ _ few)
below_at false count m n few e = cc

-- the index of a guardian is below their number
index_below : (count : ℕ) (z : ℤ) (n : ℕ) → guardian_index count z ≡ Some n → n < count
index_below count (pos zero) n e = cc
index_below count (pos (suc m)) n e = below_at (nat_le (suc m) count) count m n refl e
index_below count (negsuc m) n e = cc

pub guardian_within : (count : ℕ) (d : Data) (place : List ℕ) (n : ℕ) → guardian_numbered count d place ≡ Ok n → n < count
guardian_within count d place n e =
    let z = and_then_ok (the_int d place) _ n e in
    index_below count z.0 n (need_some _ _ _ n z.2)

-- ---- scripts

second_true : (a b : Bool) → (a && b) ≡ true → b ≡ true
second_true true b e = e
second_true false b e = cc

pub list_within : (least most : ℕ) (d : Data) (place : List ℕ) (vs : List Value) → the_list least most d place ≡ Ok (items_view vs)
    → length vs ≤ most
list_within least most d place vs e =
    let elements = and_then_ok (the_array d place) _ (items_view vs) e in
    let asked =
    and_then_ok (ask (nat_le least (items_len elements.0) && nat_le (items_len elements.0) most) is.Limit place) _
    (items_view vs) elements.2 in
    let count = items_len elements.0 in
    let few : count ≤ most =
    leb-true count most (second_true (nat_le least count) (nat_le count most)
    (ask_true (nat_le least count && nat_le count most) is.Limit place asked.1)) in
    omega (arith, few, ap items_len (ok_is elements.0 (items_view vs) asked.2), items_len-items_view vs)

-- all that is read of a script before its clients
pub record ScriptBefore (d : Data) (ds : Items) (gs : Guardians) (b : Data) : Type 0 where
  pub first : Data
  pub parts : the_two (codes "guardians") (codes "clients") d [] ≡ Ok (first, b)
  pub documents : the_list 1 max_guardians first (step [] (codes "guardians")) ≡ Ok ds
  pub guardians : guardians_in ds ds (step [] (codes "guardians")) ≡ Ok gs

script_is : (d : Data) (ds : Items) (gs : Guardians) (b : Data) → ScriptBefore d ds gs b
    → script d [] ≡ and_then (clients ds gs.objects b (step [] (codes "clients")))
    (λ cs. Ok (record { guardians = gs.objects; handlers = gs.handlers; clients = cs }))
script_is d ds gs b h = rw (h.parts, h.documents, h.guardians)

pub script_stop : (d : Data) (ds : Items) (gs : Guardians) (b : Data) (e : ScriptFault) → ScriptBefore d ds gs b
    → clients ds gs.objects b (step [] (codes "clients")) ≡ Err e → script d [] ≡ Err e
script_stop d ds gs b e h stop = rw (script_is d ds gs b h, stop)

pub script_read : (d : Data) (ds : Items) (gs : Guardians) (b : Data) (cs : List Client) → ScriptBefore d ds gs b
    → clients ds gs.objects b (step [] (codes "clients")) ≡ Ok cs
    → script d [] ≡ Ok (record { guardians = gs.objects; handlers = gs.handlers; clients = cs })
script_read d ds gs b cs h read = rw (script_is d ds gs b h, read)
