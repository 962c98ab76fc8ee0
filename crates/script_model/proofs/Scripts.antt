-- What is read as a script is resolved.
use Rattle.std.proofs.Common.{Bool, List, None, Ok, Some, [], ap, arith, codes, cond, false, length, min, nat_le, option_and_then, option_map, refl, slice_get, subst, sym, true, suc, unwrap_or, zero, pos, negsuc, ℕ, ℤ, ◌+◌, ◌++◌, ◌-◌, ◌<◌, ◌≤◌, ◌∙◌, ◌∷◌, ◌≡◌, append_assoc, append-nil, length-append}
use Rattle.std.proofs.lemmas.Bool.{and_from, leb-true, le-leb}
use Rattle.std.proofs.lemmas.List.Folds.{list_all-append}
use Rattle.std.proofs.lemmas.Option.{none-some, same_Some, slice_get-get_or, unwrap_or-slice_get}
use Rattle.std.specs.List.{list_all}
use Rattle.serde_json.specs.Data.{Data, Items, no_items, item, Members, no_members}
use Rattle.serde_json.specs.Events.{items_len, members_len}
use Rattle.serde_json.specs.Find.{as_object, get_item, get_member}
use Rattle.values.specs.declared.content.Content.{Content}
use Rattle.script_model.specs.declared.fault.FaultKind.TheVariants as is
use Rattle.script_model.specs.declared.names.Gives.TheVariants.{Anything}
use Rattle.script_model.specs.declared.checked.Handler.{Handler}
use Rattle.script_model.specs.declared.checked.Client.{Client}
use Rattle.script_model.specs.declared.checked.Checked.{Checked}
use Rattle.script_model.specs.Reading.{Read, ask, at, each, need, nth, reads, step, ◌>>=◌, ◌>>◌}
use Rattle.script_model.specs.Shapes.{are_named, the_int, the_list, the_object, the_two, two_members}
use Rattle.script_model.specs.Signatures.{handler_found, handler_number, handlers_before, handlers_in, max_handlers, place_among}
use Rattle.script_model.specs.StatementReading.{Body, body_in, guardian_index, max_nesting, the_guardian}
use Rattle.script_model.specs.ScriptReading.{Guardians, Site, add_guardian, client, clients, context_at, guardian, guardians_from, guardians_in, handlers, handlers_from, max_clients, objects, objects_of, script}
use Rattle.limits.specs.Limits.{max_guardians}
use Rattle.script_model.specs.Reaching.{Fits}
use Rattle.script_model.specs.Resolved.{IsResolved, is_resolved_at, is_resolved_client, is_resolved_handler, objects_at}
use Rattle.script_model.proofs.Steps.{needed_ok, same_ok, then_read}
use Rattle.script_model.proofs.Calls.{AreNumbered, IsHandlerOf}
use Rattle.script_model.proofs.Members.{two_there}
use Rattle.script_model.proofs.Bodies.{bodies_resolve}
use Rattle.script_model.proofs.Handlers.{handlers_counted, handlers_found, handlers_resolved}

-- ---- lists

get_front : {A : Type 0} (xs ys : List A) (k : ℕ) (x : A) → slice_get xs k ≡ Some x → slice_get (xs ++ ys) k ≡ Some x
get_front [] ys k x h = absurd (none-some x h)
get_front (y ∷ xs) ys zero x h = h
get_front (y ∷ xs) ys (suc k) x h = get_front xs ys k x h

get_behind : {A : Type 0} (xs ys : List A) (k : ℕ) → slice_get (xs ++ ys) (length xs + k) ≡ slice_get ys k
get_behind [] ys k = let none : 0 + k ≡ k = omega arith in ap (slice_get ys) none
get_behind (x ∷ xs) ys k =
    let more : suc (length xs) + k ≡ suc (length xs + k) = omega arith in ap (slice_get (x ∷ (xs ++ ys))) more ∙ get_behind xs ys k

get_within : {A : Type 0} (xs : List A) (k : ℕ) (d : A) → k < length xs → slice_get xs k ≡ Some (unwrap_or (slice_get xs k) d)
get_within xs k d h = slice_get-get_or xs k d h ∙ ap Some (sym (unwrap_or-slice_get xs k d))

all_append : {A : Type 0} (p : A → Bool) (xs ys : List A) → list_all p xs ≡ true → list_all p ys ≡ true → list_all p (xs ++ ys) ≡ true
all_append p xs ys h k = list_all-append p xs ys ∙ and_from _ _ h k

all_read : {A : Type 0} (read : Data → Read A) (p : A → Bool) → ((d : Data) (place : List ℕ) (a : A) → read d place ≡ Ok a → p a ≡ true)
    → (i : ℕ) (ds : Items) (place : List ℕ) (xs : List A) → each read i ds place ≡ Ok xs → list_all p xs ≡ true
all_read read p f i no_items place xs h = subst (λ x. list_all p x ≡ true) (same_ok [] xs h) refl
all_read read p f i (item d ds) place xs h =
    let (x, q, r) = then_read (nth i (read d)) (λ x. each read (suc i) ds >>= λ rest. reads (x ∷ rest)) place xs h in
    let (rest, s, t) = then_read (each read (suc i) ds) (λ rest. reads (x ∷ rest)) place xs r in
    subst (λ y. list_all p y ≡ true) (same_ok (x ∷ rest) xs t) (and_from _ _ (f d _ x q) (all_read read p f (suc i) ds place rest s))

-- ---- one guardian

abbrev site_of : Items → ℕ → List Content → Site
site_of guardians n contents = record { guardian = n; objects = contents; guardians = guardians }

pub record IsGuardian (guardians : Items) (n first : ℕ) (d : Data) (g : List Content × List Handler) : Type 0 where
  pub members : Members
  pub are : handlers_in d ≡ members
  pub place : List ℕ
  pub read : handlers_from (site_of guardians n g.0) first members place ≡ Ok g.1

guardian_read : (guardians : Items) (n first : ℕ) (d : Data) (place : List ℕ) (g : List Content × List Handler)
    → guardian guardians n first d place ≡ Ok g → IsGuardian guardians n first d g
guardian_read guardians n first d place g h =
    let (parts, p0, h0) = then_read (the_two (codes "objects") (codes "handlers") d) by_parts place g h in
    let (contents, p1, h1) = then_read (at (codes "objects") (objects parts.0)) (by_contents parts) place g h0 in
    let (hs, p2, h2) = then_read (at (codes "handlers") (handlers (site_of guardians n contents) first parts.1))
    (λ hs. reads (contents, hs)) place g h1 in
    let (ms, p3, h3) = then_read (the_object parts.1) (λ ms. by_members contents ms) (step place (codes "handlers")) hs p2 in
    let (u, p4, h4) = then_read (ask (are_named ms) is.Shape) (λ _. handlers_from (site_of guardians n contents) first ms)
    (step place (codes "handlers")) hs h3 in
    let there = two_there (codes "objects") (codes "handlers") d parts
    (needed_ok (option_and_then (two_members (codes "objects") (codes "handlers")) (as_object d)) is.Shape place parts p0) in
    subst (IsGuardian guardians n first d) (same_ok (contents, hs) g h2)
    (record {
      members = ms;
      are = ap (λ o. unwrap_or o no_members)
          (ap (option_and_then as_object) there.1 ∙ needed_ok (as_object parts.1) is.Shape (step place (codes "handlers")) ms p3);
      place = step place (codes "handlers");
      read = h4;
    })
  where
    by_members : List Content → Members → Read (List Handler)
    by_members contents ms = ask (are_named ms) is.Shape >> handlers_from (site_of guardians n contents) first ms

    by_contents : Data × Data → List Content → Read (List Content × List Handler)
    by_contents parts contents =
        at (codes "handlers") (handlers (site_of guardians n contents) first parts.1) >>= λ hs. reads (contents, hs)

    by_parts : Data × Data → Read (List Content × List Handler)
    by_parts parts = at (codes "objects") (objects parts.0) >>= by_contents parts

abbrev added : Guardians → List Content × List Handler → Guardians
added so_far g = record { objects = so_far.objects ++ g.0 ∷ []; handlers = so_far.handlers ++ g.1 }

-- one more guardian, after those that were read
one_more : (guardians : Items) (i : ℕ) (so_far : Guardians) (d : Data) (ds : Items) (place : List ℕ) (gs : Guardians)
    → guardians_from guardians i so_far (item d ds) place ≡ Ok gs
    → (g : List Content × List Handler) × IsGuardian guardians (suc i) (length so_far.handlers) d g
    × (guardians_from guardians (suc i) (added so_far g) ds place ≡ Ok gs)
one_more guardians i so_far d ds place gs h =
    let (next, p, q) = then_read (nth i (add_guardian guardians (suc i) so_far d)) (λ g. guardians_from guardians (suc i) g ds) place
    gs h in
    let (g, r, s) = then_read (guardian guardians (suc i) (length so_far.handlers) d) (λ g. reads (added so_far g)) _ next p in (
      g,
      guardian_read guardians (suc i) (length so_far.handlers) d _ g r,
      subst (λ x. guardians_from guardians (suc i) x ds place ≡ Ok gs) (sym (same_ok (added so_far g) next s)) q,
    )

-- ---- all guardians

-- what was read so far stands before what was read after it
pub record Goes (so_far gs : Guardians) (n : ℕ) : Type 0 where
  pub more_objects : List (List Content)
  pub more_handlers : List Handler
  pub objects : gs.objects ≡ so_far.objects ++ more_objects
  pub handlers : gs.handlers ≡ so_far.handlers ++ more_handlers
  pub count : length more_objects ≡ n

pub goes_on : (guardians : Items) (i : ℕ) (so_far : Guardians) (ds : Items) (place : List ℕ) (gs : Guardians)
    → guardians_from guardians i so_far ds place ≡ Ok gs → Goes so_far gs (items_len ds)
goes_on guardians i so_far no_items place gs h =
    let same = same_ok so_far gs h in
    record {
      more_objects = [];
      more_handlers = [];
      objects = sym (ap (λ (x : Guardians). x.objects) same) ∙ sym (append-nil so_far.objects);
      handlers = sym (ap (λ (x : Guardians). x.handlers) same) ∙ sym (append-nil so_far.handlers);
      count = refl;
    }
goes_on guardians i so_far (item d ds) place gs h =
    let (g, is', r) = one_more guardians i so_far d ds place gs h in
    let after = goes_on guardians (suc i) (added so_far g) ds place gs r in
    record {
      more_objects = g.0 ∷ after.more_objects;
      more_handlers = g.1 ++ after.more_handlers;
      objects = after.objects ∙ append_assoc so_far.objects (g.0 ∷ []) after.more_objects;
      handlers = after.handlers ∙ append_assoc so_far.handlers g.1 after.more_handlers;
      count = ap suc after.count;
    }

-- ---- the numbers of handlers

abbrev IsFoundAt : List Handler → ℕ → Data → Type 0
IsFoundAt hs k d = (h : Handler) × (slice_get hs k ≡ Some h) × IsHandlerOf h d

-- those of the guardian that is read next
found_here : (guardians : Items) (i : ℕ) (so_far gs : Guardians) (x : Data) (count : ℕ) (g : List Content × List Handler)
    (name : List ℕ) (d : Data)
    → IsGuardian guardians (suc i) (length so_far.handlers) x g → Goes (added so_far g) gs count → get_member name (handlers_in x) ≡ Some d
    → IsFoundAt gs.handlers (length so_far.handlers + place_among max_handlers name (handlers_in x)) d
found_here guardians i so_far gs x count g name d is' after at' =
    let few = (handlers_counted (site_of guardians (suc i) g.0) (length so_far.handlers) is'.members is'.place g.1 is'.read).1 in
    let within : members_len is'.members ≤ max_handlers = omega (arith, few) in
    let (h, there, of) = handlers_found (site_of guardians (suc i) g.0) (length so_far.handlers) is'.members is'.place g.1 max_handlers
    name d is'.read within
    (ap (get_member name) (sym is'.are) ∙ at') in
    let k = place_among max_handlers name (handlers_in x) in
    let at_place : slice_get g.1 k ≡ Some h = ap (λ ms. slice_get g.1 (place_among max_handlers name ms)) is'.are ∙ there in (
      h,
      ap (λ hs. slice_get hs (length so_far.handlers + k)) after.handlers
          ∙ get_front (so_far.handlers ++ g.1) after.more_handlers (length so_far.handlers + k) h
          (get_behind so_far.handlers g.1 k ∙ at_place),
      of,
    )

found_from : (guardians : Items) (i : ℕ) (so_far : Guardians) (ds : Items) (place : List ℕ) (gs : Guardians) (n : ℕ) (name : List ℕ)
    (d : Data)
    → guardians_from guardians i so_far ds place ≡ Ok gs → handler_found ds n name ≡ Some d
    → IsFoundAt gs.handlers (length so_far.handlers + handler_number ds n name) d
found_from guardians i so_far no_items place gs n name d h f = absurd (none-some d f)
found_from guardians i so_far (item x ds) place gs zero name d h f =
    let (g, is', r) = one_more guardians i so_far x ds place gs h in
    let k = place_among max_handlers name (handlers_in x) in
    let first : length so_far.handlers + k ≡ length so_far.handlers + (0 + k) = omega arith in
    subst (λ m. IsFoundAt gs.handlers m d) first
    (found_here guardians i so_far gs x (items_len ds) g name d is' (goes_on guardians (suc i) (added so_far g) ds place gs r) f)
found_from guardians i so_far (item x ds) place gs (suc n) name d h f =
    let (g, is', r) = one_more guardians i so_far x ds place gs h in
    let counted = handlers_counted (site_of guardians (suc i) g.0) (length so_far.handlers) is'.members is'.place g.1 is'.read in
    let more = found_from guardians (suc i) (added so_far g) ds place gs n name d r f in
    subst (λ m. IsFoundAt gs.handlers m d)
    (numbers (length so_far.handlers) (length g.1) (members_len (handlers_in x)) (handlers_before n ds)
    (place_among max_handlers name (unwrap_or (option_map handlers_in (get_item n ds)) no_members)) (length (so_far.handlers ++ g.1))
    (length-append so_far.handlers g.1) (counted.0 ∙ sym (ap members_len is'.are))
    (at_most (members_len is'.members) (length so_far.handlers) (members_len (handlers_in x)) counted.1 (ap members_len is'.are))) more
  where
    at_most : (m s k : ℕ) → m ≤ max_handlers - s → k ≡ m → k ≤ max_handlers
    at_most m s k h e = omega (arith, h, e)

    numbers : (s c m b p t : ℕ) → t ≡ s + c → c ≡ m → m ≤ max_handlers → t + (b + p) ≡ s + ((min m max_handlers + b) + p)
    numbers s c m b p t total same few = omega (arith, total, same, few)

pub all_numbered : (ds : Items) (place : List ℕ) (gs : Guardians) → guardians_in ds ds place ≡ Ok gs → AreNumbered ds gs.handlers
all_numbered ds place gs h n name d f =
    let none : 0 + handler_number ds n name ≡ handler_number ds n name = omega arith in
    subst (λ m. IsFoundAt gs.handlers m d) none (found_from ds 0 (record { objects = []; handlers = [] }) ds place gs n name d h f)

-- ---- handlers and clients

objects_here : (c : Checked) (so_far : List (List Content)) (contents : List Content) (more : List (List Content)) (i : ℕ)
    → c.guardians ≡ (so_far ++ contents ∷ []) ++ more → i ≡ length so_far → objects_at c (suc i) ≡ Some contents
objects_here c so_far contents more i is' at' =
    let less : suc i - 1 ≡ length so_far + 0 = omega (arith, at') in
    ap (λ t. cond t (slice_get c.guardians (suc i - 1)) None) (le-leb 1 (suc i) (omega arith))
    ∙ ap (slice_get c.guardians) less ∙ ap (λ gs. slice_get gs (length so_far + 0)) is'
    ∙ get_front (so_far ++ contents ∷ []) more (length so_far + 0) contents (get_behind so_far (contents ∷ []) 0)

all_resolved : (c : Checked) (guardians : Items) (i : ℕ) (so_far : Guardians) (ds : Items) (place : List ℕ) (gs : Guardians)
    → c.guardians ≡ gs.objects → AreNumbered guardians c.handlers → i ≡ length so_far.objects
    → list_all (is_resolved_handler c) so_far.handlers ≡ true → guardians_from guardians i so_far ds place ≡ Ok gs
    → list_all (is_resolved_handler c) gs.handlers ≡ true
all_resolved c guardians i so_far no_items place gs objs numbered at' before h =
    subst (λ (x : Guardians). list_all (is_resolved_handler c) x.handlers ≡ true) (same_ok so_far gs h) before
all_resolved c guardians i so_far (item d ds) place gs objs numbered at' before h =
    let (g, is', r) = one_more guardians i so_far d ds place gs h in
    let after = goes_on guardians (suc i) (added so_far g) ds place gs r in
    let here = objects_here c so_far.objects g.0 after.more_objects i (objs ∙ after.objects) at' in
    let hs = handlers_resolved (site_of guardians (suc i) g.0) (length so_far.handlers) is'.members is'.place g.1 c here numbered
    is'.read in
    let longer : suc i ≡ length (so_far.objects ++ g.0 ∷ []) = omega (arith, at', length-append so_far.objects (g.0 ∷ [])) in
    all_resolved c guardians (suc i) (added so_far g) ds place gs objs numbered longer
    (all_append (is_resolved_handler c) so_far.handlers g.1 before hs) r

guardian_within : (count : ℕ) (z : ℤ) (n : ℕ) → guardian_index count z ≡ Some n → n < count
guardian_within count (pos zero) n h = absurd (none-some n h)
guardian_within count (pos (suc m)) n h = by_case (nat_le (suc m) count) refl h
  where
    by_case : (t : Bool) → nat_le (suc m) count ≡ t → cond t (Some m) None ≡ Some n → n < count
    by_case true e h = subst (λ k. k < count) (same_Some m n h) (leb-true (suc m) count e)
    by_case false e h = absurd (none-some n h)
guardian_within count (negsuc m) n h = absurd (none-some n h)

the_guardian_within : (guardians : Items) (d : Data) (place : List ℕ) (n : ℕ) → the_guardian guardians d place ≡ Ok n
    → n < items_len guardians
the_guardian_within guardians d place n h =
    let (z, p, q) = then_read (the_int d) (λ z. need (guardian_index (items_len guardians) z) is.Guardian) place n h in
    guardian_within (items_len guardians) z n (needed_ok (guardian_index (items_len guardians) z) is.Guardian place n q)

client_resolved : (c : Checked) (guardians : Items) (d : Data) (place : List ℕ) (one : Client) → AreNumbered guardians c.handlers
    → length c.guardians ≡ items_len guardians → client guardians c.guardians d place ≡ Ok one → is_resolved_client c one ≡ true
client_resolved c guardians d place one numbered count h =
    let (parts, p0, h0) = then_read (the_two (codes "home") (codes "body") d) by_parts place one h in
    let (n, p1, h1) = then_read (at (codes "home") (the_guardian guardians parts.0)) (by_home parts) place one h0 in
    let (body, p2, h2) = then_read (at (codes "body") (body_in (context_at (site n) Anything) [] parts.1))
    (λ body. reads (made n body)) place one h1 in
    let within = the_guardian_within guardians parts.0 _ n p1 in
    let less : suc n - 1 ≡ n = omega arith in
    let inside : n < length c.guardians = omega (arith, within, count) in
    let here : objects_at c (suc n) ≡ Some (objects_of c.guardians n) =
    ap (λ t. cond t (slice_get c.guardians (suc n - 1)) None) (le-leb 1 (suc n) (omega arith)) ∙ ap (slice_get c.guardians) less
    ∙ get_within c.guardians n [] inside in
    subst (λ x. is_resolved_client c x ≡ true) (same_ok (made n body) one h2)
    (ap (λ o. is_resolved_at o c Anything (record { ints = 0; texts = 0; truths = 0 }) body) here
    ∙ bodies_resolve c.handlers guardians numbered max_nesting (context_at (site n) Anything) [] parts.1 (step place (codes "body"))
    body refl refl p2)
  where
    site : ℕ → Site
    site n = site_of guardians (suc n) (objects_of c.guardians n)

    made : ℕ → Body → Client
    made n body = record { home = suc n; body = body }

    by_home : Data × Data → ℕ → Read Client
    by_home parts n = at (codes "body") (body_in (context_at (site n) Anything) [] parts.1) >>= λ body. reads (made n body)

    by_parts : Data × Data → Read Client
    by_parts parts = at (codes "home") (the_guardian guardians parts.0) >>= by_home parts

clients_resolved : (c : Checked) (guardians : Items) (d : Data) (place : List ℕ) (cs : List Client) → AreNumbered guardians c.handlers
    → length c.guardians ≡ items_len guardians → clients guardians c.guardians d place ≡ Ok cs → list_all (is_resolved_client c) cs ≡ true
clients_resolved c guardians d place cs numbered count h =
    let (ds, p, q) = then_read (the_list 1 max_clients d) (each (client guardians c.guardians) 0) place cs h in
    all_read (client guardians c.guardians) (is_resolved_client c)
    (λ d place one. client_resolved c guardians d place one numbered count) 0 ds place cs q

-- ---- the whole

abbrev made_of : Guardians → List Client → Checked
made_of gs cs = record { guardians = gs.objects; handlers = gs.handlers; clients = cs }

abbrev AllResolved : Checked → Type 0
AllResolved c = (list_all (is_resolved_handler c) c.handlers ≡ true) × (list_all (is_resolved_client c) c.clients ≡ true)

script_resolved : (d : Data) (c : Checked) → script d [] ≡ Ok c → AllResolved c
script_resolved d c h =
    let (parts, p0, h0) = then_read (the_two (codes "guardians") (codes "clients") d) by_parts [] c h in
    let (ds, p1, h1) = then_read (at (codes "guardians") (the_list 1 max_guardians parts.0)) (by_list parts) [] c h0 in
    let (gs, p2, h2) = then_read (at (codes "guardians") (guardians_in ds ds)) (by_guardians parts ds) [] c h1 in
    let (cs, p3, h3) = then_read (at (codes "clients") (clients ds gs.objects parts.1)) (λ cs. reads (made_of gs cs)) [] c h2 in
    let numbered = all_numbered ds _ gs p2 in
    let start : Guardians = record { objects = []; handlers = [] } in
    let goes = goes_on ds 0 start ds _ gs p2 in
    let count : length gs.objects ≡ items_len ds = ap length goes.objects ∙ goes.count in
    subst AllResolved (same_ok (made_of gs cs) c h3) (
      all_resolved (made_of gs cs) ds 0 start ds _ gs refl numbered refl refl p2,
      clients_resolved (made_of gs cs) ds parts.1 _ cs numbered count p3,
    )
  where
    by_guardians : Data × Data → Items → Guardians → Read Checked
    by_guardians parts ds gs = at (codes "clients") (clients ds gs.objects parts.1) >>= λ cs. reads (made_of gs cs)

    by_list : Data × Data → Items → Read Checked
    by_list parts ds = at (codes "guardians") (guardians_in ds ds) >>= by_guardians parts ds

    by_parts : Data × Data → Read Checked
    by_parts parts = at (codes "guardians") (the_list 1 max_guardians parts.0) >>= by_list parts

pub reading_resolves : (document : Data) (c : Checked) → Fits document c → IsResolved c
reading_resolves document c fits =
    let (handlers, clients) = script_resolved document c fits.read in record { handlers = handlers; clients = clients; ends = fits.ends }
