-- Clients that are tried one after another: each runs to its end, or until a fault ends it.
use Rattle.std.proofs.Common.{Err, Global, IfErr, IfOk, List, Ok, OnErr, Option, Result, Vec, [], ap, arith, drop, get_or, inl, inr, length, refl, subst, sym, take, vec_capacity, vec_len, ℕ, ◌+◌, ◌<◌, ◌≤◌, ◌++◌, ◌∙◌, ◌∷◌, ◌≡◌, ◌⊎◌}
use Rattle.std.proofs.lemmas.List.{length_push, take-append-drop, take_all, take_more}
use Rattle.std.specs.Result.{result_unwrap_or}
use Rattle.action_names.specs.Names.{Name}
use Rattle.run_model.specs.Runs.{World}
use Rattle.script_model.specs.declared.checked.Client.{Client}
use Rattle.script_model.specs.declared.checked.Handler.{Handler}
use Rattle.activities.specs.declared.client.ClientEnd.{ClientEnd}
use Rattle.activities.specs.Ends.{AllCame, AreTried, CameInTurn, ClientCame, ClientCut, ClientMade, ClientTried, IsTopAt, IsTopOrNothing, TriedInTurn, all_ends, ends_with, listed, named_by, top_of}
use Rattle.activities.specs.Making.{ClientMakes, ClientsMake}
use Rattle.activities.specs.Serial.{client_ran, clients_ran}
use Rattle.activities.proofs.ArmsGone.{ok_no_err}
use Rattle.activities.proofs.ClientSteps.{client_makes, clients_nowhere, clients_through}
use Rattle.activities.proofs.Meaning.{if_ok_at, one_more_ran}

-- a client that a fault ended; under a premise its top action began as asked
pub cut_of : (home : ℕ) (top : Option Name) (alone : Type 0) (old new : World) → ClientMakes home top old new
    → (alone → IsTopOrNothing home old top)
    → (top : Option Name) × ClientMakes home top old new × (alone → IsTopOrNothing home old top)
cut_of home top alone old new m b = (top, m, b)

-- what is so where an error came
pub on_err : {X E : Type 0} {P : Type 0} (result : Result X E) → P → OnErr result P
on_err (Ok x) p = tt
on_err (Err e) p = p

-- ---- clients that were tried

tried_push : (clients : List Client) (client : Client) (old mid new : World) → TriedInTurn clients old mid → ClientTried client.home mid new
    → TriedInTurn (clients ++ (client ∷ [])) old new
tried_push [] client old mid new t c = (new, subst (λ w. ClientTried client.home w new) t c, refl)
tried_push (first ∷ clients) client old mid new t c =
    let (next, one, rest) = t in (next, one, tried_push clients client next mid new rest c)

-- the first so many clients, and what they left
pub record TriedSoFar (clients : List Client) (i : ℕ) (old new : World) : Type 0 where
  pub in_turn : TriedInTurn (take i clients) old new
  pub tops : List Name
  pub makes : ClientsMake tops old new

pub none_tried : (clients : List Client) (w : World) → TriedSoFar clients 0 w w
none_tried clients w = record { in_turn = refl; tops = []; makes = clients_nowhere w }

-- one client more
one_more_tried : (clients : List Client) (i : ℕ) (client : Client) (old mid new : World) (top : Option Name) → i < length clients
    → client ≡ get_or clients i client → TriedSoFar clients i old mid → ClientTried client.home mid new → ClientMakes client.home top mid new
    → TriedSoFar clients (i + 1) old new
one_more_tried clients i client old mid new top l g t c m = record {
  in_turn =
      subst (λ x. TriedInTurn x old new) (ap (λ x. take i clients ++ (x ∷ [])) g ∙ sym (take_more clients i client l))
      (tried_push (take i clients) client old mid new t.in_turn c);
  tops = t.tops ++ named_by top;
  makes = clients_through old mid new t.tops (named_by top) t.makes (client_makes client.home top mid new m);
}

pub ran_is_tried : (clients : List Client) (i : ℕ) (client : Client) (old mid new : World) (end : ClientEnd) → i < length clients
    → client ≡ get_or clients i client → TriedSoFar clients i old mid → ClientMade client.home end mid new → IsTopAt client.home mid (top_of end)
    → TriedSoFar clients (i + 1) old new
ran_is_tried clients i client old mid new end l g t m a =
    one_more_tried clients i client old mid new (top_of end) l g t (inl (end, a, m)) m.makes

pub cut_is_tried : (clients : List Client) (i : ℕ) (client : Client) (old mid new : World) → i < length clients
    → client ≡ get_or clients i client → TriedSoFar clients i old mid → ClientCut client.home mid new → TriedSoFar clients (i + 1) old new
cut_is_tried clients i client old mid new l g t c = one_more_tried clients i client old mid new c.top l g t (inr c) c.makes

-- where it stops there
pub some_tried : (clients all : List Client) (i : ℕ) (old new : World) → clients ≡ all → TriedSoFar clients i old new → AreTried all old new
some_tried clients all i old new e t =
    subst (λ x. AreTried x old new) e (record {
      tried = take i clients;
      rest = drop i clients;
      parts = sym (take-append-drop i clients);
      in_turn = t.in_turn;
      tops = t.tops;
      makes = t.makes;
    })

-- ---- what clients came to

pub came_by : {E : Type 0} (home : ℕ) (old new : World) (one : Result ClientEnd E) → IfOk one (λ end. ClientMade home end old new)
    → IfOk one (λ end. Unit {0} → IsTopAt home old (top_of end))
    → OnErr one ((top : Option Name) × ClientMakes home top old new × (Unit {0} → IsTopOrNothing home old top)) → ClientCame home old new one
came_by home old new (Ok end) m t c = (t tt, m)
came_by home old new (Err fault) m t c = record { top = c.0; began = c.2 tt; makes = c.1 }

pub next_is_tried : {E : Type 0} (clients : List Client) (i : ℕ) (client : Client) (old mid new : World) (one : Result ClientEnd E) → i < length clients
    → client ≡ get_or clients i client → TriedSoFar clients i old mid → ClientCame client.home mid new one → TriedSoFar clients (i + 1) old new
next_is_tried clients i client old mid new (Ok end) l g t c = ran_is_tried clients i client old mid new end l g t c.1 c.0
next_is_tried clients i client old mid new (Err fault) l g t c = cut_is_tried clients i client old mid new l g t c

came_push : {E : Type 0} (clients : List Client) (client : Client) (old mid new : World) (came : List (Result ClientEnd E)) (one : Result ClientEnd E)
    → CameInTurn clients old mid came → ClientCame client.home mid new one → CameInTurn (clients ++ (client ∷ [])) old new (came ++ (one ∷ []))
came_push [] client old mid new [] one t c = (new, subst (λ w. ClientCame client.home w new one) t c, refl)
came_push [] client old mid new (first ∷ came) one t c = absurd t
came_push (next ∷ clients) client old mid new [] one t c = absurd t
came_push (next ∷ clients) client old mid new (first ∷ came) one t c =
    let (between, h, rest) = t in (between, h, came_push clients client between mid new came one rest c)

all_push : {E : Type 0} (ends : Result (List ClientEnd) E) (came : List (Result ClientEnd E)) (one : Result ClientEnd E)
    → all_ends ends (came ++ (one ∷ [])) ≡ ends_with (all_ends ends came) one
all_push ends [] one = refl
all_push ends (first ∷ came) one = all_push (ends_with ends first) came one

-- one client more
pub next_came : {E : Type 0} (clients : List Client) (i : ℕ) (client : Client) (old mid new : World) (before all : Result (List ClientEnd) E)
    (one : Result ClientEnd E) → i < length clients → client ≡ get_or clients i client → all ≡ ends_with before one
    → AllCame (take i clients) old mid before → ClientCame client.home mid new one → AllCame (take (i + 1) clients) old new all
next_came clients i client old mid new before all one l g e t c = record {
  came = t.came ++ (one ∷ []);
  in_turn =
      subst (λ x. CameInTurn x old new (t.came ++ (one ∷ []))) (ap (λ x. take i clients ++ (x ∷ [])) g ∙ sym (take_more clients i client l))
      (came_push (take i clients) client old mid new t.came one t.in_turn c);
  is_all = e ∙ ap (λ b. ends_with b one) t.is_all ∙ sym (all_push (Ok []) t.came one);
}

-- where all have come to something
pub all_came : {E : Type 0} (clients all : List Client) (i : ℕ) (old new : World) (ends : Result (Vec ClientEnd Global) E) → clients ≡ all
    → length clients ≤ i → AllCame (take i clients) old new (listed ends) → IfErr ends (λ fault. (new ≡ old) ⊎ AllCame all old new (Err fault))
all_came clients all i old new (Ok ends) e l c = tt
all_came clients all i old new (Err fault) e l c = inr (subst (λ x. AllCame x old new (Err fault)) (take_all i clients l ∙ e) c)

-- what is so of whatever error came
pub if_err_any : {X E : Type 0} {P : E → Type 0} (result : Result X E) → ((e : E) → P e) → IfErr result P
if_err_any (Ok x) p = tt
if_err_any (Err e) p = p e

-- ---- their ends

-- what is so of the ends, by the ends before and the next one
ends_added : {E : Type 0} {P Q : Vec ClientEnd Global → Type 0} {R : ClientEnd → Type 0} (before all : Result (Vec ClientEnd Global) E)
    (one : Result ClientEnd E) → listed all ≡ ends_with (listed before) one → IfOk before P → IfOk one R
    → ((b a : Vec ClientEnd Global) (end : ClientEnd) → before ≡ Ok b → all ≡ Ok a → a.items ≡ b.items ++ (end ∷ []) → P b → R end → Q a) → IfOk all Q
ends_added before (Err fault) one e p r k = tt
ends_added (Err fault) (Ok a) one e p r k = absurd (ok_no_err (Ok a.items) a.items fault refl e)
ends_added (Ok b) (Ok a) (Err fault) e p r k = absurd (ok_no_err (Ok a.items) a.items fault refl e)
ends_added (Ok b) (Ok a) (Ok end) e p r k = k b a end refl refl (ap (λ x. result_unwrap_or x []) e) p r

any_ok : {X E : Type 0} (r : Result X E) → IfOk r (λ x. Unit {0})
any_ok (Ok x) = tt
any_ok (Err e) = tt

-- the first so many ends, and room for so many
abbrev pub HasRoom : ℕ → ℕ → Vec ClientEnd Global → Type 0
HasRoom i most ends = (length ends.items ≡ i) × (most ≤ vec_capacity ends)

pub has_room : {E : Type 0} (ends : Result (Vec ClientEnd Global) E) (i most : ℕ) → i < most → IfOk ends (HasRoom i most)
    → IfOk ends (λ ends. vec_len ends < vec_capacity ends)
has_room (Ok ends) i most l h = let full = ends.ok.0 in omega (arith, full, h.0, h.1, l)
has_room (Err fault) i most l h = tt

pub room_left : {E : Type 0} (before all : Result (Vec ClientEnd Global) E) (one : Result ClientEnd E) (i most : ℕ)
    → listed all ≡ ends_with (listed before) one → IfOk all (λ a. IfOk before (λ b. vec_capacity a ≡ vec_capacity b))
    → IfOk before (HasRoom i most) → IfOk all (HasRoom (i + 1) most)
room_left before all one i most e s h =
    ends_added {P = HasRoom i most} {Q = HasRoom (i + 1) most} {R = λ end. Unit {0}} before all one e h (any_ok one) (λ b a end p q more room u. (
      ap length more ∙ length_push b.items end ∙ ap (λ n. n + 1) room.0,
      subst (λ n. most ≤ n)
          (sym (if_ok_at (λ b. vec_capacity a ≡ vec_capacity b) before b p (if_ok_at (λ a. IfOk before (λ b. vec_capacity a ≡ vec_capacity b)) all a q s)))
          room.1,
    ))

-- the clients ran, as they are to, and one client more
pub next_ran : {E : Type 0} (handlers : List Handler) (clients : List Client) (i : ℕ) (client : Client) (old mid new : World)
    (before all : Result (Vec ClientEnd Global) E) (one : Result ClientEnd E) → i < length clients → client ≡ get_or clients i client
    → listed all ≡ ends_with (listed before) one
    → IfOk before (λ ends. record { world = mid; ends = ends.items } ≡ clients_ran handlers (take i clients) old)
    → IfOk one (λ end. Unit {0} → (new, end) ≡ client_ran handlers client mid)
    → IfOk all (λ ends. record { world = new; ends = ends.items } ≡ clients_ran handlers (take (i + 1) clients) old)
next_ran handlers clients i client old mid new before all one l g e h k =
    ends_added {P = λ ends. record { world = mid; ends = ends.items } ≡ clients_ran handlers (take i clients) old}
    {Q = λ ends. record { world = new; ends = ends.items } ≡ clients_ran handlers (take (i + 1) clients) old}
    {R = λ end. Unit {0} → (new, end) ≡ client_ran handlers client mid} before all one e h k
    (λ b a end p q more ran one_ran. ap (λ x. record { world = new; ends = x }) more
    ∙ one_more_ran handlers (take i clients) client old mid new b.items end ran (one_ran tt)
    ∙ ap (λ x. clients_ran handlers x old) (ap (λ x. take i clients ++ (x ∷ [])) g ∙ sym (take_more clients i client l)))
