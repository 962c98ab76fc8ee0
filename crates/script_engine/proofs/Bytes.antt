-- The bytes of a file determine what is said of them.
use Rattle.std.proofs.Common.{Err, List, None, Ok, Option, Ordering, Result, Some, [], ap, append-nil, inl, inr, nat_cmp, refl, slice_get, subst, sym, ℕ, ◌<◌, ◌∙◌, ◌≡◌, ◌++◌}
use Rattle.std.proofs.lemmas.Cmp.{by_ranked, ranked}
use Rattle.std.proofs.lemmas.Option.{same_Some}
use Rattle.std.specs.Io.KnownBytes.{Appends, Keeps}
use Rattle.serde_json.specs.Data.{Data}
use Rattle.script_model.specs.declared.checked.Checked.{Checked}
use Rattle.script_model.specs.declared.fault.FaultKind.{FaultKind}
use Rattle.script_model.specs.declared.fault.ScriptFault.{ScriptFault}
use Rattle.script_model.specs.declared.fault.ScriptFault.TheVariants.{Bad}
use Rattle.script_model.specs.Documents.{IsDocument}
use Rattle.script_model.specs.Reaching.{Fits, IsFirstFault, IsRecursiveAt, Reaches, handler_place}
use Rattle.script_model.specs.ScriptReading.{script}
use Rattle.argus_engine.specs.declared.engine.Ended.TheVariants.{Done, Stopped}
use Rattle.argus_engine.specs.Judging.{BeginsFault, HasFirstFault, IsJudged, IsRead, IsScriptIn, fault_line}
use Rattle.argus_engine.specs.Serving.{Writes}
use Rattle.run_model.specs.Openings.{fresh}
use Rattle.traces.specs.Traces.{trace_text}
use Rattle.tracer.specs.Leaving.{histories_of}
use Rattle.script_engine.specs.Running.{BeginsRun, Comes, IsDetermined, IsFit, TellsRun, WriteBoth, run_text}
use Rattle.script_engine.specs.Files.{BeginsFile, OneFile, OneScript, TellsFile}
use Rattle.script_engine.proofs.Runs.{appends_none}

-- ---- one document, and what it is

one_document : (bytes : List ℕ) (d e : Data) → IsDocument bytes d → IsDocument bytes e → d ≡ e
one_document bytes d e x y = same_Some d e (sym x.1 ∙ y.1)

-- the script that was read, and else the other one
read_or : Checked → Result Checked ScriptFault → Checked
read_or other (Ok c) = c
read_or other (Err fault) = other

one_reading : (d : Data) (c other : Checked) → script d [] ≡ Ok c → script d [] ≡ Ok other → c ≡ other
unfolding read_or
one_reading d c other x y = ap (read_or c) (sym x ∙ y)

never_both : {A : Type 0} (d : Data) (c : Checked) (fault : ScriptFault) → script d [] ≡ Ok c → script d [] ≡ Err fault → A
never_both d c fault x y = absurd (differ (sym x ∙ y))
  where
    differ : Ok c ≡ Err fault → ⊥
    differ e = cc

pub one_script : OneScript
one_script bytes c other x y =
    one_reading y.0 c other (subst (λ d. script d [] ≡ Ok c) (one_document bytes x.0 y.0 x.1 y.1) x.2.read) y.2.read

-- ---- one first fault

-- the first handler that can reach itself stands at one place
one_place : (d : Data) (place other : List ℕ) → IsRecursiveAt d place → IsRecursiveAt d other → place ≡ other
one_place d place other x y = by_number (nat_cmp x.number y.number) refl
  where
    same : x.checked ≡ y.checked
    same = one_reading d x.checked y.checked x.read y.read

    met : x.number ≡ y.number → place ≡ other
    met n =
        let one : Some x.handler ≡ Some y.handler = sym x.found ∙ (λ k. slice_get (same k).handlers (n k)) ∙ y.found in
        x.place_is ∙ ap handler_place (same_Some x.handler y.handler one) ∙ sym y.place_is

    by_number : (o : Ordering) → o ≡ nat_cmp x.number y.number → place ≡ other
    by_number o is =
        by_ranked (x.number < y.number) (x.number ≡ y.number) (y.number < x.number) o (ranked x.number y.number o is)
        (λ e less. absurd (y.first x.number less (subst (λ (c : Checked). Reaches c.handlers x.number x.number) same x.recursive)))
        (λ e equal. met equal)
        (λ e above. absurd (x.first y.number above (subst (λ (c : Checked). Reaches c.handlers y.number y.number) (sym same) y.recursive)))

-- what was told, and else this
kind_or : FaultKind → Result Checked ScriptFault → FaultKind
kind_or why (Err (Bad told place)) = told
kind_or why _ = why

place_or : List ℕ → Result Checked ScriptFault → List ℕ
place_or place (Err (Bad why told)) = told
place_or place _ = place

one_of_document : (d : Data) (why other : FaultKind) (place elsewhere : List ℕ) → IsFirstFault d (Bad why place) → IsFirstFault d (Bad other elsewhere)
    → (why ≡ other) × (place ≡ elsewhere)
unfolding kind_or place_or
one_of_document d why other place elsewhere (inl x) (inl y) = (ap (kind_or why) (sym x ∙ y), ap (place_or place) (sym x ∙ y))
one_of_document d why other place elsewhere (inl x) (inr y) = never_both d y.1.checked (Bad why place) y.1.read x
one_of_document d why other place elsewhere (inr x) (inl y) = never_both d x.1.checked (Bad other elsewhere) x.1.read y
one_of_document d why other place elsewhere (inr x) (inr y) = (x.0 ∙ sym y.0, one_place d place elsewhere x.1 y.1)

one_fault : (bytes : List ℕ) (why other : FaultKind) (place elsewhere : List ℕ) → HasFirstFault bytes why place → HasFirstFault bytes other elsewhere
    → (why ≡ other) × (place ≡ elsewhere)
one_fault bytes why other place elsewhere (inl x) (inl y) = (x.1 ∙ sym y.1, x.2 ∙ sym y.2)
one_fault bytes why other place elsewhere (inl x) (inr y) = absurd (x.0 y.0 y.1)
one_fault bytes why other place elsewhere (inr x) (inl y) = absurd (y.0 x.0 x.1)
one_fault bytes why other place elsewhere (inr x) (inr y) =
    one_of_document y.0 why other place elsewhere (subst (λ d. IsFirstFault d (Bad why place)) (one_document bytes x.0 y.0 x.1 y.1) x.2) y.2

-- a script has no fault
no_fault : (bytes : List ℕ) (c : Checked) (why : FaultKind) (place : List ℕ) → IsScriptIn bytes c → HasFirstFault bytes why place → ⊥
no_fault bytes c why place x (inl y) = y.0 x.0 x.1
no_fault bytes c why place x (inr y) = of_document (subst (λ d. Fits d c) (one_document bytes x.0 y.0 x.1 y.1) x.2) y.2
  where
    of_document : Fits y.0 c → IsFirstFault y.0 (Bad why place) → ⊥
    of_document fits (inl e) = never_both y.0 c (Bad why place) fits.read e
    of_document fits (inr r) =
        fits.ends r.1.number (subst (λ (k : Checked). Reaches k.handlers r.1.number r.1.number) (one_reading y.0 r.1.checked c r.1.read fits.read) r.1.recursive)

-- ---- what is said

module _ (comes : Comes) (one : IsDetermined comes) where
  pub one_file : OneFile comes
  one_file bytes Done Done trace more text said x y =
      let told = x.2 in
      let again = y.2 in
      let same = one_script bytes x.0 y.0 x.1 y.1 in
      let came =
      one y.0 y.0.guardians told.0 again.0 told.1 again.1 told.2 again.2
      (subst (λ (c : Checked). comes c c.guardians told.0 told.1 told.2) same told.3) again.3 in (
        refl,
        told.4.text ∙ (λ k. trace_text (same k).guardians (histories_of (fresh (same k).guardians) (came.2 k))) ∙ sym again.4.text,
        told.5 ∙ (λ k. run_text (came.0 k) (came.1 k)) ∙ sym again.5,
      )
  one_file bytes Done Stopped trace more text said x y = let judged = y.1 in absurd (no_fault bytes x.0 judged.0 judged.1 x.1 judged.2)
  one_file bytes Stopped Done trace more text said x y = let judged = x.1 in absurd (no_fault bytes y.0 judged.0 judged.1 y.1 judged.2)
  one_file bytes Stopped Stopped trace more text said x y =
      let first = x.1 in
      let second = y.1 in
      let same = one_fault bytes first.0 second.0 first.1 second.1 first.2 second.2 in
      (refl, x.0 ∙ sym y.0, first.3 ∙ (λ k. fault_line (same.0 k) (same.1 k)) ∙ sym second.3)

-- ---- what is written

-- nothing was written, and then these bytes were
written_on : (a b c : Option (List ℕ)) (bytes : List ℕ) → Keeps a b → Appends b c bytes → Appends a c bytes
written_on None b c bytes kept wrote = tt
written_on (Some x) None c bytes kept wrote = absurd kept
written_on (Some x) (Some y) None bytes kept wrote = absurd wrote
written_on (Some x) (Some y) (Some z) bytes kept wrote = wrote ∙ ap (λ l. l ++ bytes) kept

pub file_fits : (bytes : List ℕ) (c : Checked) → IsScriptIn bytes c → IsFit c
file_fits bytes c x = (x.0, x.2)

-- what was read, where a script was
pub read_as : (bytes : List ℕ) (before after : Option (List ℕ)) (found : Option Checked) (c : Checked) → found ≡ Some c → IsRead bytes before after found
    → IsScriptIn bytes c × Keeps before after
read_as bytes before after found c is read = subst (IsRead bytes before after) is read

-- and the first fault was said where none was
pub refused_as : (bytes : List ℕ) (before after : Option (List ℕ)) (found : Option Checked) → found ≡ None → IsRead bytes before after found
    → Writes before after (IsJudged bytes Stopped)
refused_as bytes before after found is read = subst (IsRead bytes before after) is read

module _ (comes : Comes) (bytes : List ℕ) (before after : Option (List ℕ)) where
  -- nothing is said of a trace
  module _ (out : Option (List ℕ)) where
    pub fault_begun : Writes before after (BeginsFault bytes) → WriteBoth out out before after (BeginsFile comes bytes)
    fault_begun (written, wrote, inl none) = ([], written, appends_none out, wrote, inl (refl, none))
    fault_begun (written, wrote, inr begun) =
        ([], written, appends_none out, wrote, inr (Stopped, [], begun.0, (refl, begun.1), inr (refl, begun.2)))

    pub file_refused : Writes before after (IsJudged bytes Stopped) → WriteBoth out out before after (TellsFile comes bytes Stopped)
    file_refused (line, wrote, judged) = ([], line, appends_none out, wrote, (refl, judged))

    pub refusal_begun : Writes before after (IsJudged bytes Stopped) → WriteBoth out out before after (BeginsFile comes bytes)
    refusal_begun (line, wrote, judged) =
        ([], line, appends_none out, wrote, inr (Stopped, [], line, (refl, judged), inr (refl, ([], sym (append-nil line)))))

  module _ (mid : Option (List ℕ)) (c : Checked) (is : IsScriptIn bytes c) (kept : Keeps before mid) (out now : Option (List ℕ)) where
    pub file_ran : WriteBoth out now mid after (TellsRun comes c c.guardians) → WriteBoth out now before after (TellsFile comes bytes Done)
    file_ran (trace, text, traced, wrote, told) = (trace, text, traced, written_on before mid after text kept wrote, (c, is, told))

    pub file_begun : WriteBoth out now mid after (BeginsRun comes c c.guardians) → WriteBoth out now before after (BeginsFile comes bytes)
    file_begun (part, written, traced, wrote, inl none) = (part, written, traced, written_on before mid after written kept wrote, inl none)
    file_begun (part, written, traced, wrote, inr (trace, text, told, begun)) =
        (part, written, traced, written_on before mid after written kept wrote, inr (Done, trace, text, (c, is, told), begun))
