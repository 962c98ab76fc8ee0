-- What is said of a trace is written, or a beginning of it; and bytes have one verdict.
use Rattle.std.proofs.Common.{◌≡◌, ℕ, List, [], Option, Some, None, take, drop, length, map, refl, sym, ap, ap₂, subst, ◌∙◌, take-append-drop, append-nil, inl, inr}
use Rattle.std.specs.Io.KnownBytes.{Appends}
use Rattle.run_model.specs.declared.history.Event.{Event}
use Rattle.run_model.specs.Gathering.{Histories, IsGathered, all_copies, by_stamp, least_failing}
use Rattle.run_model.specs.LocalHistories.{Stamped}
use Rattle.run_model.specs.Openings.{OpeningLists, Setup, fresh, fresh_lists, opening_in}
use Rattle.run_model.specs.Runs.{World, new_world}
use Rattle.run_model.specs.Transcripts.{error_text}
use Rattle.run_laws.specs.Serving.{IsServed}
use Rattle.traces.specs.Traces.{IsTrace}
use Rattle.traces.proofs.OneTrace.{bad_line_behind_setup, no_bad_line, no_lack, one_bad_line, one_trace}
use Rattle.argus_engine.specs.Serving.{Gives, TakesFront, Writes}
use Rattle.argus_engine.specs.Tracing.{BeginsVerdict, FailsAt, IsDenied, IsGatheredFrom, IsVerdict, OneVerdict, no_line, yes_line}

-- ---- writing

pub front_told : (before after input : Option (List ℕ)) (bytes line : List ℕ) (world : Option World) → Gives input bytes → IsVerdict bytes world line → TakesFront before after line
    → Writes before after (BeginsVerdict input)
front_told before after input bytes line world given says took =
    (take took.0 line, took.2, inr (world, line, (bytes, given, says), (drop took.0 line, sym (take-append-drop took.0 line))))

pub whole_told : (before after input : Option (List ℕ)) (bytes line : List ℕ) (world : Option World) → Gives input bytes → IsVerdict bytes world line → Appends before after line
    → Writes before after (BeginsVerdict input)
whole_told before after input bytes line world given says wrote = (line, wrote, inr (world, line, (bytes, given, says), ([], sym (append-nil line))))

-- ---- what gathering says

module _ (bytes line : List ℕ) (setup : Setup) (hs : Histories) (old new : World) (trace : IsTrace bytes setup hs) (begun : old ≡ new_world setup) where
  pub gathers : (count : ℕ) → IsGathered (opening_in old.lists) hs new.past → count ≡ length new.past → IsServed (opening_in new.lists) new.past → new.lists ≡ old.lists → line ≡ yes_line count
      → IsVerdict bytes (Some new) line
  gathers count gathered counted served same says =
      let lists : new.lists ≡ fresh_lists setup = same ∙ ap (λ (w : World). w.lists) begun in (
        record {
          setup = setup;
          histories = hs;
          is_trace = trace;
          begun = lists;
          gathered = subst (λ (w : World). IsGathered (opening_in w.lists) hs new.past) begun gathered;
          served = subst (λ (l : OpeningLists). IsServed (opening_in l) new.past) lists served;
        },
        says ∙ ap yes_line counted,
      )

  pub fails : (stamp : ℕ) → least_failing (opening_in old.lists) hs ≡ Some stamp → line ≡ no_line stamp → IsDenied bytes line
  fails stamp least says =
      inr (inr (
        stamp,
        record {
          setup = setup;
          histories = hs;
          is_trace = trace;
          least = subst (λ (w : World). least_failing (opening_in w.lists) hs ≡ Some stamp) begun least;
        },
        says,
      ))

-- ---- one verdict

-- a trace gathers or fails
not_both : (bytes : List ℕ) (world : World) (stamp : ℕ) → IsGatheredFrom bytes world → FailsAt bytes stamp → ⊥
not_both bytes world stamp good bad =
    let same = one_trace bytes good.setup bad.setup good.histories bad.histories good.is_trace bad.is_trace in
    let none = sym good.gathered.nothing_fails ∙ ap₂ (λ (s : Setup) (hs : Histories). least_failing (fresh s) hs) same.0 same.1 ∙ bad.least in
    absurd cc

gathered_or_denied : (bytes line : List ℕ) (world : World) → IsGatheredFrom bytes world → IsDenied bytes line → ⊥
gathered_or_denied bytes line world good (inl lacks) = no_lack bytes good.setup good.histories good.is_trace lacks.0
gathered_or_denied bytes line world good (inr (inl bad)) = no_bad_line bytes good.setup good.histories bad.0 good.is_trace bad.1
gathered_or_denied bytes line world good (inr (inr fails)) = not_both bytes world fails.0 good fails.1

one_world : (bytes : List ℕ) (world other : World) → IsGatheredFrom bytes world → IsGatheredFrom bytes other → world ≡ other
one_world bytes world other good also =
    let same = one_trace bytes good.setup also.setup good.histories also.histories good.is_trace also.is_trace in
    let lists : world.lists ≡ other.lists = good.begun ∙ ap (λ (s : Setup). record { setup = s; stores = []; first_top = 1 }) same.0 ∙ sym also.begun in
    let past : world.past ≡ other.past =
    good.gathered.all_events ∙ ap (λ (hs : Histories). map (λ (c : Stamped). c.1) (by_stamp (all_copies hs))) same.1 ∙ sym also.gathered.all_events in
    ap₂ (λ (l : OpeningLists) (p : List Event). record { lists = l; past = p }) lists past

one_stamp : (bytes : List ℕ) (m n : ℕ) → FailsAt bytes m → FailsAt bytes n → m ≡ n
one_stamp bytes m n fails also =
    let same = one_trace bytes fails.setup also.setup fails.histories also.histories fails.is_trace also.is_trace in
    let found = sym fails.least ∙ ap₂ (λ (s : Setup) (hs : Histories). least_failing (fresh s) hs) same.0 same.1 ∙ also.least in
    cc

one_denial : (bytes line more : List ℕ) → IsDenied bytes line → IsDenied bytes more → line ≡ more
one_denial bytes line more (inl a) (inl b) = a.1 ∙ sym b.1
one_denial bytes line more (inl a) (inr (inl b)) = absurd (bad_line_behind_setup bytes b.0 b.1 a.0)
one_denial bytes line more (inl a) (inr (inr b)) = absurd (no_lack bytes b.1.setup b.1.histories b.1.is_trace a.0)
one_denial bytes line more (inr (inl a)) (inl b) = absurd (bad_line_behind_setup bytes a.0 a.1 b.0)
one_denial bytes line more (inr (inl a)) (inr (inl b)) = a.2 ∙ ap error_text (one_bad_line bytes a.0 b.0 a.1 b.1) ∙ sym b.2
one_denial bytes line more (inr (inl a)) (inr (inr b)) = absurd (no_bad_line bytes b.1.setup b.1.histories a.0 b.1.is_trace a.1)
one_denial bytes line more (inr (inr a)) (inl b) = absurd (no_lack bytes a.1.setup a.1.histories a.1.is_trace b.0)
one_denial bytes line more (inr (inr a)) (inr (inl b)) = absurd (no_bad_line bytes a.1.setup a.1.histories b.0 a.1.is_trace b.1)
one_denial bytes line more (inr (inr a)) (inr (inr b)) = a.2 ∙ ap no_line (one_stamp bytes a.0 b.0 a.1 b.1) ∙ sym b.2

pub one_verdict : OneVerdict
one_verdict bytes (Some world) (Some other) line more good also =
    let same = one_world bytes world other good.0 also.0 in
    (good.1 ∙ ap (λ (w : World). yes_line (length w.past)) same ∙ sym also.1, ap Some same)
one_verdict bytes (Some world) None line more good bad = absurd (gathered_or_denied bytes more world good.0 bad)
one_verdict bytes None (Some other) line more bad good = absurd (gathered_or_denied bytes line other good.0 bad)
one_verdict bytes None None line more bad also = (one_denial bytes line more bad also, refl)
