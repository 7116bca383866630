-- What each step of a run hands on.
use Rattle.std.proofs.Common.{ℕ, [], ◌≡◌, ◌≤◌, inl, inr, refl, sym, subst, arith, List, length, IsSomeAnd, IfSome}
use Rattle.std.specs.declared.option.Option.{Option}
use Rattle.std.specs.declared.option.Option.TheVariants.{None, Some}
use Rattle.std.specs.declared.result.Result.{Result}
use Rattle.std.specs.declared.result.Result.TheVariants.{Ok, Err}
use Rattle.std.specs.Prelude.{take, OnOk, OnErr}
use Rattle.std.specs.Io.KnownBytes.{Appends}
use Rattle.schedule_rules.specs.Transcripts.{IsValid}
use Rattle.phase_run.specs.declared.stop.Stop.{Stop}
use Rattle.phase_run.specs.declared.stop.Stop.TheVariants as stop
use Rattle.phase_run.specs.declared.status.Status.TheVariants as status
use Rattle.phase_schedule.specs.declared.running.Run.{Run}
use Rattle.schedule_text.specs.TranscriptText.{transcript_text}
use Rattle.phase_run.specs.declared.failed.Failed.{Failed}
use Rattle.phase_run.specs.Telling.{IsToldOf, TellsRun}
use Rattle.phase_run.specs.Words.{IsScheduleCall}
use Rattle.schedule_text.specs.ScheduleText.{most_bytes}
use Rattle.phase_run.specs.Runs.{Accepted, IsInvalid, IsNoText, IsRefused, Due, IsWritten, IsWrittenInPart}
use Rattle.phase_run.specs.Steps.{IsWhole, IsBegun, IsReady}
use Rattle.phase_run.specs.Stops.{StopsAnswer, StopsBeforeWriting}

-- the run of the schedule that all spells which the source had can be told
pub is_ready : (input rest : Option (List ℕ)) (text page : List ℕ) (run : Run) → length text ≤ most_bytes → IsWhole input rest text → IsBegun text run → page ≡ [] → IsReady input rest run page
is_ready None rest text page run fits whole b clear = record { schedule = b.schedule; read = tt; made = b.made; clear = clear }
is_ready (Some bytes) rest text page run fits whole b clear =
    record {
      schedule = b.schedule;
      read = record { length_fits = rw whole.all fits; spelled = rw whole.all b.spells.spelled; only = rw whole.all b.spells.only; to_the_end = whole.to_the_end };
      made = b.made;
      clear = clear;
    }

-- bytes that are not accepted have no run
pub ready_is_accepted : (input rest : Option (List ℕ)) (page : List ℕ) (run : Run) → IsReady input rest run page → IsSomeAnd input IsRefused → ⊥
ready_is_accepted None rest page run r refused = refused
ready_is_accepted (Some bytes) rest page run r (inl long) = omega (arith, r.read.length_fits, long)
ready_is_accepted (Some bytes) rest page run r (inr (inl none)) = none r.schedule r.read.spelled
ready_is_accepted (Some bytes) rest page run r (inr (inr bad)) = bad.invalid (subst IsValid (r.read.only bad.schedule bad.spelled) r.made.valid)

-- bytes that are accepted have a schedule that can be run
pub invalid_is_refused : (input : Option (List ℕ)) (old new : ℕ) (s : Stop) → s ≡ stop.Refused → StopsBeforeWriting input old new s → IsSomeAnd input Accepted → ⊥
invalid_is_refused input old new s e h = by input (subst (StopsBeforeWriting input old new) e h)
  where
    by : (o : Option (List ℕ)) → IfSome o IsInvalid → IsSomeAnd o Accepted → ⊥
    by None bad a = a
    by (Some bytes) bad a = bad.invalid (subst IsValid (sym (bad.only a.schedule a.spelled)) a.valid)

-- what is due, once the run was told
due_of : (input rest before after : Option (List ℕ)) (page : List ℕ) (run : Run) (old new : ℕ) (told : Result (Unit {0}) Failed) (r : IsReady input rest run page) → IsToldOf r.schedule before after old new told → Due input rest
due_of input rest before after page run old new told r t = record { schedule = r.schedule; read = r.read; valid = r.made.valid; account = t.account; legal = t.legal }

-- it was written
pub answered : (words : List (List ℕ)) (input rest before after : Option (List ℕ)) (page : List ℕ) (run : Run) (old new : ℕ) (told : Result (Unit {0}) Failed) (x : Unit {0}) → IsScheduleCall words → IsReady input rest run page → TellsRun run before after old new told → told ≡ Ok x → IsWritten words input rest status.Done before after
unfolding due_of
answered words input rest before after page run old new told x call r tells ok =
    let t = tells r.schedule r.made in
    record {
      text = transcript_text t.account;
      due = (call, record { due = due_of input rest before after page run old new told r t; text_is = refl });
      written = subst (λ o. OnOk o (Appends before after (transcript_text t.account))) ok t.whole;
    }

-- a part of it was written
pub answered_in_part : (words : List (List ℕ)) (input rest before after : Option (List ℕ)) (page : List ℕ) (run : Run) (old new : ℕ) (told : Result (Unit {0}) Failed) (x : Failed) → IsScheduleCall words → IsReady input rest run page → TellsRun run before after old new told → told ≡ Err x
    → IsWrittenInPart words input rest status.Done before after
unfolding due_of
answered_in_part words input rest before after page run old new told x call r tells bad =
    let t = tells r.schedule r.made in
    let part : (k : ℕ) × Appends before after (take k (transcript_text t.account)) =
    subst (λ o. OnErr o ((k : ℕ) × Appends before after (take k (transcript_text t.account)))) bad t.part in
    record {
      text = transcript_text t.account;
      due = (call, record { due = due_of input rest before after page run old new told r t; text_is = refl });
      count = part.0;
      written = part.1;
    }

-- why a text is not answered is why there is no answer to the source that had it
pub stops_before : (input rest : Option (List ℕ)) (old new : ℕ) (text : List ℕ) (s : Stop) → IsWhole input rest text → StopsAnswer text s → StopsBeforeWriting input old new s
stops_before input rest old new text stop.Fault w a = absurd a
stops_before input rest old new text stop.TooLong w a = absurd a
stops_before None rest old new text stop.BadLine w a = tt
stops_before (Some bytes) rest old new text stop.BadLine w a = subst IsNoText (sym w.all) a
stops_before None rest old new text stop.Refused w a = tt
stops_before (Some bytes) rest old new text stop.Refused w a = subst IsInvalid (sym w.all) a
stops_before input rest old new text stop.Memory w a = tt
