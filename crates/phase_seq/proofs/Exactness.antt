-- When a call gets which answer.
use Rattle.std.proofs.Common.{◌≡◌, ℕ, sym, ◌∙◌, Bool, true, false, ◌&&◌, ◌||◌, not, ap, Option, Some, None, inl, inr, refl, subst, if◌then◌else◌}
use Rattle.std.specs.Prelude.{MatchBool}
use Rattle.phase_bits.specs.Flags.{has, initialized}
use Rattle.phase_bits.specs.Number.{number}
use Rattle.phase_bits.specs.declared.phase.Phase.{Phase}
use Rattle.phase_bits.specs.declared.holders.Holders.{Holders}
use Rattle.phase_locker.specs.declared.tickets.LockNature.{LockNature}
use Rattle.phase_locker.specs.declared.tickets.LockResult.{LockResult}
use Rattle.phase_locker.specs.declared.tickets.LockResult.TheVariants as got
use Rattle.phase_locker.specs.declared.tickets.ReadTicket.{ReadTicket}
use Rattle.phase_locker.specs.declared.tickets.WriteTicket.{WriteTicket}
use Rattle.phase_locker.specs.declared.tickets.Attempt.{Attempt}
use Rattle.phase_locker.specs.declared.tickets.Attempt.TheVariants as attempt
use Rattle.phase_locker.specs.declared.ways.Who.{Who}
use Rattle.phase_locker.specs.declared.ways.How.{How}
use Rattle.phase_locker.specs.declared.ways.Given.{Given}
use Rattle.phase_locker.specs.declared.ways.LockerKind.{LockerKind}
use Rattle.phase_locker.specs.Natures.{bars, got as got_by, Tries}
use Rattle.phase_locker.specs.Rows.{Rows, row_of}
use Rattle.phase_locker.specs.Attempts.{Judged, Locks, Keeps, GivesUp, Again, keeps}
use Rattle.phase_locker.proofs.Judging.{by_bool}
use Rattle.phase_seq.specs.declared.tolerance.Tolerance.{Tolerance}
use Rattle.phase_seq.specs.declared.ask.Want.{Want}
use Rattle.phase_seq.specs.declared.ask.Want.TheVariants as want
use Rattle.phase_seq.specs.declared.ask.Ask.{Ask}
use Rattle.phase_seq.specs.declared.section.Begun.{Begun}
use Rattle.phase_seq.specs.declared.section.Begun.TheVariants as begun
use Rattle.phase_seq.specs.Phases.{unregistered}
use Rattle.phase_seq.specs.Asks.{shall_init, initializes, finalizes, asks_run, asks_final, nature_where, nature_of}
use Rattle.phase_seq.specs.Begins.{section_by, is_cyclic, begun_of, begun_by, begun_tried}
use Rattle.phase_seq.specs.Exactly.{BeginsExactly, WaitsWhereBarred, ResumesExactly, SettlesExactly, is_wait, is_missed, is_turned_back, is_run, is_final, is_admitted, is_barred, shall_wait, shall_miss}

both_true : (b : Bool) → b ≡ (b && true)
both_true true = refl
both_true false = refl

pub both_false : (b : Bool) → (b && false) ≡ false
both_false true = refl
both_false false = refl

-- ---- an admitted call

run_where : (who : Who) (w : Want) (fast : Bool) (tol : Tolerance) (p q : Phase) (due there : Bool) → shall_init tol p ≡ due → is_run (begun_of who (record { want = w; fast = fast; tol = tol }) p (got_by (nature_where w due there) q)) ≡ (initializes w && due)
run_where who want.Init fast tol p q true there e = rw e
run_where who want.Init fast tol p q false there e = refl
run_where who want.Read fast tol p q true there e = rw e
run_where who want.Read fast tol p q false there e = refl
run_where who want.Write fast tol p q true there e = rw e
run_where who want.Write fast tol p q false there e = rw e
run_where who want.ReadOnly fast tol p q due there e = refl
run_where who want.WriteOnly fast tol p q due there e = refl
run_where who want.Finalize fast tol p q due true e = refl
run_where who want.Finalize fast tol p q due false e = refl

-- it is to run the generator where it asks for a run
pub run_of : (who : Who) (ask : Ask) (p q : Phase) → is_run (begun_of who ask p (got_by (nature_of ask p) q)) ≡ asks_run ask p
run_of who ask p q = run_where who ask.want ask.fast ask.tol p q (shall_init ask.tol p) (has (number p) initialized) refl

final_where : (who : Who) (w : Want) (fast : Bool) (tol : Tolerance) (p q : Phase) (due there : Bool) → shall_init tol p ≡ due → is_final (begun_of who (record { want = w; fast = fast; tol = tol }) p (got_by (nature_where w due there) q)) ≡ (finalizes w && there)
final_where who want.Init fast tol p q true there e = rw e
final_where who want.Init fast tol p q false there e = refl
final_where who want.Read fast tol p q true there e = rw e
final_where who want.Read fast tol p q false there e = refl
final_where who want.Write fast tol p q true there e = rw e
final_where who want.Write fast tol p q false there e = rw e
final_where who want.ReadOnly fast tol p q due there e = refl
final_where who want.WriteOnly fast tol p q due there e = refl
final_where who want.Finalize fast tol p q due true e = refl
final_where who want.Finalize fast tol p q due false e = refl

-- it is to run the finalizer where it asks for it
pub final_of : (who : Who) (ask : Ask) (p q : Phase) → is_final (begun_of who ask p (got_by (nature_of ask p) q)) ≡ asks_final ask p
final_of who ask p q = final_where who ask.want ask.fast ask.tol p q (shall_init ask.tol p) (has (number p) initialized) refl

written : (run final : Bool) (who : Who) (w : Want) (t : WriteTicket) (p : Phase) →
    let b : Begun = if run then begun.Run (section_by who w unregistered t) else (if final then begun.Final (section_by who w p t) else begun.Write t p) in (is_admitted b ≡ true) × (is_missed b ≡ false) × (is_wait b ≡ false) × (is_turned_back b ≡ false)
written true final who w t p = (refl, refl, refl, refl)
written false true who w t p = (refl, refl, refl, refl)
written false false who w t p = (refl, refl, refl, refl)

admitted_of : (who : Who) (ask : Ask) (p : Phase) (g : LockResult ReadTicket WriteTicket) → (is_admitted (begun_of who ask p g) ≡ true) × (is_missed (begun_of who ask p g) ≡ false) × (is_wait (begun_of who ask p g) ≡ false) × (is_turned_back (begun_of who ask p g) ≡ false)
admitted_of who ask p (got.None q) = (refl, refl, refl, refl)
admitted_of who ask p (got.Read t) = (refl, refl, refl, refl)
admitted_of who ask p (got.Write t) = written (asks_run ask p) (finalizes ask.want) who ask.want t p

-- ---- an answer that comes where it is due

-- a test of answers: it fails on those that are not admitted, and holds on an admitted call where it is due
pub record Comes (test : Begun → Bool) (who : Who) (ask : Ask) (p : Phase) (due : Bool) : Type 0 where
  pub waits : (how : How) → test (begun.Wait how) ≡ false
  pub missed : test begun.Missed ≡ false
  pub admitted : (q : Phase) → test (begun_of who ask p (got_by (nature_of ask p) q)) ≡ due

pub run_comes : (who : Who) (ask : Ask) (p : Phase) → Comes is_run who ask p (asks_run ask p)
run_comes who ask p = record { waits = λ how. refl; missed = refl; admitted = run_of who ask p }

final_comes : (who : Who) (ask : Ask) (p : Phase) → Comes is_final who ask p (asks_final ask p)
final_comes who ask p = record { waits = λ how. refl; missed = refl; admitted = final_of who ask p }

-- ---- a call that does not wait

tried_at : (test : Begun → Bool) (barred : Bool) (who : Who) (ask : Ask) (p : Phase) (due : Bool) → Comes test who ask p due → test (begun_tried who ask p (if barred then None else Some (got_by (nature_of ask p) p))) ≡ (not barred && due)
tried_at test true who ask p due comes = comes.missed
tried_at test false who ask p due comes = comes.admitted p

pub tried_comes : (test : Begun → Bool) (who : Who) (ask : Ask) (due : Bool) (post : Phase → LockNature → Type 0) (h : Holders) (g : Option (LockResult ReadTicket WriteTicket)) (h' : Holders) → Comes test who ask h.phase due → ((n : LockNature) → post h.phase n → n ≡ nature_of ask h.phase) → Tries post h g h' →
    test (begun_tried who ask h.phase g) ≡ (not (is_barred ask h) && due)
tried_comes test who ask due post h g h' comes ruled tries = rw (tries.answer, ruled tries.nature tries.allowed) (tried_at test (is_barred ask h) who ask h.phase due comes)

-- ---- an attempt

-- the answer is for a call of this nature
abbrev pub IsFor : LockNature → Attempt → Type 0
IsFor n (attempt.Wait how) = Unit {0}
IsFor n (attempt.Got g) = (q : Phase) × (g ≡ got_by n q)

judged_is_for : (k : LockerKind) (fresh : Bool) (who : Who) (wake n : LockNature) (h : Holders) (s : Rows) (a : Attempt) (h' : Holders) (s' : Rows) → Judged k fresh who wake n h s a h' s' → IsFor n a
judged_is_for k fresh who wake n h s a h' s' judged =
    elim (by_bool (bars h n) judged) as (λ x. IsFor n a) [
      | inl j ↦ rw j.1.answer tt
      | inr j ↦ rw j.1.answer (h.phase, refl)
    ]

again_is_for : (post : Phase → LockNature → Type 0) (k : LockerKind) (who : Who) (ask : Ask) (wake : LockNature) (h : Holders) (s : Rows) (r : Attempt × Given) (h' : Holders) (s' : Rows) → ((n : LockNature) → post h.phase n → n ≡ nature_of ask h.phase) →
    Again post k who wake h s r h' s' → IsFor (nature_of ask h.phase) r.0
again_is_for post k who ask wake h s r h' s' ruled again =
    let P : LockNature → Type 0 = λ n. IsFor n r.0 in
    subst P (ruled again.nature again.allowed) (elim (by_bool (keeps (row_of s who.party).waiting again.nature h) again.steps) as (λ x. IsFor again.nature r.0) [
      | inl j ↦ rw j.1.answer (h.phase, refl)
      | inr j ↦ judged_is_for k _ who wake again.nature j.1.between j.1.rows r.0 h' s' j.1.judged
    ])

attempt_comes : (test : Begun → Bool) (who : Who) (ask : Ask) (p : Phase) (due : Bool) (a : Attempt) → Comes test who ask p due → IsFor (nature_of ask p) a → test (begun_by who ask p a) ≡ (is_admitted (begun_by who ask p a) && due)
attempt_comes test who ask p due (attempt.Wait how) comes for = comes.waits how
attempt_comes test who ask p due (attempt.Got g) comes for = rw ((admitted_of who ask p g).0, for.1) (comes.admitted for.0)

pub again_comes : (test : Begun → Bool) (who : Who) (ask : Ask) (due : Bool) (post : Phase → LockNature → Type 0) (k : LockerKind) (wake : LockNature) (h : Holders) (s : Rows) (r : Attempt × Given) (h' : Holders) (s' : Rows) → Comes test who ask h.phase due → ((n : LockNature) → post h.phase n → n ≡ nature_of ask h.phase) →
    Again post k who wake h s r h' s' → test (begun_by who ask h.phase r.0) ≡ (is_admitted (begun_by who ask h.phase r.0) && due)
again_comes test who ask due post k wake h s r h' s' comes ruled again = attempt_comes test who ask h.phase due r.0 comes (again_is_for post k who ask wake h s r h' s' ruled again)

pub locks_comes : (test : Begun → Bool) (who : Who) (ask : Ask) (due : Bool) (post : Phase → LockNature → Type 0) (k : LockerKind) (wake : LockNature) (h : Holders) (s : Rows) (r : Attempt × Given) (h' : Holders) (s' : Rows) → Comes test who ask h.phase due → ((n : LockNature) → post h.phase n → n ≡ nature_of ask h.phase) →
    Locks post k who wake h s r h' s' → test (begun_by who ask h.phase r.0) ≡ (not (is_barred ask h) && due)
locks_comes test who ask due post k wake h s r h' s' comes ruled locks =
    let e : locks.nature ≡ nature_of ask h.phase = ruled locks.nature locks.allowed in
    let judged : Judged k true who wake (nature_of ask h.phase) h s r.0 h' s' = rw e at locks.judged in
    elim (by_bool (bars h (nature_of ask h.phase)) judged) as (λ x. test (begun_by who ask h.phase r.0) ≡ (not (is_barred ask h) && due)) [
      | inl j ↦ rw (j.1.answer, j.0) (comes.waits j.1.how)
      | inr j ↦ rw (j.1.answer, j.0) (comes.admitted h.phase)
    ]

-- ---- an answer that does not come

-- no finalizer is asked by a call that is turned back
pub cyclic_ends : (w : Want) (there : Bool) (p : ℕ) (running : Option ℕ) (free : Bool) → is_cyclic w p running ≡ true → false ≡ ((finalizes w && there) && free)
cyclic_ends want.Init there p running free e = refl
cyclic_ends want.Read there p running free e = refl
cyclic_ends want.Write there p running free e = refl
cyclic_ends want.ReadOnly there p running free e = refl
cyclic_ends want.WriteOnly there p running free e = refl
cyclic_ends want.Finalize there p running free e = cc

either_way : (a b : Bool) → (a && b) ≡ (b && a)
either_way true b = both_true b
either_way false b = sym (both_false b)

-- it is to run the finalizer where it asks for it and is admitted
pub tried_finalizes : (who : Who) (ask : Ask) (post : Phase → LockNature → Type 0) (h : Holders) (g : Option (LockResult ReadTicket WriteTicket)) (h' : Holders) → ((n : LockNature) → post h.phase n → n ≡ nature_of ask h.phase) → Tries post h g h' →
    is_final (begun_tried who ask h.phase g) ≡ (asks_final ask h.phase && not (is_barred ask h))
tried_finalizes who ask post h g h' ruled tries = tried_comes is_final who ask _ post h g h' (final_comes who ask h.phase) ruled tries ∙ either_way (not (is_barred ask h)) (asks_final ask h.phase)

pub locks_finalizes : (who : Who) (ask : Ask) (post : Phase → LockNature → Type 0) (k : LockerKind) (wake : LockNature) (h : Holders) (s : Rows) (r : Attempt × Given) (h' : Holders) (s' : Rows) → ((n : LockNature) → post h.phase n → n ≡ nature_of ask h.phase) → Locks post k who wake h s r h' s' →
    is_final (begun_by who ask h.phase r.0) ≡ (asks_final ask h.phase && not (is_barred ask h))
locks_finalizes who ask post k wake h s r h' s' ruled locks = locks_comes is_final who ask _ post k wake h s r h' s' (final_comes who ask h.phase) ruled locks ∙ either_way (not (is_barred ask h)) (asks_final ask h.phase)

pub again_finalizes : (who : Who) (ask : Ask) (post : Phase → LockNature → Type 0) (k : LockerKind) (wake : LockNature) (h : Holders) (s : Rows) (r : Attempt × Given) (h' : Holders) (s' : Rows) → ((n : LockNature) → post h.phase n → n ≡ nature_of ask h.phase) → Again post k who wake h s r h' s' →
    is_final (begun_by who ask h.phase r.0) ≡ (asks_final ask h.phase && is_admitted (begun_by who ask h.phase r.0))
again_finalizes who ask post k wake h s r h' s' ruled again = again_comes is_final who ask _ post k wake h s r h' s' (final_comes who ask h.phase) ruled again ∙ either_way (is_admitted (begun_by who ask h.phase r.0)) (asks_final ask h.phase)

-- an attempt is never missed
pub by_attempt : (who : Who) (ask : Ask) (p : Phase) (a : Attempt) → is_missed (begun_by who ask p a) ≡ false
by_attempt who ask p (attempt.Wait how) = refl
by_attempt who ask p (attempt.Got g) = (admitted_of who ask p g).1

-- a call that may wait does not miss
pub waits_instead : (cyclic barred fast : Bool) → fast ≡ false → (not cyclic && (barred && fast)) ≡ false
waits_instead true barred fast e = refl
waits_instead false true fast e = e
waits_instead false false fast e = refl

-- ---- barred or not

tried_waits_not : (who : Who) (ask : Ask) (p : Phase) (g : Option (LockResult ReadTicket WriteTicket)) → is_wait (begun_tried who ask p g) ≡ false
tried_waits_not who ask p None = refl
tried_waits_not who ask p (Some g) = (admitted_of who ask p g).2

tried_missed_at : (barred : Bool) (who : Who) (ask : Ask) (p : Phase) → is_missed (begun_tried who ask p (if barred then None else Some (got_by (nature_of ask p) p))) ≡ barred
tried_missed_at true who ask p = refl
tried_missed_at false who ask p = (admitted_of who ask p _).1

-- a call that does not wait does not wait, and misses where it is barred
pub tried_barred : (who : Who) (ask : Ask) (running : Option ℕ) (post : Phase → LockNature → Type 0) (h : Holders) (g : Option (LockResult ReadTicket WriteTicket)) (h' : Holders) → is_cyclic ask.want who.party running ≡ false → ask.fast ≡ true →
    ((n : LockNature) → post h.phase n → n ≡ nature_of ask h.phase) → Tries post h g h' →
    (is_wait (begun_tried who ask h.phase g) ≡ shall_wait who ask running h) × (is_missed (begun_tried who ask h.phase g) ≡ shall_miss who ask running h)
tried_barred who ask running post h g h' apart fast ruled tries = (
  rw (apart, fast) (tried_waits_not who ask h.phase g ∙ sym (both_false (is_barred ask h))),
  rw (apart, fast) (rw (tries.answer, ruled tries.nature tries.allowed) (tried_missed_at (is_barred ask h) who ask h.phase) ∙ both_true (is_barred ask h)),
)

-- a call that may wait waits where it is barred
pub locks_waits : (who : Who) (ask : Ask) (running : Option ℕ) (post : Phase → LockNature → Type 0) (k : LockerKind) (wake : LockNature) (h : Holders) (s : Rows) (r : Attempt × Given) (h' : Holders) (s' : Rows) → is_cyclic ask.want who.party running ≡ false → ask.fast ≡ false →
    ((n : LockNature) → post h.phase n → n ≡ nature_of ask h.phase) → Locks post k who wake h s r h' s' → is_wait (begun_by who ask h.phase r.0) ≡ shall_wait who ask running h
locks_waits who ask running post k wake h s r h' s' apart slow ruled locks =
    let e : locks.nature ≡ nature_of ask h.phase = ruled locks.nature locks.allowed in
    let judged : Judged k true who wake (nature_of ask h.phase) h s r.0 h' s' = rw e at locks.judged in
    rw (apart, slow) (elim (by_bool (bars h (nature_of ask h.phase)) judged) as (λ x. is_wait (begun_by who ask h.phase r.0) ≡ (is_barred ask h && true)) [
      | inl j ↦ rw (j.1.answer, j.0)
      | inr j ↦ rw (j.1.answer, j.0) (admitted_of who ask h.phase _).2
    ])

-- ---- all answers at once

tried_back : (who : Who) (ask : Ask) (p : Phase) (g : Option (LockResult ReadTicket WriteTicket)) → is_turned_back (begun_tried who ask p g) ≡ false
tried_back who ask p None = refl
tried_back who ask p (Some g) = (admitted_of who ask p g).3

attempt_back : (who : Who) (ask : Ask) (p : Phase) (a : Attempt) → is_turned_back (begun_by who ask p a) ≡ false
attempt_back who ask p (attempt.Wait how) = refl
attempt_back who ask p (attempt.Got g) = (admitted_of who ask p g).3

pub cyclic_exactly : (who : Who) (ask : Ask) (running : Option ℕ) (h : Holders) → is_cyclic ask.want who.party running ≡ true → BeginsExactly who ask running h false begun.Cyclic
cyclic_exactly who ask running h e = record {
  waits = rw e refl;
  missed = rw e refl;
  cyclic = sym e;
  runs = rw e refl;
  finalizes = cyclic_ends ask.want _ who.party running _ e;
}

pub tried_exactly : (who : Who) (ask : Ask) (running : Option ℕ) (post : Phase → LockNature → Type 0) (h : Holders) (g : Option (LockResult ReadTicket WriteTicket)) (h' : Holders) → is_cyclic ask.want who.party running ≡ false → ask.fast ≡ true →
    ((n : LockNature) → post h.phase n → n ≡ nature_of ask h.phase) → Tries post h g h' → BeginsExactly who ask running h false (begun_tried who ask h.phase g)
tried_exactly who ask running post h g h' apart fast ruled tries =
    let barred = tried_barred who ask running post h g h' apart fast ruled tries in
    record {
      waits = barred.0;
      missed = barred.1;
      cyclic = rw apart (tried_back who ask h.phase g);
      runs = rw apart (tried_comes is_run who ask _ post h g h' (run_comes who ask h.phase) ruled tries);
      finalizes = tried_finalizes who ask post h g h' ruled tries;
    }

pub locks_exactly : (who : Who) (ask : Ask) (running : Option ℕ) (post : Phase → LockNature → Type 0) (k : LockerKind) (wake : LockNature) (h : Holders) (s : Rows) (r : Attempt × Given) (h' : Holders) (s' : Rows) → is_cyclic ask.want who.party running ≡ false → ask.fast ≡ false →
    ((n : LockNature) → post h.phase n → n ≡ nature_of ask h.phase) → Locks post k who wake h s r h' s' → BeginsExactly who ask running h false (begun_by who ask h.phase r.0)
locks_exactly who ask running post k wake h s r h' s' apart slow ruled locks = record {
  waits = locks_waits who ask running post k wake h s r h' s' apart slow ruled locks;
  missed = by_attempt who ask h.phase r.0 ∙ sym (waits_instead (is_cyclic ask.want who.party running) (is_barred ask h) ask.fast slow);
  cyclic = rw apart (attempt_back who ask h.phase r.0);
  runs = rw apart (locks_comes is_run who ask _ post k wake h s r h' s' (run_comes who ask h.phase) ruled locks);
  finalizes = locks_finalizes who ask post k wake h s r h' s' ruled locks;
}

judged_waits : (k : LockerKind) (fresh : Bool) (who : Who) (ask : Ask) (p : Phase) (wake n : LockNature) (h : Holders) (s : Rows) (a : Attempt) (h' : Holders) (s' : Rows) → Judged k fresh who wake n h s a h' s' → is_wait (begun_by who ask p a) ≡ bars h n
judged_waits k fresh who ask p wake n h s a h' s' judged =
    elim (by_bool (bars h n) judged) as (λ x. is_wait (begun_by who ask p a) ≡ bars h n) [
      | inl j ↦ rw (j.1.answer, j.0) refl
      | inr j ↦ rw (j.1.answer, j.0) (admitted_of who ask p _).2
    ]

again_waits : (who : Who) (ask : Ask) (running : Option ℕ) (post : Phase → LockNature → Type 0) (k : LockerKind) (wake n : LockNature) (h : Holders) (s : Rows) (r : Attempt × Given) (h' : Holders) (s' : Rows) → is_cyclic ask.want who.party running ≡ false → n ≡ nature_of ask h.phase →
    MatchBool (keeps (row_of s who.party).waiting n h) (Keeps who n h s r h' s') (GivesUp k who wake n h s r h' s') →
    MatchBool (is_cyclic ask.want who.party running || keeps (row_of s who.party).waiting (nature_of ask h.phase) h) (is_wait (begun_by who ask h.phase r.0) ≡ false) (WaitsWhereBarred who ask h s (begun_by who ask h.phase r.0))
again_waits who ask running post k wake n h s r h' s' apart e steps =
    rw (apart, ← e)
    (elim (by_bool (keeps (row_of s who.party).waiting n h) steps) as (λ x. MatchBool (keeps (row_of s who.party).waiting n h) (is_wait (begun_by who ask h.phase r.0) ≡ false) (WaitsWhereBarred who ask h s (begun_by who ask h.phase r.0))) [
      | inl j ↦ rw (j.0, j.1.answer) (admitted_of who ask h.phase _).2
      | inr j ↦
          rw j.0 (record {
            given = r.1;
            left = j.1.between;
            rows = j.1.rows;
            hands = j.1.hands;
            waits = rw (← e) (judged_waits k _ who ask h.phase wake n j.1.between j.1.rows r.0 h' s' j.1.judged);
          })
    ])

pub again_exactly : (who : Who) (ask : Ask) (running : Option ℕ) (post : Phase → LockNature → Type 0) (k : LockerKind) (wake : LockNature) (h : Holders) (s : Rows) (r : Attempt × Given) (h' : Holders) (s' : Rows) → is_cyclic ask.want who.party running ≡ false →
    ((n : LockNature) → post h.phase n → n ≡ nature_of ask h.phase) → Again post k who wake h s r h' s' → ResumesExactly who ask running h s false (begun_by who ask h.phase r.0)
again_exactly who ask running post k wake h s r h' s' apart ruled again = record {
  waits = again_waits who ask running post k wake again.nature h s r h' s' apart (ruled again.nature again.allowed) again.steps;
  cyclic = rw apart (attempt_back who ask h.phase r.0);
  runs = again_comes is_run who ask _ post k wake h s r h' s' (run_comes who ask h.phase) ruled again;
  finalizes = again_finalizes who ask post k wake h s r h' s' ruled again;
}

pub cyclic_again : (who : Who) (ask : Ask) (running : Option ℕ) (h : Holders) (s : Rows) → is_cyclic ask.want who.party running ≡ true → ResumesExactly who ask running h s false begun.Cyclic
cyclic_again who ask running h s e = record {
  waits = rw e refl;
  cyclic = sym e;
  runs = refl;
  finalizes = sym (both_false _);
}

-- ---- on a cell with a registry

same_waits : (m : Bool) (who : Who) (ask : Ask) (h : Holders) (s : Rows) (b b' : Begun) → is_wait b' ≡ is_wait b → MatchBool m (is_wait b ≡ false) (WaitsWhereBarred who ask h s b) → MatchBool m (is_wait b' ≡ false) (WaitsWhereBarred who ask h s b')
same_waits true who ask h s b b' same waits = same ∙ waits
same_waits false who ask h s b b' same waits = record { given = waits.given; left = waits.left; rows = waits.rows; hands = waits.hands; waits = same ∙ waits.waits }

-- what became of an answer comes exactly where it is due
pub settled_again : (who : Who) (ask : Ask) (running : Option ℕ) (h : Holders) (s : Rows) (refused : Bool) (b b' : Begun) → ResumesExactly who ask running h s false b → SettlesExactly refused b b' → ResumesExactly who ask running h s refused b'
settled_again who ask running h s refused b b' exactly settled = record {
  waits = same_waits _ who ask h s b b' settled.waits exactly.waits;
  cyclic = settled.cyclic ∙ exactly.cyclic;
  runs = settled.runs ∙ ap (λ x. if refused then false else x) (exactly.runs ∙ ap (λ x. x && asks_run ask h.phase) (sym settled.admitted));
  finalizes = settled.finalizes ∙ exactly.finalizes ∙ ap (λ x. asks_final ask h.phase && x) (sym settled.admitted);
}
