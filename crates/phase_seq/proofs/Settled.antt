-- What becomes of an answer on a cell that is registered for the exit.
use Rattle.std.proofs.Common.{◌≡◌, ℕ, ◌+◌, ◌<◌, ◌==◌, Bool, true, false, ◌&&◌, List, [], ◌∷◌, length, inl, inr, refl, arith, sym, ◌∙◌}
use Rattle.phase_bits.specs.declared.phase.Phase.{Phase}
use Rattle.phase_bits.specs.declared.holders.Holders.{Holders}
use Rattle.phase_locker.specs.declared.tickets.LockNature.{LockNature}
use Rattle.phase_locker.specs.declared.tickets.LockNature.TheVariants as nature
use Rattle.phase_locker.specs.declared.tickets.Attempt.{Attempt}
use Rattle.phase_locker.specs.declared.ways.Who.{Who}
use Rattle.phase_locker.specs.declared.ways.Given.{Given}
use Rattle.phase_locker.specs.declared.ways.Given.TheVariants as give
use Rattle.phase_locker.specs.declared.ways.LockerKind.{LockerKind}
use Rattle.phase_locker.specs.Natures.{bars}
use Rattle.phase_locker.specs.Rows.{Rows, row_of, is_empty, readers_of}
use Rattle.phase_locker.specs.Fits.{IsWriteOpen, open_reads}
use Rattle.phase_locker.specs.Stands.{Opens}
use Rattle.phase_locker.specs.Gifts.{Hands}
use Rattle.phase_locker.specs.Others.{OthersStay}
use Rattle.phase_locker.specs.Attempts.{Judged, Again, keeps}
use Rattle.phase_locker.proofs.Judging.{by_bool}
use Rattle.phase_bits.specs.Flags.{has, initialized}
use Rattle.phase_bits.specs.Number.{number}
use Rattle.phase_seq.specs.declared.ask.Want.{Want}
use Rattle.phase_seq.specs.declared.ask.Want.TheVariants as want
use Rattle.phase_seq.specs.declared.ask.Ask.{Ask}
use Rattle.phase_seq.specs.declared.section.Finished.{Finished}
use Rattle.phase_seq.specs.declared.section.Finished.TheVariants as finished
use Rattle.phase_seq.specs.Asks.{shall_init, initializes, asks_run, nature_where, nature_of}
use Rattle.phase_seq.specs.Begins.{begun_by}
use Rattle.phase_seq.specs.Exactly.{is_run}
use Rattle.phase_seq.specs.Registers.{begun_at_once}
use Rattle.phase_seq.specs.declared.section.Begun.{Begun}
use Rattle.phase_seq.specs.Stands.{FinishedStands, reads_begun, reads_finished, begins_write}
use Rattle.phase_seq.proofs.Exactness.{run_of}

-- ---- a section at once

pub at_once_reads : (f : Finished) → reads_begun (begun_at_once f) ≡ reads_finished f
at_once_reads (finished.Phase p) = refl
at_once_reads (finished.Read t p) = refl
at_once_reads (finished.Write t p) = refl
at_once_reads (finished.Failed p) = refl

pub at_once_closed : (f : Finished) (c : ℕ) (h : Holders) (s : Rows) → FinishedStands c f h s → begins_write (begun_at_once f) ≡ false → ¬ IsWriteOpen h s c
at_once_closed (finished.Phase p) c h s stands none = stands.0
at_once_closed (finished.Read t p) c h s stands none = stands.0
at_once_closed (finished.Write t p) c h s stands none = cc
at_once_closed (finished.Failed p) c h s stands none = stands.0

-- what is open after an answer has become another one
pub settled_opens : (run : Bool) (b b' : Begun) (c : ℕ) (h : Holders) (s : Rows) (h₁ : Holders) (s₁ : Rows) (h₂ : Holders) (s₂ : Rows) → is_run b ≡ run → Opens c (reads_begun b) (begins_write b) h s h₁ s₁ → (IsWriteOpen h s c → is_run b ≡ false) →
    (is_run b ≡ false → (b' ≡ b) × (h₂ ≡ h₁) × (s₂ ≡ s₁)) → open_reads h₂ s₂ c + reads_begun b ≡ open_reads h₁ s₁ c + reads_begun b' → (is_run b ≡ true → begins_write b' ≡ false → ¬ IsWriteOpen h₂ s₂ c) →
    Opens c (reads_begun b') (begins_write b') h s h₂ s₂
settled_opens false b b' c h s h₁ s₁ h₂ s₂ e opens fresh still reads closes =
    let same = still e in
    rw (same.0, same.1, same.2) opens
settled_opens true b b' c h s h₁ s₁ h₂ s₂ e opens fresh still reads closes = record {
  reads = omega (arith, reads, opens.reads);
  writes = λ held. let none = fresh held in cc;
  only = λ none held. absurd (closes e none held);
}

-- ---- the other cells

pub others_then : (c : ℕ) (s s₁ s₂ : Rows) → OthersStay c s s₁ → OthersStay c s₁ s₂ → OthersStay c s s₂
others_then c s s₁ s₂ first second = record {
  cells = λ d apart. record {
    readers = (second.cells d apart).readers ∙ (first.cells d apart).readers;
    writers = (second.cells d apart).writers ∙ (first.cells d apart).writers;
    shares = (second.cells d apart).shares ∙ (first.cells d apart).shares;
    drains = (second.cells d apart).drains ∙ (first.cells d apart).drains;
    claims = (second.cells d apart).claims ∙ (first.cells d apart).claims;
  };
  rows = λ p waits apart.
      let e : row_of s₁ p ≡ row_of s p = first.rows p waits apart in
      second.rows p (rw e waits) (rw e apart) ∙ e;
}

-- ---- nothing is given where a run is begun

-- a call that asks for a run and is not barred may write
run_unbarred : (w : Want) (due there : Bool) (h : Holders) → bars h (nature_where w due there) ≡ false → (initializes w && due) ≡ true → bars h nature.Write ≡ false
run_unbarred want.Init true there h e f = e
run_unbarred want.Init false there h e f = cc
run_unbarred want.Read true there h e f = e
run_unbarred want.Read false there h e f = cc
run_unbarred want.Write true there h e f = e
run_unbarred want.Write false there h e f = cc
run_unbarred want.ReadOnly due there h e f = cc
run_unbarred want.WriteOnly due there h e f = cc
run_unbarred want.Finalize due there h e f = cc

filled : (ps : List ℕ) → is_empty ps ≡ false → 0 < length ps
filled [] e = cc
filled (p ∷ ps) e = omega arith

not_zero : (n : ℕ) → 0 < n → (n == 0) ≡ false
not_zero n e = grind arith

-- what is given bars a writer
given_nothing : (g : Given) (c : ℕ) (h : Holders) (s : Rows) (h' : Holders) (s' : Rows) → Hands c h s g h' s' → bars h' nature.Write ≡ false → g ≡ give.Nobody
given_nothing give.Nobody c h s h' s' hands free = refl
given_nothing (give.Writer p) c h s h' s' hands free = let e = rw hands.held at free in cc
given_nothing give.Readers c h s h' s' hands free =
    let e = rw hands.held at free in
    let some : 0 < h.readers + length (readers_of s c) = omega (arith, filled (readers_of s c) hands.may.1) in
    grind (arith, e, not_zero _ some)

judged_unbarred : (k : LockerKind) (fresh : Bool) (who : Who) (wake : LockNature) (ask : Ask) (p : Phase) (h : Holders) (s : Rows) (a : Attempt) (h' : Holders) (s' : Rows) → Judged k fresh who wake (nature_of ask p) h s a h' s' → is_run (begun_by who ask p a) ≡ true → bars h nature.Write ≡ false
judged_unbarred k fresh who wake ask p h s a h' s' judged run =
    elim (by_bool (bars h (nature_of ask p)) judged) as (λ x. bars h nature.Write ≡ false) [
      | inl j ↦ let e = rw j.1.answer at run in cc
      | inr j ↦
          let e : is_run (begun_by who ask p a) ≡ asks_run ask p = rw j.1.answer (run_of who ask p h.phase) in
          run_unbarred ask.want (shall_init ask.tol p) (has (number p) initialized) h j.0 (sym e ∙ run)
    ]

pub again_quiet : (post : Phase → LockNature → Type 0) (k : LockerKind) (who : Who) (ask : Ask) (wake : LockNature) (h : Holders) (s : Rows) (r : Attempt × Given) (h' : Holders) (s' : Rows) → ((n : LockNature) → post h.phase n → n ≡ nature_of ask h.phase) →
    Again post k who wake h s r h' s' → is_run (begun_by who ask h.phase r.0) ≡ true → r.1 ≡ give.Nobody
again_quiet post k who ask wake h s r h' s' ruled again run =
    elim (by_bool (keeps (row_of s who.party).waiting again.nature h) again.steps) as (λ x. r.1 ≡ give.Nobody) [
      | inl j ↦ j.1.given
      | inr j ↦
          let e : again.nature ≡ nature_of ask h.phase = ruled again.nature again.allowed in
          given_nothing r.1 who.cell _ _ j.1.between j.1.rows j.1.hands (judged_unbarred k _ who wake ask h.phase j.1.between j.1.rows r.0 h' s' (rw e at j.1.judged) run)
    ]
