-- What a run goes on as fits what its call answers with.
use Rattle.phase_acts.proofs.Words.{◌≡◌, answer_back, answer_made, arith, Bool, Call, call_as, false, Form, form_as, form_of, if◌then◌else◌, is_to_read, Kind, None, Option, Phase}
use Rattle.phase_acts.proofs.Words.{phase_of, seeks_run, Some, takes_none, takes_write, true, unwrap_or, ℕ}
use Rattle.lazy_cells.specs.Calls.{seeks}
use Rattle.phase_seq.specs.declared.ask.Want.{Want as SeqWant}
use Rattle.phase_seq.specs.declared.ask.Want.TheVariants as want
use Rattle.schedule_rules.specs.declared.line.Answer.TheVariants as answer
use Rattle.phase_moves.proofs.Seeking.{seeks_as, sought_as}

-- a run as this may end a call of this form
abbrev pub fits : SeqWant → Form → Bool
fits want.Init f = takes_none f
fits want.Read f = is_to_read f
fits want.Write f = takes_write f
fits _ f = false

form_own : (f : Form) → fits (form_as f) f ≡ true
form_own f = grind (arith)

-- so does the run of each call
pub form_fits : (q : Kind) (k : Call) → fits (call_as q k) (form_of q k) ≡ true
form_fits q k = by (seeks q k) (form_of q k) (sought_as q k)
  where
    by : (o : Option SeqWant) (f : Form) → seeks_as f o ≡ true → fits (if seeks_run o then unwrap_or o want.Write else form_as f) f ≡ true
    by None f e = form_own f
    by (Some want.ReadOnly) f e = form_own f
    by (Some want.WriteOnly) f e = form_own f
    by (Some want.Finalize) f e = absurd (cc)
    by (Some w) f e = e

-- ---- what a run that made a value answers then

pub read_made : (f : Form) (v p : ℕ) → is_to_read f ≡ true → answer_made f v p ≡ answer.ReadGuard
read_made f v p e = grind (arith, e)

-- one that keeps the lock to write
pub write_made : (f : Form) (v p : ℕ) → takes_write f ≡ true → takes_none f ≡ false → answer_made f v p ≡ answer.WriteGuard
write_made f v p e g = grind (arith, e, g)

-- one that keeps no lock
pub back_made : (f : Form) (v p : ℕ) (q : Phase) → takes_none f ≡ true → q ≡ phase_of p → answer_made f v p ≡ answer_back f v q
back_made f v p q e same = grind (arith, e, same)
