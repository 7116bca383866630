-- One more attempt, by the rule of the call.
use Rattle.std.proofs.Common.{◌≡◌, ℕ, false, Option}
use Rattle.phase_bits.specs.declared.phase.Phase.{Phase}
use Rattle.phase_bits.specs.declared.holders.Holders.{Holders}
use Rattle.phase_locker.specs.declared.tickets.LockNature.{LockNature}
use Rattle.phase_locker.specs.declared.tickets.Attempt.{Attempt}
use Rattle.phase_locker.specs.declared.ways.Who.{Who}
use Rattle.phase_locker.specs.declared.ways.Given.{Given}
use Rattle.phase_locker.specs.declared.ways.LockerKind.{LockerKind}
use Rattle.phase_locker.specs.Rows.{Rows}
use Rattle.phase_locker.specs.Attempts.{Again}
use Rattle.phase_seq.specs.declared.ask.Ask.{Ask}
use Rattle.phase_seq.specs.declared.section.Begun.{Begun}
use Rattle.phase_seq.specs.Asks.{nature_of, wake_of}
use Rattle.phase_seq.specs.Begins.{is_cyclic, rule, begun_by, Resumes}

by_rule : (post : Phase → LockNature → Type 0) (k : LockerKind) (who : Who) (ask : Ask) (h : Holders) (s : Rows) (r : Attempt × Given) (h' : Holders) (s' : Rows) → ((n : LockNature) → post h.phase n → n ≡ nature_of ask h.phase) →
    Again post k who (wake_of ask.want) h s r h' s' → Again (rule ask) k who (wake_of ask.want) h s r h' s'
by_rule post k who ask h s r h' s' ruled again = record { nature = again.nature; allowed = ruled again.nature again.allowed; steps = again.steps }

pub resumed : (post : Phase → LockNature → Type 0) (k : LockerKind) (who : Who) (ask : Ask) (running : Option ℕ) (wake : LockNature) (h : Holders) (s : Rows) (r : Attempt × Given) (b : Begun) (h' : Holders) (s' : Rows) →
    is_cyclic ask.want who.party running ≡ false → wake ≡ wake_of ask.want → ((n : LockNature) → post h.phase n → n ≡ nature_of ask h.phase) →
    Again post k who wake h s r h' s' → b ≡ begun_by who ask h.phase r.0 → Resumes k who ask running h s (b, r.1) h' s'
resumed post k who ask running wake h s r b h' s' apart woken ruled again begun =
    rw apart (record { attempt = r.0; again = by_rule post k who ask h s r h' s' ruled (rw woken at again); answer = begun })
