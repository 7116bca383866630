-- A call of a cell's sequentializer, of a party that waits or not, at a cell of any kind.
use Rattle.std.specs.Prelude.{ℕ, Bool, MatchBool, Option, Some, None, if◌then◌else◌}
use Rattle.phase_bits.specs.declared.phase.Phase.{Phase}
use Rattle.phase_bits.specs.declared.holders.Holders.{Holders}
use Rattle.exit_registry.specs.Registry.{Registry}
use Rattle.phase_locker.specs.declared.ways.LockerKind.{LockerKind}
use Rattle.phase_locker.specs.declared.ways.Given.{Given}
use Rattle.phase_locker.specs.declared.ways.Who.{Who}
use Rattle.phase_locker.specs.Rows.{Rows}
use Rattle.phase_locker.specs.Stands.{MayCall, MayCallAgain}
use Rattle.phase_seq.specs.declared.ask.Ask.{Ask}
use Rattle.phase_seq.specs.declared.section.Begun.{Begun}
use Rattle.phase_seq.specs.Begins.{Begins, Resumes}
use Rattle.phase_seq.specs.Exactly.{is_run}
use Rattle.phase_seq.specs.Registers.{On, after_asking}
use Rattle.lazy_cells.specs.declared.kind.Kind.{Kind}
use Rattle.lazy_cells.specs.Kinds.{is_finalizable}

-- the party's call waits at the cell, or it does not wait
abbrev pub Calling : Bool → Who → Rows → Type 0
Calling waits w s = MatchBool waits (MayCallAgain w s) (MayCall w s)

-- the registry of a cell of this kind, where it has one
abbrev pub registry_for : Kind → Registry → Option Registry
registry_for k m = if is_finalizable k then Some m else None

-- the registry after a call at a cell of this kind and phase began so: a run that begins registers the cell
abbrev pub registry_begun : Kind → ℕ → Phase → Begun → Registry → Registry
registry_begun k c p b m = if is_finalizable k then after_asking (is_run b) c p m else m

-- what a call enters
abbrev pub Enters : Bool → LockerKind → Who → Ask → Option ℕ → Holders → Rows → Begun × Given → Holders → Rows → Type 0
Enters waits k who ask running h s r h' s' = MatchBool waits (Resumes k who ask running h s r h' s') (Begins k who ask running h s r h' s')

-- the call
abbrev pub Calls : Bool → Option Registry → LockerKind → Who → Ask → Option ℕ → Holders → Rows → Begun × Given → Holders → Rows → Type 0
Calls waits m k who ask running h s r h' s' = On m (Enters waits k who ask running h s) k who.cell s ask.tol.leak h.phase r h' s'
