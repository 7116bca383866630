-- When rows stand for what is open.
use Rattle.std.specs.Prelude.{ℕ, Bool, true, List, [], ◌∷◌, ◌≡◌, ◌≢◌, ◌≤◌, ◌<◌, ◌==◌, length, slice_get, if◌then◌else◌}
use Rattle.std.specs.Option.{unwrap_or}
use Rattle.std.specs.declared.option.Option.{Option}
use Rattle.std.specs.declared.option.Option.TheVariants.{None, Some}
use Rattle.phase_bits.specs.declared.phase.Phase.{Phase}
use Rattle.phase_bits.specs.declared.holders.Holders.{Holders}
use Rattle.phase_bits.specs.Number.{IsKnown, phase_of}
use Rattle.phase_bits.specs.Records.{most_readers}
use Rattle.exit_registry.specs.Registry.{cells_of}
use Rattle.phase_locker.specs.declared.ways.LockerKind.{LockerKind}
use Rattle.phase_locker.specs.declared.ways.LockerKind.TheVariants as kind
use Rattle.phase_locker.specs.Natures.{read_ticket, write_ticket}
use Rattle.phase_locker.specs.Rows.{Rows as Parking}
use Rattle.phase_locker.specs.Fits.{Fits, IsWriteOpen, open_reads}
use Rattle.phase_seq.specs.declared.ask.Want.{Want as SeqWant}
use Rattle.phase_seq.specs.declared.ask.Want.TheVariants as want
use Rattle.phase_seq.specs.declared.section.Section.{Section as SeqSection}
use Rattle.schedule_rules.specs.Calls.{initializes, seeks}
use Rattle.lazy_cells.specs.declared.call.Call.{Call}
use Rattle.lazy_cells.specs.declared.kind.Kind.{Kind}
use Rattle.schedule_rules.specs.declared.form.Form.{Form}
use Rattle.schedule_rules.specs.declared.form.Form.TheVariants.{Told, Shown, Held}
use Rattle.schedule_rules.specs.Forms.{form_of}
use Rattle.schedule_rules.specs.declared.plan.CellPlan.{CellPlan}
use Rattle.schedule_rules.specs.declared.plan.Place.{Place}
use Rattle.schedule_rules.specs.declared.plan.Place.TheVariants as place_of
use Rattle.schedule_rules.specs.declared.step.Want.{Want}
use Rattle.schedule_rules.specs.declared.step.Want.TheVariants.{Calls, Turns}
use Rattle.schedule_rules.specs.Kinds.{cell_at}
use Rattle.schedule_rules.specs.Phases.{flags_kept}
use Rattle.schedule_rules.specs.Changes.{Content}
use Rattle.schedule_rules.specs.History.{count}
use Rattle.schedule_rules.specs.Sections.{Section, innermost}
use Rattle.schedule_rules.specs.Guards.{Guard, numbered}
use Rattle.schedule_rules.specs.Waits.{Wait, wait_of, waits_at, cell_of_section}
use Rattle.schedule_rules.specs.Transcripts.{most_parties}
use Rattle.waiting_rows.specs.Shown.{Shows, IsSingle, AreWithin}
use Rattle.phase_moves.specs.declared.rows.CellRow.{CellRow}
use Rattle.phase_moves.specs.declared.rows.Draft.{Draft}
use Rattle.phase_moves.specs.declared.rows.Exit.{Exit}
use Rattle.phase_moves.specs.declared.rows.GuardRow.{GuardRow}
use Rattle.phase_moves.specs.declared.rows.GuardRow.TheVariants as guard
use Rattle.phase_moves.specs.declared.rows.OpenRun.{OpenRun}
use Rattle.phase_moves.specs.declared.rows.PartyRow.{PartyRow}
use Rattle.phase_moves.specs.declared.rows.Rows.{Rows}
use Rattle.phase_moves.specs.declared.rows.Target.{Target}
use Rattle.phase_moves.specs.Standing.{Standing, Run, run_in, runner_of, reads_in, writes_in, seen_by}

-- ---- each row is a function of what stands open

-- what opens a section seeks of its cell, by the call table. Write for what seeks nothing does not occur: it opens none
abbrev pub want_of : Kind → Want → SeqWant
want_of q w = unwrap_or (seeks q w) want.Write

-- as what a section runs whose call answers in this form
abbrev pub form_as : Form → SeqWant
form_as (Told tests) = want.Init
form_as Shown = want.Init
form_as (Held writes falls_back) = if writes then want.Write else want.Read

-- as what the section of a call runs: as it seeks. That it goes by its form, where it asks for no run, does not occur: it
-- opens none
abbrev pub call_as : Kind → Call → SeqWant
call_as q k = if initializes q (Calls k) then want_of q (Calls k) else form_as (form_of q k)

-- as what its section runs
abbrev pub run_as : Kind → Want → SeqWant
run_as q (Calls k) = call_as q k
run_as q Turns = want.Finalize

-- the flags that stay beside those of a section that runs
abbrev pub stays_in : CellPlan → Want → Bool → ℕ → Phase
stays_in x (Calls k) is_open p = phase_of (flags_kept x.kind is_open p)
stays_in x Turns is_open p = phase_of p

-- the section of the cell's sequentializer
abbrev pub section_of : CellPlan → ℕ → ℕ → Section → SeqSection
section_of x c phase s =
    record { who = record { cell = c; party = s.party }; want = run_as x.kind s.want; stays = stays_in x s.want s.is_open phase; ticket = write_ticket }

-- the row of a section that runs in the cell
abbrev pub open_run : CellPlan → ℕ → ℕ → Option Run → Option OpenRun
open_run x c phase None = None
open_run x c phase (Some r) =
    Some (record { run = record { party = r.section.party; want = r.section.want; outer = r.outer }; section = section_of x c phase r.section })

-- the row of a guard
abbrev pub guard_row : Option Guard → GuardRow
guard_row None = guard.Free
guard_row (Some x) = if x.writes then guard.Write x.party x.cell write_ticket else guard.Read x.party x.cell read_ticket

-- the row at a number, while the lock of the guard with the number hand is in the hand of the step
abbrev pub slot_row : ℕ → Standing → ℕ → GuardRow
slot_row hand m g = if g == hand then guard.Free else guard_row (numbered g m.guards)

-- what waits
abbrev pub target_of : Option Wait → Option Target
target_of None = None
target_of (Some w) = Some (record { cell = w.cell; want = w.want })

-- the row of a party
abbrev pub party_row : Standing → ℕ → PartyRow
party_row m p = record { waiting = target_of (wait_of p m.waits); innermost = cell_of_section (innermost p m.sections) }

-- where the calls of a cell wait
abbrev pub kind_at : Place → LockerKind
kind_at place_of.Park = kind.Park
kind_at place_of.Spin = kind.Spin
kind_at (place_of.Own p) = kind.Own

-- ---- the locker of a cell

-- it has so many read holds, and a write hold where there is one, and its readers are within the limit: shares and claims
-- the rows of who is parked tell
pub record IsLocked (k : LockerKind) (h : Holders) (s : Parking) (c reads writes phase : ℕ) : Type 0 where
  pub fits : Fits k h s c
  pub phase_is : h.phase ≡ phase_of phase
  pub reads_are : open_reads h s c ≡ reads
  pub write_is : 0 < writes → IsWriteOpen h s c
  pub write_was : IsWriteOpen h s c → 0 < writes
  pub one : writes ≤ 1
  pub limit : h.readers ≤ most_readers

-- what stands open says of a cell
pub record Seen : Type 0 where
  pub plan : CellPlan
  pub content : Content
  pub reads : ℕ
  pub writes : ℕ
  pub run : Option Run

-- what this says of the cell
abbrev pub seen_at : ℕ → Standing → Seen
seen_at c m = record { plan = cell_at m.plans c; content = m.content c; reads = reads_in c m; writes = writes_in c m; run = run_in c m.sections }

-- the row of a cell
pub record IsCell {L : Type 0} (held : L → Holders) (place : L → LockerKind) (z : Seen) (s : Parking) (c : ℕ) (row : CellRow L) : Type 0 where
  pub planned : row.plan ≡ z.plan
  pub valued : row.value ≡ z.content.value
  pub known : IsKnown (phase_of z.content.phase)
  pub locked : IsLocked (place row.seq.locker) (held row.seq.locker) s c z.reads z.writes z.content.phase
  pub placed : place row.seq.locker ≡ kind_at z.plan.place
  pub runner : row.seq.running ≡ runner_of z.run
  pub runs : row.run ≡ open_run z.plan c z.content.phase z.run

-- it is counted how many calls and turns wait at the cell
abbrev pub CountsWaits : {L : Type 0} → ℕ → List Wait → CellRow L → Type 0
CountsWaits c ws row = row.waiting ≡ count (waits_at c) ws

-- what the holder of a write guard sees, as the row of its cell keeps it
abbrev pub draft_of : Content → Draft
draft_of y = record { phase = phase_of y.phase; value = y.value }

-- the row of the cell keeps what the holder of its write guard sees
abbrev pub KeepsDraft : {L : Type 0} → ℕ → Standing → CellRow L → Type 0
KeepsDraft c m row = (g : ℕ) (x : Guard) → numbered g m.guards ≡ Some x → x.writes ≡ true → x.cell ≡ c → row.draft ≡ draft_of (seen_by m x)

-- the sections are in one of the first cells, so many
abbrev pub AreInside : ℕ → List Section → Type 0
AreInside n [] = Unit {0}
AreInside n (s ∷ ss) = (s.cell < n) × AreInside n ss

-- ---- the exit

-- the exit is where it stands, and the registry is for so many cells
pub record IsExit (n : ℕ) (m : Standing) (x : Exit) : Type 0 where
  pub registry_is : x.registry ≡ m.registry
  pub owner_is : x.owner ≡ m.owner
  pub turns_are : x.turns.items ≡ m.turns
  pub cells_are : cells_of m.registry ≡ n

-- ---- all rows

-- the rows of who is parked show these waits, each at one of the first cells, so many
pub record AreShown (n : ℕ) (ws : List Wait) (s : Parking) : Type 0 where
  pub shows : Shows ws s
  pub single : IsSingle ws
  pub within : AreWithin n ws

-- each guard has a number of its own: that of one of so many rows, or that of the hand; and one of so many cells
pub record AreNumbered (hand slots cells : ℕ) (gs : List Guard) : Type 0 where
  pub once : (g : ℕ) → count (λ (x : Guard). x.number == g) gs ≤ 1
  pub in_rows : (g : ℕ) (x : Guard) → numbered g gs ≡ Some x → g ≢ hand → g < slots
  pub in_cells : (g : ℕ) (x : Guard) → numbered g gs ≡ Some x → x.cell < cells

-- there are as many rows of who is parked as parties, and as many lists as cells
pub record AreSized (cells parties : ℕ) (s : Parking) : Type 0 where
  pub rows : length s.rows ≡ parties
  pub readers : length s.readers ≡ cells
  pub writers : length s.writers ≡ cells
  pub few : length s.rows < most_parties

-- the rows stand for this, while the lock of the guard with the number hand is in the hand of the step
pub record Stands {L : Type 0} (held : L → Holders) (place : L → LockerKind) (hand : ℕ) (m : Standing) (v : Rows L) : Type 0 where
  pub cell : (c : ℕ) (row : CellRow L) → slice_get v.cells.items c ≡ Some row → IsCell held place (seen_at c m) v.parks c row
  pub counted : (c : ℕ) (row : CellRow L) → slice_get v.cells.items c ≡ Some row → CountsWaits c m.waits row
  pub draft : (c : ℕ) (row : CellRow L) → slice_get v.cells.items c ≡ Some row → KeepsDraft c m row
  pub slot : (g : ℕ) → g < length v.guards.items → slice_get v.guards.items g ≡ Some (slot_row hand m g)
  pub party : (p : ℕ) → p < length v.parties.items → slice_get v.parties.items p ≡ Some (party_row m p)
  pub exit : IsExit (length v.cells.items) m v.exit
  pub waits : AreShown (length v.cells.items) m.waits v.parks
  pub guards : AreNumbered hand (length v.guards.items) (length v.cells.items) m.guards
  pub sections : AreInside (length v.cells.items) m.sections
  pub sizes : AreSized (length v.cells.items) (length v.parties.items) v.parks
