-- What an attempt requires and does.
use Rattle.std.specs.Prelude.{ℕ, Bool, true, false, ◌≡◌, ◌<◌, ◌+◌, ◌-◌, ◌&&◌, ◌||◌, is_some, length, MatchBool, if◌then◌else◌}
use Rattle.std.specs.declared.option.Option.{Option}
use Rattle.std.specs.declared.option.Option.TheVariants.{None, Some}
use Rattle.phase_bits.specs.declared.phase.Phase.{Phase}
use Rattle.phase_bits.specs.declared.holders.Holders.{Holders}
use Rattle.phase_bits.specs.Number.{phase_of}
use Rattle.exit_registry.specs.Registry.{is_known}
use Rattle.phase_locker.specs.declared.ways.LockerKind.{LockerKind}
use Rattle.phase_locker.specs.declared.ways.Given.{Given}
use Rattle.phase_seq.specs.declared.ask.Ask.{Ask}
use Rattle.phase_seq.specs.declared.section.Begun.{Begun}
use Rattle.phase_seq.specs.declared.section.Begun.TheVariants as begun
use Rattle.phase_seq.specs.declared.section.Section.{Section as SeqSection}
use Rattle.phase_seq.specs.Begins.{runs}
use Rattle.lazy_cells.specs.declared.kind.Kind.{Kind}
use Rattle.lazy_cells.specs.Calls.{asking, has_call}
use Rattle.lazy_cells.specs.Kinds.{is_finalizable}
use Rattle.schedule_rules.specs.declared.plan.CellPlan.{CellPlan}
use Rattle.schedule_rules.specs.declared.step.Want.{Want}
use Rattle.schedule_rules.specs.declared.step.Want.TheVariants.{Calls, Turns}
use Rattle.schedule_rules.specs.Calls.{initializes, is_fast, seeks}
use Rattle.schedule_rules.specs.Kinds.{is_owned}
use Rattle.schedule_rules.specs.Kinds.{cell_at, tolerance_of}
use Rattle.schedule_rules.specs.Waits.{Wait, wait_of}
use Rattle.phase_moves.specs.declared.rows.Draft.{Draft}
use Rattle.phase_moves.specs.declared.rows.OpenRun.{OpenRun}
use Rattle.phase_moves.specs.declared.rows.PartyRow.{PartyRow}
use Rattle.phase_moves.specs.declared.rows.Rows.{Rows}
use Rattle.phase_moves.specs.declared.rows.Taken.{Taken}
use Rattle.phase_moves.specs.declared.rows.Taken.TheVariants as taken
use Rattle.phase_moves.specs.declared.rows.Target.{Target}
use Rattle.phase_moves.specs.Meets.{IsMet}
use Rattle.phase_moves.specs.Moves.{Rests}
use Rattle.phase_moves.specs.Standing.{Standing, content_tried, run_in, runner_of, took, writes_in}
use Rattle.phase_moves.specs.Stands.{Stands}

-- what is attempted does not wait: a fast call, or any at a cell of its party's own
abbrev pub is_quick : CellPlan → Want → Bool
is_quick x w = is_fast w || is_owned x.place

-- what an attempt asks of its cell: nothing, where it looks at the cell as it is
abbrev pub ask_of : CellPlan → Want → Option Ask
ask_of x w = asking (seeks x.kind w) (is_quick x w) (tolerance_of x)

-- ---- what is taken of what was begun

-- what was begun, as an attempt answers it
abbrev pub taken_of : Begun → Taken
taken_of (begun.Wait way) = taken.Wait way
taken_of begun.Missed = taken.Missed
taken_of begun.Cyclic = taken.Cyclic
taken_of (begun.Nothing q) = taken.Nothing q
taken_of (begun.Read t q) = taken.Read t q
taken_of (begun.Write t q) = taken.Write t q
taken_of (begun.Run o) = taken.Runs
taken_of (begun.Final o) = taken.Runs

-- a section is opened
abbrev pub opens_section : Begun → Bool
opens_section (begun.Wait way) = false
opens_section begun.Missed = false
opens_section begun.Cyclic = false
opens_section (begun.Nothing q) = false
opens_section (begun.Read t q) = false
opens_section (begun.Write t q) = false
opens_section (begun.Run o) = true
opens_section (begun.Final o) = true

-- the row of a party that runs this
abbrev pub party_running : Target → PartyRow
party_running t = record { waiting = None; innermost = Some t.cell }

-- the row of the party then
abbrev pub party_after : Target → Begun → PartyRow → PartyRow
party_after t (begun.Wait way) of = record { waiting = Some t; innermost = of.innermost }
party_after t begun.Missed of = of
party_after t begun.Cyclic of = of
party_after t (begun.Nothing q) of = record { waiting = None; innermost = of.innermost }
party_after t (begun.Read l q) of = record { waiting = None; innermost = of.innermost }
party_after t (begun.Write l q) of = record { waiting = None; innermost = of.innermost }
party_after t (begun.Run o) of = party_running t
party_after t (begun.Final o) of = party_running t

-- the row of a section that the party, of which this was the row, runs
abbrev pub run_of : ℕ → Target → PartyRow → SeqSection → OpenRun
run_of p t of o = record { run = record { party = p; want = t.want; outer = of.innermost }; section = o }

-- what runs in the cell then, where this ran
abbrev pub run_after : ℕ → Target → PartyRow → Begun → Option OpenRun → Option OpenRun
run_after p t of (begun.Wait way) run = run
run_after p t of begun.Missed run = run
run_after p t of begun.Cyclic run = run
run_after p t of (begun.Nothing q) run = run
run_after p t of (begun.Read l q) run = run
run_after p t of (begun.Write l q) run = run
run_after p t of (begun.Run o) run = Some (run_of p t of o)
run_after p t of (begun.Final o) run = Some (run_of p t of o)

-- how many wait at a cell where so many waited, once a party that waited there or not waits there or not
abbrev pub waiting_with : Bool → Bool → ℕ → ℕ
waiting_with was is n = (if was then n - 1 else n) + (if is then 1 else 0)

-- how many wait at the cell then, of a party that waited there or not
abbrev pub waiting_after : Begun → Bool → ℕ → ℕ
waiting_after (begun.Wait way) was n = waiting_with was true n
waiting_after begun.Missed was n = n
waiting_after begun.Cyclic was n = n
waiting_after (begun.Nothing q) was n = waiting_with was false n
waiting_after (begun.Read l q) was n = waiting_with was false n
waiting_after (begun.Write l q) was n = waiting_with was false n
waiting_after (begun.Run o) was n = waiting_with was false n
waiting_after (begun.Final o) was n = waiting_with was false n

-- what the holder of the cell's write guard sees then, where this is published: what the lock was got at
abbrev pub draft_after : Begun → Option ℕ → Draft → Draft
draft_after (begun.Wait way) value draft = draft
draft_after begun.Missed value draft = draft
draft_after begun.Cyclic value draft = draft
draft_after (begun.Nothing q) value draft = draft
draft_after (begun.Read l q) value draft = draft
draft_after (begun.Write l q) value draft = record { phase = q; value = value }
draft_after (begun.Run o) value draft = draft
draft_after (begun.Final o) value draft = draft

-- ---- what an attempt requires and tells

-- cells of this kind have what is attempted
abbrev pub has_want : Kind → Want → Bool
has_want q (Calls k) = has_call q k
has_want q Turns = true

-- what waits asks for a lock, and may wait for it
pub record MayWait (x : CellPlan) (w : Want) : Type 0 where
  pub sought : is_some (seeks x.kind w) ≡ true
  pub slow : is_quick x w ≡ false

-- the call waits at this cell
abbrev pub WaitsAt : ℕ → Option Wait → Type 0
WaitsAt c None = ⊥
WaitsAt c (Some w) = w.cell ≡ c

-- the attempt is turned back
abbrev pub is_turned : Taken → Bool
is_turned (taken.Wait how) = false
is_turned taken.Missed = false
is_turned taken.Cyclic = true
is_turned (taken.Nothing q) = false
is_turned (taken.Read t q) = false
is_turned (taken.Write t q) = false
is_turned taken.Runs = false

-- an answer tells the phase that the attempt leaves
abbrev pub TellsPhase : Phase → Taken → Type 0
TellsPhase p (taken.Wait how) = Unit {0}
TellsPhase p taken.Missed = Unit {0}
TellsPhase p taken.Cyclic = Unit {0}
TellsPhase p (taken.Nothing q) = q ≡ p
TellsPhase p (taken.Read t q) = q ≡ p
TellsPhase p (taken.Write t q) = q ≡ p
TellsPhase p taken.Runs = Unit {0}

-- the phase that an attempt leaves which has no section to run: where it is declined, that says so
abbrev pub phase_asked : ℕ → Want → Standing → Phase
phase_asked c w m = phase_of (content_tried c w m).phase

-- a cell that is to be registered is not known to the registry yet
abbrev pub IsUnknown : ℕ → Standing → Type 0
IsUnknown c m = is_finalizable (cell_at m.plans c).kind ≡ true → (m.content c).phase ≡ 0 → writes_in c m ≡ 0 → is_known m.registry c ≡ false

module _ {L : Type 0} (held : L → Holders) (place : L → LockerKind) where
  -- the party attempts this: its call or turn waits at the cell, or it does not wait. A cell that has a turn is no party's own
  pub record IsAttempting (m : Standing) (v : Rows L) (p : ℕ) (t : Target) (waits : Bool) : Type 0 where
    pub rests : Rests held place m v
    pub party : p < length v.parties.items
    pub cell : t.cell < length v.cells.items
    pub had : has_want (cell_at m.plans t.cell).kind t.want ≡ true
    pub waited : MatchBool waits (WaitsAt t.cell (wait_of p m.waits)) (wait_of p m.waits ≡ None)
    pub waits_so : waits ≡ true → MayWait (cell_at m.plans t.cell) t.want
    pub unknown : IsUnknown t.cell m
    pub shared : t.want ≡ Turns → is_owned (cell_at m.plans t.cell).place ≡ false

  pub record MayAttempt (v : Rows L) (p : ℕ) (t : Target) (waits : Bool) : Type 0 where
    pub m : Standing
    pub is : IsAttempting m v p t waits

  -- what an attempt that was answered so tells: it is turned back exactly where it asks for a run of the generator that
  -- its own party is running, and its answer is the one that is due of what it met
  pub record IsTook (m : Standing) (v : Rows L) (p : ℕ) (t : Target) (b : Taken) (g : Given) (new : Rows L) : Type 0 where
    pub stands : Stands held place (length v.guards.items) (took (length v.guards.items) p t.cell t.want g b m) new
    pub told : TellsPhase (phase_asked t.cell t.want m) b
    pub cyclic : is_turned b ≡ (initializes (cell_at m.plans t.cell).kind t.want && runs p (runner_of (run_in t.cell m.sections)))
    pub met : IsMet p t b g m

  abbrev pub Attempts : Rows L → ℕ → Target → Bool → Taken × Given → Rows L → Type 0
  Attempts old p t waits r new = (m : Standing) → IsAttempting m old p t waits → IsTook m old p t r.0 r.1 new
