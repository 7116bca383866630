-- What laws about all histories say.
use Rattle.std.specs.Prelude.{ℕ, Bool, true, false, not, List, [], ◌∷◌, ◌≡◌, ◌≢◌, ◌==◌, ◌<◌, ◌+◌, ◌&&◌, ◌||◌, ◌⊎◌, All, length, if◌then◌else◌}
use Rattle.std.specs.declared.option.Option.{Option}
use Rattle.std.specs.declared.option.Option.TheVariants.{None, Some}
use Rattle.schedule_rules.specs.declared.line.Answer.TheVariants as answer
use Rattle.schedule_rules.specs.declared.step.Act.{Act}
use Rattle.schedule_rules.specs.declared.step.Act.TheVariants as act
use Rattle.schedule_rules.specs.declared.step.Step.{Step}
use Rattle.schedule_rules.specs.declared.plan.CellPlan.{CellPlan}
use Rattle.phase_bits.specs.declared.phase.Phase.{Phase}
use Rattle.phase_bits.specs.Number.{phase_of}
use Rattle.phase_bits.specs.Flags.{has, initialized}
use Rattle.phase_locker.specs.declared.ways.Given.{Given}
use Rattle.phase_locker.specs.declared.ways.Given.TheVariants as given
use Rattle.exit_registry.specs.Registry.{occurs, due}
use Rattle.exit_registry.specs.Exits.{cells_of_turns}
use Rattle.phase_seq.specs.Phases.{registered, registration_refused, flags_refused}
use Rattle.lazy_cells.specs.declared.call.Call.{Call}
use Rattle.lazy_cells.specs.declared.call.Call.TheVariants as call
use Rattle.schedule_rules.specs.declared.line.Answer.{Answer}
use Rattle.schedule_rules.specs.declared.step.Want.TheVariants.{Calls, Turns}
use Rattle.schedule_rules.specs.Kinds.{cell_at, tolerance_at, is_parking}
use Rattle.schedule_rules.specs.Changes.{is_declined}
use Rattle.schedule_rules.specs.Phases.{Failure, is_accessible, phase_reached, phase_finalized, value_finalized, tries_registration}
use Rattle.schedule_rules.specs.Calls.{asks, initializes}
use Rattle.schedule_rules.specs.Deeds.{Makes, Deed, Ends, EndsToRead, EndsToWrite}
use Rattle.schedule_rules.specs.History.{Event, before, is_closed, accepts, deed_of, count}
use Rattle.schedule_rules.specs.Sections.{Section, innermost, is_turn, sections}
use Rattle.schedule_rules.specs.Guards.{Guard, numbered, guards}
use Rattle.schedule_rules.specs.Replay.{replay, phase_at, inside}
use Rattle.schedule_rules.specs.Exits.{finishing, owner, ended_turns, registry}
use Rattle.schedule_rules.specs.Waits.{Attempt, attempt, Wait, waits_at, waits}
use Rattle.schedule_rules.specs.Holds.{read_guards, write_holds}
use Rattle.schedule_rules.specs.Legal.{Moment, IsLegal}
use Rattle.schedule_rules.specs.Causes.{lends_at, runs_to_lend, is_step_of, waits_judged, is_admitted}

-- the event leaves what is open, who waits and with which shares and drains, what is published, and all of the exit: the
-- registry, whether it was closed, who owns the exit, and the turns that ended
pub record ChangesNothing (cells : List CellPlan) (h : List Event) (e : Event) : Type 0 where
  pub sections_stay : sections (e ∷ h) ≡ sections h
  pub guards_stay : guards (e ∷ h) ≡ guards h
  pub waits_stay : waits cells (e ∷ h) ≡ waits cells h
  pub published_stays : (c : ℕ) → replay cells c (e ∷ h) ≡ replay cells c h
  pub registry_stays : registry cells (e ∷ h) ≡ registry cells h
  pub closing_stays : is_closed (e ∷ h) ≡ is_closed h
  pub owner_stays : owner (e ∷ h) ≡ owner h
  pub turns_stay : ended_turns (e ∷ h) ≡ ended_turns h

-- the event leaves what is open, and every published phase and value
pub record IsWithoutEffect (cells : List CellPlan) (h : List Event) (e : Event) : Type 0 where
  pub sections_stay : sections (e ∷ h) ≡ sections h
  pub guards_stay : guards (e ∷ h) ≡ guards h
  pub published_stays : (c : ℕ) → replay cells c (e ∷ h) ≡ replay cells c h

-- this phase is shown, and it is published and the value of the cell may not be accessed. Where the call of the step asks
-- for runs, the phase is not empty, and has INITIALIZED or is that of a cell without retry
pub record IsDenied (cells : List CellPlan) (h : List Event) (s : Step) (c : ℕ) (shows : Phase) : Type 0 where
  pub call : Call
  pub tried : attempt cells h s ≡ Some (record { cell = c; want = Calls call })
  pub shown : shows ≡ phase_of (phase_at cells c h)
  pub lacks : is_accessible (cell_at cells c).kind (phase_at cells c h) ≡ false
  pub once : initializes (cell_at cells c).kind (Calls call) ≡ true → has (phase_at cells c h) initialized ≡ false → (cell_at cells c).retry ≡ false
  pub ended : initializes (cell_at cells c).kind (Calls call) ≡ true → phase_at cells c h ≢ 0

-- the event leaves what is open, and every published value
pub record KeepsValues (cells : List CellPlan) (h : List Event) (e : Event) : Type 0 where
  pub sections_stay : sections (e ∷ h) ≡ sections h
  pub guards_stay : guards (e ∷ h) ≡ guards h
  pub values_stay : (c : ℕ) → (replay cells c (e ∷ h)).value ≡ (replay cells c h).value

-- this phase is shown, and it is published and the value of the cell, which the step was to lend as it is, may not be accessed
pub record IsUnlent (cells : List CellPlan) (h : List Event) (s : Step) (c : ℕ) (shows : Phase) : Type 0 where
  pub lends : lends_at c s.act ≡ true
  pub unasked : runs_to_lend cells h s.act ≡ false
  pub shown : shows ≡ phase_of (phase_at cells c h)
  pub lacks : is_accessible (cell_at cells c).kind (phase_at cells c h) ≡ false

-- a call of the step asked for a run at the cell, and no generator ran: that is a section at once
pub record DeclinesAt (cells : List CellPlan) (h : List Event) (s : Step) (c : ℕ) : Type 0 where
  pub call : Call
  pub tried : attempt cells h s ≡ Some (record { cell = c; want = Calls call })
  pub declines : is_declined (cell_at cells c).kind (tolerance_at cells c) call (accepts h) (phase_at cells c h) ≡ true

-- the answer of a value that is lent, or of a generator that was to make it and failed
abbrev pub is_lent : Answer → Bool
is_lent (answer.Value v) = true
is_lent answer.Failed = true
is_lent _ = false

-- the step lent the value of the cell, or ran its generator to lend it: that is a section at once
pub record LendsAt (s : Step) (r : Answer) (c : ℕ) : Type 0 where
  pub lends : lends_at c s.act ≡ true
  pub answered : is_lent r ≡ true

-- the event gives a section of the cell back: there are fewer write holds of the cell afterwards, or it was a section at
-- once
abbrev pub GivesBack : List CellPlan → List Event → Event → ℕ → Type 0
GivesBack cells h e c = (write_holds c (e ∷ h) < write_holds c h) ⊎ (DeclinesAt cells h e.step c ⊎ LendsAt e.step e.line.answer c)

-- the step gets a guard to read, and gives this
abbrev pub read_at : Step → Given → Event
read_at s g = record { step = s; line = record { answer = answer.ReadGuard; given = g } }

-- this phase is shown and left at the cell: a call of the step asked for a run, and no generator ran
pub record IsDeclined (cells : List CellPlan) (h : List Event) (e : Event) (c : ℕ) (shows : Phase) : Type 0 where
  pub call : Call
  pub tried : attempt cells h e.step ≡ Some (record { cell = c; want = Calls call })
  pub declines : is_declined (cell_at cells c).kind (tolerance_at cells c) call (accepts h) (phase_at cells c h) ≡ true
  pub shown : shows ≡ phase_of flags_refused
  pub left : phase_at cells c (e ∷ h) ≡ flags_refused

-- this phase is shown, and it is published after the event, which leaves every other cell: the event leaves the cell too,
-- whose value may not be accessed by its call, or to be lent, or its call was declined
pub record IsTurnedAway (cells : List CellPlan) (h : List Event) (e : Event) (c : ℕ) (shows : Phase) : Type 0 where
  pub shown : shows ≡ phase_of (phase_at cells c (e ∷ h))
  pub others_stay : (d : ℕ) → c ≢ d → replay cells d (e ∷ h) ≡ replay cells d h
  pub reason : ((replay cells c (e ∷ h) ≡ replay cells c h) × (IsDenied cells h e.step c shows ⊎ IsUnlent cells h e.step c shows)) ⊎ IsDeclined cells h e c shows

-- the party's innermost section is a run of the cell, of which this is told: whether the registry was open when it began
pub record EndsRun (h : List Event) (s : Step) (c : ℕ) (is_open : Bool) : Type 0 where
  pub section : Section
  pub found : innermost s.party (sections h) ≡ Some section
  pub here : section.cell ≡ c
  pub noted : section.is_open ≡ is_open

-- the step runs the generator of the cell at once, to lend its value, and whether the registry is open is told
pub record RunsAtOnce (cells : List CellPlan) (h : List Event) (s : Step) (c : ℕ) (is_open : Bool) : Type 0 where
  pub lends : lends_at c s.act ≡ true
  pub asked : runs_to_lend cells h s.act ≡ true
  pub now : accepts h ≡ is_open

-- the event leaves the value of the cell and gives it the phase of a run that failed, which is the innermost of its
-- party or that of this step, and it leaves every other cell
pub record IsFailedRun (cells : List CellPlan) (h : List Event) (e : Event) (c : ℕ) : Type 0 where
  pub is_open : Bool
  pub run : EndsRun h e.step c is_open ⊎ RunsAtOnce cells h e.step c is_open
  pub value_stays : (replay cells c (e ∷ h)).value ≡ (replay cells c h).value
  pub fails : phase_at cells c (e ∷ h) ≡ phase_reached (cell_at cells c).kind is_open (phase_at cells c h) Failure
  pub others_stay : (d : ℕ) → c ≢ d → replay cells d (e ∷ h) ≡ replay cells d h

-- a call that asks for a run where one is due
abbrev pub is_initializing : Call → Bool
is_initializing call.Get = true
is_initializing call.Init = true
is_initializing call.Read = true
is_initializing call.Write = true
is_initializing call.FastRead = true
is_initializing call.FastWrite = true
is_initializing call.PrimedRead = true
is_initializing call.PrimedWrite = true
is_initializing _ = false

-- the answer of a call that was declined: the phase that says so, or a guard to read a primed value
abbrev pub tells_declined : Answer → Bool
tells_declined (answer.Access p) = p.bits == flags_refused
tells_declined (answer.Phase p) = p.bits == flags_refused
tells_declined answer.ErrGuard = true
tells_declined _ = false

-- no cell parks a call
abbrev pub NoneParks : List CellPlan → Type 0
NoneParks cells = All (λ x. is_parking x.place ≡ false) cells

-- a generator of the cell ends by a value, where its party is in this section
abbrev pub is_success : ℕ → Deed → Option Section → Bool
is_success c (EndsToRead v) (Some s) = s.cell == c
is_success c (EndsToWrite v) (Some s) = s.cell == c
is_success c (Ends (Makes (Some v))) (Some s) = s.cell == c
is_success c _ s = false

-- the value of the cell was lent
abbrev pub is_lent_at : ℕ → Act → Answer → Bool
is_lent_at c a (answer.Value v) = lends_at c a
is_lent_at c a _ = false

-- how many generators of the cell ended by a value: in a section, or in the step that lends it
abbrev pub successes : List CellPlan → ℕ → List Event → ℕ
successes cells c [] = 0
successes cells c (e ∷ h) =
    if is_success c (deed_of h e.step e.line.answer) (innermost e.step.party (sections h)) || (is_lent_at c e.step.act e.line.answer && runs_to_lend cells h e.step.act)
    then successes cells c h + 1
    else successes cells c h

-- ---- registration

module _ (cells : List CellPlan) where
  -- the attempt asks for a run at this cell, which is of a kind that is registered, on the empty phase
  abbrev pub asks_registration : ℕ → List Event → Attempt → Bool
  asks_registration c h a =
      (a.cell == c)
      && (asks (cell_at cells a.cell).kind (tolerance_at cells a.cell) a.want (phase_at cells a.cell h) && tries_registration (cell_at cells a.cell).kind (phase_at cells a.cell h))

  -- the step tries to register the cell, where its line gives this at this moment: it is not refused, and its attempt is
  -- admitted and asks so
  abbrev pub tries_to_register : ℕ → List Event → Step → Given → Moment → Bool
  tries_to_register c h s g m = is_step_of cells (λ a. is_admitted cells h s.party (waits_judged cells m h s g) a && asks_registration c h a) h s

  -- how many steps of a legal history tried to register the cell
  abbrev pub registrations : ℕ → (h : List Event) → IsLegal cells h → ℕ
  registrations c [] k = 0
  registrations c (e ∷ h) k =
      if tries_to_register c h e.step e.line.given k.0.moment then registrations c h k.2 + 1 else registrations c h k.2

-- ---- finalizers

-- the step takes the turn of the cell, or goes on with it, and the value of the cell is there, or is not
pub record TurnsWhere (cells : List CellPlan) (h : List Event) (s : Step) (c : ℕ) (ready : Bool) : Type 0 where
  pub tried : attempt cells h s ≡ Some (record { cell = c; want = Turns })
  pub value : has (phase_at cells c h) initialized ≡ ready

-- the event ends the turn of the cell, whose value is there: it adds what a finalizer adds that ended so, shows that phase,
-- and leaves the value, or what its kind leaves in its place, and every other cell
pub record IsEndedTurn (cells : List CellPlan) (h : List Event) (e : Event) (c : ℕ) (fine : Bool) : Type 0 where
  pub section : Section
  pub found : innermost e.step.party (sections h) ≡ Some section
  pub here : section.cell ≡ c
  pub turns : is_turn section.want ≡ true
  pub ready : has (phase_at cells c h) initialized ≡ true
  pub marks : phase_at cells c (e ∷ h) ≡ phase_finalized (phase_at cells c h) fine
  pub shown : e.line.answer ≡ answer.Phase (phase_of (phase_at cells c (e ∷ h)))
  pub left : Option ℕ
  pub ended : e.step.act ≡ finishing fine left
  pub value_left : (replay cells c (e ∷ h)).value ≡ value_finalized (cell_at cells c).kind left (replay cells c h).value
  pub others_stay : (d : ℕ) → c ≢ d → replay cells d (e ∷ h) ≡ replay cells d h

-- the step ends a finalizer, which succeeded or failed
pub record Finishes (s : Step) (fine : Bool) : Type 0 where
  pub left : Option ℕ
  pub act : s.act ≡ finishing fine left

-- ---- turns

-- what waits is the turn of the cell
abbrev pub waits_to_turn : ℕ → Wait → Bool
waits_to_turn c w = is_turn w.want && (w.cell == c)

-- a finalizer of the cell runs in the section
abbrev pub finalizes_in : ℕ → Section → Bool
finalizes_in c s = is_turn s.want && (s.cell == c)

-- the turns of the cell: those to come, those that wait, those that go on, and those that ended
abbrev pub turns_of : List CellPlan → ℕ → List Event → ℕ
turns_of cells c h =
    occurs c (due (registry cells h)) + count (waits_to_turn c) (waits cells h) + count (finalizes_in c) (sections h)
    + occurs c (cells_of_turns (ended_turns h))

-- the turns that have not ended: those to come, those that wait, and those that go on
abbrev pub turns_at_hand : List CellPlan → List Event → ℕ
turns_at_hand cells h =
    length (due (registry cells h)) + count (λ w. is_turn w.want) (waits cells h) + count (λ s. is_turn s.want) (sections h)

-- ---- values that are shown

-- a call of the step shows this value: it is published at the cell, where it may be accessed
pub record ShowsPublished (cells : List CellPlan) (h : List Event) (s : Step) (v : ℕ) : Type 0 where
  pub cell : ℕ
  pub call : Call
  pub tried : attempt cells h s ≡ Some (record { cell = cell; want = Calls call })
  pub reached : is_accessible (cell_at cells cell).kind (phase_at cells cell h) ≡ true
  pub value : (replay cells cell h).value ≡ Some v

-- the step looks through an open guard, whose holder sees this value
pub record ShowsGuarded (cells : List CellPlan) (h : List Event) (s : Step) (v : ℕ) : Type 0 where
  pub number : ℕ
  pub guard : Guard
  pub looks : s.act ≡ act.Look number
  pub found : numbered number (guards h) ≡ Some guard
  pub value : (if guard.writes then inside cells h guard else replay cells guard.cell h).value ≡ Some v

-- the step is to lend the value of a cell, and runs no generator: this value is published there, and may be accessed
pub record ShowsLent (cells : List CellPlan) (h : List Event) (s : Step) (v : ℕ) : Type 0 where
  pub cell : ℕ
  pub lends : lends_at cell s.act ≡ true
  pub unasked : runs_to_lend cells h s.act ≡ false
  pub reached : is_accessible (cell_at cells cell).kind (phase_at cells cell h) ≡ true
  pub value : (replay cells cell h).value ≡ Some v

-- the step runs the generator of a cell to lend the value that it makes, which is this
pub record ShowsMade (cells : List CellPlan) (h : List Event) (s : Step) (v : ℕ) : Type 0 where
  pub cell : ℕ
  pub left : ℕ
  pub acts : s.act ≡ act.GetMut cell (Some v) left
  pub asked : runs_to_lend cells h s.act ≡ true

-- the step shows a value that is there: a published one, one that the holder of a guard sees, or one that a generator made
abbrev pub ShowsValue : List CellPlan → List Event → Step → ℕ → Type 0
ShowsValue cells h s v =
    ShowsPublished cells h s v ⊎ (ShowsGuarded cells h s v ⊎ ((s.act ≡ act.Made v) ⊎ (ShowsLent cells h s v ⊎ ShowsMade cells h s v)))

-- ---- values that are lent

-- nobody uses the cell: no guard of it is open, no section of it goes on, and no call waits at it
pub record IsUnused (cells : List CellPlan) (h : List Event) (c : ℕ) : Type 0 where
  pub unread : read_guards c h ≡ 0
  pub unheld : write_holds c h ≡ 0
  pub unwaited : count (waits_at c) (waits cells h) ≡ 0

-- the event leaves what is open and who waits, gives nothing, and leaves what is published of every other cell
pub record ChangesCellAlone (cells : List CellPlan) (h : List Event) (e : Event) (c : ℕ) : Type 0 where
  pub sections_stay : sections (e ∷ h) ≡ sections h
  pub guards_stay : guards (e ∷ h) ≡ guards h
  pub waits_stay : waits cells (e ∷ h) ≡ waits cells h
  pub nobody : e.line.given ≡ given.Nobody
  pub others_stay : (d : ℕ) → c ≢ d → replay cells d (e ∷ h) ≡ replay cells d h

-- the value that a party leaves to which one is lent
abbrev pub value_left : Act → Option ℕ
value_left (act.GetMut c made left) = Some left
value_left (act.TryGetMut c left) = Some left
value_left _ = None

-- what the act leaves is published of the cell, and may be accessed
abbrev pub Leaves : List CellPlan → List Event → ℕ → Act → Type 0
Leaves cells h c a = ((replay cells c h).value ≡ value_left a) × (is_accessible (cell_at cells c).kind (phase_at cells c h) ≡ true)

-- ---- what is open

-- what is published of the cell is what was published there before this step
abbrev pub IsAsAt : List CellPlan → List Event → ℕ → ℕ → Type 0
IsAsAt cells h c start = replay cells c h ≡ replay cells c (before start h)

-- ---- what a phase tells

-- the phase says that the cell is registered, or that it was refused to be
pub record TellsRegistration (known : Bool) (p : ℕ) : Type 0 where
  pub taken : has p registered ≡ known
  pub refused : has p registration_refused ≡ not known
