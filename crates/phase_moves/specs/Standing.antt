-- What stands open, and the moves on it.
use Rattle.std.specs.Prelude.{ℕ, Bool, true, false, List, [], ◌∷◌, ◌++◌, ◌==◌, ◌+◌, if◌then◌else◌}
use Rattle.std.specs.declared.option.Option.{Option}
use Rattle.std.specs.declared.option.Option.TheVariants.{None, Some}
use Rattle.exit_registry.specs.declared.turns.Turn.{Turn}
use Rattle.exit_registry.specs.declared.turns.Turn.TheVariants as turn
use Rattle.exit_registry.specs.declared.turns.Turned.{Turned}
use Rattle.exit_registry.specs.Registry.{Registry, after_turn, looked}
use Rattle.phase_locker.specs.declared.ways.Given.{Given}
use Rattle.phase_locker.specs.declared.ways.How.{How}
use Rattle.phase_seq.specs.declared.section.Finished.{Finished}
use Rattle.phase_seq.specs.declared.section.Finished.TheVariants as finished
use Rattle.schedule_rules.specs.declared.plan.CellPlan.{CellPlan}
use Rattle.schedule_rules.specs.declared.step.Want.{Want}
use Rattle.schedule_rules.specs.declared.step.Want.TheVariants.{Calls, Turns}
use Rattle.schedule_rules.specs.Kinds.{cell_at, tolerance_of}
use Rattle.schedule_rules.specs.Changes.{Content, Change, Ran, Asked, effect, is_declined}
use Rattle.schedule_rules.specs.Exits.{registry_of_run}
use Rattle.schedule_rules.specs.History.{count}
use Rattle.schedule_rules.specs.Sections.{Section, innermost, without_innermost, runs_in, is_turn}
use Rattle.schedule_rules.specs.Guards.{Guard, without_guard, put_in, reader}
use Rattle.schedule_rules.specs.Deeds.{Makes, Finishes}
use Rattle.schedule_rules.specs.Replay.{Back, content_after_back, back_of_guard, back_of_section}
use Rattle.schedule_rules.specs.Waits.{Wait, without_wait, cell_of_section}
use Rattle.schedule_rules.specs.Holds.{reads_cell, writes_cell}
use Rattle.waiting_rows.specs.Given.{given_on}
use Rattle.phase_moves.specs.declared.rows.Taken.{Taken}
use Rattle.phase_moves.specs.declared.rows.Taken.TheVariants as taken

-- the plan, the calls and turns that wait, the sections that run, the open guards, what is published, and where the exit
-- stands: which cells are registered, who owns it, and which turns ended
pub record Standing : Type 0 where
  pub plans : List CellPlan
  pub waits : List Wait
  pub sections : List Section
  pub guards : List Guard
  pub content : ℕ → Content
  pub registry : Registry
  pub owner : Option ℕ
  pub turns : List Turned

-- ---- what is read off it

-- the read guards of a cell
abbrev pub reads_in : ℕ → Standing → ℕ
reads_in c m = count (reads_cell c) m.guards

-- the write guards of a cell, and its sections that run
abbrev pub writes_in : ℕ → Standing → ℕ
writes_in c m = count (writes_cell c) m.guards + count (runs_in c) m.sections

-- what the holder of a write guard sees
abbrev pub seen_by : Standing → Guard → Content
seen_by m x = effect (cell_at m.plans x.cell) x.changes (m.content x.cell)

-- a section that runs, and the cell of the section round it
pub record Run : Type 0 where
  pub section : Section
  pub outer : Option ℕ

-- the section that runs in the cell
abbrev pub run_in : ℕ → List Section → Option Run
run_in c [] = None
run_in c (s ∷ ss) = if s.cell == c then Some (record { section = s; outer = cell_of_section (innermost s.party ss) }) else run_in c ss

-- the party whose generator runs
abbrev pub runner_of : Option Run → Option ℕ
runner_of None = None
runner_of (Some r) = if is_turn r.section.want then None else Some r.section.party

-- ---- what an attempt does

-- what an admitted attempt did in its section, where no section is left to run: it may be declined
abbrev pub changes_asked : CellPlan → Want → Bool → Content → List Change
changes_asked x (Calls k) is_open y = if is_declined x.kind (tolerance_of x) k is_open y.phase then Asked is_open k ∷ [] else []
changes_asked x Turns is_open y = []

-- the same, at a cell
abbrev pub changes_at : ℕ → Want → Standing → List Change
changes_at c w m = changes_asked (cell_at m.plans c) w m.registry.is_open (m.content c)

-- what the cell holds once the attempt had its section
abbrev pub content_tried : ℕ → Want → Standing → Content
content_tried c w m = effect (cell_at m.plans c) (changes_at c w m) (m.content c)

-- a call registers its cell where it begins a run there, a turn none
abbrev pub registry_asked : ℕ → Want → Standing → Registry
registry_asked c (Calls k) m = registry_of_run m.plans c (m.content c).phase m.registry
registry_asked c Turns m = m.registry

-- ---- the moves

-- what is published after this section is given back
abbrev pub content_back : Option Back → Standing → ℕ → Content
content_back b m c = content_after_back m.plans c b (m.content c)

-- the party's call waits no longer, and what it had was given on
abbrev pub called : ℕ → ℕ → Given → Standing → Standing
called p c g m = record m { waits = given_on c g (without_wait p m.waits) }

-- and these changes are published
abbrev pub answered : ℕ → ℕ → Given → List Change → Standing → Standing
answered p c g chs m = record m { waits = given_on c g (without_wait p m.waits); content = content_back (Some (record { cell = c; changes = chs })) m }

-- it waits so
abbrev pub waiting : ℕ → ℕ → Want → How → Standing → Standing
waiting p c w how m = record m { waits = record { party = p; cell = c; want = w; way = how; woken = false } ∷ m.waits }

-- one guard more
abbrev pub guarded : Guard → Standing → Standing
guarded x m = record m { guards = x ∷ m.guards }

-- one section more, with the registry as it leaves it
abbrev pub opened : Section → Registry → Standing → Standing
opened s r m = record m { sections = s ∷ m.sections; registry = r }

-- the section that an attempt opens at step n
abbrev pub section_asked : ℕ → ℕ → ℕ → Want → Standing → Section
section_asked n p c w m = record { party = p; cell = c; want = w; start = n; is_open = m.registry.is_open }

-- the write guard that an attempt gets at step n, in whose section this happened
abbrev pub writer_asked : ℕ → ℕ → ℕ → List Change → Guard
writer_asked n p c chs = record { number = n; party = p; cell = c; writes = true; start = n; changes = chs }

-- step n, an attempt of party p, which wants this of cell c, gave g and was answered
abbrev pub took : ℕ → ℕ → ℕ → Want → Given → Taken → Standing → Standing
took n p c w g (taken.Wait how) m = waiting p c w how (called p c g m)
took n p c w g taken.Missed m = m
took n p c w g taken.Cyclic m = m
took n p c w g (taken.Nothing q) m = answered p c g (changes_at c w m) m
took n p c w g (taken.Read t q) m = guarded (reader n p c) (answered p c g (changes_at c w m) m)
took n p c w g (taken.Write t q) m = guarded (writer_asked n p c (changes_at c w m)) (called p c g m)
took n p c w g taken.Runs m = opened (section_asked n p c w m) (registry_asked c w m) (called p c g m)

-- this guard is given back, and g is given
abbrev pub left : Guard → Given → Standing → Standing
left x g m =
    record m {
      waits = given_on x.cell g m.waits;
      guards = without_guard x.number m.guards;
      content = content_back (back_of_guard (Some x)) m;
    }

-- this write guard becomes a read guard at step n, and g is given
abbrev pub downgraded : ℕ → Guard → Given → Standing → Standing
downgraded n x g m = guarded (reader n x.party x.cell) (left x g m)

-- one more read guard beside this one
abbrev pub cloned : ℕ → Guard → Standing → Standing
cloned n x m = guarded (reader n x.party x.cell) m

-- the holder of the write guard with this number sets a value, which is published when the guard is given back
abbrev pub put : ℕ → ℕ → Standing → Standing
put g v m = record m { guards = put_in g v m.guards }

-- the write guard that a run leaves
abbrev pub writer_of : ℕ → Section → Option ℕ → Guard
writer_of n s made = record { number = n; party = s.party; cell = s.cell; writes = true; start = s.start; changes = Ran s.is_open made ∷ [] }

-- the section is given back, with what happened in it, and g is given
abbrev pub closed : Section → Option Back → Given → Standing → Standing
closed s b g m =
    record m {
      waits = given_on s.cell g m.waits;
      sections = without_innermost s.party m.sections;
      content = content_back b m;
    }

-- the section of a run is given back, with this made
abbrev pub run_closed : Section → Option ℕ → Given → Standing → Standing
run_closed s made g m = closed s (back_of_section (Makes made) (Some s)) g m

-- the innermost section of a party, a run, ends at step n with this made, and goes on so
abbrev pub ended : ℕ → Section → Option ℕ → Given → Finished → Standing → Standing
ended n s made g (finished.Phase q) m = run_closed s made g m
ended n s made g (finished.Read t q) m = guarded (reader n s.party s.cell) (run_closed s made g m)
ended n s made g (finished.Write t q) m = guarded (writer_of n s made) (record m { sections = without_innermost s.party m.sections })
ended n s made g (finished.Failed q) m = run_closed s made g m

-- a turn ended
abbrev pub turn_ended : ℕ → Turn → Standing → Standing
turn_ended c t m = record m { turns = m.turns ++ record { cell = c; turn = t } ∷ [] }

-- how the turn ends whose finalizer succeeded, or failed
abbrev pub turn_of : Bool → Turn
turn_of fine = if fine then turn.Done else turn.Failed

-- the innermost section of a party, a finalizer's, ends so and leaves this, and its turn ends with it
abbrev pub finalized : Section → Bool → Option ℕ → Given → Standing → Standing
finalized s fine left g m = turn_ended s.cell (turn_of fine) (closed s (back_of_section (Finishes fine left) (Some s)) g m)

-- ---- the moves of the exit

-- this party owns it
abbrev pub owned : ℕ → Standing → Standing
owned p m = record m { owner = Some p }

-- the first cell left has its turn
abbrev pub turn_taken : Standing → Standing
turn_taken m = record m { registry = after_turn m.registry }

-- the cells registered since the last look are left
abbrev pub round_looked : Standing → Standing
round_looked m = record m { registry = looked m.registry }
