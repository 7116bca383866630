-- What a cell without locks holds after the sections given back, one after another.
use Rattle.std.specs.Prelude.{ℕ, List, [], ◌∷◌, ◌==◌, if◌then◌else◌}
use Rattle.std.specs.declared.option.Option.{Option}
use Rattle.std.specs.declared.option.Option.TheVariants.{None, Some}
use Rattle.schedule_rules.specs.declared.line.Answer.{Answer}
use Rattle.schedule_rules.specs.declared.step.Step.{Step}
use Rattle.schedule_rules.specs.declared.plan.CellPlan.{CellPlan}
use Rattle.schedule_rules.specs.Kinds.{cell_at}
use Rattle.schedule_rules.specs.Changes.{Content, opening_content, Change, Ran, Ended, effect}
use Rattle.schedule_rules.specs.Deeds.{Ending, Makes, Finishes, Deed, Ends, EndsToRead, Drops, DropsToRead, Visits, Lends}
use Rattle.schedule_rules.specs.History.{Event, before, deed_of}
use Rattle.schedule_rules.specs.Sections.{Section, innermost, sections}
use Rattle.schedule_rules.specs.Guards.{Guard, numbered, guards}

-- a section that a step gives back: its cell, and what happened in it
pub record Back : Type 0 where
  pub cell : ℕ
  pub changes : List Change

-- what happened in a section that ends so
abbrev pub change_of : Ending → Section → Change
change_of (Makes made) s = Ran s.is_open made
change_of (Finishes fine left) s = Ended fine left

-- a section that ends. None does not occur: without a section an outcome is refused
abbrev pub back_of_section : Ending → Option Section → Option Back
back_of_section e None = None
back_of_section e (Some s) = Some (record { cell = s.cell; changes = change_of e s ∷ [] })

-- a write guard's section. None does not occur: without its guard the step is refused
abbrev pub back_of_guard : Option Guard → Option Back
back_of_guard None = None
back_of_guard (Some x) = if x.writes then Some (record { cell = x.cell; changes = x.changes }) else None

-- the section that this deed of the party gives back, where something may have happened in it
abbrev pub back_by : ℕ → Deed → List Section → List Guard → Option Back
back_by p (Ends e) ss gs = back_of_section e (innermost p ss)
back_by p (EndsToRead v) ss gs = back_of_section (Makes (Some v)) (innermost p ss)
back_by p (Drops g) ss gs = back_of_guard (numbered g gs)
back_by p (DropsToRead g) ss gs = back_of_guard (numbered g gs)
back_by p (Visits c chs reads) ss gs = Some (record { cell = c; changes = chs })
back_by p (Lends c chs) ss gs = Some (record { cell = c; changes = chs })
back_by p _ ss gs = None

-- the section that a step with this answer gives back
abbrev pub back_of_step : List Event → Step → Answer → Option Back
back_of_step h s r = back_by s.party (deed_of h s r) (sections h) (guards h)

module _ (cells : List CellPlan) where
  -- what the section given back makes of the cell's content
  abbrev pub content_after_back : ℕ → Option Back → Content → Content
  content_after_back c None y = y
  content_after_back c (Some b) y = if b.cell == c then effect (cell_at cells c) b.changes y else y

  -- the effects of the sections of the cell that were given back, one after another
  abbrev pub replay : ℕ → List Event → Content
  replay c [] = opening_content (cell_at cells c)
  replay c (e ∷ h) = content_after_back c (back_of_step h e.step e.line.answer) (replay c h)

  -- the published phase
  abbrev pub phase_at : ℕ → List Event → ℕ
  phase_at c h = (replay c h).phase

  -- what the holder of a write guard sees: what happened in its section, on what stood when it was opened
  abbrev pub inside : List Event → Guard → Content
  inside h x = effect (cell_at cells x.cell) x.changes (replay x.cell (before x.start h))
