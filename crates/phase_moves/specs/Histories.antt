-- What stands open after a history.
use Rattle.std.specs.Prelude.{ℕ, List}
use Rattle.schedule_rules.specs.declared.line.Line.{Line}
use Rattle.schedule_rules.specs.declared.plan.CellPlan.{CellPlan}
use Rattle.schedule_rules.specs.declared.step.Act.{Act}
use Rattle.schedule_rules.specs.Exits.{registry, owner, ended_turns}
use Rattle.schedule_rules.specs.Guards.{guards}
use Rattle.schedule_rules.specs.History.{Event}
use Rattle.schedule_rules.specs.Replay.{replay}
use Rattle.schedule_rules.specs.Sections.{sections}
use Rattle.schedule_rules.specs.Waits.{waits}
use Rattle.phase_moves.specs.Standing.{Standing}

-- what stands open after a history
abbrev pub standing : List CellPlan → List Event → Standing
standing cells h =
    record {
      plans = cells;
      waits = waits cells h;
      sections = sections h;
      guards = guards h;
      content = λ c. replay cells c h;
      registry = registry cells h;
      owner = owner h;
      turns = ended_turns h;
    }

-- a party's act and its line
abbrev pub event : ℕ → Act → Line → Event
event p a l = record { step = record { party = p; act = a }; line = l }
