-- The answer that is due for a step that is not refused.
use Rattle.std.specs.Prelude.{ℕ, Bool, true, false, List, if◌then◌else◌}
use Rattle.std.specs.declared.option.Option.{Option}
use Rattle.std.specs.declared.option.Option.TheVariants.{None, Some}
use Rattle.phase_locker.specs.declared.tickets.LockNature.TheVariants as nature
use Rattle.schedule_rules.specs.declared.step.Act.{Act}
use Rattle.schedule_rules.specs.declared.step.Act.TheVariants as act
use Rattle.schedule_rules.specs.declared.line.Answer.{Answer}
use Rattle.schedule_rules.specs.declared.line.Answer.TheVariants as answer
use Rattle.schedule_rules.specs.declared.step.Step.{Step}
use Rattle.schedule_rules.specs.declared.plan.CellPlan.{CellPlan}
use Rattle.schedule_rules.specs.Kinds.{cell_at, tolerance_at}
use Rattle.exit_registry.specs.declared.registry.Look.{Look}
use Rattle.exit_registry.specs.declared.registry.Look.TheVariants as look
use Rattle.exit_registry.specs.Registry.{look_at}
use Rattle.phase_bits.specs.Number.{phase_of}
use Rattle.schedule_rules.specs.Phases.{Success, phase_reached, phase_finalized}
use Rattle.schedule_rules.specs.Calls.{lock_wanted}
use Rattle.schedule_rules.specs.History.{Event, accepts}
use Rattle.schedule_rules.specs.Sections.{Section, innermost, runs, sections}
use Rattle.schedule_rules.specs.Guards.{Guard, numbered, guards}
use Rattle.schedule_rules.specs.Replay.{replay, phase_at, inside}
use Rattle.schedule_rules.specs.Exits.{registry}
use Rattle.schedule_rules.specs.Waits.{Attempt, attempt, Wait, wait_of, waits}
use Rattle.schedule_rules.specs.Holds.{is_barred, keeps, readers, holding_with}
use Rattle.schedule_rules.specs.Answers.{answer_of_value, answer_of_made, answer_lent, answer_made_to_lend, Meeting, answer_of_attempt}

-- what a look for registered cells answers
abbrev pub answer_of_look : Look → Answer
answer_of_look (look.Round n) = answer.Round n
answer_of_look look.Closed = answer.Closed

module _ (cells : List CellPlan) where
  -- the party's waiting call keeps its share or drain
  abbrev pub keeps_own : List Event → ℕ → Attempt → Bool
  keeps_own h p a =
      keeps (wait_of p (waits cells h)) (lock_wanted (cell_at cells a.cell).kind (tolerance_at cells a.cell) a.want (phase_at cells a.cell h)) (readers cells a.cell h)

  -- what an attempt of the party at the cell meets, where these calls of others wait
  abbrev pub meeting : List Event → ℕ → Attempt → List Wait → Meeting
  meeting h p a ws =
      record {
        cell = a.cell;
        own_run = runs p a.cell h;
        kept = keeps_own h p a;
        content = replay cells a.cell h;
        holding = holding_with a.cell h ws;
        is_open = accepts h;
      }

  -- the answer of an attempt, where these calls of others wait, and where it drains by choice
  abbrev pub due_attempt : List Event → ℕ → Attempt → List Wait → Bool → Answer
  due_attempt h p a ws chosen = answer_of_attempt (cell_at cells a.cell) a.want (meeting h p a ws) chosen

  -- the answer of a step that attempts something, or looks: where it is not refused and attempts nothing, it is an Exit
  -- with no cell left
  abbrev pub due_tried : List Event → ℕ → Option Attempt → List Wait → Bool → Answer
  due_tried h p None ws chosen = answer_of_look (look_at (registry cells h).pending)
  due_tried h p (Some a) ws chosen = due_attempt h p a ws chosen

  -- the phase that a run of the section reaches, which made a value
  abbrev pub phase_made : List Event → Section → ℕ
  phase_made h s = phase_reached (cell_at cells s.cell).kind s.is_open (phase_at cells s.cell h) Success

  -- the answer of a value made, by the section that it ends. None does not occur: without a section it is refused
  abbrev pub due_made : List Event → ℕ → Option Section → Answer
  due_made h v None = answer.Done
  due_made h v (Some s) = answer_of_made (cell_at cells s.cell).kind s.want v (phase_made h s)

  -- the answer of a finalizer that ends, by the section that it ends: the phase that is published. None does not occur, as
  -- above
  abbrev pub due_finished : List Event → Bool → Option Section → Answer
  due_finished h fine None = answer.Done
  due_finished h fine (Some s) = answer.Phase (phase_of (phase_finalized (phase_at cells s.cell h) fine))

  -- a write guard shows what its holder sees, a read guard what is published. None does not occur: without its guard a
  -- look is refused
  abbrev pub due_look : List Event → Option Guard → Answer
  due_look h None = answer.Done
  due_look h (Some x) = answer_of_value (if x.writes then inside cells h x else replay cells x.cell h)

  -- a clone is barred as a call that reads. None does not occur: without its guard it is refused
  abbrev pub due_clone : List Event → List Wait → Option Guard → Answer
  due_clone h ws None = answer.Done
  due_clone h ws (Some x) = if is_barred nature.Read (holding_with x.cell h ws) then answer.Borrowed else answer.ReadGuard

  -- the answer of each act
  abbrev pub due_act : List Event → Step → List Wait → Bool → Act → Answer
  due_act h s ws chosen (act.Call c k) = due_tried h s.party (attempt cells h s) ws chosen
  due_act h s ws chosen act.Again = due_tried h s.party (attempt cells h s) ws chosen
  due_act h s ws chosen (act.Made v) = due_made h v (innermost s.party (sections h))
  due_act h s ws chosen act.MadeFailed = answer.Failed
  due_act h s ws chosen (act.Finished left) = due_finished h true (innermost s.party (sections h))
  due_act h s ws chosen (act.FinishFailed left) = due_finished h false (innermost s.party (sections h))
  due_act h s ws chosen (act.GetMut c made left) =
      answer_made_to_lend (cell_at cells c).kind (tolerance_at cells c) (accepts h) made (replay cells c h)
  due_act h s ws chosen (act.TryGetMut c left) = answer_lent (cell_at cells c).kind (replay cells c h)
  due_act h s ws chosen act.Exit = due_tried h s.party (attempt cells h s) ws chosen
  due_act h s ws chosen (act.Look g) = due_look h (numbered g (guards h))
  due_act h s ws chosen (act.Set g v) = answer.Done
  due_act h s ws chosen (act.Release g) = answer.Done
  due_act h s ws chosen (act.Downgrade g) = answer.ReadGuard
  due_act h s ws chosen (act.Clone g) = due_clone h ws (numbered g (guards h))

  -- the answer of a step that is not refused, where these calls of others wait, and where it drains by choice
  abbrev pub due_answer : List Event → Step → List Wait → Bool → Answer
  due_answer h s ws chosen = due_act h s ws chosen s.act
