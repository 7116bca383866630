use Rattle.phase_schedule.proofs.Words.{[], ◌≡◌, ◌≤◌, frame_of, HasMade, length, schedule_of, told, vec_capacity}
use Rattle.phase_schedule.proofs.run.run_on.Given as goal

abbrev pub invariant-loop-step : goal.invariant-loop-step
invariant-loop-step g l =
    record {
      made : HasMade g.L.PhaseLocker.held g.L.PhaseLocker.place (frame_of (schedule_of l.plan l.steps)) (told [] l.steps l.lines.items) l.progress;
      count : length l.lines.items ≡ l.step-index;
      room : length l.steps ≤ vec_capacity l.lines;
    }
