-- The words of the definitions that these proofs speak of, from where they are defined.
pub use Rattle.std.specs.declared.option.Option.{Option}
pub use Rattle.std.proofs.Common.{[], ◌&&◌, ◌++◌, ◌+◌, ◌-◌, ◌<◌, ◌^◌, ◌||◌, ◌∙◌, ◌∷◌, ◌≡◌, ◌≤◌, ap, arith, Bool, drop, false, get_or, inl, inr, length, List, map, None, not, refl}
pub use Rattle.std.proofs.Common.{Some, subst, suc, sym, take, true, zero, ℕ}
pub use Rattle.std.proofs.lemmas.Bool.{cases_lt}
pub use Rattle.std.proofs.lemmas.Grind.{common_steps}
pub use Rattle.std.proofs.lemmas.List.{get_or_past, length-map, length_push}
pub use Rattle.std.proofs.lemmas.Option.{get_or_from_slice_get, slice_get-get_or, slice_get_within}
pub use Rattle.std.specs.Prelude.{◌==◌, All, if◌then◌else◌, is_none, IsTrue, nat_lt, slice_get, vec_capacity}
pub use Rattle.phase_bits.specs.declared.holders.Holders.{Holders}
pub use Rattle.phase_bits.specs.Number.{IsKnown, phase_of}
pub use Rattle.phase_locker.specs.declared.ways.LockerKind.{LockerKind}
pub use Rattle.lazy_cells.specs.declared.kind.Kind.{Kind}
pub use Rattle.schedule_rules.specs.declared.line.Line.{Line}
pub use Rattle.schedule_rules.specs.declared.plan.CellPlan.{CellPlan}
pub use Rattle.schedule_rules.specs.declared.plan.Place.{Place}
pub use Rattle.schedule_rules.specs.declared.step.Step.{Step}
pub use Rattle.schedule_rules.specs.Core.{core, is_locked_with}
pub use Rattle.schedule_rules.specs.Exits.{ended_turns, registry}
pub use Rattle.schedule_rules.specs.History.{accepts, count, Event}
pub use Rattle.schedule_rules.specs.Holds.{drains_with, holding_with, is_barred, read_guards, readers_with, write_holds, writers_with}
pub use Rattle.schedule_rules.specs.Kinds.{cell_at, is_owned, is_placed, no_cell, tolerance_of}
pub use Rattle.schedule_rules.specs.Replay.{Back, back_of_step, content_after_back, phase_at, replay}
pub use Rattle.schedule_rules.specs.Transcripts.{AreFinals, final_of, IsLegalTranscript, IsValid, most_parties, names_known_cell, NamesKnown, Schedule, schedule_of, told}
pub use Rattle.schedule_rules.specs.Waits.{Attempt, attempt, drains_on, other_waits, parked_readers, parked_writers, parks_to_read, parks_to_write, party_if, shares_read}
pub use Rattle.schedule_rules.specs.Waits.{shares_write, Wait, waits, waits_given}
pub use Rattle.phase_moves.specs.declared.rows.CellRow.{CellRow}
pub use Rattle.phase_moves.specs.declared.rows.Rows.{Rows}
pub use Rattle.phase_moves.specs.Histories.{standing}
pub use Rattle.phase_moves.specs.Stands.{AreShown, IsCell, IsLocked, kind_at, seen_at}
pub use Rattle.phase_acts.specs.Steps.{Follows}
pub use Rattle.phase_schedule.specs.declared.ending.Ending.{Ending}
pub use Rattle.phase_schedule.specs.declared.error.RunError.{RunError}
pub use Rattle.phase_schedule.specs.declared.progress.Progress.{Progress}
pub use Rattle.phase_schedule.specs.declared.running.Run.{Run}
pub use Rattle.phase_schedule.specs.Errors.{cause_of, cause_of_plan, crowd_of, first_cause, first_found, misplaced_of, unknown_of}
pub use Rattle.phase_schedule.specs.Finals.{final_of_row}
pub use Rattle.phase_schedule.specs.Inside.{IsStanding, plans_of, standing_of}
pub use Rattle.phase_schedule.specs.Known.{AreKnown, TellsKnown}
pub use Rattle.phase_schedule.specs.Progress.{AreShared, CanStep, Ends, Frame, frame_of_plan, HasMade}
pub use Rattle.phase_schedule.specs.Running.{account_with, frame_of, GoesOn, GoesOnFrom, held_by, IsEnd, IsRun, place_by}
pub use Rattle.phase_schedule.specs.Standing.{history, Standing}
