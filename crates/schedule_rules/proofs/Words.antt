-- The words that the proofs share.
pub use Rattle.std.proofs.Common.{ℕ, arith, List, ◌≡◌, Bool, true, refl, Some, false, ◌∷◌, [], ◌∙◌, sym, ap, None, subst, ◌⊎◌, inl, ◌<◌, ◌&&◌, inr, ◌≢◌, length, not, ◌+◌, ◌≤◌}
pub use Rattle.std.proofs.Common.{cond, ◌||◌, ◌++◌, All}
pub use Rattle.std.proofs.lemmas.List.{get_or_past, get_or-set_other, length-replicate, get_or-set_same, length-map, get_or-replicate, length-set, length-append, same_lists}
pub use Rattle.std.proofs.lemmas.List.Elements.{All-nil, All-cons, All-head, All-append, All-tail}
pub use Rattle.std.proofs.lemmas.Nat.{and_or_apart, and_or_self, and_assoc, and_le_r}
pub use Rattle.std.specs.Int.RustNames.{bit_or, bit_and}
pub use Rattle.std.specs.List.{AllByRecursion, find, list_any}
pub use Rattle.std.specs.Prelude.{◌==◌, if◌then◌else◌, is_none, is_some, map, slice_index_or, nat_lt, ◌^◌, ◌-◌, replicate}
pub use Rattle.std.specs.declared.option.Option.{Option}
pub use Rattle.phase_bits.specs.Flags.{has, initialized}
pub use Rattle.phase_bits.specs.Number.{phase_of}
pub use Rattle.phase_bits.specs.declared.phase.Phase.{Phase}
pub use Rattle.exit_registry.specs.Exits.{cells_of_turns, closed}
pub use Rattle.exit_registry.specs.Registry.{first_of, is_known, rest_of, occurs, look_at, Registry, after_register, due, registered, is_empty}
pub use Rattle.exit_registry.specs.declared.turns.Turn.{Turn}
pub use Rattle.exit_registry.specs.declared.turns.Turned.{Turned}
pub use Rattle.phase_locker.specs.declared.tickets.LockNature.{LockNature}
pub use Rattle.phase_locker.specs.declared.ways.Given.{Given}
pub use Rattle.phase_locker.specs.declared.ways.How.{How}
pub use Rattle.phase_seq.specs.Asks.{shall_init}
pub use Rattle.phase_seq.specs.Phases.{flags_refused, final_outcome, registration}
pub use Rattle.phase_seq.specs.declared.tolerance.Tolerance.{Tolerance}
pub use Rattle.lazy_cells.specs.Calls.{asking, has_call}
pub use Rattle.lazy_cells.specs.Kinds.{is_plain, is_primed, lends_value, is_finalizable, is_hard}
pub use Rattle.lazy_cells.specs.declared.call.Call.{Call}
pub use Rattle.lazy_cells.specs.declared.kind.Kind.{Kind}
pub use Rattle.schedule_rules.specs.declared.form.Form.{Form}
pub use Rattle.schedule_rules.specs.declared.form.Form.TheVariants.{Held, Shown, Told}
pub use Rattle.schedule_rules.specs.declared.line.Answer.{Answer}
pub use Rattle.schedule_rules.specs.declared.line.Line.{Line}
pub use Rattle.schedule_rules.specs.declared.line.Refusal.{Refusal}
pub use Rattle.schedule_rules.specs.declared.plan.CellPlan.{CellPlan}
pub use Rattle.schedule_rules.specs.declared.plan.Place.{Place}
pub use Rattle.schedule_rules.specs.declared.step.Act.{Act}
pub use Rattle.schedule_rules.specs.declared.step.Step.{Step}
pub use Rattle.schedule_rules.specs.declared.step.Want.{Want}
pub use Rattle.schedule_rules.specs.declared.step.Want.TheVariants.{Calls, Turns}
pub use Rattle.schedule_rules.specs.Kinds.{cell_at, tolerance_at, is_owned, tolerance_of, is_parking, is_of_other}
pub use Rattle.schedule_rules.specs.Forms.{form_of, denies}
pub use Rattle.schedule_rules.specs.Phases.{is_accessible, runs_generator, finishes_so, flags_kept, phase_finalized, tries_registration, Success, phase_reached}
pub use Rattle.schedule_rules.specs.Calls.{asks, is_fast, lock_wanted, initializes, seeks, lock_asked}
pub use Rattle.schedule_rules.specs.Changes.{Content, effect, Change, Ran, Asked, Put, content_after, Ended, RanIfAsked, asks_to_lend, is_declined, content_of_run, content_to_lend}
pub use Rattle.schedule_rules.specs.Changes.{content_asked}
pub use Rattle.schedule_rules.specs.Deeds.{Deed, Makes, EndsToRead, Ends, Visits, Finishes, EndsToWrite, Opens, deed_waiting, Lends, DropsToRead, Drops, deed_by, Skips, Holds}
pub use Rattle.schedule_rules.specs.Deeds.{Beside, Takes, Looks, Puts, Quiet, deed_visited, Ending}
pub use Rattle.schedule_rules.specs.History.{Event, deed_of, accepts, count, is_exit, latest_act, act_of, closed_by, latest_act_after, before, is_closed, newer_act}
pub use Rattle.schedule_rules.specs.Sections.{sections, Section, innermost, is_turn, runs_in, without_innermost, sections_by, runs}
pub use Rattle.schedule_rules.specs.Guards.{Guard, guards, numbered, without_guard, guards_by, reader_beside, put_in, reader, reader_made, writer_made, writer, own, carrier}
pub use Rattle.schedule_rules.specs.Replay.{replay, phase_at, Back, back_of_step, back_by, back_of_section, content_after_back, inside, change_of, back_of_guard}
pub use Rattle.schedule_rules.specs.Exits.{registry, registry_by, finishing, ended_turns, registry_taken, turn_of, turn_of_section, registry_of_run, turns_by, NoneBusy}
pub use Rattle.schedule_rules.specs.Waits.{Wait, waits, wait_of, Attempt, attempt, attempt_of_wait, without_wait, attempt_with, cell_concerned, waits_given_with, with_wait}
pub use Rattle.schedule_rules.specs.Waits.{cell_of_section, attempt_of_turn, waits_answered, act_for, wait_woken, other_waits, waits_at, cell_concerned_with}
pub use Rattle.schedule_rules.specs.Holds.{write_holds, writes_cell, read_guards, is_barred, holding_with, reads_cell, readers_with, keeps, readers, writers_with, is_in_use}
pub use Rattle.schedule_rules.specs.Holds.{drains_with}
pub use Rattle.schedule_rules.specs.Refusals.{refusal, refusal_by, refusal_waiting, no_lending, refusal_free, no_call, ends_run, writes_of, no_guard, no_outcome, no_reader}
pub use Rattle.schedule_rules.specs.Refusals.{no_writer, refusal_to_lend, ends_turn}
pub use Rattle.schedule_rules.specs.Answers.{answer_of_value, answer_barred, answer_made_to_lend, answer_at, answer_lent, answer_admitted, call_answer_admitted}
pub use Rattle.schedule_rules.specs.Answers.{turn_answer_admitted, answer_denied, answer_made, answer_opened, Meeting, drains_by, way_parked, answer_of_attempt, answer_of_made}
pub use Rattle.schedule_rules.specs.Due.{due_answer, due_clone, due_attempt, answer_of_look, due_tried, due_finished, due_made, due_look, phase_made, meeting, keeps_own}
pub use Rattle.schedule_rules.specs.Gifts.{may_give_on, may_give_first, may_give_last, is_nobody, turns_to_read, reaches}
pub use Rattle.schedule_rules.specs.Legal.{IsLegal, IsLegalLine, IsExclusive, answer_of, due_at, Moment, may_give, Last}
pub use Rattle.schedule_rules.specs.Transcripts.{Account, Schedule, IsLegalTranscript, told, final_of, AreFinals}
pub use Rattle.schedule_rules.specs.Causes.{lends_at, waits_judged, is_attempted, is_waiting, is_failed, is_cyclic, runs_to_lend, is_closing, is_finalizing, is_access, is_skipped}
pub use Rattle.schedule_rules.specs.Causes.{is_missed, is_admitted, is_denied_to_lend, is_round, is_cyclic_step, is_borrowed, is_running, is_made_to_wait, is_running_step}
pub use Rattle.schedule_rules.specs.Causes.{is_missing_step, is_failure, is_turn_step, phase_met, is_step_in_use, is_barred_step, is_access_step, is_borrowing_step}
pub use Rattle.schedule_rules.specs.Causes.{is_barred_clone, is_refused_in_use, is_step_of, looks, is_closing_step, lends_in_use, is_round_step, want_denies, is_of_own_run}
pub use Rattle.schedule_rules.specs.Causes.{is_barred_attempt}
pub use Rattle.schedule_rules.specs.Laws.{asks_registration, is_initializing, turns_of, is_lent, IsEndedTurn, RunsAtOnce, EndsRun, successes, registrations, IsWithoutEffect}
pub use Rattle.schedule_rules.specs.Laws.{IsTurnedAway, read_at, GivesBack, turns_at_hand, DeclinesAt, IsFailedRun, tries_to_register, is_lent_at, ShowsValue, waits_to_turn}
pub use Rattle.schedule_rules.specs.Laws.{finalizes_in, NoneParks, KeepsValues, ChangesNothing, TurnsWhere, Leaves, IsUnused, is_success, IsAsAt, TellsRegistration}
pub use Rattle.schedule_rules.specs.Laws.{ChangesCellAlone, tells_declined, LendsAt}
