-- The words of the definitions that these proofs speak of, from where they are defined.
pub use Rattle.std.specs.declared.option.Option.{Option}
pub use Rattle.std.proofs.Common.{[], ◌&&◌, ◌++◌, ◌+◌, ◌<◌, ◌==◌, ◌||◌, ◌∙◌, ◌∷◌, ◌≡◌, ◌≢◌, ◌≤◌, ◌⊎◌, ap, arith, Bool, false, get_or, inl, inr, length, List, None, not, refl, Some}
pub use Rattle.std.proofs.Common.{subst, sym, true, ℕ}
pub use Rattle.std.proofs.lemmas.Bool.{cases_lt, or_right}
pub use Rattle.std.specs.Option.{unwrap_or}
pub use Rattle.std.specs.Prelude.{if◌then◌else◌, is_none, is_some, IsTrue, MatchBool, nat_lt, slice_get, vec_capacity}
pub use Rattle.exit_registry.specs.Registry.{after_turn, first_of, Registry, rest_of}
pub use Rattle.phase_bits.specs.declared.holders.Holders.{Holders}
pub use Rattle.phase_bits.specs.declared.phase.Phase.{Phase}
pub use Rattle.phase_bits.specs.Number.{number, phase_of}
pub use Rattle.phase_bits.specs.Records.{most_readers}
pub use Rattle.phase_locker.specs.declared.tickets.ReadTicket.{ReadTicket}
pub use Rattle.phase_locker.specs.declared.tickets.WriteTicket.{WriteTicket}
pub use Rattle.phase_locker.specs.declared.ways.Given.{Given}
pub use Rattle.phase_locker.specs.declared.ways.How.{How}
pub use Rattle.phase_locker.specs.declared.ways.LockerKind.{LockerKind}
pub use Rattle.phase_locker.specs.Rows.{claims, drains, drains_at, HasFree}
pub use Rattle.lazy_cells.specs.declared.call.Call.{Call}
pub use Rattle.lazy_cells.specs.declared.kind.Kind.{Kind}
pub use Rattle.schedule_rules.specs.declared.form.Form.{Form}
pub use Rattle.schedule_rules.specs.declared.line.Answer.{Answer}
pub use Rattle.schedule_rules.specs.declared.line.Line.{Line}
pub use Rattle.schedule_rules.specs.declared.line.Refusal.{Refusal}
pub use Rattle.schedule_rules.specs.declared.plan.CellPlan.{CellPlan}
pub use Rattle.schedule_rules.specs.declared.step.Act.{Act}
pub use Rattle.schedule_rules.specs.declared.step.Step.{Step}
pub use Rattle.schedule_rules.specs.declared.step.Want.{Want}
pub use Rattle.schedule_rules.specs.declared.step.Want.TheVariants.{Calls, Turns}
pub use Rattle.schedule_rules.specs.Answers.{answer_at, answer_denied, answer_lent, answer_made, answer_of_attempt, answer_of_made, answer_of_value}
pub use Rattle.schedule_rules.specs.Calls.{is_fast, seeks_run}
pub use Rattle.schedule_rules.specs.Changes.{Asked, Content, effect, is_declined}
pub use Rattle.schedule_rules.specs.Due.{answer_of_look, due_answer, due_clone, due_finished, due_look, due_made, due_tried, meeting, phase_made}
pub use Rattle.schedule_rules.specs.Exits.{ended_turns, finishing, owner, owner_by, registry, registry_by, registry_of_run, registry_taken, turns_by}
pub use Rattle.schedule_rules.specs.Forms.{form_of, is_to_read}
pub use Rattle.schedule_rules.specs.Gifts.{asks_to_read, downgrades, falls_back, is_freed_last, is_readers, may_give_first, may_give_last, may_give_on, reaches, turns_back}
pub use Rattle.schedule_rules.specs.Guards.{Guard, guard_of, guards, guards_by, numbered, own, reader, without_guard, writer}
pub use Rattle.schedule_rules.specs.History.{accepts, act_of, count, Event, is_closed, is_exit, latest_act}
pub use Rattle.schedule_rules.specs.Holds.{holding_with, is_barred, reads_cell, wants_to_write, writes_cell}
pub use Rattle.schedule_rules.specs.Kinds.{cell_at, is_of_other, is_owned, is_parking, tolerance_at, tolerance_of}
pub use Rattle.schedule_rules.specs.Legal.{answer_of, due_at, First, IsExclusive, IsLegal, IsLegalLine, Last, may_give, Moment}
pub use Rattle.schedule_rules.specs.Phases.{finishes_so, is_accessible, NoRun, phase_reached}
pub use Rattle.schedule_rules.specs.Refusals.{ends_run, ends_turn, is_other, no_call, no_exit, no_guard, no_lending, no_outcome, no_reader, no_writer, refusal, refusal_by}
pub use Rattle.schedule_rules.specs.Refusals.{refusal_free, refusal_to_lend, refusal_waiting, writes_of}
pub use Rattle.schedule_rules.specs.Replay.{back_by, content_after_back, inside, phase_at, replay}
pub use Rattle.schedule_rules.specs.Sections.{innermost, is_turn, runs_in, Section, sections, sections_by, without_innermost}
pub use Rattle.schedule_rules.specs.Transcripts.{names_known_cell}
pub use Rattle.schedule_rules.specs.Waits.{act_for, attempt, attempt_of_turn, attempt_of_wait, cell_concerned, cell_of_attempt, cell_of_guard, cell_of_section, drains_on, is_drain}
pub use Rattle.schedule_rules.specs.Waits.{is_read_share, is_write_share, other_waits, shares_read, shares_write, Wait, wait_of, waits, waits_given_with, with_wait, without_wait}
pub use Rattle.schedule_rules.proofs.Accepts.{open-accepts}
pub use Rattle.schedule_rules.proofs.Found.{found_counts, found_passes}
pub use Rattle.schedule_rules.proofs.Opened.{guard_kept, wait_removed}
pub use Rattle.schedule_rules.proofs.TurnRoom.{room-running, room-taken}
pub use Rattle.waiting_rows.specs.Given.{given_on}
pub use Rattle.waiting_rows.proofs.Counted.{none_without}
pub use Rattle.waiting_rows.proofs.GivenOn.{given_concerned, none_on}
pub use Rattle.waiting_rows.proofs.RowCounts.{claims_shown, count_rows, free_party, shares_shown}
pub use Rattle.phase_moves.specs.declared.look_up.Held.{Held}
pub use Rattle.phase_moves.specs.declared.look_up.Running.{Running}
pub use Rattle.phase_moves.specs.declared.rows.CellRow.{CellRow}
pub use Rattle.phase_moves.specs.declared.rows.GuardRow.{GuardRow}
pub use Rattle.phase_moves.specs.declared.rows.Rows.{Rows}
pub use Rattle.phase_moves.specs.declared.rows.Taken.{Taken}
pub use Rattle.phase_moves.specs.declared.rows.Target.{Target}
pub use Rattle.phase_moves.specs.Ends.{Ends, EndsAs, Finalizes, FinalizesAs, IsEnded, IsEnding, IsFinalized, IsFinalizing, MayEnd, MayFinalize}
pub use Rattle.phase_moves.specs.Exits.{IsTurn, Looks, MayLook, Owns, Skips, TakesTurn}
pub use Rattle.phase_moves.specs.Gifts.{GivesDown, GivesRead, GivesWrite, IsGift, MayGive, MayGiveDown}
pub use Rattle.phase_moves.specs.Histories.{event, standing}
pub use Rattle.phase_moves.specs.Meets.{answer_left, answer_missed, answer_running, GivesFirst, GivesLast, IsCallOf, IsDown, IsMet, IsOf, IsUnlocked, MayGiveAt, meets, takes_none}
pub use Rattle.phase_moves.specs.Meets.{takes_write, waits_at, wanted_in}
pub use Rattle.phase_moves.specs.Moves.{Clones, ClonesAs, Downgrades, IsFull, IsOpenReader, IsOpenWriter, IsReader, IsWriter, Kept, KeptGuards, KeptWith, LeavesRead, LeavesWrite}
pub use Rattle.phase_moves.specs.Moves.{MayClone, MayDowngrade, MayLeaveRead, MayLeaveWrite, MaySet, Pushes, Rests, Sets, TakenAs, Takes}
pub use Rattle.phase_moves.specs.Reading.{AwaitsBy, held_of, HoldsBy, running_of, RunsBy}
pub use Rattle.phase_moves.specs.Standing.{answered, changes_asked, changes_at, cloned, content_back, content_tried, downgraded, ended, finalized, guarded, left, owned, put}
pub use Rattle.phase_moves.specs.Standing.{reads_in, registry_asked, round_looked, run_closed, seen_by, Standing, took, turn_ended, turn_taken, writer_asked, writer_of, writes_in}
pub use Rattle.phase_moves.specs.Stands.{AreInside, call_as, form_as, guard_row, IsCell, IsLocked, Seen, seen_at, Stands, target_of}
pub use Rattle.phase_moves.specs.Tries.{has_want, IsTook, MayWait, phase_asked, TellsPhase, WaitsAt}
pub use Rattle.phase_moves.proofs.Asked.{call_left}
pub use Rattle.phase_moves.proofs.Guards.{its_number, reads_here}
pub use Rattle.phase_moves.proofs.Hand.{left_empty, pushed_free, read_row, write_row}
pub use Rattle.phase_moves.proofs.Histories.{clone_barred, clone_beside, downgrade_read, exit_looks, final_ended, lent_at_once, look_stays, made_failed, made_read, made_shown}
pub use Rattle.phase_moves.proofs.Histories.{made_told, made_write, refused_stays, release_left, set_puts, writer_left}
pub use Rattle.phase_moves.proofs.Places.{read_at}
pub use Rattle.phase_acts.specs.Settles.{answer_settled, answer_tried, GivesSettled, IsSettled, IsSettling, reads_on, settled, unlocked, writes_on}
pub use Rattle.phase_acts.specs.Steps.{answer_back, given_first, HasStepped, IsAwake, IsNext, outcome, step_of}
pub use Rattle.phase_acts.specs.Tries.{IsTried, IsTrying, MayTry, Tries}
