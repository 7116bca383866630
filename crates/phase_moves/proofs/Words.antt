-- The words that the lemmas of this crate are written in: those of its own definitions, of the crates below and of std.
pub use Rattle.exit_registry.specs.Registry.{after_register, after_turn, cells_of, first_of, IsSound as IsSound_of_registry, look_at, looked, new_registry, registered}
pub use Rattle.exit_registry.specs.Registry.{Registry}
pub use Rattle.exit_registry.specs.declared.{registry.Look.Look, turns.Turn.Turn, turns.Turned.Turned}
pub use Rattle.lazy_cells.specs.{Calls.asking, Calls.seeks as call_seeks, Kinds.is_finalizable, Kinds.is_plain, Kinds.lends_value}
pub use Rattle.lazy_cells.specs.declared.{call.Call.Call, kind.Kind.Kind}
pub use Rattle.phase_bits.specs.{Flags.has, Flags.initialized, Flags.without_flags, Number.IsKnown, Number.number, Number.phase_of}
pub use Rattle.phase_bits.specs.Records.{admit_read, admit_write, bars_write, downgrade, leave_read, leave_write, most_readers}
pub use Rattle.phase_bits.specs.declared.{holders.Holders.Holders, phase.Phase.Phase}
pub use Rattle.phase_locker.proofs.{Counts.count-set, Counts.free_is, Counts.share_is, Counts.shares-shared, Fresh.new_fits, Holding.all_read, Holding.hands_fit}
pub use Rattle.phase_locker.proofs.{Holding.Holds, Judging.by_bool, Leaving.write_has_no_reader, Opening.between_only, Others.fits_beside, Others.others_refl}
pub use Rattle.phase_locker.proofs.Shares.{length-shared, row-shared_other}
pub use Rattle.phase_locker.proofs.Keeping.{freed_free, freed_size, gives_up_freed, keeps_fit, still_empty}
pub use Rattle.phase_locker.proofs.Standing.{given_up_reads, hands_reads, hands_writes, kept_open, kept_writes, left_writes}
pub use Rattle.phase_locker.specs.{Left.Left, Natures.admitted, Natures.bars, Natures.got, Natures.read_ticket, Natures.write_ticket, Others.OthersStay, Others.SameAt}
pub use Rattle.phase_locker.specs.Stands.{MayCall, MayCallAgain, Opens}
pub use Rattle.phase_locker.specs.Attempts.{given_up, GivesUp, Judged, Keeps, keeps, MayWait, rows_waiting}
pub use Rattle.phase_locker.specs.Fits.{Fits, flagged, IsIdle, IsWriteOpen, KeepsFit, NobodyParked, open_reads}
pub use Rattle.phase_locker.specs.Gifts.{Downgrades, Hands, held_handed, MayHand, MayShare, rows_handed}
pub use Rattle.phase_locker.specs.Rows.{claims, drains, drains_at, free_row, freed, HasFree, is_drain as is_drain_of_rows, IsSound, left, no_rows, occurs, readers_of}
pub use Rattle.phase_locker.specs.Rows.{reads_at, row_of, Rows as Parking, SameSize, shared, shares, shares_at}
pub use Rattle.phase_locker.specs.declared.{tickets.Attempt.Attempt, tickets.LockNature.LockNature, tickets.LockResult.LockResult, tickets.ReadTicket.ReadTicket}
pub use Rattle.phase_locker.specs.declared.{tickets.WriteTicket.WriteTicket, ways.Given.Given, ways.How.How, ways.LockerKind.LockerKind, ways.Row.Row, ways.Waiting.Waiting}
pub use Rattle.phase_locker.specs.declared.ways.Who.{Who}
pub use Rattle.phase_moves.specs.{Exits.IsTurn, Fresh.AreFresh, Fresh.AreFreshCells, Fresh.idle_party, Fresh.IsFreshCell, Gifts.IsGift, Gifts.MayGive, Gifts.MayGiveDown}
pub use Rattle.phase_moves.specs.{Gifts.stand_on, Histories.event, Histories.standing}
pub use Rattle.phase_moves.specs.Calls.{Calling, Calls as CallOf, Enters, registry_begun, registry_for}
pub use Rattle.phase_moves.specs.Closing.{AreClosing, CanClose, IsClosing, IsOpenRun, IsPopped, RunsFor, StayBeside}
pub use Rattle.phase_moves.specs.Ends.{EndsAs, FinalizesAs, GoesAs, IsEnding, IsFinalizing, IsInnermost}
pub use Rattle.phase_moves.specs.Lends.{answer_of, changed, changes_lent, content_of, Finds, in_use, IsFound, IsLending, IsLent, lending, lent_in, was_used}
pub use Rattle.phase_moves.specs.Meets.{answer_missed, answer_taken, GivesDown, GivesFirst, GivesLast, holding_in, IsMet, IsOf, IsReaching, keeps_in, meets, readers_in}
pub use Rattle.phase_moves.specs.Meets.{takes_none, takes_write, wanted_in, writers_in}
pub use Rattle.phase_moves.specs.Moves.{ClonesAs, IsFull, IsOpenReader, IsOpenWriter, IsReader, IsTaken, IsWriter, LeavesRead, LeavesWrite, Pushes, Rests, TakenAs}
pub use Rattle.phase_moves.specs.Reading.{held_of, is_row_of, run_kept, running_kept, running_of, shown_by, value_drafted, value_kept}
pub use Rattle.phase_moves.specs.Standing.{answered, called, changes_asked, changes_at, cloned, closed, content_back, content_tried, downgraded, ended, finalized, guarded}
pub use Rattle.phase_moves.specs.Standing.{left as left_of_standing, opened, owned, put, reads_in, registry_asked, round_looked, Run, run_closed, run_in, runner_of}
pub use Rattle.phase_moves.specs.Standing.{section_asked, seen_by, Standing, turn_ended, turn_of, waiting, writer_asked, writer_of, writes_in}
pub use Rattle.phase_moves.specs.Stands.{AreInside, AreNumbered, AreShown, AreSized, CountsWaits, draft_of, form_as, guard_row, IsCell, IsExit, IsLocked, KeepsDraft, kind_at}
pub use Rattle.phase_moves.specs.Stands.{open_run, party_row, run_as, section_of, Seen, seen_at, slot_row, Stands, stays_in, target_of}
pub use Rattle.phase_moves.specs.Tries.{ask_of, draft_after, has_want, is_quick, IsAttempting, IsTook, MayWait as MayWait_of_tries, opens_section, party_after, phase_asked}
pub use Rattle.phase_moves.specs.Tries.{run_after, taken_of, waiting_after, waiting_with, WaitsAt}
pub use Rattle.phase_moves.specs.declared.{lend.Lent.Lent, lend.Loan.Loan, lend.Published.Published, look_up.Running.Running, rows.CellRow.CellRow, rows.Draft.Draft}
pub use Rattle.phase_moves.specs.declared.{rows.Exit.Exit, rows.GuardRow.GuardRow, rows.OpenRun.OpenRun, rows.PartyRow.PartyRow, rows.Rows.Rows, rows.Taken.Taken}
pub use Rattle.phase_moves.specs.declared.rows.Target.{Target}
pub use Rattle.phase_seq.specs.{Exactly.is_run, Exactly.is_turned_back, Finishes.Finishes, Finishes.FinishesFinal, Finishes.GoesOn}
pub use Rattle.phase_seq.specs.Asks.{asks_run, finalizes, initializes as run_sought, nature_of, nature_where, shall_init, wake_of}
pub use Rattle.phase_seq.specs.Begins.{Begins, begun_by, begun_of, begun_tried, begun_write, is_cyclic, MakesAnother, MakesAttempt, Resumes, running_after, runs, section_by}
pub use Rattle.phase_seq.specs.Begins.{TriesLock, TurnsBack}
pub use Rattle.phase_seq.specs.Phases.{final_outcome, finalized as finalized_phase, flags_finalized, flags_generate, flags_reached, flags_refused, flags_staying}
pub use Rattle.phase_seq.specs.Phases.{initialization_flags, outcome, reached, refused, registered as registered_of_phases, registration, staying, unregistered}
pub use Rattle.phase_seq.specs.Registers.{after_asking, begun_at_once, Generates, HasSectionAtOnce, is_refused, MayRegister, Settles, Stays}
pub use Rattle.phase_seq.specs.Stands.{begins_write, BegunStands, FinishedStands, IsFinalizing as IsFinalSection, IsRunning, reads_begun, reads_finished}
pub use Rattle.phase_seq.specs.declared.{ask.Ask.Ask, ask.Want.Want as Sought, section.Begun.Begun, section.Finished.Finished, section.Section.Section as SeqSection}
pub use Rattle.phase_seq.specs.declared.{sequentializer.LazySequentializer.LazySequentializer, tolerance.Tolerance.Tolerance}
pub use Rattle.schedule_rules.proofs.Found.{found_counts, found_passes, none_counted, none_found}
pub use Rattle.schedule_rules.proofs.Opened.{count_ended, count_removed, guard_kept, innermost_kept, numbered_put, numbered_put_other, put as with_value, reads_put, wait_kept}
pub use Rattle.schedule_rules.proofs.Opened.{wait_removed, writes_put}
pub use Rattle.schedule_rules.specs.{Due.answer_of_look, Exits.ended_turns, Exits.finishing, Exits.owner, Exits.registry, Forms.form_of, Forms.is_to_read, History.accepts}
pub use Rattle.schedule_rules.specs.{History.count, History.Event, Kinds.cell_at, Kinds.is_owned, Kinds.is_parking, Kinds.tolerance_of, Legal.First, Legal.Last}
pub use Rattle.schedule_rules.specs.{Refusals.is_other, Replay.content_after_back, Replay.replay, Transcripts.most_parties}
pub use Rattle.schedule_rules.specs.Answers.{answer_admitted, answer_at, answer_barred, answer_of_attempt, begins_run, drains_by, turn_answer_admitted, way_parked}
pub use Rattle.schedule_rules.specs.Calls.{asks, initializes, is_fast, lock_asked, lock_wanted, run_asked, seeks, seeks_run, wakes_as, woken_as}
pub use Rattle.schedule_rules.specs.Changes.{Asked, asks_to_lend, Change, Content, content_after, content_asked, content_of_run, effect, Ended, is_declined, Put, Ran}
pub use Rattle.schedule_rules.specs.Changes.{RanIfAsked}
pub use Rattle.schedule_rules.specs.Guards.{Guard, guard_of, guards, numbered, own, put_in, reader, reader_beside, without_guard}
pub use Rattle.schedule_rules.specs.Holds.{has_own, Holding, is_barred, keeps as keeps_of_holds, reads_cell, wants_to_write, writes_cell}
pub use Rattle.schedule_rules.specs.Phases.{flags_kept, is_accessible, NoRun, phase_finalized, phase_reached, runs_generator, tries_registration, value_finalized}
pub use Rattle.schedule_rules.specs.Sections.{generates_for, innermost, is_turn, runs_in, Section, sections, without_innermost}
pub use Rattle.schedule_rules.specs.Waits.{cell_concerned_with, cell_of_section, drains_on, is_drain, shares_read, shares_write, Wait, wait_of, wait_woken, waits, waits_at}
pub use Rattle.schedule_rules.specs.Waits.{waits_given_with, with_wait, without_wait}
pub use Rattle.schedule_rules.specs.declared.{form.Form.Form, form.Form.TheVariants.Told, line.Answer.Answer, line.Refusal.Refusal, plan.CellPlan.CellPlan, plan.Place.Place}
pub use Rattle.schedule_rules.specs.declared.{plan.Plan.Plan, step.Act.Act, step.Want.Want, step.Want.TheVariants.Calls, step.Want.TheVariants.Turns}
pub use Rattle.std.proofs.{Math.ListN.length-replicate, lemmas.Bool.cases_eq, lemmas.Bool.cases_lt, lemmas.Grind.common_steps, lemmas.List.set-get_or}
pub use Rattle.std.proofs.{lemmas.List.Sums.count_by-le-length, lemmas.Nat.and_le_l, lemmas.Nat.or_of_8, lemmas.Option.gets, lemmas.Option.slice_get-get_or}
pub use Rattle.std.proofs.lemmas.Option.{slice_get_within}
pub use Rattle.std.proofs.Common.{[], ap, arith, Bool, cond, false, get_or, inl, inr, length, length-set, List, None, not, refl, replicate, set, Some, subst, sym, true, ℕ}
pub use Rattle.std.proofs.Common.{◌&&◌, ◌++◌, ◌+◌, ◌<◌, ◌==◌, ◌^◌, ◌||◌, ◌∙◌, ◌∷◌, ◌≡◌, ◌≢◌, ◌≤◌}
pub use Rattle.std.specs.{List.find, Option.is_some as is_some_of_option, Option.unwrap_or, Vec.with_item}
pub use Rattle.std.specs.Prelude.{if◌then◌else◌, is_some, IsNone, MatchBool, nat_lt, OnSome, slice_get, vec_capacity, ◌↔◌, ◌⊎◌}
pub use Rattle.std.specs.declared.option.Option.{Option}
pub use Rattle.waiting_rows.proofs.{Counted.count_map, Counted.count_without, Counted.none_without, Counted.one_of, Finding.wait_readers, Finding.wait_writer, Gave.gave_share}
pub use Rattle.waiting_rows.proofs.{Passing.count_test, RowCounts.claims_shown, RowCounts.count_rows, RowCounts.shares_shown, ShowsFreed.shows_freed}
pub use Rattle.waiting_rows.proofs.{ShowsWaiting.shows_waiting_at, Single.single_with, Single.single_without, Sound.sound_of, Within.shows_fresh, Within.within_with}
pub use Rattle.waiting_rows.proofs.Within.{within_without}
pub use Rattle.waiting_rows.proofs.GivenOn.{given_concerned, listed_hand, listed_share, none_on, reaches_given, shows_on, single_on, within_on}
pub use Rattle.waiting_rows.specs.{Given.given_on, Given.IsListed, Shown.IsSingle, Shown.Shows, Shown.wait_row, Shown.waiting_of}
