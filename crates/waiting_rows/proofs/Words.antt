-- The words that the lemmas of this crate are written in: those of its own definitions, of the crates below and of std.
pub use Rattle.phase_bits.specs.declared.holders.Holders.{Holders}
pub use Rattle.phase_locker.proofs.{Counts.is_one-if, Counts.one_if, Counts.write_inside, Filters.occurs-append, Filters.without_absent, Handed.at_free}
pub use Rattle.phase_locker.proofs.{Handed.row-shared_same, Holding.all_read, Shares.row-shared_other}
pub use Rattle.phase_locker.specs.{Attempts.rows_waiting, Gifts.MayHand, Gifts.MayShare, Gifts.rows_handed}
pub use Rattle.phase_locker.specs.Rows.{claims, claims_at, free_row, freed, HasFree, is_empty, IsSound, left, no_rows, occurs, readers_of, reads_at, row_of, Rows}
pub use Rattle.phase_locker.specs.Rows.{rows_to_readers, shares, shares_at, without, writers_of, writes_at}
pub use Rattle.phase_locker.specs.declared.{ways.Given.Given, ways.How.How, ways.Row.Row, ways.Waiting.Waiting, ways.Who.Who}
pub use Rattle.schedule_rules.proofs.{Found.none_found, Opened.wait_kept, Opened.wait_removed}
pub use Rattle.schedule_rules.specs.{Gifts.reaches, History.count, History.Event, Transcripts.most_parties}
pub use Rattle.schedule_rules.specs.Waits.{Attempt, cell_concerned_with, drains_on, is_parked_reader, is_parked_writer, parked_readers, parked_writers, parks_to_read}
pub use Rattle.schedule_rules.specs.Waits.{parks_to_write, party_if, shares_read, shares_write, Wait, wait_of, wait_woken, waits_given_with, wake_reader, wake_readers}
pub use Rattle.schedule_rules.specs.Waits.{wake_writer, with_wait, without_wait}
pub use Rattle.schedule_rules.specs.declared.{plan.CellPlan.CellPlan, step.Step.Step}
pub use Rattle.std.proofs.{Math.ListN.get_or, Math.ListN.length-replicate, Math.ListN.length-set, Math.ListN.set, lemmas.Bool.cases_eq, lemmas.Bool.cases_lt}
pub use Rattle.std.proofs.{lemmas.Grind.common_steps, lemmas.List.Elements.filter-append, lemmas.List.Folds.sum_by-replicate, lemmas.List.Sums.sum_by-set}
pub use Rattle.std.proofs.Common.{[], ap, arith, Bool, cond, false, inl, inr, length, List, map, None, not, refl, Some, subst, suc, sym, true, ℕ, ◌&&◌, ◌++◌, ◌+◌, ◌<◌, ◌==◌}
pub use Rattle.std.proofs.Common.{◌||◌, ◌∙◌, ◌∷◌, ◌≡◌, ◌≢◌, ◌≤◌, ◌⊎◌}
pub use Rattle.std.proofs.lemmas.List.{append-nil, ext_get_or, get_or-set_other, get_or-set_same, get_or_past}
pub use Rattle.std.specs.List.{list_any}
pub use Rattle.std.specs.Prelude.{count_by, if◌then◌else◌, replicate, slice_index_or, slice_set}
pub use Rattle.std.specs.declared.option.Option.{Option}
pub use Rattle.waiting_rows.specs.{Given.given_on, Given.IsListed, Shown.AreWithin, Shown.IsSingle, Shown.Shows, Shown.wait_row, Shown.waiting_of}
