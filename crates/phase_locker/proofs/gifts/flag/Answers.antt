use Rattle.std.proofs.Common.{◌∙◌, sym}
use Rattle.phase_locker.proofs.Judging.{unparked_flags}
use Rattle.phase_locker.proofs.gifts.flag.Goals as goal

pub returns-clause-kept : goal.returns-clause-kept
returns-clause-kept g c = c.set_waiters-2.ensures.kept ∙ unparked_flags c.args.cell c.args.parks.now (g.S.Store.kept c.args.store.now) (c.requires.parked (sym c.calls_park.ensures ∙ c.if-calls_park.false))
