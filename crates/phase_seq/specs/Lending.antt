-- What a sequentializer ends as, where its locker is lent.
use Rattle.std.specs.Borrow.{Lends, Fml, RattleType, MutBor}
use Rattle.phase_seq.specs.contracts.sequentializer.LazySequentializer.{the_row}
use Rattle.phase_seq.specs.declared.sequentializer.LazySequentializer.{LazySequentializer}

-- once the borrow r ends, the locker is what was left behind r, and nothing else changed
abbrev pub lends_locker : (L G : RattleType) (s : MutBor (LazySequentializer L.Denot G.Denot)) → MutBor L.Denot → Fml
lends_locker L G s r = Lends (the_row L G) L s r (λ w. record s.now { locker = w })
