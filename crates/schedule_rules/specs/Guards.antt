-- The open guards. A write guard carries its section.
use Rattle.std.specs.Prelude.{ℕ, Bool, true, false, List, [], ◌∷◌, ◌==◌, length, if◌then◌else◌}
use Rattle.std.specs.List.{find}
use Rattle.std.specs.declared.option.Option.{Option}
use Rattle.std.specs.declared.option.Option.TheVariants.{None, Some}
use Rattle.schedule_rules.specs.Changes.{Change, Ran, Put}
use Rattle.schedule_rules.specs.Deeds.{Deed, Holds, EndsToRead, EndsToWrite, Drops, DropsToRead, Beside, Puts, Visits}
use Rattle.schedule_rules.specs.History.{Event, deed_of}
use Rattle.schedule_rules.specs.Sections.{Section, innermost, sections}

-- an open guard
pub record Guard : Type 0 where
  pub number : ℕ  -- that of the step that answered it
  pub party : ℕ
  pub cell : ℕ
  pub writes : Bool
  pub start : ℕ  -- of one that writes: the number of the step that opened its section
  pub changes : List Change  -- what happened in its section

-- the open guard with this number
abbrev pub numbered : ℕ → List Guard → Option Guard
numbered g gs = find (λ x. x.number == g) gs

-- the guard where it is the party's
abbrev pub own : ℕ → Option Guard → Option Guard
own p None = None
own p (Some x) = if x.party == p then Some x else None

-- the open guard with this number, where it is the party's
abbrev pub guard_of : ℕ → ℕ → List Guard → Option Guard
guard_of g p gs = own p (numbered g gs)

-- the guards besides this one
abbrev pub without_guard : ℕ → List Guard → List Guard
without_guard g [] = []
without_guard g (x ∷ gs) = if x.number == g then gs else x ∷ without_guard g gs

-- a set is noted in its guard
abbrev pub put_in : ℕ → ℕ → List Guard → List Guard
put_in g v [] = []
put_in g v (x ∷ gs) =
    if x.number == g
    then record { number = x.number; party = x.party; cell = x.cell; writes = x.writes; start = x.start; changes = Put v ∷ x.changes } ∷ gs
    else x ∷ put_in g v gs

-- a read guard
abbrev pub reader : ℕ → ℕ → ℕ → Guard
reader n p c = record { number = n; party = p; cell = c; writes = false; start = n; changes = [] }

-- a write guard of a section that no run opened
abbrev pub writer : ℕ → ℕ → ℕ → Guard
writer n p c = record { number = n; party = p; cell = c; writes = true; start = n; changes = [] }

-- the read guard that a run leaves. None does not occur: without a section an outcome is refused
abbrev pub reader_made : ℕ → ℕ → Option Section → List Guard → List Guard
reader_made n p None gs = gs
reader_made n p (Some s) gs = reader n p s.cell ∷ gs

-- a write guard that carries a section in which this value was made
abbrev pub carrier : ℕ → ℕ → ℕ → Section → Guard
carrier n p v s =
    record { number = n; party = p; cell = s.cell; writes = true; start = s.start; changes = Ran s.is_open (Some v) ∷ [] }

-- the write guard that a run leaves carries its section. None does not occur, as above
abbrev pub writer_made : ℕ → ℕ → ℕ → Option Section → List Guard → List Guard
writer_made n p v None gs = gs
writer_made n p v (Some s) gs = carrier n p v s ∷ gs

-- a read guard on the cell of another guard. None does not occur: without that guard the step is refused
abbrev pub reader_beside : ℕ → ℕ → Option Guard → List Guard → List Guard
reader_beside n p None gs = gs
reader_beside n p (Some x) gs = reader n p x.cell ∷ gs

-- the open guards after this deed of the party, where these sections ran
abbrev pub guards_by : ℕ → ℕ → Deed → List Section → List Guard → List Guard
guards_by n p (Holds c false) ss gs = reader n p c ∷ gs
guards_by n p (Holds c true) ss gs = writer n p c ∷ gs
guards_by n p (Visits c chs true) ss gs = reader n p c ∷ gs
guards_by n p (EndsToRead v) ss gs = reader_made n p (innermost p ss) gs
guards_by n p (EndsToWrite v) ss gs = writer_made n p v (innermost p ss) gs
guards_by n p (Drops g) ss gs = without_guard g gs
guards_by n p (DropsToRead g) ss gs = reader_beside n p (numbered g gs) (without_guard g gs)
guards_by n p (Beside g) ss gs = reader_beside n p (numbered g gs) gs
guards_by n p (Puts g v) ss gs = put_in g v gs
guards_by n p _ ss gs = gs

-- the open guards, the latest of which stands first
abbrev pub guards : List Event → List Guard
guards [] = []
guards (e ∷ h) = guards_by (length h) e.step.party (deed_of h e.step e.line.answer) (sections h) (guards h)
