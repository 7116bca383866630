-- What the end of a section requires and does: of a run, and of a finalizer.
use Rattle.std.specs.Prelude.{ℕ, Bool, true, false, ◌≡◌, ◌<◌, length, vec_capacity}
use Rattle.std.specs.declared.option.Option.{Option}
use Rattle.std.specs.declared.option.Option.TheVariants.{None, Some}
use Rattle.phase_bits.specs.declared.phase.Phase.{Phase}
use Rattle.phase_bits.specs.declared.holders.Holders.{Holders}
use Rattle.phase_bits.specs.Number.{phase_of}
use Rattle.phase_locker.specs.declared.ways.LockerKind.{LockerKind}
use Rattle.phase_locker.specs.declared.ways.Given.{Given}
use Rattle.phase_locker.specs.declared.ways.Given.TheVariants as given
use Rattle.phase_seq.specs.declared.ask.Want.{Want as SeqWant}
use Rattle.phase_seq.specs.declared.ask.Want.TheVariants as want
use Rattle.phase_seq.specs.declared.section.Finished.{Finished}
use Rattle.phase_seq.specs.declared.section.Finished.TheVariants as finished
use Rattle.schedule_rules.specs.Changes.{content_of_run}
use Rattle.schedule_rules.specs.Kinds.{cell_at}
use Rattle.schedule_rules.specs.Phases.{phase_finalized}
use Rattle.schedule_rules.specs.Sections.{Section, innermost, is_turn}
use Rattle.schedule_rules.specs.Waits.{wait_of}
use Rattle.phase_moves.specs.declared.rows.Rows.{Rows}
use Rattle.phase_moves.specs.Moves.{Rests}
use Rattle.phase_moves.specs.Standing.{Standing, run_closed, ended, finalized}
use Rattle.phase_moves.specs.Gifts.{MayGive, MayGiveDown}
use Rattle.phase_moves.specs.Stands.{Stands, run_as}

-- a run as this, which made a value, goes on so, and one that failed fails; the phase is told, and a write keeps its
-- lock, so that it gives nothing
abbrev pub GoesAs : SeqWant → Option ℕ → Phase → Finished → Given → Type 0
GoesAs w None p (finished.Failed q) g = q ≡ p
GoesAs w None p (finished.Phase q) g = ⊥
GoesAs w None p (finished.Read t q) g = ⊥
GoesAs w None p (finished.Write t q) g = ⊥
GoesAs w (Some v) p (finished.Failed q) g = ⊥
GoesAs w (Some v) p (finished.Phase q) g = (w ≡ want.Init) × (q ≡ p)
GoesAs w (Some v) p (finished.Read t q) g = (w ≡ want.Read) × (q ≡ p)
GoesAs w (Some v) p (finished.Write t q) g = (w ≡ want.Write) × (q ≡ p) × (g ≡ given.Nobody)

-- what may be given as the run of this section goes on so: a write keeps its lock, and a read keeps a reader
abbrev pub GivesAs : Standing → Section → Option ℕ → Finished → Given → Type 0
GivesAs m s made (finished.Failed q) g = MayGive s.cell (run_closed s made given.Nobody m) g
GivesAs m s made (finished.Phase q) g = MayGive s.cell (run_closed s made given.Nobody m) g
GivesAs m s made (finished.Read t q) g = MayGiveDown s.cell m g
GivesAs m s made (finished.Write t q) g = g ≡ given.Nobody

module _ {L : Type 0} (held : L → Holders) (place : L → LockerKind) where
  -- the innermost section of the party runs in the cell
  pub record IsInnermost (m : Standing) (v : Rows L) (p c : ℕ) (s : Section) : Type 0 where
    pub rests : Rests held place m v
    pub party : p < length v.parties.items
    pub found : innermost p m.sections ≡ Some s
    pub at : s.cell ≡ c

  -- ---- a run

  -- a run ends, with this made: where a value was made its party does not wait
  pub record IsEnding (m : Standing) (v : Rows L) (p c : ℕ) (made : Option ℕ) (s : Section) : Type 0 where
    pub inner : IsInnermost m v p c s
    pub calls : is_turn s.want ≡ false
    pub awake : (x : ℕ) → made ≡ Some x → wait_of p m.waits ≡ None

  pub record MayEnd (v : Rows L) (p c : ℕ) (made : Option ℕ) : Type 0 where
    pub m : Standing
    pub s : Section
    pub is : IsEnding m v p c made s

  pub record IsEnded (m : Standing) (v : Rows L) (s : Section) (made : Option ℕ) (f : Finished) (g : Given) (new : Rows L) : Type 0 where
    pub stands : Stands held place (length v.guards.items) (ended (length v.guards.items) s made g f m) new
    pub told : GoesAs (run_as (cell_at m.plans s.cell).kind s.want) made (phase_of (content_of_run (cell_at m.plans s.cell).kind s.is_open made (m.content s.cell)).phase) f g
    pub gave : GivesAs m s made f g

  -- there is a run to end
  abbrev pub EndsAs : Standing → Rows L → Section → Option ℕ → Option (Finished × Given) → Rows L → Type 0
  EndsAs m v s made None new = ⊥
  EndsAs m v s made (Some r) new = IsEnded m v s made r.0 r.1 new

  abbrev pub Ends : Rows L → ℕ → ℕ → Option ℕ → Option (Finished × Given) → Rows L → Type 0
  Ends old p c made r new = (m : Standing) (s : Section) → IsEnding m old p c made s → EndsAs m old s made r new

  -- ---- a finalizer

  -- a finalizer ends
  pub record IsFinalizing (m : Standing) (v : Rows L) (p c : ℕ) (s : Section) : Type 0 where
    pub inner : IsInnermost m v p c s
    pub turn : is_turn s.want ≡ true

  pub record MayFinalize (v : Rows L) (p c : ℕ) : Type 0 where
    pub m : Standing
    pub s : Section
    pub is : IsFinalizing m v p c s
    pub room : length v.exit.turns.items < vec_capacity v.exit.turns

  pub record IsFinalized (m : Standing) (v : Rows L) (s : Section) (fine : Bool) (left : Option ℕ) (q : Phase) (g : Given) (new : Rows L) : Type 0 where
    pub stands : Stands held place (length v.guards.items) (finalized s fine left g m) new
    pub told : q ≡ phase_of (phase_finalized (m.content s.cell).phase fine)
    pub gave : MayGive s.cell (finalized s fine left given.Nobody m) g

  -- there is a finalizer to end
  abbrev pub FinalizesAs : Standing → Rows L → Section → Bool → Option ℕ → Option (Phase × Given) → Rows L → Type 0
  FinalizesAs m v s fine left None new = ⊥
  FinalizesAs m v s fine left (Some r) new = IsFinalized m v s fine left r.0 r.1 new

  abbrev pub Finalizes : Rows L → ℕ → ℕ → Bool → Option ℕ → Option (Phase × Given) → Rows L → Type 0
  Finalizes old p c fine left r new = (m : Standing) (s : Section) → IsFinalizing m old p c s → FinalizesAs m old s fine left r new
