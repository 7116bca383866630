-- A phase that has INITIALIZED changes only where a finalizer of its cell ends, and of a plain cell the value stays.
use Rattle.schedule_rules.proofs.Words.{ℕ, arith, List, ◌≡◌, Bool, true, refl, Some, false, ◌∷◌, [], ◌∙◌, sym, ◌⊎◌, inl, inr, ◌≢◌, ◌++◌, All, All-head, All-tail, ◌==◌, has}
use Rattle.schedule_rules.proofs.Words.{initialized, is_plain, is_hard, Kind, Answer, CellPlan, Act, cell_at, Content, effect, Change, Ran, Put, Deed, Makes, EndsToRead, Ends}
use Rattle.schedule_rules.proofs.Words.{Finishes, Lends, Event, deed_of, sections, innermost, Guard, guards, numbered, replay, phase_at, cell_of_section, IsLegal, lends_at}
use Rattle.schedule_rules.proofs.Words.{IsEndedTurn}
use Rattle.schedule_rules.proofs.Exclusion.{alone}
use Rattle.schedule_rules.proofs.Found.{each_found}
use Rattle.schedule_rules.proofs.Finds.{Visit, Lending, Finds, Tells, finds, tells}
use Rattle.schedule_rules.proofs.Leaves.{left_at, GivesOf, moves, asked_value}
use Rattle.schedule_rules.proofs.Grows.{HasRun, IsReady, lacks, sound, initialized-stays}
use Rattle.schedule_rules.proofs.Opening.{IsOfRun, IsRunning, guards-run}
use Rattle.schedule_rules.proofs.Kinded.{IsUnplain, unplain}
use Rattle.schedule_rules.proofs.Finishing.{ended-turn}
use Rattle.schedule_rules.proofs.Facts.{apart}

-- a section of sets alone keeps the phase
puts_keep : (q : CellPlan) (chs : List Change) (y : Content) → IsOfRun chs → HasRun chs ⊎ ((effect q chs y).phase ≡ y.phase)
puts_keep q [] y r = inr refl
puts_keep q (Put v ∷ chs) y r = puts_keep q chs y r
puts_keep q (Ran o m ∷ chs) y r = inl tt
puts_keep q (ch ∷ chs) y r = absurd r

-- a plain kind is soft
pub plain_soft : (q : Kind) → is_plain q ≡ true → is_hard q ≡ false
plain_soft q e = grind arith

module _ (cells : List CellPlan) (h : List Event) (p : ℕ) (legal : IsLegal cells h) where
  -- a finalizer of the cell ends
  abbrev IsEnding : Deed → ℕ → Type 0
  IsEnding (Ends (Finishes b left)) z = cell_of_section (innermost p (sections h)) ≡ Some z
  IsEnding _ z = ⊥

  -- a phase with a value stays, or a finalizer ends
  abbrev Settles : Deed → ℕ → Content → Content → Type 0
  Settles d z y w = has y.phase initialized ≡ true → (w.phase ≡ y.phase) ⊎ IsEnding d z

  visits : (c : ℕ) (chs : List Change) (reads : Bool) (v : Visit cells h p c chs reads) → has (phase_at cells c h) initialized ≡ true → (effect (cell_at cells c) chs (replay cells c h)).phase ≡ phase_at cells c h
  visits c chs reads v r = grind arith

  -- no run is asked to lend a value that is there
  lends : (c : ℕ) (chs : List Change) → Lending cells h p c chs → has (phase_at cells c h) initialized ≡ true → (effect (cell_at cells c) chs (replay cells c h)).phase ≡ phase_at cells c h
  lends c chs f r = grind arith

  -- no generator ended in the section of a guard that stands on a value
  dropped : (g : ℕ) (x : Guard) → numbered g (guards h) ≡ Some x → x.writes ≡ true → has (phase_at cells x.cell h) initialized ≡ true
      → (effect (cell_at cells x.cell) x.changes (replay cells x.cell h)).phase ≡ phase_at cells x.cell h
  dropped g x f w r = grind (arith, puts_keep, each_found, IsRunning, guards-run, HasRun, IsReady, sound)

  gives : (d : Deed) (f : Finds cells h p d) → GivesOf cells h p (alone cells h legal) (Settles d) d f
  gives (Ends (Makes made)) f = λ r. absurd (apart (sym r ∙ lacks cells h p (alone cells h legal) (sound cells h legal) f))
  gives (EndsToRead v) f = λ r. absurd (apart (sym r ∙ lacks cells h p (alone cells h legal) (sound cells h legal) f))
  gives d f = grind (arith, dropped, visits, lends)

  settles : (d : Deed) → Finds cells h p d → (c : ℕ) → Settles d c (replay cells c h) (left_at cells h p d c)
  settles d f c = moves cells h p (alone cells h legal) (Settles d) d f (λ z n r. inl refl) (gives d f) c

  -- ---- of a plain cell the value stays too, where the deed does not lend it

  abbrev lends_to : ℕ → Deed → Bool
  lends_to z (Lends c chs) = c == z
  lends_to z _ = false

  abbrev KeepsPlain : Deed → ℕ → Content → Content → Type 0
  KeepsPlain d z y w = lends_to z d ≡ false → is_plain (cell_at cells z).kind ≡ true → has y.phase initialized ≡ true → w.value ≡ y.value

  -- no guard writes it
  never : (g : ℕ) (x : Guard) → numbered g (guards h) ≡ Some x → x.writes ≡ true → is_plain (cell_at cells x.cell).kind ≡ true → ⊥
  never g x f w q = apart (sym q ∙ each_found (λ y. y.number == g) (IsUnplain cells) (guards h) x f (unplain cells h legal) w)

  keeps_plain : (d : Deed) (f : Finds cells h p d) → GivesOf cells h p (alone cells h legal) (KeepsPlain d) d f
  keeps_plain (Ends (Makes made)) f = λ n q r. absurd (apart (sym r ∙ lacks cells h p (alone cells h legal) (sound cells h legal) f))
  keeps_plain (EndsToRead v) f = λ n q r. absurd (apart (sym r ∙ lacks cells h p (alone cells h legal) (sound cells h legal) f))
  keeps_plain d f = grind (arith, plain_soft, never, asked_value)

  kept_plain : (d : Deed) → Finds cells h p d → (c : ℕ) → KeepsPlain d c (replay cells c h) (left_at cells h p d c)
  kept_plain d f c = moves cells h p (alone cells h legal) (KeepsPlain d) d f (λ z n m q r. refl) (keeps_plain d f) c

  -- a deed lends a value by an act that is to lend it
  lent_by : (a : Act) (r : Answer) (d : Deed) (c : ℕ) → Tells cells h p a r d → lends_at c a ≡ false → lends_to c d ≡ false
  lent_by a r d c t n = grind arith

-- the value of a plain cell stays once its phase has INITIALIZED, while no step is to lend it
pub plain-stays : (cells : List CellPlan) (h later : List Event) (c : ℕ) → IsLegal cells (later ++ h) → All (λ e. lends_at c e.step.act ≡ false) later → is_plain (cell_at cells c).kind ≡ true → has (phase_at cells c h) initialized ≡ true
    → (has (phase_at cells c (later ++ h)) initialized ≡ true) × ((replay cells c (later ++ h)).value ≡ (replay cells c h).value)
plain-stays cells h [] c k n q r = (r, refl)
plain-stays cells h (e ∷ later) c k n q r =
    let unlent : _ = All-head (λ e. lends_at c e.step.act ≡ false) e later n in
    let before : _ = plain-stays cells h later c k.2 (All-tail (λ e. lends_at c e.step.act ≡ false) e later n) q r in (
      initialized-stays cells (later ++ h) e c k before.0,
      kept_plain cells (later ++ h) e.step.party k.2 (deed_of (later ++ h) e.step e.line.answer) (finds cells (later ++ h) e.step e.line k.0) c
          (lent_by cells (later ++ h) e.step.party k.2 e.step.act e.line.answer (deed_of (later ++ h) e.step e.line.answer) c (tells cells (later ++ h) e.step e.line k.0) unlent) q before.0 ∙ before.1,
    )

-- a phase that has INITIALIZED and changes, is marked by a finalizer that ends
pub settled : (cells : List CellPlan) (h : List Event) (e : Event) (c : ℕ) → IsLegal cells (e ∷ h) → has (phase_at cells c h) initialized ≡ true
    → phase_at cells c (e ∷ h) ≢ phase_at cells c h → IsEndedTurn cells h e c true ⊎ IsEndedTurn cells h e c false
settled cells h e c k ready moves = by (settles cells h e.step.party k.2 (deed_of h e.step e.line.answer) (finds cells h e.step e.line k.0) c ready)
  where
    turn : (fine : Bool) → IsEndedTurn cells h e c fine → IsEndedTurn cells h e c true ⊎ IsEndedTurn cells h e c false
    turn true t = inl t
    turn false t = inr t

    ends : (d : Deed) → Tells cells h e.step.party e.step.act e.line.answer d → IsEnding cells h e.step.party k.2 d c → IsEndedTurn cells h e c true ⊎ IsEndedTurn cells h e c false
    ends (Ends (Finishes b left)) t i = turn b (ended-turn cells c h e b left k t.0 t.1.0 t.1.1 i)
    ends d x y = grind arith

    by : (phase_at cells c (e ∷ h) ≡ phase_at cells c h) ⊎ IsEnding cells h e.step.party k.2 (deed_of h e.step e.line.answer) c → IsEndedTurn cells h e c true ⊎ IsEndedTurn cells h e c false
    by (inl same) = absurd (moves same)
    by (inr i) = ends (deed_of h e.step e.line.answer) (tells cells h e.step e.line k.0) i
