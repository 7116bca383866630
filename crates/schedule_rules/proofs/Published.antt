-- What is published changes only while no guard reads the cell, and its phase where a section of the cell is given back.
use Rattle.schedule_rules.proofs.Words.{ℕ, arith, List, ◌≡◌, Bool, true, refl, Some, ◌∷◌, ap, subst, ◌⊎◌, inl, ◌<◌, inr, ◌≢◌, ◌==◌, if◌then◌else◌, Answer, CellPlan, Step, cell_at}
use Rattle.schedule_rules.proofs.Words.{Content, effect, Change, Deed, Visits, Lends, Event, deed_of, count, sections, Section, innermost, runs_in, Guard, guards, numbered, replay}
use Rattle.schedule_rules.proofs.Words.{phase_at, write_holds, writes_cell, read_guards, IsLegal, lends_at, GivesBack, DeclinesAt, LendsAt}
use Rattle.schedule_rules.proofs.Facts.{whether, same_number, number_found}
use Rattle.schedule_rules.proofs.Exclusion.{alone}
use Rattle.schedule_rules.proofs.Found.{found_counts}
use Rattle.schedule_rules.proofs.Cases.{Asking, Resting}
use Rattle.schedule_rules.proofs.Finds.{Lending, LendsSo, Finds, Tells, finds, tells}
use Rattle.schedule_rules.proofs.Leaves.{left_at, holds_left, Settles, settles, rests, GivesOf, moves}

module _ (cells : List CellPlan) (h : List Event) (s : Step) (r : Answer) (legal : IsLegal cells h) where
  -- it is a section at once: a call that leaves nothing open, or a value that is lent
  abbrev IsVisit : Deed → Type 0
  IsVisit (Visits c chs reads) = Unit {0}
  IsVisit (Lends c chs) = Unit {0}
  IsVisit d = ⊥

  -- where a phase changes that is given back, the cell was held to write, or the deed is such a section
  abbrev WasHeld : Deed → ℕ → Content → Content → Type 0
  WasHeld d z y w = w.phase ≢ y.phase → (0 < write_holds z h) ⊎ IsVisit d

  ran : (t : Section) → innermost s.party (sections h) ≡ Some t → 0 < write_holds t.cell h
  ran t f = let n : 0 < count (runs_in t.cell) (sections h) = found_counts (λ u. u.party == s.party) (runs_in t.cell) (sections h) t f (same_number t.cell t.cell refl) in omega (arith, n)

  wrote : (g : ℕ) (x : Guard) → numbered g (guards h) ≡ Some x → x.writes ≡ true → 0 < write_holds x.cell h
  wrote g x f w = let n : 0 < count (writes_cell x.cell) (guards h) = found_counts (λ y. y.number == g) (writes_cell x.cell) (guards h) x f (rw w (same_number x.cell x.cell refl)) in omega (arith, n)

  -- where something holds a cell to write, no guard reads it
  unread : (c : ℕ) → 0 < write_holds c h → read_guards c h ≡ 0
  unread c n = let k : _ = (alone cells h legal c).no_reader (omega (arith, n)) in omega (arith, k)

  -- so a cell that a guard reads stays as it was
  abbrev Stays : ℕ → Content → Content → Type 0
  Stays c y w = (w ≡ y) ⊎ (read_guards c h ≡ 0)

  untouches : (d : Deed) (f : Finds cells h s.party d) → GivesOf cells h s.party (alone cells h legal) Stays d f
  untouches d f = grind (arith, unread, ran, wrote, alone, rests)

  pub untouched : (d : Deed) (f : Finds cells h s.party d) (c : ℕ) → Stays c (replay cells c h) (left_at cells h s.party d c)
  untouched d f c = moves cells h s.party (alone cells h legal) Stays d f (λ z none. inl refl) (untouches d f) c

  gives : (d : Deed) (f : Finds cells h s.party d) → GivesOf cells h s.party (alone cells h legal) (WasHeld d) d f
  gives d f = grind (arith, ran, wrote)

  held : (d : Deed) (f : Finds cells h s.party d) (c : ℕ) → WasHeld d c (replay cells c h) (left_at cells h s.party d c)
  held d f c = moves cells h s.party (alone cells h legal) (WasHeld d) d f (λ z none ne. absurd (ne refl)) (gives d f) c

  module _ (c : ℕ) where
    -- a section of the cell is given back, and no guard reads it
    abbrev IsGiven : Deed → Type 0
    IsGiven d = ((holds_left cells h s.party d c < write_holds c h) ⊎ (DeclinesAt cells h s c ⊎ LendsAt s r c)) × (read_guards c h ≡ 0)

    one_less : (d : Deed) (f : Finds cells h s.party d) → (left_at cells h s.party d c).phase ≢ phase_at cells c h → 0 < write_holds c h → IsGiven d
    one_less d f ne was = (by (settles cells h s.party (alone cells h legal) d f c), unread c was)
      where
        by : Settles cells h s.party d c → (holds_left cells h s.party d c < write_holds c h) ⊎ (DeclinesAt cells h s c ⊎ LendsAt s r c)
        by x = grind arith

    -- a call that leaves nothing open is declined
    visits : (z : ℕ) (chs : List Change) (reads : Bool) → Tells cells h s.party s.act r (Visits z chs reads) → (left_at cells h s.party (Visits z chs reads) c).phase ≢ phase_at cells c h → IsGiven (Visits z chs reads)
    visits z chs reads x ne = grind (arith, Asking, alone, number_found, Resting, left_at, rests)

    -- a value that is lent
    lends : (z : ℕ) (chs : List Change) → Lending cells h s.party z chs → LendsSo cells h s.party s.act r z chs → (left_at cells h s.party (Lends z chs) c).phase ≢ phase_at cells c h → IsGiven (Lends z chs)
    lends z chs f t ne =
        whether (z == c)
        (λ same. let at : z ≡ c = number_found z c same in (inr (inr (record { lends = subst (λ y. lends_at y s.act ≡ true) at t.lends; answered = t.answered })), subst (λ y. read_guards y h ≡ 0) at f.free.unread))
        (λ other. absurd (ne (ap (λ (b : Bool). (if b then effect (cell_at cells c) chs (replay cells c h) else replay cells c h).phase) other)))

    published : (d : Deed) → Finds cells h s.party d → Tells cells h s.party s.act r d → (left_at cells h s.party d c).phase ≢ phase_at cells c h → IsGiven d
    published (Visits z chs reads) f t ne = visits z chs reads t ne
    published (Lends z chs) f t ne = lends z chs f t ne
    published d f t ne = elim (held d f c ne) [ inl was ↦ one_less d f ne was | inr no_visit ↦ absurd no_visit ]

-- in a legal history
pub published-given : (cells : List CellPlan) (h : List Event) (e : Event) (c : ℕ) → IsLegal cells (e ∷ h) → phase_at cells c (e ∷ h) ≢ phase_at cells c h
    → GivesBack cells h e c × (read_guards c h ≡ 0)
published-given cells h e c k = published cells h e.step e.line.answer k.2 c (deed_of h e.step e.line.answer) (finds cells h e.step e.line k.0) (tells cells h e.step e.line k.0)
