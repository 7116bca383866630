-- A finalizer that ends marks the phase of its cell, and nothing else does.
use Rattle.schedule_rules.proofs.Words.{ℕ, arith, List, ◌≡◌, Bool, true, Some, false, ◌∷◌, [], ◌∙◌, sym, ap, subst, ◌⊎◌, inl, inr, and_or_apart, bit_or, ◌==◌, Option, has}
use Rattle.schedule_rules.proofs.Words.{initialized, phase_of, Phase, Given, final_outcome, Answer, Line, CellPlan, Act, Step, Want, cell_at, phase_finalized, Content, effect}
use Rattle.schedule_rules.proofs.Words.{Change, Ran, Ended, Deed, Makes, EndsToRead, Ends, Finishes, Event, deed_of, sections, Section, innermost, is_turn, Guard, guards, numbered}
use Rattle.schedule_rules.proofs.Words.{replay, phase_at, Back, back_of_step, finishing, cell_concerned, cell_of_section, IsLegal, IsLegalLine, IsEndedTurn}
use Rattle.schedule_rules.specs.Laws.{Finishes as Finishes_so}
use Rattle.schedule_rules.proofs.Exclusion.{alone}
use Rattle.schedule_rules.proofs.Found.{each_found}
use Rattle.schedule_rules.proofs.Leaves.{back_here, back_elsewhere, left_at, GivenAt, GivesOf, moves}
use Rattle.schedule_rules.proofs.Finds.{Lending, Finds, Tells, finds, tells}
use Rattle.schedule_rules.proofs.Means.{Finished, EndsNone, Means, means}
use Rattle.schedule_rules.proofs.Grows.{Needs, IsStanding, sound}
use Rattle.schedule_rules.proofs.Opening.{IsOfRun, IsRunning, guards-run, beside, run_before, asked_before}
use Rattle.schedule_rules.proofs.Facts.{apart, same_number, other_number}

-- a finalizer's section needs a value
pub needs-value : (w : Want) (x : CellPlan) (p : ℕ) → is_turn w ≡ true → Needs w x p → has p initialized ≡ true
needs-value w x p d n = grind arith

-- what a finalizer adds says how it ended
same_outcome : (a fine : Bool) (p : ℕ) → has p (final_outcome fine) ≡ false → has (bit_or p (final_outcome a)) (final_outcome fine) ≡ true → a ≡ fine
same_outcome a fine p x y = grind (arith, and_or_apart)

module _ (cells : List CellPlan) (c : ℕ) where
  module _ (h : List Event) (p : ℕ) (i : Given) (legal : IsLegal cells h) where
    -- the event of the party
    abbrev event : Act → Answer → Event
    event a r = record { step = record { party = p; act = a }; line = record { answer = r; given = i } }

    -- the cell of the section that ends is concerned
    concerned : (t : Section) → innermost p (sections h) ≡ Some t → cell_of_section (innermost p (sections h)) ≡ Some c → t.cell ≡ c
    concerned t f e = grind arith

    concerned_by : (a : Act) (fine : Bool) (left : Option ℕ) → a ≡ finishing fine left → cell_concerned cells h (record { party = p; act = a }) ≡ cell_of_section (innermost p (sections h))
    concerned_by a fine left e = grind arith

    -- the two ends of a finalizer
    same_end : (a fine : Bool) (m left : Option ℕ) → finishing a m ≡ finishing fine left → a ≡ fine
    same_end a fine m left x = grind arith

    turn_ends : (a : Act) (q : Phase) (m : Finished cells h p a q) → cell_concerned cells h (record { party = p; act = a }) ≡ Some c → IsEndedTurn cells h (event a (Answer.Phase q)) c m.fine
    turn_ends a q m n =
        record {
          section = t;
          found = m.ends.found;
          here = here;
          turns = m.ends.kind;
          ready = subst (λ z. has (phase_at cells z h) initialized ≡ true) here
              (needs-value t.want (cell_at cells t.cell) (phase_at cells t.cell h) m.ends.kind (each_found (λ s. s.party == p) (IsStanding cells h) (sections h) t m.ends.found (sound cells h legal).standing));
          marks = ap (λ y. y.phase) changed;
          shown = ap (λ r. Answer.Phase r) m.shown ∙ ap (λ z. Answer.Phase (phase_of (phase_finalized (phase_at cells z h) m.fine))) here ∙ ap (λ y. Answer.Phase (phase_of y.phase)) (sym changed);
          left = m.left;
          ended = m.acts;
          value_left = ap (λ y. y.value) changed;
          others_stay = λ e ne. back_elsewhere cells e (back_of_step h (record { party = p; act = a }) (Answer.Phase q)) b (replay cells e h) back (other_number t.cell c e here ne);
        }
      where
        t : Section
        t = m.section

        here : t.cell ≡ c
        here = concerned t m.ends.found (sym (concerned_by a m.fine m.left m.acts) ∙ n)

        b : Back
        b = record { cell = t.cell; changes = Ended m.fine m.left ∷ [] }

        back : back_of_step h (record { party = p; act = a }) (Answer.Phase q) ≡ Some b
        back = grind arith

        changed : replay cells c (event a (Answer.Phase q) ∷ h) ≡ effect (cell_at cells c) (Ended m.fine m.left ∷ []) (replay cells c h)
        changed = back_here cells c (back_of_step h (record { party = p; act = a }) (Answer.Phase q)) b (replay cells c h) back (same_number t.cell c here)

  -- a legal line of a finalizer that ends
  pub ends-turn : (h : List Event) (s : Step) (l : Line) (q : Phase) (fine : Bool) → IsLegal cells h → IsLegalLine cells h s l → l.answer ≡ Answer.Phase q → Finishes_so s fine
      → cell_concerned cells h s ≡ Some c → IsEndedTurn cells h (record { step = s; line = l }) c fine
  ends-turn h s l q fine k m e f n =
      subst (λ r. IsEndedTurn cells h (record { step = s; line = record { answer = r; given = l.given } }) c fine) (sym e) (by (subst (Means cells h s.party s.act) e (means cells h s l m)))
    where
      by : Finished cells h s.party s.act q ⊎ EndsNone cells h s.party s.act → IsEndedTurn cells h (record { step = s; line = record { answer = Answer.Phase q; given = l.given } }) c fine
      by (inr never) = absurd (never fine f.left f.act)
      by (inl t) =
          subst (λ b. IsEndedTurn cells h (record { step = s; line = record { answer = Answer.Phase q; given = l.given } }) c b)
          (same_end h s.party l.given k t.fine fine t.left f.left (sym t.acts ∙ f.act)) (turn_ends h s.party l.given k s.act q t n)

  -- so ends the turn of the cell whose section is innermost
  pub ended-turn : (h : List Event) (e : Event) (fine : Bool) (left : Option ℕ) → IsLegal cells (e ∷ h) → e.step.act ≡ finishing fine left → (q : Phase) → e.line.answer ≡ Answer.Phase q
      → cell_of_section (innermost e.step.party (sections h)) ≡ Some c → IsEndedTurn cells h e c fine
  ended-turn h e fine left k acts q shows here =
      ends-turn h e.step e.line q fine k.2 k.0 shows (record { left = left; act = acts }) (concerned_by h e.step.party e.line.given k.2 e.step.act fine left acts ∙ here)

  -- ---- nothing else marks a cell

  module _ (h : List Event) (p : ℕ) (fine : Bool) (legal : IsLegal cells h) where
    abbrev IsEnding : Deed → ℕ → Type 0
    IsEnding (Ends (Finishes b left)) z = (b ≡ fine) × (cell_of_section (innermost p (sections h)) ≡ Some z)
    IsEnding _ z = ⊥

    -- a flag of finalizers comes by a finalizer of the cell that ends so
    abbrev Marks : Deed → ℕ → Content → Content → Type 0
    Marks d z y w = has y.phase (final_outcome fine) ≡ false → has w.phase (final_outcome fine) ≡ true → IsEnding d z

    stays : (d : Deed) (z : ℕ) → (GivenAt cells h p d z → ⊥) → Marks d z (replay cells z h) (replay cells z h)
    stays d z n was is = absurd (apart (sym is ∙ was))

    ran : (z : ℕ) (chs : List Change) → IsOfRun chs → has (phase_at cells z h) (final_outcome fine) ≡ false → has (effect (cell_at cells z) chs (replay cells z h)).phase (final_outcome fine) ≡ true → ⊥
    ran z chs r was is = apart (sym (run_before (final_outcome fine) (beside fine) (cell_at cells z) chs (replay cells z h) r is) ∙ was)

    dropped : (g : ℕ) (x : Guard) → numbered g (guards h) ≡ Some x → IsOfRun x.changes
    dropped g x f = each_found (λ y. y.number == g) IsRunning (guards h) x f (guards-run h)

    lends : (z : ℕ) (chs : List Change) → Lending cells h p z chs → has (phase_at cells z h) (final_outcome fine) ≡ false → has (effect (cell_at cells z) chs (replay cells z h)).phase (final_outcome fine) ≡ true → ⊥
    lends z chs f was is = grind arith

    gives : (d : Deed) (f : Finds cells h p d) → GivesOf cells h p (alone cells h legal) (Marks d) d f
    gives (Ends (Makes made)) f = ran f.section.cell (Ran f.section.is_open made ∷ []) tt
    gives (EndsToRead v) f = ran f.section.cell (Ran f.section.is_open (Some v) ∷ []) tt
    gives d f = grind (arith, same_outcome, ran, dropped, asked_before, beside, lends)

    marks : (d : Deed) → Finds cells h p d → Marks d c (replay cells c h) (left_at cells h p d c)
    marks d f = moves cells h p (alone cells h legal) (Marks d) d f (stays d) (gives d f) c

  -- so a cell is marked as finalized only where a finalizer of it ends so
  pub marked-by-turn : (h : List Event) (e : Event) (fine : Bool) → IsLegal cells (e ∷ h) → has (phase_at cells c h) (final_outcome fine) ≡ false
      → has (phase_at cells c (e ∷ h)) (final_outcome fine) ≡ true → IsEndedTurn cells h e c fine
  marked-by-turn h e fine k was m =
      by (deed_of h e.step e.line.answer) (tells cells h e.step e.line k.0) (marks h e.step.party fine k.2 (deed_of h e.step e.line.answer) (finds cells h e.step e.line k.0) was m)
    where
      by : (d : Deed) → Tells cells h e.step.party e.step.act e.line.answer d → IsEnding h e.step.party fine k.2 d c → IsEndedTurn cells h e c fine
      by (Ends (Finishes b left)) t i = subst (IsEndedTurn cells h e c) i.0 (ended-turn h e b left k t.0 t.1.0 t.1.1 i.1)
      by d x y = grind arith
