-- The sections and the guards of a legal history are of calls that the kinds of their cells have.
use Rattle.schedule_rules.proofs.Words.{ℕ, arith, List, ◌≡◌, Bool, true, Some, false, ◌∷◌, [], sym, None, subst, AllByRecursion, has_call, is_plain, is_primed, Call, Kind, Answer}
use Rattle.schedule_rules.proofs.Words.{CellPlan, Act, Calls, cell_at, form_of, Content, Deed, Visits, EndsToWrite, Opens, deed_waiting, deed_by, Holds, Event, deed_of, accepts}
use Rattle.schedule_rules.proofs.Words.{is_exit, sections, Section, innermost, Guard, guards, replay, refusal, answer_of_value, IsLegal}
use Rattle.schedule_rules.proofs.Finds.{Finds, finds}
use Rattle.schedule_rules.proofs.Exclusion.{alone}
use Rattle.schedule_rules.proofs.Leaves.{guards_left, sections_left, guards_say, sections_say, Says, NewOf}
use Rattle.schedule_rules.proofs.Cases.{errs, writes, step, Calling, Generating, form_at, Case}
use Rattle.schedule_rules.proofs.Steps.{of_legal}
use Rattle.schedule_rules.proofs.WaitsToLock.{attempted-has}

-- ---- of calls that a kind has

-- no plain kind has one that does
written_not_plain : (q : Kind) (k : Call) → has_call q k ≡ true → writes (form_of q k) ≡ true → is_plain q ≡ false
written_not_plain q k e f = grind arith

-- a primed kind alone has one that falls back
falls_primed : (q : Kind) (k : Call) → has_call q k ≡ true → errs (form_of q k) ≡ true → is_primed q ≡ true
falls_primed q k e f = grind arith

module _ (cells : List CellPlan) where
  -- the kind of the cell has the call
  abbrev HasCall : ℕ → Call → Type 0
  HasCall c k = has_call (cell_at cells c).kind k ≡ true

  -- the section is of a call that the kind of its cell has
  abbrev IsKinded : Section → Type 0
  IsKinded s = (k : Call) → s.want ≡ Calls k → HasCall s.cell k

  -- the guard writes no plain cell
  abbrev pub IsUnplain : Guard → Type 0
  IsUnplain x = x.writes ≡ true → is_plain (cell_at cells x.cell).kind ≡ false

  module _ (h : List Event) (p : ℕ) (legal : IsLegal cells h) where
    -- what is known of the kinds where the deed is done
    abbrev Kinds : Deed → Type 0
    Kinds (Opens c (Calls k) taken) = HasCall c k
    Kinds (Holds c true) = is_plain (cell_at cells c).kind ≡ false
    Kinds (EndsToWrite v) = (t : Section) → innermost p (sections h) ≡ Some t → (k : Call) × (t.want ≡ Calls k) × (writes (form_of (cell_at cells t.cell).kind k) ≡ true)
    Kinds (Visits c chs true) = is_primed (cell_at cells c).kind ≡ true
    Kinds _ = Unit {0}

    abbrev Kinded : Act → Answer → Type 0
    Kinded a r = refusal cells h (step cells h p a) ≡ None → Kinds (deed_of h (step cells h p a) r)

    -- of a call
    called : (a : Act) (c : ℕ) (k : Call) (r : Answer) → Calling cells h p a c k → (HasCall c k → Kinds (deed_by (accepts h) (is_exit a) (Act.Call c k) r)) → Kinded a r
    called a c k r t f n = subst (λ b. Kinds (deed_by (accepts h) (is_exit a) b r)) (sym t.does) (f (attempted-has cells h (step cells h p a) c k legal n t.tried))

    made : (v : ℕ) (t : Section) (k : Call) → Generating cells h p t k → writes (form_at cells h p t.cell k) ≡ true → Kinds (EndsToWrite v)
    made v t k g w s f = grind (arith, writes)

    waited : (b : Bool) → Kinds (deed_waiting b)
    waited b = elim b as (λ b. Kinds (deed_waiting b)) [ true ↦ tt | false ↦ tt ]

    each : (a : Act) (r : Answer) → Case cells h p a r → Kinded a r
    each _ _ (Case.waiting a c w way t) n = waited (is_exit a)
    each _ _ (Case.told a c k q t v) n = called a c k (Answer.Phase q) t (λ has. tt) n
    each _ _ (Case.denied a c k q t v) n = called a c k (Answer.Access q) t (λ has. tt) n
    each _ _ (Case.erring a c k q t v e) n = called a c k Answer.ErrGuard t (λ has. falls_primed (cell_at cells c).kind k has e) n
    each _ _ (Case.shown a c k t q e) n = called a c k (answer_of_value (replay cells c h)) t (λ has. tt) n
    each _ _ (Case.reading a c k t q e) n = called a c k Answer.ReadGuard t (λ has. tt) n
    each _ _ (Case.writing a c k t q e w) n = called a c k Answer.WriteGuard t (λ has. written_not_plain (cell_at cells c).kind k has w) n
    each _ _ (Case.running a c k t q) n = called a c k Answer.Running t (λ has. has) n
    each _ _ (Case.made_to_write v t k g w) n = made v t k g w
    each _ _ (Case.finished true left t g) n = tt
    each _ _ (Case.finished false left t g) n = tt
    each _ _ _ n = tt

    -- ---- what is open after the deed
    abbrev Had : Content → Section → Type 0
    Had y s = IsKinded s

    abbrev Unplain : Content → Guard → Type 0
    Unplain y x = IsUnplain x

    new : (d : Deed) (f : Finds cells h p d) → Kinds d → NewOf cells h p (alone cells h legal) Had Had Unplain Unplain d f
    new (EndsToWrite v) f k = λ u w. let i : _ = k f.section f.found in written_not_plain (cell_at cells f.section.cell).kind i.0 (u i.0 i.1) i.2
    new d f x = grind arith

    after : (d : Deed) (f : Finds cells h p d) → Kinds d → AllByRecursion IsKinded (sections h) → AllByRecursion IsUnplain (guards h)
        → AllByRecursion IsKinded (sections_left cells h p d) × AllByRecursion IsUnplain (guards_left cells h p d)
    after d f k ss gs =
        let says : Says cells h p (alone cells h legal) Had Had Unplain Unplain d f =
        record { section = λ s u. u; guard = λ x u. u; beside = λ y x e u. u; reads = λ y c w. absurd (cc); sets = λ v y x u. u; new = new d f k } in
        (sections_say cells h p (alone cells h legal) Had Had Unplain Unplain d f says ss, guards_say cells h p (alone cells h legal) Had Had Unplain Unplain d f says ss gs)

  -- what is known of the kinds where a legal step did its deed
  deed_kinds : (h : List Event) (e : Event) (k : IsLegal cells (e ∷ h)) → Kinds h e.step.party k.2 (deed_of h e.step e.line.answer)
  deed_kinds h e k = of_legal cells h e.step e.line k.0 (λ a r. Kinds h e.step.party k.2 (deed_of h (step cells h e.step.party a) r)) (λ a r. tt) (each h e.step.party k.2)

  kinded : (h : List Event) → IsLegal cells h → AllByRecursion IsKinded (sections h) × AllByRecursion IsUnplain (guards h)
  kinded [] k = (tt, tt)
  kinded (e ∷ h) k =
      let before : _ = kinded h k.2 in
      after h e.step.party k.2 (deed_of h e.step e.line.answer) (finds cells h e.step e.line k.0) (deed_kinds h e k) before.0 before.1

  -- no guard writes a plain cell
  pub unplain : (h : List Event) → IsLegal cells h → AllByRecursion IsUnplain (guards h)
  unplain h k = (kinded h k).1

  -- a guard that reads where the value may not be accessed, reads a primed one
  pub errs-primed : (h : List Event) (e : Event) (c : ℕ) (chs : _) → IsLegal cells (e ∷ h) → deed_of h e.step e.line.answer ≡ Visits c chs true → is_primed (cell_at cells c).kind ≡ true
  errs-primed h e c chs k is = subst (Kinds h e.step.party k.2) is (deed_kinds h e k)
