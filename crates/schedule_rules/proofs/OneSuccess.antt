-- A generator of a cell succeeds at most once.
use Rattle.schedule_rules.proofs.Words.{ℕ, arith, List, ◌≡◌, Bool, true, refl, Some, false, ◌∷◌, [], ◌∙◌, sym, ap, subst, ◌⊎◌, inl, ◌<◌, ◌&&◌, inr, ◌+◌, ◌≤◌, cond, ◌||◌, ◌==◌, has}
use Rattle.schedule_rules.proofs.Words.{initialized, Answer, CellPlan, Act, cell_at, flags_kept, Content, effect, Change, Ran, Deed, Makes, EndsToRead, Ends, EndsToWrite, Lends}
use Rattle.schedule_rules.proofs.Words.{Event, deed_of, count, sections, Section, innermost, is_turn, runs_in, Guard, guards, numbered, replay, phase_at, back_by, back_of_section}
use Rattle.schedule_rules.proofs.Words.{writes_cell, IsLegal, lends_at, is_failed, runs_to_lend, successes, is_lent_at, is_success}
use Rattle.schedule_rules.proofs.Exclusion.{alone}
use Rattle.schedule_rules.proofs.Found.{found_counts, each_found}
use Rattle.schedule_rules.proofs.Leaves.{back_here, left_at, guards_left, GivenAt, Writing, writing, GivesOf, moves}
use Rattle.schedule_rules.proofs.Cases.{step, AsksToLend}
use Rattle.schedule_rules.proofs.Finds.{Inside, Lending, LendsSo, Both, Finds, finds, tells}
use Rattle.schedule_rules.proofs.Grows.{IsReady, IsStanding, has_made, needs-lacks, sound, initialized-stays}
use Rattle.schedule_rules.proofs.Facts.{apart, first, second, one_of}

module _ (cells : List CellPlan) (c : ℕ) where
  -- a value is published in the cell, or a guard to write it is open
  abbrev IsMade : List Event → Type 0
  IsMade h = (has (phase_at cells c h) initialized ≡ true) ⊎ (0 < count (writes_cell c) (guards h))

  module _ (h : List Event) (p : ℕ) (legal : IsLegal cells h) where
    -- the same after the deed
    abbrev MadeBy : Deed → Type 0
    MadeBy d = (has (left_at cells h p d c).phase initialized ≡ true) ⊎ (0 < count (writes_cell c) (guards_left cells h p d))

    -- a guard to write stays, or publishes its value
    abbrev Publishes : Deed → ℕ → Content → Content → Type 0
    Publishes d z y w = 0 < count (writes_cell z) (guards h) → (has w.phase initialized ≡ true) ⊎ (0 < count (writes_cell z) (guards_left cells h p d))

    stays : (d : Deed) (f : Finds cells h p d) (z : ℕ) → (GivenAt cells h p d z → ⊥) → Publishes d z (replay cells z h) (replay cells z h)
    stays d f z none n = by (writing cells h p (alone cells h legal) d f z)
      where
        by : Writing cells h p (alone cells h legal) d z → (has (phase_at cells z h) initialized ≡ true) ⊎ (0 < count (writes_cell z) (guards_left cells h p d))
        by x = grind arith

    seen : (g : ℕ) (x : Guard) → numbered g (guards h) ≡ Some x → x.writes ≡ true → has (effect (cell_at cells x.cell) x.changes (replay cells x.cell h)).phase initialized ≡ true
    seen g x f w = (each_found (λ y. y.number == g) (IsReady cells h) (guards h) x f (sound cells h legal).ready w).0

    gives : (d : Deed) (f : Finds cells h p d) → GivesOf cells h p (alone cells h legal) (Publishes d) d f
    gives d f = grind (arith, has_made, seen)

    keeps : (d : Deed) (f : Finds cells h p d) → 0 < count (writes_cell c) (guards h) → MadeBy d
    keeps d f n = moves cells h p (alone cells h legal) (Publishes d) d f (stays d f) (gives d f) c n

    -- a success is one of a generator of the cell, and then there is a value
    abbrev Succeeds : Deed → Type 0
    Succeeds d = (i : Inside cells h p false) × (i.section.cell ≡ c) × MadeBy d

    -- a generator whose section is given back published its value
    published : (v : ℕ) (d : Deed) (f : Inside cells h p false) → back_by p d (sections h) (guards h) ≡ back_of_section (Makes (Some v)) (innermost p (sections h))
        → (f.section.cell == c) ≡ true → Succeeds d
    published v d f is same =
        let here : f.section.cell ≡ c = grind arith in (
          f,
          here,
          inl (subst (λ y. has y.phase initialized ≡ true)
              (sym (back_here cells c (back_by p d (sections h) (guards h)) (record { cell = f.section.cell; changes = Ran f.section.is_open (Some v) ∷ [] }) (replay cells c h) (is ∙ ap (back_of_section (Makes (Some v))) f.found) same))
              (has_made (flags_kept (cell_at cells c).kind f.section.is_open (phase_at cells c h)))),
        )

    succeeds : (d : Deed) → Finds cells h p d → is_success c d (innermost p (sections h)) ≡ true → Succeeds d
    succeeds (EndsToRead v) f s = let e : _ = f.found in published v (EndsToRead v) f refl (rw e at s)
    succeeds (Ends (Makes (Some v))) f s = let e : _ = f.found in published v (Ends (Makes (Some v))) f refl (rw e at s)
    succeeds (EndsToWrite v) f s =
        let e : _ = f.found in
        let same : (f.section.cell == c) ≡ true = rw e at s in
        let here : f.section.cell ≡ c = grind arith in (f, here, inr (rw e (rw same (omega arith))))
    succeeds d x y = grind arith

    -- where a value was made no generator of the cell runs
    made_rests : IsMade h → (t : Section) → innermost p (sections h) ≡ Some t → t.cell ≡ c → is_turn t.want ≡ false → ⊥
    made_rests (inl r) t f here d =
        apart (sym (subst (λ z. has (phase_at cells z h) initialized ≡ true) (sym here) r)
        ∙ needs-lacks t.want (cell_at cells t.cell) (phase_at cells t.cell h) d (each_found (λ s. s.party == p) (IsStanding cells h) (sections h) t f (sound cells h legal).standing))
    made_rests (inr w) t f here d =
        let same : (t.cell == c) ≡ true = grind arith in
        let runs : 0 < count (runs_in c) (sections h) = found_counts (λ s. s.party == p) (runs_in c) (sections h) t f same in
        omega (arith, (alone cells h legal c).one_writer, w, runs)

    -- a success makes a value where none was
    abbrev Makes_one : Deed → Type 0
    Makes_one d = (IsMade h → ⊥) × MadeBy d

    in_section : (d : Deed) → Finds cells h p d → is_success c d (innermost p (sections h)) ≡ true → Makes_one d
    in_section d f s = let t : _ = succeeds d f s in ((λ m. made_rests m t.0.section t.0.found t.1 t.0.kind), t.2)

    -- one that is made to be lent
    lent_here : (z : ℕ) (chs : List Change) (a : Act) (r : Answer) → Lending cells h p z chs → LendsSo cells h p a r z chs → (z == c) ≡ true → AsksToLend cells h p z true → is_failed r ≡ false → Makes_one (Lends z chs)
    lent_here z chs a r f t same e fine = grind (arith, left_at)

    at_once : (a : Act) (r : Answer) → Both cells h p a r (deed_of h (step cells h p a) r) → is_lent_at c a r ≡ true → runs_to_lend cells h a ≡ true → Makes_one (deed_of h (step cells h p a) r)
    at_once a (Answer.Value v) = by a
      where
        by : (a : Act) → Both cells h p a (Answer.Value v) (deed_of h (step cells h p a) (Answer.Value v)) → lends_at c a ≡ true → runs_to_lend cells h a ≡ true → Makes_one (deed_of h (step cells h p a) (Answer.Value v))
        by (Act.GetMut z made left) b same e = lent_here z _ (Act.GetMut z made left) (Answer.Value v) b.0 b.1 same e refl
        by _ b same e = absurd (apart (sym e))
    at_once a _ = λ b same e. absurd (apart (sym same))

  -- no value was made in the cell, or one was, and it stays
  abbrev IsCounted : List Event → Type 0
  IsCounted h = (successes cells c h ≡ 0) ⊎ ((successes cells c h ≡ 1) × IsMade h)

  counted : (h : List Event) → IsLegal cells h → IsCounted h
  counted [] k = inl refl
  counted (e ∷ h) k = by (is_success c d (innermost e.step.party (sections h)) || (is_lent_at c e.step.act e.line.answer && runs_to_lend cells h e.step.act)) refl (counted h k.2)
    where
      d : Deed
      d = deed_of h e.step e.line.answer

      f : Finds cells h e.step.party d
      f = finds cells h e.step e.line k.0

      makes : (is_success c d (innermost e.step.party (sections h)) ≡ true) ⊎ ((is_lent_at c e.step.act e.line.answer && runs_to_lend cells h e.step.act) ≡ true) → Makes_one h e.step.party k.2 d
      makes (inl s) = in_section h e.step.party k.2 d f s
      makes (inr s) = at_once h e.step.party k.2 e.step.act e.line.answer (f, tells cells h e.step e.line k.0) (first _ _ s) (second (is_lent_at c e.step.act e.line.answer) _ s)

      made_stays : IsMade h → IsMade (e ∷ h)
      made_stays x = grind (arith, initialized-stays, keeps, d, f)

      by : (b : Bool) → (is_success c d (innermost e.step.party (sections h)) || (is_lent_at c e.step.act e.line.answer && runs_to_lend cells h e.step.act)) ≡ b → IsCounted h
          → (cond b (successes cells c h + 1) (successes cells c h) ≡ 0) ⊎ ((cond b (successes cells c h + 1) (successes cells c h) ≡ 1) × IsMade (e ∷ h))
      by b ok x = grind (arith, makes, one_of, made_stays)

  -- at most one generator of the cell ends by a value
  pub one-success : (h : List Event) → IsLegal cells h → successes cells c h ≤ 1
  one-success h k = grind (arith, counted h k)
