-- A value that is shown is there.
use Rattle.schedule_rules.proofs.Words.{ℕ, arith, List, ◌≡◌, Bool, true, refl, Some, false, ◌∷◌, [], ◌∙◌, sym, ap, None, subst, ◌⊎◌, inl, ◌<◌, inr, length, and_or_self, and_assoc}
use Rattle.schedule_rules.proofs.Words.{and_le_r, AllByRecursion, ◌==◌, if◌then◌else◌, is_some, Option, has, initialized, is_plain, is_primed, Call, Answer, Line, CellPlan, Act}
use Rattle.schedule_rules.proofs.Words.{Step, cell_at, tolerance_of, is_accessible, finishes_so, flags_kept, Content, effect, Change, Ran, Asked, Put, content_after, Ended}
use Rattle.schedule_rules.proofs.Words.{RanIfAsked, asks_to_lend, is_declined, content_of_run, Deed, Makes, EndsToRead, Visits, DropsToRead, Beside, Event, deed_of, sections}
use Rattle.schedule_rules.proofs.Words.{Section, Guard, guards, numbered, without_guard, guards_by, reader_beside, reader_made, replay, phase_at, Back, back_of_step, back_by}
use Rattle.schedule_rules.proofs.Words.{back_of_section, content_after_back, inside, change_of, back_of_guard, read_guards, reads_cell, answer_of_value, IsLegal, IsLegalLine}
use Rattle.schedule_rules.proofs.Words.{lends_at, runs_to_lend, ShowsValue}
use Rattle.std.specs.Option.{unwrap_or}
use Rattle.schedule_rules.proofs.Cases.{step, Reach, Case}
use Rattle.schedule_rules.proofs.Steps.{lent_unprimed, of_legal}
use Rattle.schedule_rules.proofs.Exclusion.{alone}
use Rattle.schedule_rules.proofs.Found.{each_counted, each_found, each_of, each_removed, each_put}
use Rattle.schedule_rules.proofs.Leaves.{back_here, NewOf, guards_say, left_at, GivesOf, moves}
use Rattle.schedule_rules.proofs.Opening.{IsRunning, guards-run, IsOfRun}
use Rattle.schedule_rules.proofs.Grows.{has_more}
use Rattle.schedule_rules.proofs.Facts.{apart, first, same_number}
use Rattle.schedule_rules.proofs.Finds.{Finds, finds}
use Rattle.schedule_rules.proofs.Settled.{plain_soft}
use Rattle.schedule_rules.proofs.Kinded.{errs-primed}
use Rattle.schedule_rules.proofs.Published.{untouched}
use Rattle.schedule_rules.proofs.Steady.{guard-shows}

-- there is a value
abbrev pub HasValue : Content → Type 0
HasValue y = is_some y.value ≡ true

-- a value that is there is shown
pub shown_so : (o : Option ℕ) → is_some o ≡ true → o ≡ Some (unwrap_or o 0)
shown_so o e = grind arith

-- no flag that stays is INITIALIZED
kept_lacks : (x : CellPlan) (o : Bool) (p : ℕ) → has (flags_kept x.kind o p) initialized ≡ false
kept_lacks x o p = grind (arith, and_assoc, and_le_r)

module _ (x : CellPlan) where
  -- there is one where it may be accessed
  abbrev IsTrue : Content → Type 0
  IsTrue y = is_accessible x.kind y.phase ≡ true → HasValue y

  -- a finalizer of a hard kind takes the value out of reach, and one of a soft kind leaves it
  ended_true : (fine : Bool) (left : Option ℕ) (y : Content) → IsTrue y → IsTrue (content_after x (Ended fine left) y)
  ended_true fine left y t = grind (arith, and_or_self, has_more, first)

  asked_true : (o : Bool) (k : Call) (y : Content) → IsTrue y → IsTrue (content_after x (Asked o k) y)
  asked_true o k y t =
      elim (is_declined x.kind (tolerance_of x) k o y.phase) as (λ b. IsTrue (if b then record { phase = 36; value = y.value } else y))
      [ true ↦ λ e. absurd (apart (sym e)) | false ↦ t ]

  ran_true : (o : Bool) (made : Option ℕ) (y : Content) → IsTrue (content_after x (Ran o made) y)
  ran_true o made y = grind (arith, first, has_more, kept_lacks)

  lent_true : (o : Bool) (made : Option ℕ) (y : Content) → IsTrue y → IsTrue (content_after x (RanIfAsked o made) y)
  lent_true o made y t = elim (asks_to_lend x.kind (tolerance_of x) y.phase) as (λ b. IsTrue (if b then content_of_run x.kind o made y else y)) [ true ↦ ran_true o made y | false ↦ t ]

  -- what happens in a section keeps this
  effect_true : (chs : List Change) (y : Content) → IsTrue y → IsTrue (effect x chs y)
  effect_true [] y t = t
  effect_true (Ran o m ∷ chs) y t = ran_true o m (effect x chs y)
  effect_true (Asked o k ∷ chs) y t = asked_true o k (effect x chs y) (effect_true chs y t)
  effect_true (Put v ∷ chs) y t = λ e. refl
  effect_true (RanIfAsked o m ∷ chs) y t = lent_true o m (effect x chs y) (effect_true chs y t)
  effect_true (Ended fine left ∷ chs) y t = ended_true fine left (effect x chs y) (effect_true chs y t)

  -- and no value is lost where no finalizer ends
  effect_stays : (chs : List Change) (y : Content) → IsOfRun chs → HasValue y → HasValue (effect x chs y)
  effect_stays [] y r v = v
  effect_stays (Put w ∷ chs) y r v = refl
  effect_stays (Ran o (Some w) ∷ chs) y r v = refl
  effect_stays (Ran o None ∷ chs) y r v = effect_stays chs y r v
  effect_stays (ch ∷ chs) y r v = absurd r

  -- nor by a call that leaves nothing open
  asked_stays : (o : Bool) (k : Call) (y : Content) → HasValue y → HasValue (content_after x (Asked o k) y)
  asked_stays o k y v = elim (is_declined x.kind (tolerance_of x) k o y.phase) as (λ b. HasValue (if b then record { phase = 36; value = y.value } else y)) [ true ↦ v | false ↦ v ]

  -- nor by a finalizer of a primed kind, which leaves one where it takes it out of reach
  primed_left : (fine : Bool) (left : Option ℕ) (y : Content) → is_primed x.kind ≡ true → finishes_so x.kind fine left ≡ true → HasValue y → HasValue (content_after x (Ended fine left) y)
  primed_left fine left y p so v = grind arith

module _ (cells : List CellPlan) where
  back_true : (c : ℕ) (o : Option Back) (y : Content) → IsTrue (cell_at cells c) y → IsTrue (cell_at cells c) (content_after_back cells c o y)
  back_true c o y t = grind (arith, effect_true)

  -- so it is with what is published: where it may be accessed, it has a value
  pub accessed-value : (c : ℕ) (h : List Event) → IsTrue (cell_at cells c) (replay cells c h)
  accessed-value c [] = λ e. absurd (apart (sym e))
  accessed-value c (e ∷ h) = back_true c (back_of_step h e.step e.line.answer) (replay cells c h) (accessed-value c h)

  -- a plain kind has one where its phase has INITIALIZED
  pub plain-value : (h : List Event) (c : ℕ) → is_plain (cell_at cells c).kind ≡ true → has (phase_at cells c h) initialized ≡ true → HasValue (replay cells c h)
  plain-value h c q r = grind (arith, accessed-value, plain_soft)

  module _ (h : List Event) (p : ℕ) (legal : IsLegal cells h) where
    -- a primed kind keeps a value
    abbrev KeepsPrimed : ℕ → Content → Content → Type 0
    KeepsPrimed c y z = is_primed (cell_at cells c).kind ≡ true → HasValue y → HasValue z

    dropped_stays : (g : ℕ) (x : Guard) → numbered g (guards h) ≡ Some x → HasValue (replay cells x.cell h) → HasValue (effect (cell_at cells x.cell) x.changes (replay cells x.cell h))
    dropped_stays g x f v = effect_stays (cell_at cells x.cell) x.changes (replay cells x.cell h) (each_found (λ y. y.number == g) IsRunning (guards h) x f (guards-run h)) v

    keeps_primed : (d : Deed) (f : Finds cells h p d) → GivesOf cells h p (alone cells h legal) KeepsPrimed d f
    keeps_primed d f = grind (arith, effect_stays, primed_left, dropped_stays, asked_stays, lent_unprimed)

    -- ---- what the holder of a write guard sees

    abbrev Any : Content → Section → Type 0
    Any y s = Unit {0}

    abbrev Sees : Content → Guard → Type 0
    Sees y x = x.writes ≡ true → HasValue (effect (cell_at cells x.cell) x.changes y)

    new : (d : Deed) (f : Finds cells h p d) → NewOf cells h p (alone cells h legal) Any Any Sees Sees d f
    new d f = grind (arith, accessed-value)

    sees_after : (d : Deed) (f : Finds cells h p d) → AllByRecursion (λ x. Sees (replay cells x.cell h) x) (guards h)
        → AllByRecursion (λ x. Sees (left_at cells h p d x.cell) x) (guards_by (length h) p d (sections h) (guards h))
    sees_after d f k =
        guards_say cells h p (alone cells h legal) Any Any Sees Sees d f
        (record { section = λ s u. u; guard = λ x u. u; beside = λ y x e u w. absurd (apart (sym w ∙ e)); reads = λ y c w. absurd (cc); sets = λ v y x u w. refl; new = new d f })
        (each_of (λ s. Any (replay cells s.cell h) s) (sections h) (λ s. tt)) k

  -- a primed kind always has a value
  pub primed-value : (c : ℕ) (h : List Event) → IsLegal cells h → is_primed (cell_at cells c).kind ≡ true → HasValue (replay cells c h)
  primed-value c [] k q = ap (λ b. is_some (if b then Some (cell_at cells c).prime else None)) q
  primed-value c (e ∷ h) k q =
      moves cells h e.step.party (alone cells h k.2) (KeepsPrimed h e.step.party k.2) (deed_of h e.step e.line.answer) (finds cells h e.step e.line k.0) (λ z n r v. v)
      (keeps_primed h e.step.party k.2 (deed_of h e.step e.line.answer) (finds cells h e.step e.line k.0)) c q (primed-value c h k.2 q)

  -- each holder of a write guard sees a value
  all_see : (h : List Event) → IsLegal cells h → AllByRecursion (λ x. x.writes ≡ true → HasValue (effect (cell_at cells x.cell) x.changes (replay cells x.cell h))) (guards h)
  all_see [] k = tt
  all_see (e ∷ h) k = sees_after h e.step.party k.2 (deed_of h e.step e.line.answer) (finds cells h e.step e.line k.0) (all_see h k.2)

  -- ---- what the holder of a guard to read sees

  abbrev Reads : List Event → Guard → Type 0
  Reads h x = x.writes ≡ false → HasValue (replay cells x.cell h)

  module _ (h : List Event) (e : Event) (k : IsLegal cells (e ∷ h)) (rs : AllByRecursion (Reads h) (guards h)) where
    abbrev p : ℕ
    p = e.step.party

    -- what was open reads a value still
    still : AllByRecursion (Reads (e ∷ h)) (guards h)
    still =
        each_counted (λ x y. reads_cell x.cell y) (Reads h) (Reads (e ∷ h)) (guards h) (guards h) (λ x. omega arith)
        (λ x n r w. by x (untouched cells h e.step e.line.answer k.2 (deed_of h e.step e.line.answer) (finds cells h e.step e.line k.0) x.cell) (n (rw w (same_number x.cell x.cell refl))) (r w)) rs
      where
        by : (x : Guard) → (replay cells x.cell (e ∷ h) ≡ replay cells x.cell h) ⊎ (read_guards x.cell h ≡ 0) → 0 < read_guards x.cell h → HasValue (replay cells x.cell h) → HasValue (replay cells x.cell (e ∷ h))
        by x (inl same) n v = subst HasValue (sym same) v
        by x (inr none) n v = absurd (omega (arith, none, n))

    -- what is given back has a value
    given : (d : Deed) (b : Back) → deed_of h e.step e.line.answer ≡ d → back_by p d (sections h) (guards h) ≡ Some b → HasValue (effect (cell_at cells b.cell) b.changes (replay cells b.cell h))
        → HasValue (replay cells b.cell (e ∷ h))
    given d b is back v = grind (arith, back_here)

    -- and stays where nothing is
    stays : (d : Deed) (c : ℕ) → deed_of h e.step e.line.answer ≡ d → back_by p d (sections h) (guards h) ≡ None → HasValue (replay cells c h) → HasValue (replay cells c (e ∷ h))
    stays d c is none v = subst HasValue (sym (ap (λ z. content_after_back cells c (back_by p z (sections h) (guards h)) (replay cells c h)) is ∙ ap (λ o. content_after_back cells c o (replay cells c h)) none)) v

    -- each guard after the deed
    reads : (d : Deed) → deed_of h e.step e.line.answer ≡ d → Finds cells h p d → AllByRecursion (Reads (e ∷ h)) (guards_by (length h) p d (sections h) (guards h))
    reads (Visits c chs true) is f = ((λ w. primed-value c (e ∷ h) k (errs-primed cells h e c chs k is)), still)
    reads (EndsToRead v) is f =
        let here : HasValue (replay cells f.section.cell (e ∷ h)) =
        given (EndsToRead v) (record { cell = f.section.cell; changes = change_of (Makes (Some v)) f.section ∷ [] }) is (ap (back_of_section (Makes (Some v))) f.found) refl in
        subst (λ o. AllByRecursion (Reads (e ∷ h)) (reader_made (length h) p o (guards h))) (sym f.found) ((λ w. here), still)
    reads (DropsToRead g) is f =
        let here : HasValue (replay cells f.guard.cell (e ∷ h)) =
        given (DropsToRead g) (record { cell = f.guard.cell; changes = f.guard.changes }) is (ap back_of_guard f.found ∙ ap (λ b. if b then Some (record { cell = f.guard.cell; changes = f.guard.changes }) else None) f.way)
        (each_found (λ y. y.number == g) (λ x. x.writes ≡ true → HasValue (effect (cell_at cells x.cell) x.changes (replay cells x.cell h))) (guards h) f.guard f.found (all_see h k.2) f.way) in
        subst (λ o. AllByRecursion (Reads (e ∷ h)) (reader_beside (length h) p o (without_guard g (guards h)))) (sym f.found) ((λ w. here), each_removed (Reads (e ∷ h)) g (guards h) still)
    reads (Beside g) is f =
        let here : HasValue (replay cells f.guard.cell (e ∷ h)) = each_found (λ y. y.number == g) (Reads (e ∷ h)) (guards h) f.guard f.found still f.way in
        subst (λ o. AllByRecursion (Reads (e ∷ h)) (reader_beside (length h) p o (guards h))) (sym f.found) ((λ w. here), still)
    reads d x y = grind (arith, stays, accessed-value, still, each_removed, each_put)

  all_read : (h : List Event) → IsLegal cells h → AllByRecursion (Reads h) (guards h)
  all_read [] k = tt
  all_read (e ∷ h) k = reads h e k (all_read h k.2) (deed_of h e.step e.line.answer) refl (finds cells h e.step e.line k.0)

  -- what an open guard shows has a value
  pub shown-value : (h : List Event) (g : ℕ) (x : Guard) → IsLegal cells h → numbered g (guards h) ≡ Some x → is_some (if x.writes then inside cells h x else replay cells x.cell h).value ≡ true
  shown-value h g x legal f = grind (arith, guard-shows, each_found, all_see, all_read)

  -- ---- lines that show a value

  module _ (h : List Event) (p : ℕ) (legal : IsLegal cells h) where
    -- a step of the party that is answered by a value shows one that is there
    abbrev Showing : Act → Answer → Type 0
    Showing a (Answer.Value v) = ShowsValue cells h (step cells h p a) v
    Showing a _ = Unit {0}

    -- a value that is lent as it is
    found : (a : Act) (c : ℕ) → lends_at c a ≡ true → runs_to_lend cells h a ≡ false → Reach cells h p c true → Showing a (answer_of_value (replay cells c h))
    found a c is e f = inr (inr (inr (inl (record { cell = c; lends = is; unasked = e; reached = f; value = shown_so (replay cells c h).value (accessed-value c h f) }))))

    each : (a : Act) (r : Answer) → Case cells h p a r → Showing a r
    each _ _ (Case.shown a c k t q e) = inl (record { cell = c; call = k; tried = t.tried; reached = e; value = shown_so (replay cells c h).value (accessed-value c h e) })
    each _ _ (Case.made v t k g) = inr (inr (inl refl))
    each _ _ (Case.looked g x f) = inr (inl (record { number = g; guard = x; looks = refl; found = f; value = shown_so _ (shown-value h g x legal f) }))
    each _ _ (Case.lent_made c v left u e) = inr (inr (inr (inr (record { cell = c; left = left; acts = refl; asked = e }))))
    each _ _ (Case.lent_rested c made left u e f) = found (Act.GetMut c made left) c (same_number c c refl) e f
    each _ _ (Case.lent c left u f) = found (Act.TryGetMut c left) c (same_number c c refl) refl f
    each _ _ _ = tt

  -- a legal line that shows a value shows one that is there
  pub value-shown : (h : List Event) (s : Step) (l : Line) (v : ℕ) → IsLegal cells h → IsLegalLine cells h s l → l.answer ≡ Answer.Value v → ShowsValue cells h s v
  value-shown h s l v legal k e = subst (Showing h s.party legal s.act) e (of_legal cells h s l k (Showing h s.party legal) (λ a r. tt) (λ a r k n. each h s.party legal a r k))
