-- What a deed leaves: what is given back changes its own cell, what is published changes only where nothing holds the cell to
-- write afterwards, and what stands open keeps what is said of it.
use Rattle.schedule_rules.proofs.Words.{ℕ, arith, List, ◌≡◌, Bool, true, refl, Some, false, ◌∷◌, [], ◌∙◌, sym, ap, None, subst, ◌⊎◌, inl, ◌<◌, inr, length, ◌+◌, ◌≤◌, cond}
use Rattle.schedule_rules.proofs.Words.{AllByRecursion, ◌==◌, if◌then◌else◌, Option, Call, CellPlan, cell_at, Content, effect, Change, Asked, content_after, Ended, Deed, Makes}
use Rattle.schedule_rules.proofs.Words.{EndsToRead, Ends, Visits, Finishes, EndsToWrite, Opens, Lends, DropsToRead, Drops, Holds, Beside, Puts, Ending, Event, accepts, count}
use Rattle.schedule_rules.proofs.Words.{sections, Section, innermost, runs_in, without_innermost, sections_by, Guard, guards, numbered, without_guard, guards_by, reader_beside}
use Rattle.schedule_rules.proofs.Words.{reader, reader_made, writer_made, writer, carrier, replay, Back, back_by, back_of_section, content_after_back, change_of, back_of_guard}
use Rattle.schedule_rules.proofs.Words.{write_holds, writes_cell, IsExclusive}
use Rattle.schedule_rules.proofs.Facts.{whether, apart, same_number, at_least}
use Rattle.schedule_rules.proofs.Found.{each_counted, each_found, each_ended, each_removed, each_put}
use Rattle.schedule_rules.proofs.Opened.{put, count_ended, count_removed, writes_put}
use Rattle.schedule_rules.proofs.Exclusion.{no_writer_beside, no_run_left, no_run_beside, no_writer_left}
use Rattle.schedule_rules.proofs.Counts.{one_if}
use Rattle.schedule_rules.proofs.Cases.{Asking, Resting}
use Rattle.schedule_rules.proofs.Finds.{Visit, Finds}

module _ (cells : List CellPlan) (c : ℕ) (o : Option Back) (b : Back) (y : Content) where
  pub back_here : o ≡ Some b → (b.cell == c) ≡ true → content_after_back cells c o y ≡ effect (cell_at cells c) b.changes y
  back_here e same = rw e (rw same refl)

  pub back_elsewhere : o ≡ Some b → (b.cell == c) ≡ false → content_after_back cells c o y ≡ y
  back_elsewhere e other = rw e (rw other refl)

-- a call that leaves nothing open leaves the value
pub asked_value : (x : CellPlan) (o : Bool) (k : Call) (y : Content) → (content_after x (Asked o k) y).value ≡ y.value
asked_value x o k y = grind arith

module _ (cells : List CellPlan) (h : List Event) (p : ℕ) where
  -- what is published at the cell after the deed
  abbrev pub left_at : Deed → ℕ → Content
  left_at d c = content_after_back cells c (back_by p d (sections h) (guards h)) (replay cells c h)

  -- the sections and the guards after it
  abbrev pub sections_left : Deed → List Section
  sections_left d = sections_by h p d (sections h)

  abbrev pub guards_left : Deed → List Guard
  guards_left d = guards_by (length h) p d (sections h) (guards h)

  -- it gives a section of the cell back
  pub record GivenAt (d : Deed) (c : ℕ) : Type 0 where
    pub back : Back
    pub given : back_by p d (sections h) (guards h) ≡ Some back
    pub here : (back.cell == c) ≡ true

  -- what holds the cell to write after it
  abbrev pub holds_left : Deed → ℕ → ℕ
  holds_left d c = count (writes_cell c) (guards_left d) + count (runs_in c) (sections_left d)

  -- the deed leaves the cell as it was, or nothing holds it to write afterwards
  abbrev pub Settles : Deed → ℕ → Type 0
  Settles d c = (left_at d c ≡ replay cells c h) ⊎ ((count (runs_in c) (sections_left d) ≡ 0) × (count (writes_cell c) (guards_left d) ≡ 0))

  module _ (alone : (c : ℕ) → IsExclusive cells h c) where
    elsewhere : (d : Deed) (b : Back) (c : ℕ) → back_by p d (sections h) (guards h) ≡ Some b → (b.cell == c) ≡ false → left_at d c ≡ replay cells c h
    elsewhere d b c e other = ap (λ o. content_after_back cells c o (replay cells c h)) e ∙ ap (λ (x : Bool). if x then effect (cell_at cells c) b.changes (replay cells c h) else replay cells c h) other

    nowhere : (d : Deed) (c : ℕ) → back_by p d (sections h) (guards h) ≡ None → left_at d c ≡ replay cells c h
    nowhere d c e = ap (λ o. content_after_back cells c o (replay cells c h)) e

    -- one that gives back what held its cell
    gives : (d : Deed) (b : Back) (c : ℕ) → back_by p d (sections h) (guards h) ≡ Some b
        → (count (runs_in b.cell) (sections_left d) ≡ 0) × (count (writes_cell b.cell) (guards_left d) ≡ 0) → Settles d c
    gives d b c e none = grind (arith, whether, elsewhere)

    -- a guard that is taken off
    drops : (d : Deed) (g : ℕ) (x : Guard) (c : ℕ) → numbered g (guards h) ≡ Some x → back_by p d (sections h) (guards h) ≡ back_of_guard (numbered g (guards h))
        → sections_left d ≡ sections h → ((z : ℕ) → count (writes_cell z) (guards_left d) ≡ count (writes_cell z) (without_guard g (guards h))) → Settles d c
    drops d g x c f e stay less = by x.writes refl
      where
        is : back_by p d (sections h) (guards h) ≡ cond x.writes (Some (record { cell = x.cell; changes = x.changes })) None
        is = e ∙ ap back_of_guard f

        by : (b : Bool) → x.writes ≡ b → Settles d c
        by true w =
            gives d (record { cell = x.cell; changes = x.changes }) c (is ∙ ap (λ b. cond b (Some (record { cell = x.cell; changes = x.changes })) None) w)
            (ap (count (runs_in x.cell)) stay ∙ no_run_beside cells h alone g x f w, less x.cell ∙ no_writer_left cells h alone g x f w)
        by false w = inl (nowhere d c (is ∙ ap (λ b. cond b (Some (record { cell = x.cell; changes = x.changes })) None) w))

    -- a section that ends
    ends : (d : Deed) (i : Ending) (t : Section) (c : ℕ) → innermost p (sections h) ≡ Some t → back_by p d (sections h) (guards h) ≡ back_of_section i (innermost p (sections h))
        → sections_left d ≡ without_innermost p (sections h) → count (writes_cell t.cell) (guards_left d) ≡ count (writes_cell t.cell) (guards h) → Settles d c
    ends d i t c f e left same =
        gives d (record { cell = t.cell; changes = change_of i t ∷ [] }) c (e ∙ ap (back_of_section i) f)
        (ap (count (runs_in t.cell)) left ∙ no_run_left cells h alone p t f, same ∙ no_writer_beside cells h alone p t f)

    -- a call that leaves nothing open and is not declined
    pub rests : (c : ℕ) (chs : List Change) (k : _) → chs ≡ Asked (accepts h) k ∷ [] → Resting cells h p c k → effect (cell_at cells c) chs (replay cells c h) ≡ replay cells c h
    rests c chs k e r = grind arith

    rests_at : (c z : ℕ) (chs : List Change) (reads : Bool) → effect (cell_at cells c) chs (replay cells c h) ≡ replay cells c h → left_at (Visits c chs reads) z ≡ replay cells z h
    rests_at c z chs reads same = grind arith

    visits : (c z : ℕ) (chs : List Change) (reads : Bool) → Visit cells h p c chs reads → Settles (Visits c chs reads) z
    visits c z chs reads v = by v.finds
      where
        none_written : (r : Bool) → write_holds c h ≡ 0 → count (writes_cell c) (guards_left (Visits c chs r)) ≡ 0
        none_written r u = grind arith

        by : Asking cells h p c v.asked false ⊎ Resting cells h p c v.asked → Settles (Visits c chs reads) z
        by (inl q) = let u : _ = q.unheld (alone c) in gives (Visits c chs reads) (record { cell = c; changes = chs }) z refl (omega (arith, u), none_written reads u)
        by (inr r) = inl (rests_at c z chs reads (rests c chs v.asked v.does r))

    pub settles : (d : Deed) → Finds cells h p d → (c : ℕ) → Settles d c
    settles (Ends (Makes made)) f c = ends (Ends (Makes made)) (Makes made) f.section c f.found refl refl refl
    settles (Ends (Finishes fine left)) f c = ends (Ends (Finishes fine left)) (Finishes fine left) f.section c f.found refl refl refl
    settles (EndsToRead v) f c = ends (EndsToRead v) (Makes (Some v)) f.section c f.found refl refl (let e : _ = f.found in rw e refl)
    settles (Drops g) f c = drops (Drops g) g f.guard c f.found refl refl (λ z. refl)
    settles (DropsToRead g) f c = drops (DropsToRead g) g f.guard c f.found refl refl (λ z. let e : _ = f.found in rw e refl)
    settles d x c = grind (arith, visits, gives)

    -- ---- what holds a cell to write stays, or is given back

    abbrev pub Holding : Deed → ℕ → Type 0
    Holding d c = (write_holds c h ≤ holds_left d c) ⊎ GivenAt d c

    ends_hold : (d : Deed) (i : Ending) (t : Section) (c : ℕ) → innermost p (sections h) ≡ Some t → back_by p d (sections h) (guards h) ≡ back_of_section i (innermost p (sections h))
        → sections_left d ≡ without_innermost p (sections h) → count (writes_cell c) (guards_left d) ≡ count (writes_cell c) (guards h) → Holding d c
    ends_hold d i t c f e left same = by (t.cell == c) refl
      where
        by : (b : Bool) → (t.cell == c) ≡ b → Holding d c
        by true here = inr (record { back = record { cell = t.cell; changes = change_of i t ∷ [] }; given = e ∙ ap (back_of_section i) f; here = here })
        by false other =
            let none : one_if (t.cell == c) ≡ 0 = ap one_if other in
            let l : count (runs_in c) (sections_left d) ≡ count (runs_in c) (without_innermost p (sections h)) = ap (count (runs_in c)) left in
            inl (omega (arith, count_ended (runs_in c) p (sections h) t f, none, l, same))

    -- and a guard to write
    abbrev pub Writing : Deed → ℕ → Type 0
    Writing d c = (count (writes_cell c) (guards h) ≤ count (writes_cell c) (guards_left d)) ⊎ GivenAt d c

    drops_write : (d : Deed) (g : ℕ) (x : Guard) (c : ℕ) → numbered g (guards h) ≡ Some x → back_by p d (sections h) (guards h) ≡ back_of_guard (numbered g (guards h))
        → count (writes_cell c) (guards_left d) ≡ count (writes_cell c) (without_guard g (guards h)) → Writing d c
    drops_write d g x c f e less = by x.writes (x.cell == c) refl refl
      where
        left : one_if (writes_cell c x) ≡ 0 → Writing d c
        left none = let one : _ = count_removed (writes_cell c) g (guards h) x f in inl (omega (arith, one, none, less))

        by : (b z : Bool) → x.writes ≡ b → (x.cell == c) ≡ z → Writing d c
        by b z w here = grind (arith, left, one_if)

    pub writing : (d : Deed) → Finds cells h p d → (c : ℕ) → Writing d c
    writing d f c = grind (arith, at_least, drops_write, writes_put)

    -- where the sections stay
    stays_hold : (d : Deed) (c : ℕ) → count (runs_in c) (sections h) ≤ count (runs_in c) (sections_left d) → Writing d c → Holding d c
    stays_hold d c m x = grind arith

    goes_on : (v : ℕ) (t : Section) (c : ℕ) → innermost p (sections h) ≡ Some t → write_holds c h ≤ count (writes_cell c) (carrier (length h) p v t ∷ guards h) + count (runs_in c) (without_innermost p (sections h))
    goes_on v t c f = by (t.cell == c) (count_ended (runs_in c) p (sections h) t f)
      where
        by : (b : Bool) → count (runs_in c) (sections h) ≡ count (runs_in c) (without_innermost p (sections h)) + cond b 1 0
            → write_holds c h ≤ cond b (count (writes_cell c) (guards h) + 1) (count (writes_cell c) (guards h)) + count (runs_in c) (without_innermost p (sections h))
        by b one = grind arith

    pub holding : (d : Deed) → Finds cells h p d → (c : ℕ) → Holding d c
    holding (Ends (Makes made)) f c = ends_hold (Ends (Makes made)) (Makes made) f.section c f.found refl refl refl
    holding (Ends (Finishes fine left)) f c = ends_hold (Ends (Finishes fine left)) (Finishes fine left) f.section c f.found refl refl refl
    holding (EndsToRead v) f c = ends_hold (EndsToRead v) (Makes (Some v)) f.section c f.found refl refl (let e : _ = f.found in rw e refl)
    holding (EndsToWrite v) f c = inl (let e : _ = f.found in rw e (goes_on v f.section c e))
    holding (Opens z w taken) f c = stays_hold (Opens z w taken) c (at_least (z == c) (count (runs_in c) (sections h))) (writing (Opens z w taken) f c)
    holding d f c = stays_hold d c (omega arith) (writing d f c)

    -- ---- what is published

    module _ (R : ℕ → Content → Content → Type 0) where
      -- what is said of a cell of which the deed gives a section back
      abbrev pub GivesOf : (d : Deed) → Finds cells h p d → Type 0
      GivesOf (Ends (Makes made)) f = R f.section.cell (replay cells f.section.cell h) (effect (cell_at cells f.section.cell) (change_of (Makes made) f.section ∷ []) (replay cells f.section.cell h))
      GivesOf (Ends (Finishes fine left)) f = R f.section.cell (replay cells f.section.cell h) (effect (cell_at cells f.section.cell) (Ended fine left ∷ []) (replay cells f.section.cell h))
      GivesOf (EndsToRead v) f = R f.section.cell (replay cells f.section.cell h) (effect (cell_at cells f.section.cell) (change_of (Makes (Some v)) f.section ∷ []) (replay cells f.section.cell h))
      GivesOf (Drops g) f = f.guard.writes ≡ true → R f.guard.cell (replay cells f.guard.cell h) (effect (cell_at cells f.guard.cell) f.guard.changes (replay cells f.guard.cell h))
      GivesOf (DropsToRead g) f = R f.guard.cell (replay cells f.guard.cell h) (effect (cell_at cells f.guard.cell) f.guard.changes (replay cells f.guard.cell h))
      GivesOf (Visits c chs reads) f = R c (replay cells c h) (effect (cell_at cells c) chs (replay cells c h))
      GivesOf (Lends c chs) f = R c (replay cells c h) (effect (cell_at cells c) chs (replay cells c h))
      GivesOf _ f = Unit {0}

      module _ (d : Deed) (same : (c : ℕ) → (GivenAt d c → ⊥) → R c (replay cells c h) (replay cells c h)) where
        stays : (c : ℕ) → (GivenAt d c → ⊥) → left_at d c ≡ replay cells c h → R c (replay cells c h) (left_at d c)
        stays c n e = subst (R c (replay cells c h)) (sym e) (same c n)

        back : (b : Back) (c : ℕ) → back_by p d (sections h) (guards h) ≡ Some b → R b.cell (replay cells b.cell h) (effect (cell_at cells b.cell) b.changes (replay cells b.cell h)) → R c (replay cells c h) (left_at d c)
        back b c e r = by (b.cell == c) refl
          where
            at_back : (g : GivenAt d c) → b.cell ≡ g.back.cell
            at_back g = grind arith

            by : (x : Bool) → (b.cell == c) ≡ x → R c (replay cells c h) (left_at d c)
            by false other = stays c (λ g. apart (sym g.here ∙ ap (λ z. z == c) (sym (at_back g)) ∙ other)) (elsewhere d b c e other)
            by true here =
                let at : b.cell ≡ c = grind arith in
                let is : left_at d c ≡ effect (cell_at cells c) b.changes (replay cells c h) = back_here cells c (back_by p d (sections h) (guards h)) b (replay cells c h) e here in
                subst (R c (replay cells c h)) (sym is) (subst (λ z. R z (replay cells z h) (effect (cell_at cells z) b.changes (replay cells z h))) at r)

      -- so it is of each cell, where it is said of those of which nothing is given back
      pub moves : (d : Deed) (f : Finds cells h p d) → ((c : ℕ) → (GivenAt d c → ⊥) → R c (replay cells c h) (replay cells c h)) → GivesOf d f → (c : ℕ) → R c (replay cells c h) (left_at d c)
      moves (Ends (Makes made)) f same r c = back (Ends (Makes made)) same (record { cell = f.section.cell; changes = change_of (Makes made) f.section ∷ [] }) c (ap (back_of_section (Makes made)) f.found) r
      moves (EndsToRead v) f same r c = back (EndsToRead v) same (record { cell = f.section.cell; changes = change_of (Makes (Some v)) f.section ∷ [] }) c (ap (back_of_section (Makes (Some v))) f.found) r
      moves (Visits z chs reads) f same r c = back (Visits z chs reads) same (record { cell = z; changes = chs }) c refl r
      moves d f x y c = grind arith

    -- ---- what is said of what stands open, by what is published at its cell

    module _ (P R : Content → Section → Type 0) (Q S : Content → Guard → Type 0) where
      -- what is said of what the deed opens
      abbrev pub NewOf : (d : Deed) → Finds cells h p d → Type 0
      NewOf (Opens c w taken) f = R (replay cells c h) (record { party = p; cell = c; want = w; start = length h; is_open = accepts h })
      NewOf (Holds c true) f = S (replay cells c h) (writer (length h) p c)
      NewOf (EndsToWrite v) f = P (replay cells f.section.cell h) f.section → S (replay cells f.section.cell h) (carrier (length h) p v f.section)
      NewOf _ f = Unit {0}

      -- what is said of a section and a guard, is said after the deed where the cell stays as it was. Of one to read it is
      -- said whatever the cell holds
      pub record Says (d : Deed) (f : Finds cells h p d) : Type 0 where
        pub section : (s : Section) → P (replay cells s.cell h) s → R (replay cells s.cell h) s
        pub guard : (x : Guard) → Q (replay cells x.cell h) x → S (replay cells x.cell h) x
        pub beside : (y : Content) (x : Guard) → x.writes ≡ false → Q (replay cells x.cell h) x → S y x
        pub reads : (y : Content) (c : ℕ) → S y (reader (length h) p c)
        pub sets : (v : ℕ) (y : Content) (x : Guard) → S y x → S y (put v x)
        pub new : NewOf d f

      module _ (d : Deed) (f : Finds cells h p d) (k : Says d f) where
        -- the sections that were open
        old_sections : (ss : List Section) → ((c : ℕ) → count (runs_in c) ss ≤ count (runs_in c) (sections_left d)) → AllByRecursion (λ s. P (replay cells s.cell h) s) ss
            → AllByRecursion (λ s. R (left_at d s.cell) s) ss
        old_sections ss le ps =
            each_counted (λ x s. runs_in x.cell s) (λ s. P (replay cells s.cell h) s) (λ s. R (left_at d s.cell) s) (sections_left d) ss (λ x. le x.cell) (λ s n q. by s (n (same_number s.cell s.cell refl)) q (settles d f s.cell)) ps
          where
            by : (s : Section) → 0 < count (runs_in s.cell) (sections_left d) → P (replay cells s.cell h) s → Settles d s.cell → R (left_at d s.cell) s
            by s n q (inl same) = subst (λ y. R y s) (sym same) (k.section s q)
            by s n q (inr none) = let z : _ = none.0 in absurd (omega (arith, n, z))

        -- and the guards
        old_guards : (gs : List Guard) → ((c : ℕ) → count (writes_cell c) gs ≤ count (writes_cell c) (guards_left d)) → AllByRecursion (λ x. Q (replay cells x.cell h) x) gs
            → AllByRecursion (λ x. S (left_at d x.cell) x) gs
        old_guards gs le ps =
            each_counted (λ x y. writes_cell x.cell y) (λ x. Q (replay cells x.cell h) x) (λ x. S (left_at d x.cell) x) (guards_left d) gs (λ x. le x.cell) (λ x n q. by x x.writes refl n q) ps
          where
            at : (x : Guard) → 0 < count (writes_cell x.cell) (guards_left d) → Q (replay cells x.cell h) x → Settles d x.cell → S (left_at d x.cell) x
            at x n q (inl same) = subst (λ y. S y x) (sym same) (k.guard x q)
            at x n q (inr none) = let z : _ = none.1 in absurd (omega (arith, n, z))

            by : (x : Guard) (b : Bool) → x.writes ≡ b → (writes_cell x.cell x ≡ true → 0 < count (writes_cell x.cell) (guards_left d)) → Q (replay cells x.cell h) x → S (left_at d x.cell) x
            by x false w n q = k.beside (left_at d x.cell) x w q
            by x true w n q = at x (n (rw w (same_number x.cell x.cell refl))) q (settles d f x.cell)

      still : (n : ℕ) → n ≤ n
      still n = omega arith

      -- each section after the deed
      pub sections_say : (d : Deed) (f : Finds cells h p d) → Says d f → AllByRecursion (λ s. P (replay cells s.cell h) s) (sections h) → AllByRecursion (λ s. R (left_at d s.cell) s) (sections_left d)
      sections_say (Opens c w taken) f k ps = (k.new, old_sections (Opens c w taken) f k (sections h) (λ z. at_least (c == z) (count (runs_in z) (sections h))) ps)
      sections_say (Ends e) f k ps = old_sections (Ends e) f k (without_innermost p (sections h)) (λ z. still _) (each_ended (λ s. P (replay cells s.cell h) s) p (sections h) ps)
      sections_say (EndsToRead v) f k ps = old_sections (EndsToRead v) f k (without_innermost p (sections h)) (λ z. still _) (each_ended (λ s. P (replay cells s.cell h) s) p (sections h) ps)
      sections_say (EndsToWrite v) f k ps = old_sections (EndsToWrite v) f k (without_innermost p (sections h)) (λ z. still _) (each_ended (λ s. P (replay cells s.cell h) s) p (sections h) ps)
      sections_say d f k ps = old_sections d f k (sections h) (λ z. still _) ps

      -- each guard after it, where the sections before it are these
      pub guards_say : (d : Deed) (f : Finds cells h p d) → Says d f → AllByRecursion (λ s. P (replay cells s.cell h) s) (sections h) → AllByRecursion (λ x. Q (replay cells x.cell h) x) (guards h)
          → AllByRecursion (λ x. S (left_at d x.cell) x) (guards_left d)
      guards_say (Holds c false) f k ss gs = (k.reads _ c, old_guards (Holds c false) f k (guards h) (λ z. still _) gs)
      guards_say (Holds c true) f k ss gs = (k.new, old_guards (Holds c true) f k (guards h) (λ z. at_least (c == z) (count (writes_cell z) (guards h))) gs)
      guards_say (Visits c chs true) f k ss gs = (k.reads _ c, old_guards (Visits c chs true) f k (guards h) (λ z. still _) gs)
      guards_say (Visits c chs false) f k ss gs = old_guards (Visits c chs false) f k (guards h) (λ z. still _) gs
      guards_say (EndsToRead v) f k ss gs =
          let e : _ = f.found in
          subst (λ o. AllByRecursion (λ x. S (left_at (EndsToRead v) x.cell) x) (reader_made (length h) p o (guards h))) (sym e)
          (k.reads _ f.section.cell, old_guards (EndsToRead v) f k (guards h) (λ z. rw e (still _)) gs)
      guards_say (EndsToWrite v) f k ss gs =
          let e : _ = f.found in
          subst (λ o. AllByRecursion (λ x. S (left_at (EndsToWrite v) x.cell) x) (writer_made (length h) p v o (guards h))) (sym e) (
            k.new (each_found (λ s. s.party == p) (λ s. P (replay cells s.cell h) s) (sections h) f.section e ss),
            old_guards (EndsToWrite v) f k (guards h) (λ z. rw e (at_least (f.section.cell == z) (count (writes_cell z) (guards h)))) gs,
          )
      guards_say (Drops g) f k ss gs = old_guards (Drops g) f k (without_guard g (guards h)) (λ z. still _) (each_removed (λ x. Q (replay cells x.cell h) x) g (guards h) gs)
      guards_say (DropsToRead g) f k ss gs =
          let e : _ = f.found in
          subst (λ o. AllByRecursion (λ x. S (left_at (DropsToRead g) x.cell) x) (reader_beside (length h) p o (without_guard g (guards h)))) (sym e)
          (k.reads _ f.guard.cell, old_guards (DropsToRead g) f k (without_guard g (guards h)) (λ z. rw e (still _)) (each_removed (λ x. Q (replay cells x.cell h) x) g (guards h) gs))
      guards_say (Beside g) f k ss gs =
          let e : _ = f.found in
          subst (λ o. AllByRecursion (λ x. S (left_at (Beside g) x.cell) x) (reader_beside (length h) p o (guards h))) (sym e)
          (k.reads _ f.guard.cell, old_guards (Beside g) f k (guards h) (λ z. rw e (still _)) gs)
      guards_say (Puts g v) f k ss gs =
          each_put (λ x. S (left_at (Puts g v) x.cell) x) g v (guards h) (λ x s. k.sets v _ x s)
          (old_guards (Puts g v) f k (guards h) (λ z. let s : _ = writes_put z g v (guards h) in omega (arith, s)) gs)
      guards_say d f k ss gs = old_guards d f k (guards h) (λ z. still _) gs
