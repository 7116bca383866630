-- A phase that is not empty tells whether its cell is registered: which flags tell it, what runs and finalizers leave of them,
-- and that it is so in legal histories.
use Rattle.schedule_rules.proofs.Words.{ℕ, arith, List, ◌≡◌, Bool, true, refl, Some, false, ◌∷◌, [], ◌∙◌, sym, ap, None, subst, ◌⊎◌, inl, ◌&&◌, inr, ◌≢◌, not, ◌||◌, and_or_apart}
use Rattle.schedule_rules.proofs.Words.{and_assoc, bit_or, bit_and, AllByRecursion, ◌==◌, if◌then◌else◌, Option, has, initialized, is_known, registration, is_finalizable, Call}
use Rattle.schedule_rules.proofs.Words.{CellPlan, Calls, Turns, cell_at, tolerance_at, tolerance_of, runs_generator, flags_kept, tries_registration, asks, Content, effect, Change}
use Rattle.schedule_rules.proofs.Words.{Ran, content_after, Ended, is_declined, Deed, Makes, EndsToRead, Ends, Visits, Finishes, EndsToWrite, Opens, DropsToRead, Drops, Skips}
use Rattle.schedule_rules.proofs.Words.{Event, deed_of, accepts, sections, Section, is_turn, runs_in, Guard, guards, numbered, replay, phase_at, registry, registry_by, write_holds}
use Rattle.schedule_rules.proofs.Words.{writes_cell, IsLegal, TellsRegistration}
use Rattle.schedule_rules.proofs.Facts.{apart}
use Rattle.schedule_rules.proofs.Exclusion.{alone}
use Rattle.schedule_rules.proofs.Found.{each_none, each_found}
use Rattle.schedule_rules.proofs.Cases.{Asking, Resting}
use Rattle.schedule_rules.proofs.Steps.{lent_unregistered}
use Rattle.schedule_rules.proofs.Finds.{Inside, Finishing, Visit, accessed_there, Finds, finds}
use Rattle.schedule_rules.proofs.Leaves.{left_at, sections_left, guards_left, NewOf, Says, sections_say, guards_say, GivesOf, moves, rests}
use Rattle.schedule_rules.proofs.Registered.{known_taken, fresh-unknown}
use Rattle.schedule_rules.proofs.Registrations.{registering}
use Rattle.schedule_rules.proofs.Held.{has_none}
use Rattle.schedule_rules.proofs.Finishing.{needs-value}
use Rattle.schedule_rules.proofs.Grows.{IsStanding, sound}

-- other flags tell nothing
pub told_more : (b : Bool) (p m : ℕ) → bit_and m 8 ≡ 0 → bit_and m 32 ≡ 0 → TellsRegistration b p → TellsRegistration b (bit_or p m)
told_more b p m e f t = grind (arith, and_or_apart)

-- what a registration sets tells whether it came in time
told_now : (o b : Bool) → o ≡ b → TellsRegistration b (registration o)
told_now o b e = grind arith

-- the flags that stay beside those of a run tell it too
told_kept : (x : CellPlan) (o b : Bool) (p : ℕ) → is_finalizable x.kind ≡ true → (p ≡ 0 → o ≡ b) → (p ≢ 0 → TellsRegistration b p) → TellsRegistration b (flags_kept x.kind o p)
told_kept x o b p is now before = grind (arith, and_assoc, told_now)

-- so does the phase after the run
pub told_run : (x : CellPlan) (o b : Bool) (m : Option ℕ) (y : Content) → is_finalizable x.kind ≡ true → (y.phase ≡ 0 → o ≡ b) → (y.phase ≢ 0 → TellsRegistration b y.phase)
    → TellsRegistration b (content_after x (Ran o m) y).phase
told_run x o b (Some v) y is now before = told_more b (flags_kept x.kind o y.phase) 1 refl refl (told_kept x o b y.phase is now before)
told_run x o b None y is now before = told_more b (flags_kept x.kind o y.phase) 6 refl refl (told_kept x o b y.phase is now before)

-- and after a finalizer
pub told_ended : (x : CellPlan) (b fine : Bool) (left : Option ℕ) (y : Content) → TellsRegistration b y.phase → TellsRegistration b (content_after x (Ended fine left) y).phase
told_ended x b true left y t = told_more b y.phase 64 refl refl t
told_ended x b false left y t = told_more b y.phase 128 refl refl t

-- what is declined is not registered
pub told_declined : (x : CellPlan) (o b : Bool) (p : ℕ) → is_finalizable x.kind ≡ true → runs_generator x.kind (tolerance_of x) o p ≡ false → (p ≡ 0 → b ≡ false) → (p ≢ 0 → TellsRegistration b p) → b ≡ false
told_declined x o b p is declines now before = by (p == 0) refl
  where
    neither : (d e : Bool) → (d || e) ≡ false → d ≡ false
    neither false e f = refl
    neither true e f = absurd (apart f)

    kept : (p ≡ 0 → ⊥) → b ≡ false
    kept ne =
        let t : TellsRegistration b (flags_kept x.kind o p) = told_kept x o b p is (λ z. absurd (ne z)) before in
        sym t.taken ∙ neither (has (flags_kept x.kind o p) 8) x.leak (sym (ap (λ (d : Bool). if d then has (flags_kept x.kind o p) 8 || x.leak else true) is) ∙ declines)

    by : (d : Bool) → (p == 0) ≡ d → b ≡ false
    by d e = grind (arith, kept)

or_none : (b : Bool) → (b || false) ≡ b
or_none b = grind arith

not_empty : (p : ℕ) → p ≢ 0 → (p == 0) ≡ false
not_empty p ne = grind arith

module _ (cells : List CellPlan) (c : ℕ) (kind : is_finalizable (cell_at cells c).kind ≡ true) where
  -- where this is known of the cell, and it holds this: a generator that runs in it registered it or not
  abbrev Begun : Bool → Content → Section → Type 0
  Begun b y s = runs_in c s ≡ true → is_turn s.want ≡ false → y.phase ≡ 0 → s.is_open ≡ b

  -- the holder of a guard that writes it sees whether it is registered
  abbrev Seen : Bool → Content → Guard → Type 0
  Seen b y x = writes_cell c x ≡ true → TellsRegistration b (effect (cell_at cells x.cell) x.changes y).phase

  -- the cell is known to the registry
  abbrev knows : List Event → Bool
  knows h = is_known (registry cells h) c

  -- where this is known of the cell, what it and what is open tell of it
  record Tell (b : Bool) (content : ℕ → Content) (ss : List Section) (gs : List Guard) : Type 0 where
    pub phase : (content c).phase ≢ 0 → TellsRegistration b (content c).phase
    pub begun : AllByRecursion (λ s. Begun b (content s.cell) s) ss
    pub seen : AllByRecursion (λ x. Seen b (content x.cell) x) gs

  abbrev IsTold : List Event → Type 0
  IsTold h = Tell (knows h) (λ z. replay cells z h) (sections h) (guards h)

  module _ (h : List Event) (p : ℕ) (legal : IsLegal cells h) (k : IsTold h) where
    -- so it is after a deed
    abbrev ToldBy : Bool → Deed → Type 0
    ToldBy b d = Tell b (left_at cells h p d) (sections_left cells h p d) (guards_left cells h p d)

    -- the cell of a section is this one
    at : (d : ℕ) → (d == c) ≡ true → c ≡ d
    at d same = grind arith

    kind_at : (d : ℕ) → (d == c) ≡ true → is_finalizable (cell_at cells d).kind ≡ true
    kind_at d same = subst (λ z. is_finalizable (cell_at cells z).kind ≡ true) (at d same) kind

    phase_tells : (d : ℕ) → (d == c) ≡ true → phase_at cells d h ≢ 0 → TellsRegistration (knows h) (phase_at cells d h)
    phase_tells d same = subst (λ z. phase_at cells z h ≢ 0 → TellsRegistration (knows h) (phase_at cells z h)) (at d same) k.phase

    -- a generator's section tells what it registered
    ran : (t : Section) (m : _) → is_turn t.want ≡ false → (t.cell == c) ≡ true → Begun (knows h) (replay cells t.cell h) t → TellsRegistration (knows h) (effect (cell_at cells t.cell) (Ran t.is_open m ∷ []) (replay cells t.cell h)).phase
    ran t m d same begun = told_run (cell_at cells t.cell) t.is_open (knows h) m (replay cells t.cell h) (kind_at t.cell same) (λ empty. begun same d empty) (phase_tells t.cell same)

    -- ---- a deed that opens no generator's section of the cell

    abbrev IsOther : Deed → Type 0
    IsOther (Opens d (Calls j) taken) = (d == c) ≡ false
    IsOther _ = Unit {0}

    new : (d : Deed) (f : Finds cells h p d) → IsOther d → NewOf cells h p (alone cells h legal) (Begun (knows h)) (Begun (knows h)) (Seen (knows h)) (Seen (knows h)) d f
    new (EndsToWrite v) f other = λ begun same. ran f.section (Some v) f.kind same begun
    new d f x = grind (arith, phase_tells, has_none, accessed_there)

    says : (d : Deed) (f : Finds cells h p d) → IsOther d → Says cells h p (alone cells h legal) (Begun (knows h)) (Begun (knows h)) (Seen (knows h)) (Seen (knows h)) d f
    says d f other = grind (arith, new)

    -- what is given back tells it
    abbrev Told : ℕ → Content → Content → Type 0
    Told z y w = (z == c) ≡ true → w.phase ≢ 0 → TellsRegistration (knows h) w.phase

    begun_of : (f : Inside cells h p false) → Begun (knows h) (replay cells f.section.cell h) f.section
    begun_of f = each_found (λ s. s.party == p) (λ s. Begun (knows h) (replay cells s.cell h) s) (sections h) f.section f.found k.begun

    finished : (fine : Bool) (left : Option ℕ) (f : Finishing cells h p fine left) → (f.section.cell == c) ≡ true → TellsRegistration (knows h) (effect (cell_at cells f.section.cell) (Ended fine left ∷ []) (replay cells f.section.cell h)).phase
    finished fine left f same =
        let t : Section = f.section in
        let value : has (phase_at cells t.cell h) initialized ≡ true =
        needs-value t.want (cell_at cells t.cell) (phase_at cells t.cell h) f.kind (each_found (λ s. s.party == p) (IsStanding cells h) (sections h) t f.found (sound cells h legal).standing) in
        told_ended (cell_at cells t.cell) (knows h) fine left (replay cells t.cell h) (phase_tells t.cell same (has_none (phase_at cells t.cell h) value))

    dropped : (g : ℕ) (x : Guard) → numbered g (guards h) ≡ Some x → x.writes ≡ true → (x.cell == c) ≡ true → TellsRegistration (knows h) (effect (cell_at cells x.cell) x.changes (replay cells x.cell h)).phase
    dropped g x f w same = each_found (λ y. y.number == g) (λ y. Seen (knows h) (replay cells y.cell h) y) (guards h) x f k.seen (rw w same)

    -- a call that is declined finds a cell that is not known
    visits : (d : ℕ) (chs : List Change) (reads : Bool) → Visit cells h p d chs reads → Told d (replay cells d h) (effect (cell_at cells d) chs (replay cells d h))
    visits d chs reads v same ne = by v.finds
      where
        refused : (b : Bool) → b ≡ false → TellsRegistration b 36
        refused false e = record { taken = refl; refused = refl }
        refused true e = absurd (apart e)

        by : Asking cells h p d v.asked false ⊎ Resting cells h p d v.asked → TellsRegistration (knows h) (effect (cell_at cells d) chs (replay cells d h)).phase
        by (inr q) =
            let is : _ = rests cells h p (alone cells h legal) d chs v.asked v.does q in
            subst (λ y. TellsRegistration (knows h) y.phase) (sym is) (phase_tells d same (subst (λ y. y.phase ≢ 0) is ne))
        by (inl q) =
            let declined : is_declined (cell_at cells d).kind (tolerance_at cells d) v.asked (accepts h) (phase_at cells d h) ≡ true = rw q.asked (ap not q.generates) in
            let is : effect (cell_at cells d) chs (replay cells d h) ≡ record { phase = 36; value = (replay cells d h).value } =
            ap (λ l. effect (cell_at cells d) l (replay cells d h)) v.does ∙ ap (λ (b : Bool). if b then record { phase = 36; value = (replay cells d h).value } else replay cells d h) declined in
            let unknown : knows h ≡ false =
            told_declined (cell_at cells d) (accepts h) (knows h) (phase_at cells d h) (kind_at d same) q.generates
            (λ empty. subst (λ z. is_known (registry cells h) z ≡ false) (sym (at d same)) (fresh-unknown cells h d legal empty (q.unheld (alone cells h legal d)))) (phase_tells d same) in
            subst (λ y. TellsRegistration (knows h) y.phase) (sym is) (refused (knows h) unknown)

    gives : (d : Deed) (f : Finds cells h p d) → GivesOf cells h p (alone cells h legal) Told d f
    gives (Ends (Makes made)) f = λ same ne. ran f.section made f.kind same (begun_of f)
    gives (Ends (Finishes fine left)) f = λ same ne. finished fine left f same
    gives (EndsToRead v) f = λ same ne. ran f.section (Some v) f.kind same (begun_of f)
    gives (Drops g) f = λ w same ne. dropped g f.guard f.found w same
    gives (DropsToRead g) f = λ same ne. dropped g f.guard f.found f.way same
    gives (Visits d chs reads) f = visits d chs reads f
    gives d f = grind (arith, kind_at, lent_unregistered)

    others : (d : Deed) (f : Finds cells h p d) → IsOther d → ToldBy (knows h) d
    others d f other = record {
      phase = moves cells h p (alone cells h legal) Told d f (λ z n same. phase_tells z same) (gives d f) c (grind arith);
      begun = sections_say cells h p (alone cells h legal) (Begun (knows h)) (Begun (knows h)) (Seen (knows h)) (Seen (knows h)) d f (says d f other) k.begun;
      seen = guards_say cells h p (alone cells h legal) (Begun (knows h)) (Begun (knows h)) (Seen (knows h)) (Seen (knows h)) d f (says d f other) k.begun k.seen;
    }

    -- ---- one that opens a generator's section of the cell: nothing else holds it to write

    module _ (d : ℕ) (j : Call) (taken : Bool) (q : Asking cells h p d j true) (same : (d == c) ≡ true) where
      abbrev knows_now : Bool
      knows_now = is_known (registry_by cells h (Opens d (Calls j) taken) (registry cells h)) c

      none : write_holds c h ≡ 0
      none = subst (λ z. write_holds z h ≡ 0) (sym (at d same)) (q.unheld (alone cells h legal d))

      known : knows_now ≡ (knows h || ((phase_at cells c h == 0) && accepts h))
      known =
          registering cells c h p legal (Opens d (Calls j) taken) q
          ∙ ap (λ b. knows h || ((b && (asks (cell_at cells d).kind (tolerance_at cells d) (Calls j) (phase_at cells d h) && tries_registration (cell_at cells d).kind (phase_at cells d h))) && accepts h)) same
          ∙ ap (λ b. knows h || ((true && (b && tries_registration (cell_at cells d).kind (phase_at cells d h))) && accepts h)) q.asked
          ∙ ap (λ z. knows h || (tries_registration (cell_at cells z).kind (phase_at cells z h) && accepts h)) (sym (at d same))
          ∙ ap (λ b. knows h || ((b && (phase_at cells c h == 0)) && accepts h)) kind

      stays : phase_at cells c h ≢ 0 → knows_now ≡ knows h
      stays ne = known ∙ ap (λ b. knows h || (b && accepts h)) (not_empty (phase_at cells c h) ne) ∙ or_none (knows h)

      now : phase_at cells c h ≡ 0 → knows_now ≡ accepts h
      now empty = known ∙ ap (λ z. knows h || ((z == 0) && accepts h)) empty ∙ ap (λ b. b || accepts h) (fresh-unknown cells h c legal empty none)

      here : ToldBy knows_now (Opens d (Calls j) taken)
      here = record {
        phase = λ ne. subst (λ b. TellsRegistration b (phase_at cells c h)) (sym (stays ne)) (k.phase ne);
        begun = (
          λ is n empty. sym (now (subst (λ z. phase_at cells z h ≡ 0) (sym (at d same)) empty)),
          each_none (runs_in c) (λ s. Begun knows_now (replay cells s.cell h) s) (sections h) (omega (arith, none)) (λ s f is. absurd (apart (sym is ∙ f))),
        );
        seen = each_none (writes_cell c) (λ x. Seen knows_now (replay cells x.cell h) x) (guards h) (omega (arith, none)) (λ x f is. absurd (apart (sym is ∙ f)));
      }

    opens : (d : ℕ) (j : Call) (taken : Bool) → Asking cells h p d j true → ToldBy (is_known (registry_by cells h (Opens d (Calls j) taken) (registry cells h)) c) (Opens d (Calls j) taken)
    opens d j taken q = by (d == c) refl
      where
        by : (b : Bool) → (d == c) ≡ b → ToldBy (is_known (registry_by cells h (Opens d (Calls j) taken) (registry cells h)) c) (Opens d (Calls j) taken)
        by true same = here d j taken q same
        by false other =
            let known : is_known (registry_by cells h (Opens d (Calls j) taken) (registry cells h)) c ≡ knows h =
            registering cells c h p legal (Opens d (Calls j) taken) q ∙ ap (λ b. knows h || ((b && (asks (cell_at cells d).kind (tolerance_at cells d) (Calls j) (phase_at cells d h) && tries_registration (cell_at cells d).kind (phase_at cells d h))) && accepts h)) other ∙ or_none (knows h) in
            subst (λ b. ToldBy b (Opens d (Calls j) taken)) (sym known) (others (Opens d (Calls j) taken) q other)

    told-after : (d : Deed) → Finds cells h p d → ToldBy (is_known (registry_by cells h d (registry cells h)) c) d
    told-after (Opens d (Calls j) taken) f = opens d j taken f
    told-after (Opens d Turns taken) f = subst (λ b. ToldBy b (Opens d Turns taken)) (sym (known_taken taken (registry cells h) c)) (others (Opens d Turns taken) f tt)
    told-after (Skips d taken) f = subst (λ b. ToldBy b (Skips d taken)) (sym (known_taken taken (registry cells h) c)) (others (Skips d taken) f tt)
    told-after d f = others d f tt

  -- in a legal history a phase that is not empty tells whether the cell is registered
  told : (h : List Event) → IsLegal cells h → IsTold h
  told [] k = record { phase = λ ne. absurd (ne refl); begun = tt; seen = tt }
  told (e ∷ h) k = told-after h e.step.party k.2 (told h k.2) (deed_of h e.step e.line.answer) (finds cells h e.step e.line k.0)

-- so it does of each cell of a kind that is registered
pub phase-tells : (cells : List CellPlan) (h : List Event) (c : ℕ) → IsLegal cells h → is_finalizable (cell_at cells c).kind ≡ true → phase_at cells c h ≢ 0
    → TellsRegistration (is_known (registry cells h) c) (phase_at cells c h)
phase-tells cells h c k kind = (told cells c kind h k).phase
