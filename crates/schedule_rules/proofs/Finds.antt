-- What a legal step finds, deed by deed.
use Rattle.schedule_rules.proofs.Words.{ℕ, arith, List, ◌≡◌, Bool, true, refl, Some, false, ◌∷◌, [], ◌∙◌, sym, ap, None, subst, ◌⊎◌, inl, inr, if◌then◌else◌, Option, has}
use Rattle.schedule_rules.proofs.Words.{initialized, Phase, Call, Answer, Line, CellPlan, Act, Step, Calls, Turns, cell_at, is_accessible, finishes_so, effect, Change, Ran, Asked}
use Rattle.schedule_rules.proofs.Words.{Put, content_after, RanIfAsked, content_of_run, Deed, Makes, EndsToRead, Ends, Visits, Finishes, EndsToWrite, Opens, deed_waiting, Lends}
use Rattle.schedule_rules.proofs.Words.{DropsToRead, Drops, deed_by, Skips, Holds, Beside, Takes, Looks, Puts, Quiet, Event, deed_of, accepts, is_exit, act_of, sections, Section}
use Rattle.schedule_rules.proofs.Words.{innermost, is_turn, Guard, guards, numbered, replay, phase_at, registry, finishing, write_holds, answer_of_value, IsLegalLine, IsExclusive}
use Rattle.schedule_rules.proofs.Words.{lends_at, is_failed, is_lent}
use Rattle.schedule_rules.proofs.Cases.{Calling, step, Asking, Resting, Lendable, AsksToLend, Reach, form_at, Generating, Finalizing, Case, Visiting, errs}
use Rattle.schedule_rules.proofs.Facts.{first, same_number}
use Rattle.schedule_rules.proofs.Steps.{made_accessible, of_legal}

-- a value that may be accessed is there
pub accessed_there : (cells : List CellPlan) (h : List Event) (c : ℕ) → is_accessible (cell_at cells c).kind (phase_at cells c h) ≡ true → has (phase_at cells c h) initialized ≡ true
accessed_there cells h c e = first _ _ e

module _ (cells : List CellPlan) (h : List Event) (p : ℕ) where
  -- the party is inside a section, of a finalizer or not
  pub record Inside (turns : Bool) : Type 0 where
    pub section : Section
    pub found : innermost p (sections h) ≡ Some section
    pub kind : is_turn section.want ≡ turns

  -- it is inside that of a finalizer which may end so
  pub record Finishing (fine : Bool) (left : Option ℕ) : Type 0 where
    pub section : Section
    pub found : innermost p (sections h) ≡ Some section
    pub kind : is_turn section.want ≡ true
    pub so : finishes_so (cell_at cells section.cell).kind fine left ≡ true

  -- a guard with this number is open
  pub record Named (g : ℕ) : Type 0 where
    pub guard : Guard
    pub found : numbered g (guards h) ≡ Some guard

  -- one that writes, or that reads
  pub record NamedTo (g : ℕ) (writes : Bool) : Type 0 where
    pub guard : Guard
    pub found : numbered g (guards h) ≡ Some guard
    pub way : guard.writes ≡ writes

  -- the cell has a value, and nothing holds it to write where holds exclude each other
  pub record Ready (c : ℕ) : Type 0 where
    pub value : has (phase_at cells c h) initialized ≡ true
    pub unheld : IsExclusive cells h c → write_holds c h ≡ 0

  -- a call that is admitted and leaves nothing open, or a guard to read a primed value: it is declined, or changes nothing
  pub record Visit (c : ℕ) (chs : List Change) (reads : Bool) : Type 0 where
    pub asked : Call
    pub does : chs ≡ Asked (accepts h) asked ∷ []
    pub finds : Asking cells h p c asked false ⊎ Resting cells h p c asked
    pub falls : reads ≡ true → errs (form_at cells h p c asked) ≡ true

  -- the changes of a section at once are as this one
  abbrev pub Comes : ℕ → List Change → Change → Type 0
  Comes c chs d = effect (cell_at cells c) chs (replay cells c h) ≡ content_after (cell_at cells c) d (replay cells c h)

  -- the value of the cell is lent. Where a run is asked, that is as its run, and where none is, as a set of a value that may be
  -- accessed
  pub record Lending (c : ℕ) (chs : List Change) : Type 0 where
    pub free : Lendable cells h p c
    pub does : (AsksToLend cells h p c true × ((made : Option ℕ) × Comes c chs (Ran (accepts h) made)))
        ⊎ (Reach cells h p c true × ((left : ℕ) × Comes c chs (Put left)))

  -- the act is to lend the value of the cell, and where that was lent, one may be accessed afterwards
  pub record LendsSo (a : Act) (r : Answer) (c : ℕ) (chs : List Change) : Type 0 where
    pub lends : lends_at c a ≡ true
    pub answered : is_lent r ≡ true
    pub leaves : is_failed r ≡ false → is_accessible (cell_at cells c).kind (effect (cell_at cells c) chs (replay cells c h)).phase ≡ true

  -- no cell is left, and one was registered since the last look, or none was
  abbrev pub Looking : Bool → Type 0
  Looking true = ((registry cells h).left ≡ []) × ((registry cells h).pending ≡ [])
  Looking false = ((registry cells h).left ≡ []) × ((c : ℕ) × (cs : List ℕ) × ((registry cells h).pending ≡ c ∷ cs))

  -- what a deed of the party finds, where its line is legal
  abbrev pub Finds : Deed → Type 0
  Finds Quiet = Unit {0}
  Finds (Opens c (Calls k) taken) = Asking cells h p c k true
  Finds (Opens c Turns taken) = Ready c
  Finds (Holds c writes) = Reach cells h p c true
  Finds (Ends (Makes made)) = Inside false
  Finds (Ends (Finishes fine left)) = Finishing fine left
  Finds (EndsToRead v) = Inside false
  Finds (EndsToWrite v) = Inside false
  Finds (Drops g) = Named g
  Finds (DropsToRead g) = NamedTo g true
  Finds (Beside g) = NamedTo g false
  Finds (Puts g v) = NamedTo g true
  Finds (Visits c chs reads) = Visit c chs reads
  Finds (Lends c chs) = Lending c chs
  Finds (Skips c taken) = has (phase_at cells c h) initialized ≡ false
  Finds Takes = Unit {0}
  Finds (Looks closes) = Looking closes

  -- how a finalizer ends is told by the act, and a phase is shown; a call that leaves nothing open is the act's, and it is the
  -- act that is to lend a value
  abbrev pub Tells : Act → Answer → Deed → Type 0
  Tells a r (Visits c chs reads) = (v : Visit c chs reads) × Calling cells h p a c v.asked
  Tells a r (Lends c chs) = LendsSo a r c chs
  Tells a r (Ends (Finishes fine left)) = (a ≡ finishing fine left) × ((q : Phase) × (r ≡ Answer.Phase q))
  Tells a r _ = Unit {0}

  abbrev pub Both : Act → Answer → Deed → Type 0
  Both a r d = Finds d × Tells a r d

  -- what a step with this answer does, where its party asked this last
  by_act : (a b : Act) (r : Answer) → act_of h (step cells h p a) ≡ b → Both a r (deed_by (accepts h) (is_exit a) b r) → Both a r (deed_of h (step cells h p a) r)
  by_act a b r e f = subst (λ c. Both a r (deed_by (accepts h) (is_exit a) c r)) (sym e) f

  waits : (a : Act) (r : Answer) (e : Bool) → Both a r (deed_waiting e)
  waits a r true = (tt, tt)
  waits a r false = (tt, tt)

  -- one that leaves nothing open, or a guard to read a primed value
  visits : (a : Act) (c : ℕ) (k : Call) (reads : Bool) → Calling cells h p a c k → Asking cells h p c k false ⊎ Resting cells h p c k → (reads ≡ true → errs (form_at cells h p c k) ≡ true)
      → Visit c (Asked (accepts h) k ∷ []) reads × ((v : Visit c (Asked (accepts h) k ∷ []) reads) × Calling cells h p a c v.asked)
  visits a c k reads t f e = let v : Visit c (Asked (accepts h) k ∷ []) reads = record { asked = k; does = refl; finds = f; falls = e } in (v, (v, t))

  runs_nothing : {c : ℕ} {k : Call} {q : Phase} {T : Type 0} → Visiting cells h p c k q T → Asking cells h p c k false ⊎ Resting cells h p c k
  runs_nothing either = grind arith

  inside : {t : Section} {k : Call} → Generating cells h p t k → Inside false
  inside {t} g = record { section = t; found = g.found; kind = ap (λ w. is_turn w) g.kind }

  finished : (fine : Bool) (left : Option ℕ) (t : Section) → Finalizing cells h p t fine left → (q : Phase)
      → Both (finishing fine left) (Answer.Phase q) (deed_of h (step cells h p (finishing fine left)) (Answer.Phase q))
  finished true left t g q = (record { section = t; found = g.found; kind = g.kind; so = g.so }, (refl, (q, refl)))
  finished false left t g q = (record { section = t; found = g.found; kind = g.kind; so = g.so }, (refl, (q, refl)))

  -- what a get_mut makes of the cell, where a run is asked or not
  module _ (c : ℕ) (made : Option ℕ) (left : ℕ) (b : Bool) (e : AsksToLend cells h p c b) where
    left_so : effect (cell_at cells c) (Put left ∷ RanIfAsked (accepts h) made ∷ []) (replay cells c h)
        ≡ content_after (cell_at cells c) (Put left) (if b then content_of_run (cell_at cells c).kind (accepts h) made (replay cells c h) else replay cells c h)
    left_so = ap (λ (d : Bool). content_after (cell_at cells c) (Put left) (if d then content_of_run (cell_at cells c).kind (accepts h) made (replay cells c h) else replay cells c h)) e

    lends_so : (r : Answer) → is_lent r ≡ true
        → is_accessible (cell_at cells c).kind (if b then content_of_run (cell_at cells c).kind (accepts h) made (replay cells c h) else replay cells c h).phase ≡ true
        → LendsSo (Act.GetMut c made left) r c (Put left ∷ RanIfAsked (accepts h) made ∷ [])
    lends_so r is f = record { lends = same_number c c refl; answered = is; leaves = λ n. ap (λ y. is_accessible (cell_at cells c).kind y.phase) left_so ∙ f }

  -- a value that is made to be lent
  makes : (c v left : ℕ) → Lendable cells h p c → AsksToLend cells h p c true → Lending c (Put left ∷ RanIfAsked (accepts h) (Some v) ∷ [])
  makes c v left u e = record { free = u; does = inl (e, (Some left, left_so c (Some v) left true e)) }

  -- one that is lent as it is
  rested : (c : ℕ) (made : Option ℕ) (left : ℕ) → Lendable cells h p c → AsksToLend cells h p c false → Reach cells h p c true → Lending c (Put left ∷ RanIfAsked (accepts h) made ∷ [])
  rested c made left u e f = record { free = u; does = inr (f, (left, left_so c made left false e)) }

  each : (a : Act) (r : Answer) → Case cells h p a r → Both a r (deed_of h (step cells h p a) r)
  each _ _ (Case.waiting a c w way t) = waits a (Answer.Waiting way) (is_exit a)
  each _ _ (Case.told a c k q t v) = by_act a (Act.Call c k) (Answer.Phase q) t.does (visits a c k false t (runs_nothing v) (λ x. absurd (cc)))
  each _ _ (Case.denied a c k q t v) = by_act a (Act.Call c k) (Answer.Access q) t.does (visits a c k false t (runs_nothing v) (λ x. absurd (cc)))
  each _ _ (Case.erring a c k q t v e) = by_act a (Act.Call c k) Answer.ErrGuard t.does (visits a c k true t (runs_nothing v) (λ x. e))
  each _ _ (Case.shown a c k t q e) = by_act a (Act.Call c k) (answer_of_value (replay cells c h)) t.does (tt, tt)
  each _ _ (Case.reading a c k t q e) = by_act a (Act.Call c k) Answer.ReadGuard t.does (e, tt)
  each _ _ (Case.writing a c k t q e w) = by_act a (Act.Call c k) Answer.WriteGuard t.does (e, tt)
  each _ _ (Case.running a c k t q) = by_act a (Act.Call c k) Answer.Running t.does (q, tt)
  each _ _ (Case.skipped a c t q) = (q, tt)
  each _ _ (Case.finalizing a c t q u) = (record { value = q; unheld = u }, tt)
  each _ _ (Case.round c cs e n) = ((n, (c, cs, e)), tt)
  each _ _ (Case.closed e n) = ((n, e), tt)
  each _ _ (Case.made_told v t k q g) = (inside g, tt)
  each _ _ (Case.made v t k g) = (inside g, tt)
  each _ _ (Case.made_to_read v t k g) = (inside g, tt)
  each _ _ (Case.made_to_write v t k g w) = (inside g, tt)
  each _ _ (Case.failed t k g) = (inside g, tt)
  each _ _ (Case.finished fine left t g) = finished fine left t g _
  each _ _ (Case.set g v x f w) = (record { guard = x; found = f; way = w }, tt)
  each _ _ (Case.released g x f) = (record { guard = x; found = f }, tt)
  each _ _ (Case.downgraded g x f w) = (record { guard = x; found = f; way = w }, tt)
  each _ _ (Case.cloned g x f w) = (record { guard = x; found = f; way = w }, tt)
  each _ _ (Case.lent_made c v left u e) = (makes c v left u e, lends_so c (Some v) left true e _ refl (made_accessible (cell_at cells c).kind (accepts h) (phase_at cells c h) u.lends))
  each _ _ (Case.lent_failed c left u e) = (record { free = u; does = inl (e, (None, refl)) }, record { lends = same_number c c refl; answered = refl; leaves = λ n. absurd (cc) })
  each _ _ (Case.lent_rested c made left u e f) = (rested c made left u e f, lends_so c made left false e _ refl f)
  each _ _ (Case.lent c left u f) = (record { free = u; does = inr (f, (left, refl)) }, record { lends = same_number c c refl; answered = refl; leaves = λ n. f })
  each _ _ _ = (tt, tt)

module _ (cells : List CellPlan) (h : List Event) (s : Step) (l : Line) (m : IsLegalLine cells h s l) where
  both : Both cells h s.party s.act l.answer (deed_of h s l.answer)
  both = of_legal cells h s l m (λ a r. Both cells h s.party a r (deed_of h (step cells h s.party a) r)) (λ a r. (tt, tt)) (λ a r k n. each cells h s.party a r k)

  -- the deed of a legal line
  pub finds : Finds cells h s.party (deed_of h s l.answer)
  finds = both.0

  pub tells : Tells cells h s.party s.act l.answer (deed_of h s l.answer)
  tells = both.1
