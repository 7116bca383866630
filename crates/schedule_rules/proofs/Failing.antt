-- What a failed run leaves; and of a value that is lent, that nobody uses its cell, and what the step leaves.
use Rattle.schedule_rules.proofs.Words.{ℕ, arith, List, ◌≡◌, Bool, true, refl, Some, false, ◌∷◌, [], ◌∙◌, sym, ap, None, subst, ◌⊎◌, inl, ◌&&◌, inr, ◌≢◌, length, list_any, ◌==◌}
use Rattle.schedule_rules.proofs.Words.{if◌then◌else◌, is_none, is_some, Option, Given, Answer, Line, Refusal, CellPlan, Act, Step, cell_at, tolerance_at, is_parking}
use Rattle.schedule_rules.proofs.Words.{is_accessible, Content, effect, Change, Ran, Put, RanIfAsked, Makes, Event, deed_of, accepts, count, sections, Section, innermost}
use Rattle.schedule_rules.proofs.Words.{sections_by, guards, guards_by, replay, Back, back_of_step, back_of_section, content_after_back, Wait, waits, wait_of, without_wait}
use Rattle.schedule_rules.proofs.Words.{attempt_with, cell_concerned, waits_given_with, cell_of_section, waits_answered, other_waits, waits_at, cell_concerned_with, refusal}
use Rattle.schedule_rules.proofs.Words.{refusal_by, due_answer, may_give_on, may_give_first, may_give_last, reaches, IsLegalLine, answer_of, due_at, Moment, may_give, lends_at}
use Rattle.schedule_rules.proofs.Words.{waits_judged, is_failed, is_failure, is_step_in_use, is_refused_in_use, lends_in_use, is_lent, RunsAtOnce, EndsRun, IsFailedRun, Leaves}
use Rattle.schedule_rules.proofs.Words.{IsUnused, ChangesCellAlone}
use Rattle.schedule_rules.proofs.Cases.{step, IsTrying, trying, Lendable, Case, calling-tries, turning-tries}
use Rattle.schedule_rules.proofs.Steps.{lendable, lendable_so, allowed}
use Rattle.schedule_rules.proofs.Finds.{LendsSo, Both, finds, tells}
use Rattle.schedule_rules.proofs.Leaves.{back_here, back_elsewhere}
use Rattle.schedule_rules.proofs.Counts.{without_none}
use Rattle.schedule_rules.proofs.Answered.{due_at-judged, denied, lent, made_to_lend, legal_by}
use Rattle.schedule_rules.proofs.Tests.{is_refused, no_more}
use Rattle.schedule_rules.proofs.Causes.{due_is_answered}
use Rattle.schedule_rules.proofs.Facts.{apart, first, second, same_number, number_found, other_number}

module _ (cells : List CellPlan) (h : List Event) where
  -- what attempts something ends no generator
  no_failure : (a : Act) → IsTrying a → false ≡ is_failure cells h a
  no_failure a t = grind arith

  -- of the steps that are not refused a failure fails, and no other
  fails : (p : ℕ) (a : Act) (r : Answer) → Case cells h p a r → is_failed r ≡ is_failure cells h a
  fails p _ _ (Case.cyclic a c j t) = no_failure a (calling-tries a t.acts)
  fails p _ _ (Case.waiting a c w way t) = no_failure a (trying cells h p a c w t)
  fails p _ _ (Case.missed a c w f t) = no_failure a (trying cells h p a c w t)
  fails p _ _ (Case.owned a c w o t) = no_failure a (trying cells h p a c w t)
  fails p _ _ (Case.told a c j q t v) = no_failure a (calling-tries a t.acts)
  fails p _ _ (Case.denied a c j q t v) = no_failure a (calling-tries a t.acts)
  fails p _ _ (Case.erring a c j q t v e) = no_failure a (calling-tries a t.acts)
  fails p _ _ (Case.shown a c j t q e) = no_failure a (calling-tries a t.acts)
  fails p _ _ (Case.reading a c j t q e) = no_failure a (calling-tries a t.acts)
  fails p _ _ (Case.writing a c j t q e w) = no_failure a (calling-tries a t.acts)
  fails p _ _ (Case.running a c j t q) = no_failure a (calling-tries a t.acts)
  fails p _ _ (Case.skipped a c t q) = no_failure a (turning-tries a t.acts)
  fails p _ _ (Case.finalizing a c t q u) = no_failure a (turning-tries a t.acts)
  fails p _ _ (Case.finished true left t g) = refl
  fails p _ _ (Case.finished false left t g) = refl
  fails p _ _ (Case.lent_made c v left u e) = sym (ap (λ b. b && false) e)
  fails p _ _ (Case.lent_failed c left u e) = sym (ap (λ b. b && true) e)
  fails p _ _ (Case.lent_rested c made left u e f) = sym (ap (λ b. b && is_none made) e)
  fails p _ _ (Case.lent_denied c made left u e f) = sym (ap (λ b. b && is_none made) e)
  fails p _ _ _ = refl

  -- a legal line says Failed exactly where a failure is not refused
  pub fails_where_ended : (s : Step) (l : Line) → IsLegalLine cells h s l → is_failed l.answer ≡ (is_none (refusal cells h s) && is_failure cells h s.act)
  fails_where_ended s l k =
      legal_by is_failed (λ q. refl) cells h s l k ∙ by (refusal cells h s) refl
    where
      ws : List Wait
      ws = waits_judged cells k.moment h s l.given

      by : (o : Option Refusal) → refusal cells h s ≡ o → (is_none o && is_failed (due_answer cells h s ws k.chosen)) ≡ (is_none o && is_failure cells h s.act)
      by None e = fails s.party s.act _ (allowed cells h s.party s.act ws k.chosen e)
      by (Some r) e = refl

  -- a legal line that says Failed ends a run of the cell that its step concerns
  module _ (s : Step) (g : Given) (c : ℕ) (k : IsLegalLine cells h s (record { answer = Answer.Failed; given = g })) (e : cell_concerned cells h s ≡ Some c) where
    -- its step is a failure
    ends : is_failure cells h s.act ≡ true
    ends = second (is_none (refusal cells h s)) (is_failure cells h s.act) (sym (fails_where_ended s (record { answer = Answer.Failed; given = g }) k))

    -- a run of this cell that fails is given back, of which this is told
    abbrev Gives : Step → Type 0
    Gives s = (o : Bool) × (d : ℕ) × (d ≡ c) × (EndsRun h s c o ⊎ RunsAtOnce cells h s c o) × (back_of_step h s Answer.Failed ≡ Some (record { cell = d; changes = Ran o None ∷ [] }))

    ended : Gives s
    ended = by s.act ends e
      where
        found : (o : Option Section) → innermost s.party (sections h) ≡ o → cell_of_section o ≡ Some c → Gives (record { party = s.party; act = Act.MadeFailed })
        found None f d = absurd (cc)
        found (Some t) f d = let here : t.cell ≡ c = cc in (t.is_open, t.cell, here, inl (record { section = t; found = f; here = here; noted = refl }), ap (back_of_section (Makes None)) f)

        by : (a : Act) → is_failure cells h a ≡ true → cell_concerned cells h (record { party = s.party; act = a }) ≡ Some c → Gives (record { party = s.party; act = a })
        by (Act.GetMut z made left) f d =
            let here : z ≡ c = cc in (accepts h, z, here, inr (record { lends = same_number z c here; asked = first _ _ f; now = refl }), refl)
        by a x y = grind (arith, found)

    -- it leaves the value there and reaches the phase of a failed run, and changes no other cell
    pub fails_in : IsFailedRun cells h (record { step = s; line = record { answer = Answer.Failed; given = g } }) c
    fails_in = by ended
      where
        by : Gives s → IsFailedRun cells h (record { step = s; line = record { answer = Answer.Failed; given = g } }) c
        by (o, d, here, run, back) =
            let b : Back = record { cell = d; changes = Ran o None ∷ [] } in
            let changed : content_after_back cells c (back_of_step h s Answer.Failed) (replay cells c h) ≡ effect (cell_at cells c) b.changes (replay cells c h) =
            back_here cells c (back_of_step h s Answer.Failed) b (replay cells c h) back (same_number d c here) in
            record {
              is_open = o;
              run = run;
              value_stays = ap (λ y. y.value) changed;
              fails = ap (λ y. y.phase) changed;
              others_stay = λ z apart. back_elsewhere cells z (back_of_step h s Answer.Failed) b (replay cells z h) back (other_number d c z here apart);
            }

-- ---- a value that is lent

-- what is not refused has no reason to be
none_where : (o : Option Refusal) → is_none o ≡ true → o ≡ None
none_where o e = grind arith

-- where no call waits at the cell, none is reached by a gift
module _ (c : ℕ) where
  none_any : (t : Wait → Bool) → ((w : Wait) → (w.cell == c) ≡ false → t w ≡ false) → (ws : List Wait) → count (waits_at c) ws ≡ 0 → list_any t ws ≡ false
  none_any t f [] n = refl
  none_any t f (w ∷ ws) n = grind (arith, none_any t f ws, f w)

  elsewhere : (b d : Bool) → d ≡ false → (if b then d else false) ≡ false
  elsewhere b d e = grind arith

  pub none_reached : (g : Given) (ws : List Wait) → count (waits_at c) ws ≡ 0 → reaches c g ws ≡ true → g ≡ Given.Nobody
  none_reached g ws n e = grind (arith, none_any, elsewhere, no_more)

module _ (cells : List CellPlan) (h : List Event) (s : Step) (c : ℕ) (lends : lends_at c s.act ≡ true) (free : is_none (refusal cells h s) ≡ true) where
  -- its cell is of a kind that lends, and nobody uses it
  lends_free : Lendable cells h s.party c
  lends_free = grind (arith, none_where, Lendable, number_found, lendable, lendable_so)

  pub lent-unused : IsUnused cells h c
  lent-unused = record { unread = lends_free.unread; unheld = lends_free.unheld; unwaited = lends_free.unwaited }

  -- the party does not wait
  rested : wait_of s.party (waits cells h) ≡ None
  rested = grind arith

  others_wait : other_waits cells h s ≡ waits cells h
  others_wait = without_none s.party (waits cells h) rested

  module _ (l : Line) (k : IsLegalLine cells h s l) where
    answered : l.answer ≡ due_answer cells h s (waits_judged cells k.moment h s l.given) k.chosen
    answered = k.answered ∙ ap (λ o. answer_of o (due_at cells k.moment h s l.given k.chosen)) (none_where (refusal cells h s) free) ∙ due_at-judged cells k.moment h s l.given k.chosen

    -- it gives nothing
    nobody : l.given ≡ Given.Nobody
    nobody = by k.moment (subst (λ o. may_give cells o k.moment h s l ≡ true) (none_where (refusal cells h s) free) k.gave)
      where
        first_never : (a : Act) → lends_at c a ≡ true → may_give_first cells h s (attempt_with cells (waits cells h) h s.party a) l.given ≡ false
        first_never a e = grind arith

        concerned : (a : Act) → lends_at c a ≡ true → cell_concerned_with cells (waits cells h) h s.party a ≡ Some c
        concerned a e = grind (arith, number_found)

        reached : (g : Given) → may_give_on cells h s (cell_concerned cells h s) l.answer g ≡ true → g ≡ Given.Nobody
        reached g e =
            none_reached c g (waits cells h) lends_free.unwaited
            (subst (λ ws. reaches c g ws ≡ true) others_wait (first (reaches c g (other_waits cells h s)) _ (second (is_parking (cell_at cells c).place) _ (subst (λ o. may_give_on cells h s o l.answer g ≡ true) (concerned s.act lends) e))))

        last : (g : Given) → may_give_last cells h s l.answer g ≡ true → g ≡ Given.Nobody
        last g e = grind (arith, reached)

        by : (m : Moment) → may_give cells None m h s l ≡ true → l.given ≡ Given.Nobody
        by m e = grind (arith, first_never, last)

    -- what an answer leaves, where the act is to lend the value of the cell
    record Alone (a : Act) (r : Answer) : Type 0 where
      pub in_sections : sections_by h s.party (deed_of h (step cells h s.party a) r) (sections h) ≡ sections h
      pub in_guards : guards_by (length h) s.party (deed_of h (step cells h s.party a) r) (sections h) (guards h) ≡ guards h
      pub in_waits : waits_answered cells h (step cells h s.party a) l.given r (waits cells h) ≡ waits_given_with cells (waits cells h) h (step cells h s.party a) l.given (without_wait s.party (waits cells h))
      pub elsewhere : (d : ℕ) → c ≢ d → content_after_back cells d (back_of_step h (step cells h s.party a) r) (replay cells d h) ≡ replay cells d h

    alone : (a : Act) → lends_at c a ≡ true → (ws : List Wait) (chosen : Bool) → Alone a (due_answer cells h (step cells h s.party a) ws chosen)
    alone (Act.GetMut z made left) e ws chosen =
        made_to_lend (Alone (Act.GetMut z made left))
        (λ v. record { in_sections = refl; in_guards = refl; in_waits = refl; elsewhere = λ d ne. back_elsewhere cells d _ (record { cell = z; changes = Put left ∷ RanIfAsked (accepts h) made ∷ [] }) (replay cells d h) refl (other_number z c d (number_found z c e) ne) })
        (λ q. record { in_sections = refl; in_guards = refl; in_waits = refl; elsewhere = λ d ne. refl })
        (record { in_sections = refl; in_guards = refl; in_waits = refl; elsewhere = λ d ne. back_elsewhere cells d _ (record { cell = z; changes = Ran (accepts h) None ∷ [] }) (replay cells d h) refl (other_number z c d (number_found z c e) ne) })
        (cell_at cells z).kind (tolerance_at cells z) (accepts h) made (replay cells z h)
    alone a x ws chosen = grind (arith, lent, elsewhere, back_elsewhere, other_number, number_found)

    -- it leaves what is open and who waits, and changes its cell alone
    pub lent-alone : ChangesCellAlone cells h (record { step = s; line = l }) c
    lent-alone = record { sections_stay = is.in_sections; guards_stay = is.in_guards; waits_stay = is.in_waits ∙ same; nobody = nobody; others_stay = is.elsewhere }
      where
        is : Alone s.act l.answer
        is = subst (Alone s.act) (sym answered) (alone s.act lends (waits_judged cells k.moment h s l.given) k.chosen)

        same : waits_given_with cells (waits cells h) h s l.given (without_wait s.party (waits cells h)) ≡ waits cells h
        same = ap (λ g. waits_given_with cells (waits cells h) h s g (without_wait s.party (waits cells h))) nobody ∙ others_wait

    -- where a value is lent, that which is left is published afterwards, and may be accessed
    leaves-so : (v : ℕ) → l.answer ≡ Answer.Value v → Leaves cells (record { step = s; line = l } ∷ h) c s.act
    leaves-so v e = subst (λ r. Leaves cells (record { step = s; line = record { answer = r; given = l.given } } ∷ h) c s.act) (sym e) (by s.act lends (subst (λ r. Both cells h s.party s.act r (deed_of h s r)) e (finds cells h s l k, tells cells h s l k)))
      where
        leaves : (z : ℕ) (chs : List Change) (left : ℕ) (a : Act) (r : Answer) → z ≡ c → (effect (cell_at cells z) chs (replay cells z h)).value ≡ Some left → is_failed r ≡ false → LendsSo cells h s.party a r z chs
            → (content : Content) → content ≡ effect (cell_at cells c) chs (replay cells c h) → (content.value ≡ Some left) × (is_accessible (cell_at cells c).kind content.phase ≡ true)
        leaves z chs left a r content is fine t x e = grind arith

        by : (a : Act) → lends_at c a ≡ true → Both cells h s.party a (Answer.Value v) (deed_of h (step cells h s.party a) (Answer.Value v))
            → Leaves cells (record { step = step cells h s.party a; line = record { answer = Answer.Value v; given = l.given } } ∷ h) c a
        by a is b = grind (arith, number_found, leaves, back_here)

-- a value that is shown was not refused
pub lent-leaves : (cells : List CellPlan) (h : List Event) (s : Step) (l : Line) (c v : ℕ) → IsLegalLine cells h s l → lends_at c s.act ≡ true → l.answer ≡ Answer.Value v
    → Leaves cells (record { step = s; line = l } ∷ h) c s.act
lent-leaves cells h s l c v k lends e = leaves-so cells h s c lends (first _ _ (sym (legal_by is_lent (λ q. refl) cells h s l k) ∙ ap is_lent e)) l k v e

-- ---- which steps are refused since the cell is in use

-- the reason is that the cell is in use
abbrev is_in_use_reason : Option Refusal → Bool
is_in_use_reason (Some Refusal.InUse) = true
is_in_use_reason _ = false

module _ (cells : List CellPlan) (h : List Event) where
  used_by : (p : ℕ) (a : Act) (o : Option Wait) → is_in_use_reason (refusal_by cells (is_some o) h p a) ≡ (is_none o && lends_in_use cells h p a)
  used_by p a o = grind arith

  unrefused : (r : Answer) → is_refused r ≡ false → is_refused_in_use r ≡ false
  unrefused r e = grind arith

  pub refused-in-use : (s : Step) (l : Line) → IsLegalLine cells h s l → is_refused_in_use l.answer ≡ is_step_in_use cells h s
  refused-in-use s l k = ap is_refused_in_use k.answered ∙ by (refusal cells h s) ∙ used_by s.party s.act (wait_of s.party (waits cells h))
    where
      reason : (q : Refusal) → is_refused_in_use (Answer.Refused q) ≡ is_in_use_reason (Some q)
      reason q = grind arith

      by : (o : Option Refusal) → is_refused_in_use (answer_of o (due_at cells k.moment h s l.given k.chosen)) ≡ is_in_use_reason o
      by (Some q) = reason q
      by None = unrefused _ (due_is_answered cells h s l k k.moment l.given k.chosen)
