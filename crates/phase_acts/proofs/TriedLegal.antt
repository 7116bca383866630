-- The line of an attempt is legal.
use Rattle.phase_acts.proofs.Words.{◌==◌, ◌∙◌, ◌∷◌, ◌≡◌, ◌≢◌, accepts, Act, answer_at, answer_denied, answer_missed, answer_of, answer_of_attempt, answer_running}
use Rattle.phase_acts.proofs.Words.{answer_settled, answer_tried, answered, ap, arith, attempt, Bool, Call, Calls, cell_at, CellPlan, changes_at, content_tried, downgraded}
use Rattle.phase_acts.proofs.Words.{downgrades, due_answer, due_at, due_tried, Event, event, false, First, Form, form_of, Given, given_first, given_on}
use Rattle.phase_acts.proofs.Words.{GivesFirst, GivesLast, GivesSettled, if◌then◌else◌, is_accessible, is_to_read, IsCallOf, IsDown, IsLegalLine, IsMet, IsOf, IsTrue, IsUnlocked}
use Rattle.phase_acts.proofs.Words.{Last, left, length, Line, List, MatchBool, may_give, may_give_first, may_give_last, MayGive, MayGiveAt, MayGiveDown, meeting, meets, Moment}
use Rattle.phase_acts.proofs.Words.{None, Option, Phase, phase_asked, reaches, reader, reads_on, refl, refusal, Registry, registry, settled, Standing, standing, step_of, subst}
use Rattle.phase_acts.proofs.Words.{sym, Taken, takes_write, Target, TellsPhase, took, true, Turns, unlocked, Wait, waits, waits_at, Want, wanted_in, wants_to_write}
use Rattle.phase_acts.proofs.Words.{without_wait, writer_asked, writes_on, ℕ}
use Rattle.phase_locker.specs.declared.ways.Given.TheVariants as given
use Rattle.schedule_rules.specs.declared.line.Answer.TheVariants as answer
use Rattle.phase_moves.specs.declared.rows.Taken.TheVariants as taken
use Rattle.phase_moves.specs.Meets.{GivesDown}
use Rattle.phase_acts.proofs.Lines.{gave_freed, gave_readers}
use Rattle.phase_acts.proofs.Settling.{first_alone}
use Rattle.phase_acts.proofs.Tried.{after_tried, answer_call, last_none}
use Rattle.phase_acts.proofs.Trying.{IsAttempt, standing_at}

module _ (cells : List CellPlan) (h : List Event) (p : ℕ) (a : Act) (c : ℕ) (w : Want) (r : Registry) (o : Option ℕ) (k : IsAttempt cells h p a c w r o) (accepted : accepts h ≡ r.is_open) (same : (j : Call) → w ≡ Calls j → r ≡ registry cells h) (free : refusal cells h (step_of p a) ≡ None) where
  abbrev m : Standing
  m = standing_at cells h r o

  abbrev n : ℕ
  n = length h

  abbrev t : Target
  t = record { cell = c; want = w }

  -- what is met
  meeting_is : (vs : List Wait) → meets p c w vs m ≡ meeting cells h p (record { cell = c; want = w }) vs
  meeting_is vs = λ i. record (meeting cells h p (record { cell = c; want = w }) vs) { is_open = sym accepted i }

  -- the answer that is due
  due_is : (vs : List Wait) (chosen : Bool) → answer_of_attempt (cell_at cells c) w (meets p c w vs m) chosen ≡ due_answer cells h (step_of p a) vs chosen
  due_is vs chosen =
      ap (λ y. answer_of_attempt (cell_at cells c) w y chosen) (meeting_is vs) ∙ sym (ap (λ x. due_tried cells h p x vs chosen) k.attempted) ∙ sym (k.tries vs chosen)

  -- who waits as it is judged
  judged : (mo : Moment) (g : Given) (chosen : Bool) → answer_of_attempt (cell_at cells c) w (meets p c w (waits_at mo p c g m) m) chosen ≡ due_at cells mo h (step_of p a) g chosen
  judged mo g chosen = grind (arith)

  -- where it gave nothing both moments are one
  judged_last : (mo : Moment) (g d : Given) (chosen : Bool) → g ≡ given.Nobody → answer_of_attempt (cell_at cells c) w (meets p c w (waits_at mo p c g m) m) chosen ≡ due_at cells Last h (step_of p a) d chosen
  judged_last mo g d chosen e = grind (arith, e)

  -- ---- gifts

  gave_first : (g : Given) → GivesFirst p t g m → may_give_first cells h (step_of p a) (attempt cells h (step_of p a)) g ≡ true
  gave_first g f =
      let parks = f.reaching.parks in
      let reach = f.reaching.reach in
      let own = f.own in
      let dropped = f.dropped in
      let none = ap (λ x. x == 0) f.free in
      ap (λ x. may_give_first cells h (step_of p a) x g) k.attempted ∙ rw (parks, own, dropped, none, reach) refl

  -- a section that reads on, or of a call that reads, was made a read lock
  downs : (j : Call) → w ≡ Calls j → is_to_read (form_of (cell_at cells c).kind j) ≡ true → wants_to_write (wanted_in c w m) ≡ true → (f : Form) → is_to_read f ≡ true → downgrades cells h (step_of p a) (answer_denied f (content_tried c w m).phase) ≡ true
  downs j calls reads wrote f e = grind (arith, e, reads, wrote, calls)

  gave_down : (v : Want) → w ≡ v → IsCallOf (cell_at cells c).kind v is_to_read → IsDown p t m → may_give_last cells h (step_of p a) (answer_tried c w m) given.Readers ≡ true
  gave_down Turns e is f = absurd is
  gave_down (Calls j) calls is f =
      ap (λ x. may_give_last cells h (step_of p a) x given.Readers) (answer_call cells h p a c w r o k accepted same j calls ∙ ap (λ b. answer_at (form_of (cell_at cells c).kind j) b (content_tried c w m)) f.lacks)
      ∙ gave_readers cells h p a (answer_denied (form_of (cell_at cells c).kind j) (content_tried c w m).phase) c k.concerned f.reaching.parks f.reaching.reach (downs j calls is f.wrote (form_of (cell_at cells c).kind j) is)

  -- it may give nothing as it gives its lock back
  none_settled : (g : Given) (b : Taken) → GivesSettled n p c w g given.Nobody b m
  none_settled g b = grind (arith)

  -- what stands open where nothing is given
  none_after : (g : Given) → g ≡ given.Nobody → (b : Taken) → IsOf p t g m b → (b ≡ taken.Cyclic → ⊥) → standing cells (event p a (record { answer = answer_settled c w b m; given = given.Nobody }) ∷ h) ≡ settled n p c w g given.Nobody b m
  none_after g nobody b of ne =
      ap (λ z. standing cells (event p a (record { answer = answer_settled c w b m; given = z }) ∷ h)) (sym nobody ∙ sym (first_alone g))
      ∙ after_tried cells h p a c w r o k accepted same g given.Nobody (λ some. absurd (some nobody)) b of (none_settled g b) (λ e. absurd (ne e))

  -- nothing stands on the cell then
  gave_at : (x : Standing) → standing cells (event p a (record { answer = answer_tried c w m; given = given.Nobody }) ∷ h) ≡ x → x.waits ≡ without_wait p (waits cells h) → (d : Given) → MayGive c x d → may_give_last cells h (step_of p a) (answer_tried c w m) d ≡ true
  gave_at x is ws d gift = gave_freed cells h p a (answer_tried c w m) c k.concerned d (subst (λ z. MayGive c z d) (sym is) gift) (ap (λ (z : Standing). z.waits) is ∙ ws)

  -- a call gave so whose section was given back at once, or a turn that was skipped
  gave_back : (q : Phase) (g : Given) → IsUnlocked (cell_at cells c).kind w → MayGive c (answered p c given.Nobody (changes_at c w m) m) g → may_give_last cells h (step_of p a) (answer_tried c w m) g ≡ true
  gave_back q g of gift = gave_at _ (none_after given.Nobody refl (taken.Nothing q) of (λ e. absurd (cc))) (same_waits w) g (may w g gift)
    where
      same_waits : (v : Want) → (unlocked c v (answered p c given.Nobody (changes_at c w m) m)).waits ≡ without_wait p (waits cells h)
      same_waits (Calls j) = refl
      same_waits Turns = refl

      may : (v : Want) (g : Given) → MayGive c (answered p c given.Nobody (changes_at c w m) m) g → MayGive c (unlocked c v (answered p c given.Nobody (changes_at c w m) m)) g
      may (Calls j) g gift = gift
      may Turns given.Nobody gift = tt
      may Turns g gift = record { parks = gift.parks; reach = gift.reach; free = gift.free }

  -- what it gave as it gave its lock back
  module _ (g d : Given) (nobody : g ≡ given.Nobody) where
    others_then : given_on c g (without_wait p (waits cells h)) ≡ without_wait p (waits cells h)
    others_then = ap (λ z. given_on c z (without_wait p (waits cells h))) nobody

    -- a section that reads on was made a read lock
    downs_write : (f : Form) (b : Bool) → takes_write f ≡ true → wants_to_write (wanted_in c w m) ≡ true → reads_on (answer_at f b (content_tried c w m)) ≡ true → downgrades cells h (step_of p a) (answer_at f b (content_tried c w m)) ≡ true
    downs_write f b e wrote reads = grind (arith, e, wrote, reads)

    gave_reading : (v : Want) → w ≡ v → IsCallOf (cell_at cells c).kind v takes_write → wants_to_write (wanted_in c w m) ≡ true → reads_on (answer_tried c w m) ≡ true → (z : Given) → MayGiveDown c (record m { waits = given_on c g (without_wait p (waits cells h)) }) z → may_give_last cells h (step_of p a) (answer_tried c w m) z ≡ true
    gave_reading Turns e is wrote reads z may = absurd is
    gave_reading (Calls j) calls is wrote reads given.Nobody may = refl
    gave_reading (Calls j) calls is wrote reads (given.Writer u) may = absurd may
    gave_reading (Calls j) calls is wrote reads given.Readers may =
        gave_readers cells h p a (answer_tried c w m) c k.concerned may.parks (ap (reaches c given.Readers) (sym others_then) ∙ may.reach)
        (ap (downgrades cells h (step_of p a)) same_answer ∙ downs_write (form_of (cell_at cells c).kind j) access_now is wrote (ap reads_on (sym same_answer) ∙ reads))
      where
        access_now : Bool
        access_now = is_accessible (cell_at cells c).kind (content_tried c w m).phase

        same_answer : answer_tried c w m ≡ answer_at (form_of (cell_at cells c).kind j) (is_accessible (cell_at cells c).kind (content_tried c w m).phase) (content_tried c w m)
        same_answer = answer_call cells h p a c w r o k accepted same j calls

    gave_settled : (b : Taken) → IsOf p t g m b → GivesSettled n p c w g d b m → may_give_last cells h (step_of p a) (answer_settled c w b m) d ≡ true
    gave_settled (taken.Wait how) of e = ap (may_give_last cells h (step_of p a) (answer.Waiting how)) e
    gave_settled taken.Missed of e = ap (may_give_last cells h (step_of p a) (answer_missed w)) e
    gave_settled taken.Cyclic of e = ap (may_give_last cells h (step_of p a) answer.Cyclic) e
    gave_settled (taken.Nothing q) of e = ap (may_give_last cells h (step_of p a) (answer_tried c w m)) e
    gave_settled (taken.Read l q) of gives = by (reads_on (answer_tried c w m)) refl gives
      where
        by : (b : Bool) → reads_on (answer_tried c w m) ≡ b → MatchBool b (d ≡ given.Nobody) (MayGive c (left (reader n p c) given.Nobody (took n p c w g (taken.Read l q) m)) d) → may_give_last cells h (step_of p a) (answer_tried c w m) d ≡ true
        by true reads e = ap (may_give_last cells h (step_of p a) (answer_tried c w m)) e
        by false lacks gift =
            gave_at (left (reader n p c) given.Nobody (took n p c w g (taken.Read l q) m))
            (none_after g nobody (taken.Read l q) of (λ e. absurd (cc)) ∙ ap (λ b. if b then took n p c w g (taken.Read l q) m else left (reader n p c) given.Nobody (took n p c w g (taken.Read l q) m)) lacks) others_then d gift
    gave_settled (taken.Write l q) of gives = by (writes_on (answer_tried c w m)) refl (reads_on (answer_tried c w m)) refl gives
      where
        by : (b : Bool) → writes_on (answer_tried c w m) ≡ b → (u : Bool) → reads_on (answer_tried c w m) ≡ u
            → MatchBool b (d ≡ given.Nobody) (MatchBool u (MayGiveDown c (took n p c w g (taken.Write l q) m) d) (MayGive c (left (writer_asked n p c (changes_at c w m)) given.Nobody (took n p c w g (taken.Write l q) m)) d))
            → may_give_last cells h (step_of p a) (answer_tried c w m) d ≡ true
        by true writes u reads e = ap (may_give_last cells h (step_of p a) (answer_tried c w m)) e
        by false lacks true reads may = gave_reading w refl of.0 of.1 reads d (as_down d may)
          where
            as_down : (z : Given) → MayGiveDown c (took n p c w g (taken.Write l q) m) z → MayGiveDown c (record m { waits = given_on c g (without_wait p (waits cells h)) }) z
            as_down given.Nobody may = tt
            as_down (given.Writer u) may = absurd may
            as_down given.Readers may = record { parks = may.parks; reach = may.reach }
        by false lacks false reads gift =
            gave_at (left (writer_asked n p c (changes_at c w m)) given.Nobody (took n p c w g (taken.Write l q) m))
            (none_after g nobody (taken.Write l q) of (λ e. absurd (cc))
            ∙ ap (λ b. if b then took n p c w g (taken.Write l q) m else (if reads_on (answer_tried c w m) then downgraded n (writer_asked n p c (changes_at c w m)) given.Nobody (took n p c w g (taken.Write l q) m) else left (writer_asked n p c (changes_at c w m)) given.Nobody (took n p c w g (taken.Write l q) m))) lacks
            ∙ ap (λ b. if b then downgraded n (writer_asked n p c (changes_at c w m)) given.Nobody (took n p c w g (taken.Write l q) m) else left (writer_asked n p c (changes_at c w m)) given.Nobody (took n p c w g (taken.Write l q) m)) reads) others_then d gift
    gave_settled taken.Runs of e = ap (may_give_last cells h (step_of p a) (answer_running c w)) e

  -- ---- the line

  module _ (b : Taken) (g d : Given) (told : TellsPhase (phase_asked c w m) b) (met : IsMet p t b g m) (gives : GivesSettled n p c w g d b m) where
    abbrev line : Line
    line = record { answer = answer_settled c w b m; given = given_first g d }

    -- at this moment
    legal_at : (mo : Moment) (chosen : Bool) → answer_settled c w b m ≡ due_at cells mo h (step_of p a) (given_first g d) chosen → may_give cells None mo h (step_of p a) line ≡ true → IsLegalLine cells h (step_of p a) line
    legal_at mo chosen due gave =
        record {
          moment = mo;
          chosen = chosen;
          answered = due ∙ sym (ap (λ x. answer_of x (due_at cells mo h (step_of p a) (given_first g d) chosen)) free);
          gave = subst (λ x. IsTrue (may_give cells x mo h (step_of p a) line)) (sym free) gave;
        }

    -- nothing was given as it attempted
    legal_quiet : g ≡ given.Nobody → IsLegalLine cells h (step_of p a) line
    legal_quiet e =
        let all : given_first g d ≡ d = ap (λ x. given_first x d) e in
        legal_at Last met.chosen (met.answered ∙ judged_last met.moment g (given_first g d) met.chosen e) (ap (may_give_last cells h (step_of p a) (answer_settled c w b m)) all ∙ gave_settled g d e b met.wanted gives)

    -- something was, for what the step gave back
    gave_late : (b : Taken) → IsOf p t g m b → (x : Given) → x ≢ given.Nobody → GivesLast p t b x m → may_give_last cells h (step_of p a) (answer_settled c w b m) x ≡ true
    gave_late (taken.Nothing q) of x ne gift = gave_back q x of gift
    gave_late (taken.Read l q) of given.Readers ne gift = gave_down w refl of gift
    gave_late (taken.Read l q) of given.Nobody ne gift = absurd (ne refl)
    gave_late (taken.Read l q) of (given.Writer u) ne gift = absurd gift
    gave_late b of x ne gift = absurd (ne gift)

    legal_late : d ≡ given.Nobody → (x : Given) → g ≡ x → x ≢ given.Nobody → met.moment ≡ Last → GivesLast p t b x m → IsLegalLine cells h (step_of p a) line
    legal_late none x e ne mo_is gift =
        let all : given_first g d ≡ g = ap (given_first g) none ∙ first_alone g in
        legal_at Last met.chosen (met.answered ∙ ap (λ y. answer_of_attempt (cell_at cells c) w (meets p c w (waits_at y p c g m) m) met.chosen) mo_is ∙ judged Last g met.chosen)
        (ap (may_give_last cells h (step_of p a) (answer_settled c w b m)) (all ∙ e) ∙ gave_late b met.wanted x ne gift)

    -- something was
    legal_gift : d ≡ given.Nobody → (x : Given) → g ≡ x → x ≢ given.Nobody → (mo : Moment) → met.moment ≡ mo → MayGiveAt mo p t b x m → IsLegalLine cells h (step_of p a) line
    legal_gift none x e ne First mo_is gift =
        let all : given_first g d ≡ g = ap (given_first g) none ∙ first_alone g in
        legal_at First met.chosen (met.answered ∙ ap (λ y. answer_of_attempt (cell_at cells c) w (meets p c w (waits_at y p c g m) m) met.chosen) mo_is ∙ judged First g met.chosen ∙ ap (λ y. due_at cells First h (step_of p a) y met.chosen) (sym all))
        (ap (may_give_first cells h (step_of p a) (attempt cells h (step_of p a))) (all ∙ e) ∙ gave_first x gift)
    legal_gift none given.Nobody e ne Last mo_is gift = absurd (ne refl)
    legal_gift none x e ne Last mo_is gift = legal_late none x e ne mo_is gift

    -- a gift reaches those that it is for
    pub gift_reaches : g ≢ given.Nobody → reaches c g (without_wait p (waits cells h)) ≡ true
    gift_reaches ne = at met.moment met.gives
      where
        back : (x : Given) → g ≡ x → MayGive c (answered p c given.Nobody (changes_at c w m) m) x → reaches c x (without_wait p (waits cells h)) ≡ true
        back given.Nobody e gift = refl
        back x e gift = gift.reach

        down : (x : Given) → g ≡ x → GivesDown p t x m → reaches c x (without_wait p (waits cells h)) ≡ true
        down given.Nobody e gift = refl
        down (given.Writer q) e gift = absurd gift
        down given.Readers e gift = gift.reaching.reach

        last : (b : Taken) → GivesLast p t b g m → reaches c g (without_wait p (waits cells h)) ≡ true
        last (taken.Nothing q) gift = back g refl gift
        last (taken.Read l q) gift = down g refl gift
        last b gift = absurd (ne gift)

        at : (mo : Moment) → MayGiveAt mo p t b g m → reaches c g (without_wait p (waits cells h)) ≡ true
        at First gift = gift.reaching.reach
        at Last gift = last b gift

    pub legal_tried : IsLegalLine cells h (step_of p a) line
    legal_tried = by g refl
      where
        some : (x : Given) → g ≡ x → x ≢ given.Nobody → IsLegalLine cells h (step_of p a) line
        some x e ne = legal_gift (last_none n p t g d m gift_reaches b met.wanted (λ z. ne (sym e ∙ z)) gives) x e ne met.moment refl (subst (λ y. MayGiveAt met.moment p t b y m) e met.gives)

        by : (x : Given) → g ≡ x → IsLegalLine cells h (step_of p a) line
        by given.Nobody e = legal_quiet e
        by (given.Writer q) e = some (given.Writer q) e (λ z. (let f : given.Writer q ≡ given.Nobody = z in cc))
        by given.Readers e = some given.Readers e (λ z. (let f : given.Readers ≡ given.Nobody = z in cc))
