-- What stands open after an attempt, with what became of what it took.
use Rattle.phase_acts.proofs.Words.{◌+◌, ◌<◌, ◌∙◌, ◌∷◌, ◌≡◌, ◌≢◌, ◌⊎◌, accepts, Act, Answer, answer_at, answer_left, answer_missed, answer_running, answer_settled, answer_tried}
use Rattle.phase_acts.proofs.Words.{ap, arith, Bool, Call, call_left, Calls, cell_at, CellPlan, changes_at, Content, content_tried, count, downgraded, Event, event, false, Form}
use Rattle.phase_acts.proofs.Words.{form_of, Given, given_first, given_on, GivesSettled, guarded, if◌then◌else◌, inl, inr, is_accessible, is_declined, is_to_read, IsCallOf, IsOf}
use Rattle.phase_acts.proofs.Words.{IsUnlocked, left, length, List, MatchBool, MayGive, MayGiveDown, None, NoRun, Option, Phase, phase_at, phase_of, phase_reached, reaches, reader}
use Rattle.phase_acts.proofs.Words.{reads_on, ReadTicket, refl, Registry, registry, settled, shares_read, shares_write, Standing, standing, sym, Taken, takes_none, takes_write}
use Rattle.phase_acts.proofs.Words.{Target, tolerance_at, took, true, Turns, unlocked, unwrap_or, Wait, wait_of, waits, Want, without_wait, writer_asked, writes_on, WriteTicket, ℕ}
use Rattle.phase_locker.specs.declared.ways.Given.TheVariants as given
use Rattle.schedule_rules.specs.declared.form.Form.TheVariants.{Told, Shown, Held}
use Rattle.schedule_rules.specs.declared.line.Answer.TheVariants as answer
use Rattle.waiting_rows.proofs.Gave.{gave_share}
use Rattle.phase_moves.specs.declared.rows.Taken.TheVariants as taken
use Rattle.phase_acts.proofs.Settling.{first_alone}
use Rattle.phase_acts.proofs.Trying.{IsAttempt, left_open, read_left, standing_at, try_cyclic, try_denied, try_falls_back, try_finalizes, try_missed, try_reads, try_runs}
use Rattle.phase_acts.proofs.Trying.{try_shown, try_skips, try_told, try_waits, try_writes, write_left}

-- ---- one gift of two

-- nothing is given where something stands on the cell
none_given : (c : ℕ) (m : Standing) (d : Given) → 0 < count (shares_read c) m.waits + count (shares_write c) m.waits → MayGive c m d → d ≡ given.Nobody
none_given c m d some k = grind (arith, some, k)

module _ (n p : ℕ) (t : Target) (g d : Given) (m : Standing) (reach : g ≢ given.Nobody → reaches t.cell g (without_wait p m.waits) ≡ true) where
  shared : g ≢ given.Nobody → 0 < count (shares_read t.cell) (given_on t.cell g (without_wait p m.waits)) + count (shares_write t.cell) (given_on t.cell g (without_wait p m.waits))
  shared ne = gave_share t.cell g (without_wait p m.waits) (reach ne) ne

  -- a step that gave as it attempted, gives no more
  pub last_none : (b : Taken) → IsOf p t g m b → g ≢ given.Nobody → GivesSettled n p t.cell t.want g d b m → d ≡ given.Nobody
  last_none (taken.Read l q) of ne k = by (reads_on (answer_tried t.cell t.want m)) k
    where
      by : (z : Bool) → MatchBool z (d ≡ given.Nobody) (MayGive t.cell (left (reader n p t.cell) given.Nobody (took n p t.cell t.want g (taken.Read l q) m)) d) → d ≡ given.Nobody
      by true k = k
      by false k = none_given t.cell (left (reader n p t.cell) given.Nobody (took n p t.cell t.want g (taken.Read l q) m)) d (shared ne) k
  last_none (taken.Write l q) of ne k = absurd (ne of.2)
  last_none b of ne k = k

  one_of_two : (b : Taken) → IsOf p t g m b → GivesSettled n p t.cell t.want g d b m → (g ≡ given.Nobody) ⊎ (d ≡ given.Nobody)
  one_of_two b of k = by g refl
    where
      by : (x : Given) → g ≡ x → (g ≡ given.Nobody) ⊎ (d ≡ given.Nobody)
      by given.Nobody e = inl e
      by (given.Writer q) e = inr (last_none b of (λ z. (let f : given.Writer q ≡ given.Nobody = sym e ∙ z in cc)) k)
      by given.Readers e = inr (last_none b of (λ z. (let f : given.Readers ≡ given.Nobody = sym e ∙ z in cc)) k)

  -- so both are one
  pub given_both : (b : Taken) → IsOf p t g m b → GivesSettled n p t.cell t.want g d b m → (ws : List Wait) → given_on t.cell d (given_on t.cell g ws) ≡ given_on t.cell (given_first g d) ws
  given_both b of k ws =
      elim (one_of_two b of k) [
        | inl e ↦ ap (λ x. given_on t.cell d (given_on t.cell x ws)) e ∙ ap (λ x. given_on t.cell (given_first x d) ws) (sym e)
        | inr e ↦ ap (λ x. given_on t.cell x (given_on t.cell g ws)) e ∙ ap (λ x. given_on t.cell x ws) (sym (first_alone g)) ∙ ap (λ x. given_on t.cell (given_first g x) ws) (sym e)
      ]

-- ---- where the value may be accessed, the call was not declined

pub undeclined : (c : ℕ) (m : Standing) (j : Call) → is_accessible (cell_at m.plans c).kind (content_tried c (Calls j) m).phase ≡ true → is_declined (cell_at m.plans c).kind (tolerance_at m.plans c) j m.registry.is_open (m.content c).phase ≡ false
undeclined c m j e = by (is_declined (cell_at m.plans c).kind (tolerance_at m.plans c) j m.registry.is_open (m.content c).phase) refl
  where
    by : (b : Bool) → is_declined (cell_at m.plans c).kind (tolerance_at m.plans c) j m.registry.is_open (m.content c).phase ≡ b → b ≡ false
    by false f = refl
    by true f =
        let left_as = call_left (cell_at m.plans c) j m.registry.is_open (m.content c) ∙ ap (λ b. if b then record { phase = phase_reached (cell_at m.plans c).kind m.registry.is_open (m.content c).phase NoRun; value = (m.content c).value } else m.content c) f in
        let lacks : false ≡ true = sym (ap (λ (y : Content). is_accessible (cell_at m.plans c).kind y.phase) left_as) ∙ e in
        absurd (cc)

-- ---- what stands open

module _ (cells : List CellPlan) (h : List Event) (p : ℕ) (a : Act) (c : ℕ) (w : Want) (r : Registry) (o : Option ℕ) (k : IsAttempt cells h p a c w r o) (accepted : accepts h ≡ r.is_open) (same : (j : Call) → w ≡ Calls j → r ≡ registry cells h) where
  abbrev m : Standing
  m = standing_at cells h r o

  abbrev n : ℕ
  n = length h

  abbrev t : Target
  t = record { cell = c; want = w }

  -- the standing of the longer history
  abbrev after_answer : Answer → Given → Standing
  after_answer x d = standing cells (event p a (record { answer = x; given = d }) ∷ h)

  -- what the cell holds then
  abbrev y : Content
  y = content_tried c w m

  abbrev access : Bool
  access = is_accessible (cell_at cells c).kind (content_tried c w m).phase

  -- ---- a call by its form

  module _ (j : Call) (calls : w ≡ Calls j) where
    abbrev lefts : Given → Standing
    lefts = left_open cells h p a c w r o k j calls (same j calls) accepted

    fine : access ≡ true → is_declined (cell_at cells c).kind (tolerance_at cells c) j r.is_open (phase_at cells c h) ≡ false
    fine e = undeclined c m j (ap (λ v. is_accessible (cell_at cells c).kind (content_tried c v m).phase) (sym calls) ∙ e)

    -- a call that keeps no lock has its section given back
    pub nothing_left : (f : Form) (b : Bool) → access ≡ b → takes_none f ≡ true → (d : Given) → after_answer (answer_at f b y) d ≡ lefts d
    nothing_left (Told true) false e is d = try_denied cells h p a c w r o k j calls (same j calls) accepted (phase_of y.phase) d
    nothing_left (Told false) false e is d = try_told cells h p a c w r o k j calls (same j calls) accepted (phase_of y.phase) d
    nothing_left (Told tests) b e is d = try_told cells h p a c w r o k j calls (same j calls) accepted (phase_of y.phase) d
    nothing_left Shown true e is d = try_shown cells h p a c w r o k j calls (same j calls) accepted (fine e) (unwrap_or y.value 0) d
    nothing_left Shown false e is d = try_denied cells h p a c w r o k j calls (same j calls) accepted (phase_of y.phase) d
    nothing_left (Held writes falls_back) b e is d = absurd (cc)

    -- a call to read reads on, or has its section given back
    pub read_open : (f : Form) (b : Bool) → access ≡ b → is_to_read f ≡ true → (d : Given) → after_answer (answer_at f b y) d ≡ (if reads_on (answer_at f b y) then guarded (reader n p c) (lefts d) else lefts d)
    read_open (Held false falls_back) true e is d = try_reads cells h p a c w r o k j calls (same j calls) accepted (fine e) d
    read_open (Held false true) false e is d = try_falls_back cells h p a c w r o k j calls (same j calls) accepted d
    read_open (Held false false) false e is d = try_denied cells h p a c w r o k j calls (same j calls) accepted (phase_of y.phase) d
    read_open f b e is d = absurd (cc)

    -- a call that gets the lock to write keeps it, reads on, or has its section given back
    pub write_open : (l : WriteTicket) (q : Phase) (f : Form) (b : Bool) → access ≡ b → takes_write f ≡ true → (d : Given) → after_answer (answer_at f b y) d ≡ (if writes_on (answer_at f b y) then took n p c w d (taken.Write l q) m else (if reads_on (answer_at f b y) then guarded (reader n p c) (lefts d) else lefts d))
    write_open l q (Held true falls_back) true e is d = try_writes cells h p a c w r o k j calls (same j calls) accepted (fine e) l q d
    write_open l q (Held true true) false e is d = try_falls_back cells h p a c w r o k j calls (same j calls) accepted d
    write_open l q (Held true false) false e is d = try_denied cells h p a c w r o k j calls (same j calls) accepted (phase_of y.phase) d
    write_open l q (Told true) false e is d = try_denied cells h p a c w r o k j calls (same j calls) accepted (phase_of y.phase) d
    write_open l q (Told false) false e is d = try_told cells h p a c w r o k j calls (same j calls) accepted (phase_of y.phase) d
    write_open l q (Told tests) b e is d = try_told cells h p a c w r o k j calls (same j calls) accepted (phase_of y.phase) d
    write_open l q f b e is d = absurd (cc)

    -- so is its answer
    pub answer_call : answer_tried c w m ≡ answer_at (form_of (cell_at cells c).kind j) access y
    answer_call = ap (λ v. answer_left (cell_at cells c).kind c v (content_tried c w m)) calls

  -- ---- what becomes of what it took

  -- the standing of the longer history
  abbrev after : Taken → Given → Given → Standing
  after b g d = after_answer (answer_settled c w b m) (given_first g d)

  module _ (g d : Given) (reach : g ≢ given.Nobody → reaches c g (without_wait p (waits cells h)) ≡ true) where
    one : (b : Taken) → IsOf p t g m b → GivesSettled n p c w g d b m → given_on c d (given_on c g (without_wait p (waits cells h))) ≡ given_on c (given_first g d) (without_wait p (waits cells h))
    one b of gives = given_both n p t g d m reach b of gives (without_wait p (waits cells h))

    -- nothing was given after
    quiet : (x : Answer) → d ≡ given.Nobody → after_answer x (given_first g d) ≡ after_answer x g
    quiet x e = ap (after_answer x) (ap (given_first g) e ∙ first_alone g)

    after_nothing : (q : Phase) (v : Want) → w ≡ v → IsUnlocked (cell_at cells c).kind v → d ≡ given.Nobody → after (taken.Nothing q) g d ≡ settled n p c w g d (taken.Nothing q) m
    after_nothing q (Calls j) calls of e =
        quiet (answer_tried c w m) e ∙ ap (λ x. after_answer x g) (answer_call j calls) ∙ nothing_left j calls (form_of (cell_at cells c).kind j) access refl of g ∙ ap (λ v. unlocked c v (took n p c w g (taken.Nothing q) m)) (sym calls)
    after_nothing q Turns turns of e =
        quiet (answer_tried c w m) e ∙ ap (λ v. after_answer (answer_left (cell_at cells c).kind c v (content_tried c w m)) g) turns ∙ try_skips cells h p a c w r o k turns q g ∙ ap (λ v. unlocked c v (took n p c w g (taken.Nothing q) m)) (sym turns)

    after_runs : (v : Want) → w ≡ v → d ≡ given.Nobody → after taken.Runs g d ≡ settled n p c w g d taken.Runs m
    after_runs (Calls j) e none = quiet (answer_running c w) none ∙ ap (λ v. after_answer (answer_running c v) g) e ∙ try_runs cells h p a c w r o k j e (same j e) accepted g
    after_runs Turns e none = quiet (answer_running c w) none ∙ ap (λ v. after_answer (answer_running c v) g) e ∙ try_finalizes cells h p a c w r o k accepted e g

    after_read : (l : ReadTicket) (q : Phase) (v : Want) → w ≡ v → IsCallOf (cell_at cells c).kind v is_to_read → IsOf p t g m (taken.Read l q) → GivesSettled n p c w g d (taken.Read l q) m → after (taken.Read l q) g d ≡ settled n p c w g d (taken.Read l q) m
    after_read l q Turns e is of gives = absurd is
    after_read l q (Calls j) calls is of gives =
        ap (λ x. after_answer x (given_first g d)) (answer_call j calls)
        ∙ read_open j calls (form_of (cell_at cells c).kind j) access refl is (given_first g d)
        ∙ ap (λ x. if reads_on x then guarded (reader n p c) (lefts j calls (given_first g d)) else lefts j calls (given_first g d)) (sym (answer_call j calls))
        ∙ by (reads_on (answer_tried c w m)) gives
      where
        by : (b : Bool) → MatchBool b (d ≡ given.Nobody) (MayGive c (left (reader n p c) given.Nobody (took n p c w g (taken.Read l q) m)) d) → (if b then guarded (reader n p c) (lefts j calls (given_first g d)) else lefts j calls (given_first g d)) ≡ (if b then took n p c w g (taken.Read l q) m else left (reader n p c) d (took n p c w g (taken.Read l q) m))
        by true none = ap (λ x. guarded (reader n p c) (lefts j calls x)) (ap (given_first g) none ∙ first_alone g)
        by false gift = read_left cells h p a c w r o k j calls (same j calls) accepted g d (one (taken.Read l q) of gives) l q

    after_write : (l : WriteTicket) (q : Phase) (v : Want) → w ≡ v → IsCallOf (cell_at cells c).kind v takes_write → IsOf p t g m (taken.Write l q) → GivesSettled n p c w g d (taken.Write l q) m → after (taken.Write l q) g d ≡ settled n p c w g d (taken.Write l q) m
    after_write l q Turns e is of gives = absurd is
    after_write l q (Calls j) calls is of gives =
        ap (λ x. after_answer x (given_first g d)) (answer_call j calls)
        ∙ write_open j calls l q (form_of (cell_at cells c).kind j) access refl is (given_first g d)
        ∙ ap (λ x. if writes_on x then took n p c w (given_first g d) (taken.Write l q) m else (if reads_on x then guarded (reader n p c) (lefts j calls (given_first g d)) else lefts j calls (given_first g d))) (sym (answer_call j calls))
        ∙ by (writes_on (answer_tried c w m)) gives
      where
        given_back : lefts j calls (given_first g d) ≡ left (writer_asked n p c (changes_at c w m)) d (took n p c w g (taken.Write l q) m)
        given_back = write_left cells h p a c w r o k j calls (same j calls) accepted g d (one (taken.Write l q) of gives) l q

        then_on : (b : Bool) → (if b then guarded (reader n p c) (lefts j calls (given_first g d)) else lefts j calls (given_first g d)) ≡ (if b then downgraded n (writer_asked n p c (changes_at c w m)) d (took n p c w g (taken.Write l q) m) else left (writer_asked n p c (changes_at c w m)) d (took n p c w g (taken.Write l q) m))
        then_on true = ap (guarded (reader n p c)) given_back
        then_on false = given_back

        by : (b : Bool) → MatchBool b (d ≡ given.Nobody) (MatchBool (reads_on (answer_tried c w m)) (MayGiveDown c (took n p c w g (taken.Write l q) m) d) (MayGive c (left (writer_asked n p c (changes_at c w m)) given.Nobody (took n p c w g (taken.Write l q) m)) d))
            → (if b then took n p c w (given_first g d) (taken.Write l q) m else (if reads_on (answer_tried c w m) then guarded (reader n p c) (lefts j calls (given_first g d)) else lefts j calls (given_first g d))) ≡ (if b then took n p c w g (taken.Write l q) m else (if reads_on (answer_tried c w m) then downgraded n (writer_asked n p c (changes_at c w m)) d (took n p c w g (taken.Write l q) m) else left (writer_asked n p c (changes_at c w m)) d (took n p c w g (taken.Write l q) m)))
        by true none = ap (λ x. took n p c w x (taken.Write l q) m) (ap (given_first g) none ∙ first_alone g)
        by false gift = then_on (reads_on (answer_tried c w m))

    -- it is turned away
    after_cyclic : (v : Want) → w ≡ v → g ≡ given.Nobody → d ≡ given.Nobody → wait_of p (waits cells h) ≡ None → (w ≡ Turns → ⊥) → after taken.Cyclic g d ≡ settled n p c w g d taken.Cyclic m
    after_cyclic (Calls j) e of none awake calls = quiet answer.Cyclic none ∙ ap (after_answer answer.Cyclic) of ∙ try_cyclic cells h p a c w r o k j e (same j e) accepted awake
    after_cyclic Turns e of none awake calls = absurd (calls e)

    after_missed : (v : Want) → w ≡ v → g ≡ given.Nobody → d ≡ given.Nobody → wait_of p (waits cells h) ≡ None → (w ≡ Turns → ⊥) → after taken.Missed g d ≡ settled n p c w g d taken.Missed m
    after_missed (Calls j) e of none awake calls = quiet (answer_missed w) none ∙ ap (after_answer (answer_missed w)) of ∙ ap (λ v. after_answer (answer_missed v) given.Nobody) e ∙ try_missed cells h p a c w r o k j e (same j e) accepted awake
    after_missed Turns e of none awake calls = absurd (calls e)

    -- what asks for its own run is a call that does not wait
    pub after_tried : (b : Taken) → IsOf p t g m b → GivesSettled n p c w g d b m → (b ≡ taken.Cyclic → (wait_of p (waits cells h) ≡ None) × (w ≡ Turns → ⊥)) → after b g d ≡ settled n p c w g d b m
    after_tried (taken.Wait how) of gives alone = quiet (answer.Waiting how) gives ∙ try_waits cells h p a c w r o k how g
    after_tried taken.Missed of gives alone = after_missed w refl of.0 gives of.1 of.2
    after_tried taken.Cyclic of gives alone = let z = alone refl in after_cyclic w refl of gives z.0 z.1
    after_tried (taken.Nothing q) of gives alone = after_nothing q w refl of gives
    after_tried (taken.Read l q) of gives alone = after_read l q w refl of of gives
    after_tried (taken.Write l q) of gives alone = after_write l q w refl of.0 of gives
    after_tried taken.Runs of gives alone = after_runs w refl gives
