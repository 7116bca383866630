-- What an attempt took is the answer that is due of what it met, and what it gave it may give.
use Rattle.phase_moves.proofs.Words.{◌≡◌, ◌≢◌, ◌<◌, ◌∙◌, ℕ, List, length, ap, sym, subst, refl, arith, Bool, true, false, None, Some, inl, inr, ◌&&◌, ◌||◌, cases_lt, ◌⊎◌}
use Rattle.phase_moves.proofs.Words.{MatchBool, if◌then◌else◌, nat_lt, find, Option, Holders, has, initialized, number, Registry, Given, How, Who, LockerKind, LockNature}
use Rattle.phase_moves.proofs.Words.{bars, got, Parking, row_of, freed, MayHand, MayShare, rows_handed, MayWait, given_up, keeps as row_keeps, Ask, Sought, Begun, asks_run}
use Rattle.phase_moves.proofs.Words.{run_sought, nature_of, shall_init, wake_of, begun_of, is_cyclic, is_run, flags_refused, is_refused, CellPlan, Turns, answer_admitted}
use Rattle.phase_moves.proofs.Words.{answer_barred, answer_of_attempt, drains_by, way_parked, is_accessible, is_owned, initializes, is_fast, wakes_as, Content, count}
use Rattle.phase_moves.proofs.Words.{is_barred, keeps_of_holds as keeps, wants_to_write, cell_at, tolerance_of, First, Last, generates_for, runs_in, Wait, drains_on, is_drain}
use Rattle.phase_moves.proofs.Words.{wait_of, without_wait, most_parties, IsListed, given_on, listed_hand, listed_share, claims_shown, shares_shown, Target, registry_for}
use Rattle.phase_moves.proofs.Words.{IsGift, MayGive, stand_on, GivesDown, GivesFirst, GivesLast, IsMet, IsOf, IsReaching, answer_taken, holding_in, keeps_in, meets}
use Rattle.phase_moves.proofs.Words.{wanted_in, writers_in, Standing, answered, changes_at, content_tried, reads_in, run_in, runner_of, writes_in, AreShown, IsLocked, kind_at}
use Rattle.phase_moves.proofs.Words.{is_quick, taken_of, Answer}
use Rattle.phase_moves.proofs.Asked.{IsAsked, asked_left, declines_same, own_same, wakes_same, wanted_same}
use Rattle.phase_moves.proofs.Barring.{barred_same, locked_same, misses_due, readers_same, row_kept, waits_due}
use Rattle.phase_moves.proofs.Judged.{IsBarred, IsClear, IsJudged, IsKept, IsWaiting}
use Rattle.phase_moves.proofs.Sharing.{gives_none, clear_none as clear_none_of, gives_first as gives_first_of, reaching as reaching_of, shown_given as shown_given_of}
use Rattle.phase_moves.proofs.Settling.{IsDeclined, IsSettled, MayDecline, begun_declined, begun_settled}
use Rattle.phase_moves.proofs.Admitting.{FitsSought, admitted_due, begun_met, judged_no, met_fits, runs_same}
use Rattle.phase_moves.proofs.{Attempts.run_writes, Attempts.writes_begun, Parking.ran_asked, Parking.waits_by}

-- it waits, or it is barred and does not wait
record Waits (e : Begun) : Type 0 where
  way : How
  begins : e ≡ Begun.Wait way

record Misses (ask : Ask) (e : Begun) : Type 0 where
  quick : ask.fast ≡ true
  begins : e ≡ Begun.Missed

module _ (n : ℕ) (k : LockerKind) (h : Holders) (s : Parking) (m : Standing) (p : ℕ) (t : Target) (locked : IsLocked k h s t.cell (reads_in t.cell m) (writes_in t.cell m) (m.content t.cell).phase) (placed : k ≡ kind_at (cell_at m.plans t.cell).place) (shown : AreShown n m.waits s) (sizes : length s.writers ≡ length s.readers) (few : length s.rows < most_parties)
    (cell_in : t.cell < length s.readers) (party_in : p < length s.rows) (ask : Ask) (asked : IsAsked (cell_at m.plans t.cell) t.want ask) (waited : (w : Wait) → wait_of p m.waits ≡ Some w → w.cell ≡ t.cell) (awake : is_quick (cell_at m.plans t.cell) t.want ≡ true → wait_of p m.waits ≡ None) (shared_turn : t.want ≡ Turns → is_owned (cell_at m.plans t.cell).place ≡ false) where
  abbrev who : Who
  who = record { cell = t.cell; party = p }

  abbrev x : CellPlan
  x = cell_at m.plans t.cell

  abbrev y : Content
  y = m.content t.cell

  abbrev wanted : LockNature
  wanted = wanted_in t.cell t.want m

  abbrev others : List Wait
  others = without_wait p m.waits

  abbrev freed_p : Parking
  freed_p = freed p s

  wanted_is : nature_of ask h.phase ≡ wanted
  wanted_is = ap (nature_of ask) locked.phase_is ∙ wanted_same x t.want ask asked y.phase

  kept_is : row_keeps (row_of s p).waiting (nature_of ask h.phase) h ≡ keeps_in p t.cell t.want m
  kept_is =
      ap (λ z. row_keeps (row_of s p).waiting z h) wanted_is
      ∙ row_kept p wanted m.waits s h shown.shows
      ∙ ap (keeps (wait_of p m.waits) wanted) (readers_same k h s t.cell (reads_in t.cell m) (writes_in t.cell m) m.waits locked.fits locked.reads_are locked.write_is locked.write_was shown.single shown.shows)

  -- ---- what is given

  shown_given : (g : Given) → IsListed t.cell freed_p g → AreShown n (given_on t.cell g others) (rows_handed t.cell g freed_p)
  shown_given = shown_given_of n k h s m p t locked placed shown sizes few cell_in party_in waited

  shown_freed : AreShown n others freed_p
  shown_freed = shown_given Given.Nobody tt

  reaching : (g : Given) → IsListed t.cell freed_p g → g ≢ Given.Nobody → IsReaching p t.cell g m
  reaching = reaching_of n k h s m p t locked placed shown sizes few cell_in party_in waited

  gives_first : (g : Given) → keeps_in p t.cell t.want m ≡ false → g ≢ Given.Nobody → MayHand t.cell (given_up (row_of s p).waiting h) freed_p g → GivesFirst p t g m
  gives_first = gives_first_of n k h s m p t locked placed shown sizes few cell_in party_in waited

  clear_none : (g : Given) → IsListed t.cell freed_p g → IsClear k who ask h s g → g ≡ Given.Nobody
  clear_none = clear_none_of n k h s m p t locked placed shown sizes few cell_in party_in waited ask

  -- ---- what is answered

  abbrev o : Option Registry
  o = registry_for x.kind m.registry

  -- what was judged is the answer that is due, where these calls of others wait
  abbrev IsDue : Begun → List Wait → Bool → Type 0
  IsDue b ws chosen = answer_taken x.kind t (content_tried t.cell t.want m) (taken_of b) ≡ answer_of_attempt x t.want (meets p t.cell t.want ws m) chosen

  -- it is admitted
  admitted_is : (e : Begun) → e ≡ begun_of who ask h.phase (got (nature_of ask h.phase) h.phase) → answer_taken x.kind t (content_tried t.cell t.want m) (taken_of (begun_settled ask o h.phase e)) ≡ answer_admitted x.kind (tolerance_of x) t.cell m.registry.is_open t.want y
  admitted_is e is =
      ap (λ z. answer_taken x.kind t (content_tried t.cell t.want m) (taken_of (begun_settled ask o h.phase z))) is
      ∙ ap (λ q. answer_taken x.kind t (content_tried t.cell t.want m) (taken_of (begun_met who o q ask))) locked.phase_is
      ∙ admitted_due x t.cell p m.registry y t.want ask asked

  module _ (calm : is_cyclic ask.want p (runner_of (run_in t.cell m.sections)) ≡ false) where
    own_no : (initializes x.kind t.want && generates_for p (find (runs_in t.cell) m.sections)) ≡ false
    own_no = sym (own_same x t.want ask asked (generates_for p (find (runs_in t.cell) m.sections))) ∙ ap (λ b. run_sought ask.want && b) (sym (runs_same p t.cell m.sections)) ∙ calm

    kept_due : (e : Begun) (g : Given) (ws : List Wait) → IsKept k who ask h s e g → IsDue (begun_settled ask o h.phase e) ws false
    kept_due e g ws kept = grind (arith, admitted_is, own_no, kept_is)

    judged_due : (e : Begun) (g : Given) → (j : IsJudged k who ask h s e g) → IsDue (begun_settled ask o h.phase e) (given_on t.cell g others) (waits_by e)
    judged_due e g j = by (bars j.mid (nature_of ask h.phase)) refl j.judged where
      ws : List Wait
      ws = given_on t.cell g others

      shown_mid : AreShown n (given_on t.cell g others) j.rows
      shown_mid = subst (λ (z : Parking). AreShown n (given_on t.cell g others) z) (sym j.rows_are) (shown_given g (listed_hand t.cell (given_up (row_of s p).waiting h) freed_p g j.may))

      barred_is : bars j.mid (nature_of ask h.phase) ≡ is_barred wanted (holding_in t.cell (given_on t.cell g others) m)
      barred_is = ap (bars j.mid) wanted_is ∙ barred_same k j.mid j.rows t.cell (reads_in t.cell m) (writes_in t.cell m) (given_on t.cell g others) j.fits (j.reads ∙ locked.reads_are) (λ lt. j.writes (locked.write_is lt)) (λ w. locked.write_was (j.only w)) shown_mid.single shown_mid.shows wanted

      locks : j.mid.locked ≡ (nat_lt 0 (writers_in t.cell (given_on t.cell g others) m) || nat_lt 0 (count (drains_on t.cell) (given_on t.cell g others)))
      locks = locked_same k j.mid j.rows t.cell (reads_in t.cell m) (writes_in t.cell m) (given_on t.cell g others) j.fits (j.reads ∙ locked.reads_are) (λ lt. j.writes (locked.write_is lt)) (λ w. locked.write_was (j.only w)) shown_mid.single shown_mid.shows

      due_by : (chosen b : Bool) → is_barred wanted (holding_in t.cell (given_on t.cell g others) m) ≡ b
          → answer_of_attempt x t.want (meets p t.cell t.want (given_on t.cell g others) m) chosen ≡ (if b then answer_barred (is_fast t.want) x.place (way_parked x.kind t.want (drains_by wanted (holding_in t.cell (given_on t.cell g others) m) chosen)) else answer_admitted x.kind (tolerance_of x) t.cell m.registry.is_open t.want y)
      due_by chosen b f = grind (arith, judged_no, own_no, kept_is)

      -- it is barred
      barred : (f : Bool) → ask.fast ≡ f → is_barred wanted (holding_in t.cell (given_on t.cell g others) m) ≡ true → MatchBool f (e ≡ Begun.Missed) (IsWaiting k who ask h s j.fresh j.mid e) → IsDue (begun_settled ask o h.phase e) (given_on t.cell g others) (waits_by e)
      barred true f is w =
          subst (λ z. IsDue (begun_settled ask o h.phase z) (given_on t.cell g others) (waits_by z)) (sym w)
          (misses_due x t.want (way_parked x.kind t.want (drains_by wanted (holding_in t.cell (given_on t.cell g others) m) false)) (sym asked.fast ∙ f) ∙ sym (due_by false true is))
      barred false f is w = subst (λ z. IsDue (begun_settled ask o h.phase z) (given_on t.cell g others) (waits_by z)) (sym w.begins) (way ∙ sym (due_by (is_drain w.way) true is)) where
        may : MayWait (kind_at x.place) j.fresh (wakes_as x.kind t.want) wanted j.mid w.way
        may = subst (λ z. MayWait (kind_at x.place) j.fresh z wanted j.mid w.way) (wakes_same x t.want ask asked) (subst (λ z. MayWait (kind_at x.place) j.fresh (wake_of ask.want) z j.mid w.way) wanted_is (subst (λ z. MayWait z j.fresh (wake_of ask.want) (nature_of ask h.phase) j.mid w.way) placed w.may))

        way : Answer.Waiting w.way ≡ answer_barred (is_fast t.want) x.place (way_parked x.kind t.want (drains_by wanted (holding_in t.cell (given_on t.cell g others) m) (is_drain w.way)))
        way = waits_due x t.want wanted (holding_in t.cell (given_on t.cell g others) m) j.fresh j.mid (sym asked.fast ∙ f) locks is w.way may

      by : (b : Bool) → bars j.mid (nature_of ask h.phase) ≡ b → MatchBool b (IsBarred k who ask h s j.fresh j.mid e) (e ≡ begun_of who ask h.phase (got (nature_of ask h.phase) h.phase)) → IsDue (begun_settled ask o h.phase e) (given_on t.cell g others) (waits_by e)
      by true f w = barred ask.fast refl (sym barred_is ∙ f) w
      by false f w = admitted_is e w ∙ sym (due_by (waits_by e) false (sym barred_is ∙ f))

    -- it waits, is missed or is admitted
    abbrev Sorted : Begun → Type 0
    Sorted e = (Waits e ⊎ Misses ask e) ⊎ (e ≡ begun_of who ask h.phase (got (nature_of ask h.phase) h.phase))

    sort : (e : Begun) (first : Given) → IsKept k who ask h s e first ⊎ IsJudged k who ask h s e first → Sorted e
    sort e first (inl kept) = inr kept.begins
    sort e first (inr j) = by (bars j.mid (nature_of ask h.phase)) j.judged where
      by : (b : Bool) → MatchBool b (IsBarred k who ask h s j.fresh j.mid e) (e ≡ begun_of who ask h.phase (got (nature_of ask h.phase) h.phase)) → Sorted e
      by b w = grind arith

    -- what a call may give that does not wait
    quiet_missed : (first : Given) (e : Begun) → ask.fast ≡ true → IsKept k who ask h s e first ⊎ IsJudged k who ask h s e first → first ≡ Given.Nobody
    quiet_missed first e fast f = grind arith

    -- what is got is of the kind that is wanted
    of_fits : (z : Begun) (g : Given) → FitsSought ask.want z → (writes_begun z ≡ 1 → g ≡ Given.Nobody) → IsOf p t g m (taken_of z)
    of_fits z g fits none = grind arith

    -- a turn may wait
    slow_turn : t.want ≡ Turns → is_quick x t.want ≡ true → ⊥
    slow_turn turns quick = let f : false ≡ true = sym (shared_turn turns) ∙ sym (ap (λ w. is_fast w || is_owned x.place) turns) ∙ quick in cc

    of_settled : (b : Begun) (g : Given) (h' : Holders) → IsSettled k who ask o h s b g h' → IsOf p t g m (taken_of b)
    of_settled b g h' st = subst (λ z. IsOf p t g m (taken_of z)) (sym st.begins) (by (sort st.entered st.first st.how)) where
      -- what is not declined gave as it entered
      entered_gave : is_run st.entered ≡ false → g ≡ st.first
      entered_gave e = elim st.gave [ inl f ↦ f | inr d ↦ (let f : false ≡ true = sym e ∙ d.ran in absurd (cc)) ]

      listed : IsListed t.cell freed_p g
      listed = by st.how st.gave where
        by : IsKept k who ask h s st.entered st.first ⊎ IsJudged k who ask h s st.entered st.first → (g ≡ st.first) ⊎ IsDeclined k who ask o h s st.entered st.first g → IsListed t.cell freed_p g
        by how e = grind arith

      by : Sorted st.entered → IsOf p t g m (taken_of (begun_settled ask o h.phase st.entered))
      by e = grind (arith, begun_settled, entered_gave, quiet_missed, slow_turn, of_fits, met_fits, clear_none, listed, writes_begun)

    -- what gives then is a call that is declined
    gives_last : (e : Begun) (first g : Given) → IsKept k who ask h s e first ⊎ IsJudged k who ask h s e first → IsDeclined k who ask o h s e first g → GivesLast p t (taken_of (begun_settled ask o h.phase e)) g m
    gives_last e first g j d = subst (λ z. GivesLast p t (taken_of z) g m) (sym (declined_then e d.ran)) (subst (λ w. GivesLast p t (taken_of (begun_declined w)) g m) refl (by ask.want refl d.may)) where
      declined_then : (z : Begun) → is_run z ≡ true → begun_settled ask o h.phase z ≡ begun_declined ask.want
      declined_then z f = grind arith

      admitted : Sorted e → e ≡ begun_of who ask h.phase (got (nature_of ask h.phase) h.phase)
      admitted e = grind arith

      run_asked : asks_run ask h.phase ≡ true
      run_asked = ran_asked who ask h.phase (nature_of ask h.phase) (ap is_run (sym (admitted (sort e first j))) ∙ d.ran)

      wrote : wants_to_write wanted ≡ true
      wrote = ap wants_to_write (sym wanted_is ∙ run_writes ask.want (shall_init ask.tol h.phase) (has (number h.phase) initialized) run_asked)

      -- it is declined
      lacks : is_accessible x.kind (content_tried t.cell t.want m).phase ≡ false
      lacks =
          ap (λ (z : Content). is_accessible x.kind z.phase) (asked_left x t.want m.registry.is_open y)
          ∙ ap (λ b. is_accessible x.kind (if b then flags_refused else y.phase)) (sym (declines_same x t.want ask asked m.registry y.phase) ∙ (λ i. asks_run ask (sym locked.phase_is i) && is_refused ask.tol.leak o (sym locked.phase_is i)) ∙ (λ i. run_asked i && d.refuses i))

      -- nothing stands beside its lock
      free : stand_on t.cell (answered p t.cell Given.Nobody (changes_at t.cell t.want m) m) ≡ 0
      free =
          let shares_are = shares_shown t.cell others freed_p shown_freed.single shown_freed.shows in
          let claims_are = claims_shown t.cell others freed_p shown_freed.single shown_freed.shows in let no_shares = d.clear.shares_none in
          let no_claims = d.clear.claims_none in let reads = locked.reads_are in let no_reads = d.clear.reads_none in let writes = unwritten in
          omega (arith, shares_are, claims_are, no_shares, no_claims, reads, no_reads, writes) where
            unwritten : writes_in t.cell m ≡ 0
            unwritten = elim (cases_lt 0 (writes_in t.cell m)) [ inr le ↦ omega (arith, le) | inl lt ↦ absurd (d.clear.closed (locked.write_is lt)) ]

      gift : (z : Given) → IsListed t.cell freed_p z → z ≢ Given.Nobody → IsGift t.cell (answered p t.cell Given.Nobody (changes_at t.cell t.want m) m) z
      gift z listed ne = record { parks = (reaching z listed ne).parks; reach = (reaching z listed ne).reach; free = free }

      given_back : (z : Given) → IsListed t.cell freed_p z → MayGive t.cell (answered p t.cell Given.Nobody (changes_at t.cell t.want m) m) z
      given_back z listed = grind (arith, gift)

      given_down : (z : Given) → MayShare t.cell freed_p z → GivesDown p t z m
      given_down Given.Nobody may = tt
      given_down (Given.Writer q) may = absurd may
      given_down Given.Readers may = record { reaching = reaching Given.Readers (listed_share t.cell freed_p Given.Readers may) (λ z. (let f : Given.Readers ≡ Given.Nobody = z in cc)); wrote = wrote; lacks = lacks }

      by : (w : Sought) → ask.want ≡ w → MayDecline k who ask o h s w g → GivesLast p t (taken_of (begun_declined w)) g m
      by w f may = grind (arith, given_back, given_down)

    -- the answer is due, and the gift allowed
    pub met : (b : Begun) (g : Given) (h' : Holders) → IsSettled k who ask o h s b g h' → IsMet p t (taken_of b) g m
    met b g h' st = by st.how st.gave where
      quiet_judged : (first : Given) → first ≡ Given.Nobody → IsJudged k who ask h s st.entered first → IsDue b others (waits_by st.entered)
      quiet_judged first e j = subst (λ z. IsDue z others (waits_by st.entered)) (sym st.begins) (subst (λ z. IsDue (begun_settled ask o h.phase st.entered) (given_on t.cell z others) (waits_by st.entered)) e (judged_due st.entered first j))

      gives_then : IsKept k who ask h s st.entered st.first ⊎ IsJudged k who ask h s st.entered st.first → IsDeclined k who ask o h s st.entered st.first g → GivesLast p t (taken_of b) g m
      gives_then j d = subst (λ z. GivesLast p t (taken_of z) g m) (sym st.begins) (gives_last st.entered st.first g j d)

      wanted_of : IsOf p t g m (taken_of b)
      wanted_of = of_settled b g h' st

      by : IsKept k who ask h s st.entered st.first ⊎ IsJudged k who ask h s st.entered st.first → (g ≡ st.first) ⊎ IsDeclined k who ask o h s st.entered st.first g → IsMet p t (taken_of b) g m
      by (inl kept) (inl e) =
          record {
            moment = Last;
            chosen = false;
            answered = subst (λ z. IsDue z others false) (sym st.begins) (kept_due st.entered st.first others kept);
            gives = subst (λ z. GivesLast p t (taken_of b) z m) (sym (e ∙ kept.quiet)) (gives_none p t m (taken_of b));
            wanted = wanted_of;
          }
      by (inl kept) (inr d) =
          record {
            moment = Last;
            chosen = false;
            answered = subst (λ z. IsDue z others false) (sym st.begins) (kept_due st.entered st.first others kept);
            gives = gives_then (inl kept) d;
            wanted = wanted_of;
          }
      by (inr j) (inr d) = record { moment = Last; chosen = waits_by st.entered; answered = quiet_judged st.first d.quiet j; gives = gives_then (inr j) d; wanted = wanted_of }
      by (inr j) (inl e) = at g refl where
        first : g ≢ Given.Nobody → IsMet p t (taken_of b) g m
        first ne =
            record {
              moment = First;
              chosen = waits_by st.entered;
              answered = subst (λ z. IsDue z (given_on t.cell g others) (waits_by st.entered)) (sym st.begins) (subst (λ z. IsDue (begun_settled ask o h.phase st.entered) (given_on t.cell z others) (waits_by st.entered)) (sym e) (judged_due st.entered st.first j));
              gives = gives_first g (sym kept_is ∙ j.dropped) ne (subst (λ z. MayHand t.cell (given_up (row_of s p).waiting h) freed_p z) (sym e) j.may);
              wanted = wanted_of;
            }

        at : (z : Given) → g ≡ z → IsMet p t (taken_of b) g m
        at Given.Nobody f = record { moment = Last; chosen = waits_by st.entered; answered = quiet_judged st.first (sym e ∙ f) j; gives = subst (λ z. GivesLast p t (taken_of b) z m) (sym f) (gives_none p t m (taken_of b)); wanted = wanted_of }
        at (Given.Writer q) f = first (λ z. (let a : Given.Writer q ≡ Given.Nobody = sym f ∙ z in cc))
        at Given.Readers f = first (λ z. (let a : Given.Readers ≡ Given.Nobody = sym f ∙ z in cc))
