-- The rows stand for what is open after an attempt, whatever it was answered.
use Rattle.phase_moves.proofs.Words.{◌≡◌, ◌<◌, ◌≤◌, ◌+◌, ◌∙◌, ℕ, length, set, get_or, ap, sym, subst, refl, arith, Bool, true, false, None, Some, inl, inr, ◌⊎◌, ◌&&◌}
use Rattle.phase_moves.proofs.Words.{MatchBool, if◌then◌else◌, is_some, Option, Phase, Holders, phase_of, most_readers, Registry, cells_of, Given, How, Who, LockerKind}
use Rattle.phase_moves.proofs.Words.{ReadTicket, WriteTicket, write_ticket, Parking, IsSound, freed, readers_of, row_of, free_row, rows_handed, Left, Opens, Ask, SeqSection}
use Rattle.phase_moves.proofs.Words.{Begun, is_cyclic, runs as seq_runs, section_by, running_after, is_turned_back, is_run, BegunStands, begins_write, reads_begun, CellPlan}
use Rattle.phase_moves.proofs.Words.{Turns, initializes, seeks, cell_at, Content, innermost, is_turn, count, most_parties, Wait, wait_of, waits_at, without_wait}
use Rattle.phase_moves.proofs.Words.{cell_of_section, given_on, CellRow, PartyRow, Target, Rows, CallOf, registry_for, registry_begun, Standing, run_in, runner_of, writes_in}
use Rattle.phase_moves.proofs.Words.{section_asked, registry_asked, Stands, seen_at, IsCell, IsExit, AreShown, party_row, open_run, run_as, stays_in, IsAttempting, IsTook}
use Rattle.phase_moves.proofs.Words.{MayWait_of_tries as MayWait, WaitsAt, ask_of, draft_after, is_quick, opens_section, party_after, run_after, taken_of, waiting_after}
use Rattle.phase_moves.proofs.Words.{waiting_with, Taken, IsMet, sound_of, freed_free, freed_size, Sought}
use Rattle.phase_moves.proofs.Asked.{IsAsked, asked_as, stays_same, run_calls, registry_run, cells_stay}
use Rattle.phase_moves.proofs.Attempts.{is_away, IsBegun, IsTurned, Tells, declines, phase_left, rows_begun, stays_asked, writes_begun, wrote}
use Rattle.phase_moves.proofs.Waiting.{fewer_readers, count_here, counted_less, counted_more, few_wait, some_counted, waited_here}
use Rattle.phase_moves.proofs.Took.{asked_here as asked_here_of, cell_here as cell_here_of, cyclic_as as cyclic_as_of, of_here as of_here_of, in_parks as in_parks_of}
use Rattle.phase_moves.proofs.Took.{party_in as party_in_of, sizes_in as sizes_in_of, exit_with as exit_with_of, exit_still as exit_still_of, was_none as was_none_of}
use Rattle.phase_moves.proofs.Took.{rows_as as rows_as_of, told_as as told_as_of, phase_as as phase_as_of, took_nothing as took_nothing_of, took_read as took_read_of}
use Rattle.phase_moves.proofs.Took.{took_write as took_write_of, took_wait as took_wait_of, took_run as took_run_of}
use Rattle.phase_moves.proofs.{Admitting.final_turns, Answered.answered as begun_as, Calling.answered_moved, Leaving.sound, Drafts.keeps_still, Looking.met_turned}
use Rattle.phase_moves.proofs.{Meeting.met, Settling.IsSettled, Settling.call_settled, Moved.parties_set, Moved.moved, Places.read_at, Parking.shown_called}
use Rattle.phase_moves.proofs.{Parking.freed_writers, Guards.none_runs}

module _ {L : Type 0} (held : L → Holders) (place : L → LockerKind) where
  module _ (m : Standing) (v v' : Rows L) (p : ℕ) (t : Target) (waits : Bool) (is : IsAttempting held place m v p t waits) (row row' : CellRow L) (row_is : row ≡ get_or v.cells.items t.cell row) (of of' : PartyRow) (of_is : of ≡ get_or v.parties.items p of)
      (cells : v'.cells.items ≡ set v.cells.items t.cell row') (guards : v'.guards ≡ v.guards) (parties : v'.parties.items ≡ set v.parties.items p of') (plan : row'.plan ≡ row.plan) (value : row'.value ≡ row.value) (owner : v'.exit.owner ≡ v.exit.owner) (turns : v'.exit.turns ≡ v.exit.turns)
      (b : Begun) (g : Given) (registry : v'.exit.registry ≡ registry_begun row.plan.kind t.cell (held row.seq.locker).phase b v.exit.registry) (running : row'.seq.running ≡ running_after b row.seq.running) (stands : BegunStands (record { cell = t.cell; party = p }) b row'.seq.running (held row'.seq.locker) v'.parks)
      (op : Opens t.cell (reads_begun b) (begins_write b) (held row.seq.locker) v.parks (held row'.seq.locker) v'.parks) (k : Left held place t.cell row.seq.locker row'.seq.locker v.parks v'.parks) (ask : Ask) (ask_is : ask_of row.plan t.want ≡ Some ask) (cyc : is_turned_back b ≡ is_cyclic ask.want p row.seq.running) where
    abbrev who : Who
    who = record { cell = t.cell; party = p }

    abbrev n : ℕ
    n = length v.guards.items

    abbrev x : CellPlan
    x = cell_at m.plans t.cell

    abbrev y : Content
    y = m.content t.cell

    abbrev reg : Option Registry
    reg = registry_for row.plan.kind v.exit.registry

    -- ---- what was shown of it

    cell_here : IsCell held place (seen_at t.cell m) v.parks t.cell row
    cell_here = cell_here_of held place m v v' p t waits is row row' row_is of of' of_is cells guards parties plan value owner turns b g registry running stands op k ask ask_is cyc

    asked_here : IsAsked x t.want ask
    asked_here = asked_here_of held place m v v' p t waits is row row' row_is of of' of_is cells guards parties plan value owner turns b g registry running stands op k ask ask_is cyc

    cyclic_as : (b₁ : Begun) → b ≡ b₁ → is_turned_back b₁ ≡ (initializes x.kind t.want && seq_runs p (runner_of (run_in t.cell m.sections)))
    cyclic_as = cyclic_as_of held place m v v' p t waits is row row' row_is of of' of_is cells guards parties plan value owner turns b g registry running stands op k ask ask_is cyc

    of_here : of ≡ party_row m p
    of_here = of_here_of held place m v v' p t waits is row row' row_is of of' of_is cells guards parties plan value owner turns b g registry running stands op k ask ask_is cyc

    in_parks : t.cell < length v.parks.readers
    in_parks = in_parks_of held place m v v' p t waits is row row' row_is of of' of_is cells guards parties plan value owner turns b g registry running stands op k ask ask_is cyc

    party_in : p < length v.parks.rows
    party_in = party_in_of held place m v v' p t waits is row row' row_is of of' of_is cells guards parties plan value owner turns b g registry running stands op k ask ask_is cyc

    sizes_in : length v.parks.writers ≡ length v.parks.readers
    sizes_in = sizes_in_of held place m v v' p t waits is row row' row_is of of' of_is cells guards parties plan value owner turns b g registry running stands op k ask ask_is cyc

    exit_with : (r : Registry) → v'.exit.registry ≡ r → cells_of r ≡ cells_of m.registry → IsExit (length v.cells.items) (record m { registry = r }) v'.exit
    exit_with = exit_with_of held place m v v' p t waits is row row' row_is of of' of_is cells guards parties plan value owner turns b g registry running stands op k ask ask_is cyc

    exit_still : is_run b ≡ false → IsExit (length v.cells.items) m v'.exit
    exit_still = exit_still_of held place m v v' p t waits is row row' row_is of of' of_is cells guards parties plan value owner turns b g registry running stands op k ask ask_is cyc

    was_none : (d : IsBegun who ask reg (held row.seq.locker) v.parks b g (held row'.seq.locker) v'.parks) → wrote (declines ask reg (held row.seq.locker).phase) b ≡ true → writes_in t.cell m ≡ 0
    was_none d = was_none_of held place m v v' p t waits is row row' row_is of of' of_is cells guards parties plan value owner turns b g registry running stands op k ask ask_is cyc d

    rows_as : (d : IsBegun who ask reg (held row.seq.locker) v.parks b g (held row'.seq.locker) v'.parks) → (b₁ : Begun) → b ≡ b₁ → v'.parks ≡ rows_begun b₁ who (rows_handed t.cell g (freed p v.parks))
    rows_as d = rows_as_of held place m v v' p t waits is row row' row_is of of' of_is cells guards parties plan value owner turns b g registry running stands op k ask ask_is cyc d

    told_as : (d : IsBegun who ask reg (held row.seq.locker) v.parks b g (held row'.seq.locker) v'.parks) → (b₁ : Begun) → b ≡ b₁ → Tells who ask reg (held row.seq.locker).phase b₁
    told_as d = told_as_of held place m v v' p t waits is row row' row_is of of' of_is cells guards parties plan value owner turns b g registry running stands op k ask ask_is cyc d

    phase_as : (d : IsBegun who ask reg (held row.seq.locker) v.parks b g (held row'.seq.locker) v'.parks) → (b₁ : Begun) → b ≡ b₁ → (held row'.seq.locker).phase ≡ phase_left (declines ask reg (held row.seq.locker).phase) b₁ (held row.seq.locker).phase
    phase_as d = phase_as_of held place m v v' p t waits is row row' row_is of of' of_is cells guards parties plan value owner turns b g registry running stands op k ask ask_is cyc d

    took_nothing : (d : IsBegun who ask reg (held row.seq.locker) v.parks b g (held row'.seq.locker) v'.parks) (few : (held row'.seq.locker).readers ≤ most_readers) (tell : (z : Taken) → taken_of b ≡ z → IsMet p t z g m) → (q : Phase) → b ≡ Begun.Nothing q → of' ≡ record { waiting = None; innermost = of.innermost } → row'.run ≡ row.run → row'.waiting ≡ count (waits_at t.cell) (given_on t.cell g (without_wait p m.waits)) → row'.draft ≡ row.draft → IsTook held place m v p t (Taken.Nothing q) g v'
    took_nothing d few tell = took_nothing_of held place m v v' p t waits is row row' row_is of of' of_is cells guards parties plan value owner turns b g registry running stands op k ask ask_is cyc d few tell

    took_read : (d : IsBegun who ask reg (held row.seq.locker) v.parks b g (held row'.seq.locker) v'.parks) (few : (held row'.seq.locker).readers ≤ most_readers) (tell : (z : Taken) → taken_of b ≡ z → IsMet p t z g m) → (l : ReadTicket) (q : Phase) → b ≡ Begun.Read l q → of' ≡ record { waiting = None; innermost = of.innermost } → row'.run ≡ row.run → row'.waiting ≡ count (waits_at t.cell) (given_on t.cell g (without_wait p m.waits)) → row'.draft ≡ row.draft → IsTook held place m v p t (Taken.Read l q) g v'
    took_read d few tell = took_read_of held place m v v' p t waits is row row' row_is of of' of_is cells guards parties plan value owner turns b g registry running stands op k ask ask_is cyc d few tell

    took_write : (d : IsBegun who ask reg (held row.seq.locker) v.parks b g (held row'.seq.locker) v'.parks) (few : (held row'.seq.locker).readers ≤ most_readers) (tell : (z : Taken) → taken_of b ≡ z → IsMet p t z g m) → (l : WriteTicket) (q : Phase) → b ≡ Begun.Write l q → of' ≡ record { waiting = None; innermost = of.innermost } → row'.run ≡ row.run → row'.waiting ≡ count (waits_at t.cell) (given_on t.cell g (without_wait p m.waits)) → row'.draft ≡ record { phase = q; value = row.value } → IsTook held place m v p t (Taken.Write l q) g v'
    took_write d few tell = took_write_of held place m v v' p t waits is row row' row_is of of' of_is cells guards parties plan value owner turns b g registry running stands op k ask ask_is cyc d few tell

    took_wait : (d : IsBegun who ask reg (held row.seq.locker) v.parks b g (held row'.seq.locker) v'.parks) (few : (held row'.seq.locker).readers ≤ most_readers) (tell : (z : Taken) → taken_of b ≡ z → IsMet p t z g m) → (way : How) → b ≡ Begun.Wait way → of' ≡ record { waiting = Some (record { cell = t.cell; want = t.want }); innermost = of.innermost } → row'.run ≡ row.run → row'.waiting ≡ count (waits_at t.cell) (given_on t.cell g (without_wait p m.waits)) + 1 → row'.draft ≡ row.draft → IsTook held place m v p t (Taken.Wait way) g v'
    took_wait d few tell = took_wait_of held place m v v' p t waits is row row' row_is of of' of_is cells guards parties plan value owner turns b g registry running stands op k ask ask_is cyc d few tell

    took_run : (d : IsBegun who ask reg (held row.seq.locker) v.parks b g (held row'.seq.locker) v'.parks) (few : (held row'.seq.locker).readers ≤ most_readers) (tell : (z : Taken) → taken_of b ≡ z → IsMet p t z g m) → (s : SeqSection) → reads_begun b ≡ 0 → writes_begun b ≡ 1 → (held row'.seq.locker).phase ≡ (held row.seq.locker).phase → v'.parks ≡ rows_handed t.cell g (freed p v.parks) → IsExit (length v.cells.items) (record m { registry = registry_asked t.cell t.want m }) v'.exit → row'.seq.running ≡ runner_of (Some (record { section = section_asked n p t.cell t.want m; outer = cell_of_section (innermost p m.sections) })) → s ≡ section_by who (run_as x.kind t.want) (stays_in x t.want m.registry.is_open y.phase) write_ticket → false ≡ (initializes x.kind t.want && seq_runs p (runner_of (run_in t.cell m.sections))) → IsMet p t Taken.Runs g m → of' ≡ record { waiting = None; innermost = Some t.cell } → row'.run ≡ Some (record { run = record { party = p; want = t.want; outer = of.innermost }; section = s }) → row'.waiting ≡ count (waits_at t.cell) (given_on t.cell g (without_wait p m.waits)) → row'.draft ≡ row.draft → IsTook held place m v p t Taken.Runs g v'
    took_run d few tell = took_run_of held place m v v' p t waits is row row' row_is of of' of_is cells guards parties plan value owner turns b g registry running stands op k ask ask_is cyc d few tell

    -- ---- how many wait at the cell

    counted_before : row.waiting ≡ count (waits_at t.cell) m.waits
    counted_before = is.rests.stands.counted t.cell row (read_at v.cells.items t.cell row is.cell row_is)

    counted_one : row.waiting ≡ count (waits_at t.cell) (given_on t.cell g (without_wait p m.waits)) + (if is_some of.waiting then 1 else 0)
    counted_one =
        counted_before ∙ count_here p t.cell m.waits is.rests.stands.waits.single g (waited_here waits t.cell (wait_of p m.waits) is.waited)
        ∙ ap (λ (z : PartyRow). count (waits_at t.cell) (given_on t.cell g (without_wait p m.waits)) + (if is_some z.waiting then 1 else 0)) (sym of_here)

    -- one that waits is counted
    pub counted_some : is_some of.waiting ≡ true → 0 < row.waiting
    counted_some = some_counted (is_some of.waiting) row.waiting _ counted_one

    pub counted_few : row.waiting < most_parties
    counted_few =
        let st = is.rests.stands in let most = few_wait t.cell m.waits v.parks st.waits.single st.waits.shows in let few = st.sizes.few in let same = counted_before in
        omega (arith, most, few, same)

    many_less : row'.waiting ≡ waiting_with (is_some of.waiting) false row.waiting → row'.waiting ≡ count (waits_at t.cell) (given_on t.cell g (without_wait p m.waits))
    many_less same = same ∙ counted_less (is_some of.waiting) row.waiting _ counted_one

    many_more : row'.waiting ≡ waiting_with (is_some of.waiting) true row.waiting → row'.waiting ≡ count (waits_at t.cell) (given_on t.cell g (without_wait p m.waits)) + 1
    many_more same = same ∙ counted_more (is_some of.waiting) row.waiting _ counted_one

    -- ---- it was turned away: nothing changed
    stays_away : (z : Begun) → b ≡ z → is_run z ≡ false → running_after z row.seq.running ≡ row.seq.running → IsTurned (held row.seq.locker) v.parks b g (held row'.seq.locker) v'.parks → of' ≡ of → row'.run ≡ row.run → row'.waiting ≡ row.waiting → row'.draft ≡ row.draft → Stands held place n m v'
    stays_away z e still runner d o run many draft =
        moved held place t.cell n n m m v v' row' is.rests.stands is.cell cells
        (grind (arith, cell_here))
        (many ∙ counted_before)
        (keeps_still t.cell m row m row' (is.rests.stands.draft t.cell row (read_at v.cells.items t.cell row is.cell row_is)) draft refl (λ g x e w. e) (λ g x e w. refl))
        (answered_moved held place t.cell n m v v' m.waits m.content m.registry is.rests.stands k.others k.same (ap (λ (s : Parking). length s.writers) d.rows) guards (exit_still (ap is_run e ∙ still)) (subst (λ (s : Parking). AreShown (length v.cells.items) m.waits s) (sym d.rows) is.rests.stands.waits) (λ d ne. refl) (λ d ne. refl))
        (parties_set held place n m m v v' p of' is.rests.stands parties (o ∙ of_here) (λ q ne. refl))

    -- ---- what the locker requires

    calling : (waits : Bool) → MatchBool waits (WaitsAt t.cell (wait_of p m.waits)) (wait_of p m.waits ≡ None) → MatchBool waits ((row_of v.parks p).cell ≡ t.cell) (row_of v.parks p ≡ free_row)
    calling waits w = grind arith

    waits_here : (waits : Bool) → MatchBool waits (WaitsAt t.cell (wait_of p m.waits)) (wait_of p m.waits ≡ None) → (w : Wait) → wait_of p m.waits ≡ Some w → w.cell ≡ t.cell
    waits_here waits k w e = grind arith

    -- what does not wait did not wait before
    awake : (w : Bool) → MatchBool w (WaitsAt t.cell (wait_of p m.waits)) (wait_of p m.waits ≡ None) → (w ≡ true → MayWait x t.want) → is_quick x t.want ≡ true → wait_of p m.waits ≡ None
    awake w k so quick = grind arith

    slow_so : waits ≡ true → ask.fast ≡ false
    slow_so e = asked_here.fast ∙ (is.waits_so e).slow

    abbrev Turned : Type 0
    Turned = IsTurned (held row.seq.locker) v.parks b g (held row'.seq.locker) v'.parks

    abbrev Begun_ : Type 0
    Begun_ = IsBegun who ask reg (held row.seq.locker) v.parks b g (held row'.seq.locker) v'.parks

    module _ (calls : CallOf waits reg (place row.seq.locker) who ask row.seq.running (held row.seq.locker) v.parks (b, g) (held row'.seq.locker) v'.parks) where
      all : Turned ⊎ Begun_
      all = begun_as (place row.seq.locker) who ask (held row.seq.locker) v.parks row.seq.running (b, g) (held row'.seq.locker) v'.parks reg waits (calling waits is.waited) party_in cell_here.locked.fits calls

      -- who is parked after the party left its list
      sound_freed : IsSound (freed p v.parks)
      sound_freed =
          let a = shown_called (length v.cells.items) who m.waits v.parks Given.Nobody is.rests.stands.waits sizes_in is.rests.stands.sizes.few in_parks party_in tt in
          let size = freed_size p v.parks in
          sound_of (without_wait p m.waits) (freed p v.parks) a.single a.shows (freed_writers p v.parks ∙ sizes_in ∙ sym size.1) (subst (λ i. i < most_parties) (sym size.0) is.rests.stands.sizes.few)

      room_freed : 1 + length (readers_of (freed p v.parks) t.cell) ≤ most_readers
      room_freed = let size = freed_size p v.parks in fewer_readers t.cell (freed p v.parks) (let a = in_parks in omega (arith, a, size.1)) sound_freed (record { party = p; inside = (let a = party_in in omega (arith, a, size.0)); free = freed_free p v.parks party_in })

      settled : is_turned_back b ≡ false → IsSettled (place row.seq.locker) who ask reg (held row.seq.locker) v.parks b g (held row'.seq.locker)
      settled e =
          call_settled (place row.seq.locker) who ask (held row.seq.locker) v.parks row.seq.running (b, g) (held row'.seq.locker) v'.parks (sym cyc ∙ e) cell_here.locked.fits waits slow_so (calling waits is.waited) in_parks party_in (sound held place n m v is.rests.stands) sound_freed room_freed reg calls

      few_now : is_turned_back b ≡ false → (held row'.seq.locker).readers ≤ most_readers
      few_now e = (settled e).few cell_here.locked.limit

      told_met : is_turned_back b ≡ false → (z : Taken) → taken_of b ≡ z → IsMet p t z g m
      told_met e z same =
          subst (λ z. IsMet p t z g m) same
          (met (length v.cells.items) (place row.seq.locker) (held row.seq.locker) v.parks m p t cell_here.locked cell_here.placed is.rests.stands.waits sizes_in is.rests.stands.sizes.few in_parks party_in ask asked_here (waits_here waits is.waited) (awake waits is.waited is.waits_so) is.shared (ap (is_cyclic ask.want p) (sym cell_here.runner) ∙ sym cyc ∙ e) b g (held row'.seq.locker)
          (grind (arith, cell_here, settled)))

      did : is_away b ≡ false → Begun_
      did e = elim all [ inl d ↦ absurd (let f : false ≡ true = sym e ∙ d.away in cc) | inr d ↦ d ]

      -- ---- the arms of the code

      does_nothing : (q : Phase) → b ≡ Begun.Nothing q → of' ≡ record { waiting = None; innermost = of.innermost } → row'.run ≡ row.run → row'.waiting ≡ count (waits_at t.cell) (given_on t.cell g (without_wait p m.waits)) → row'.draft ≡ row.draft → IsTook held place m v p t (Taken.Nothing q) g v'
      does_nothing q e o run many draft = took_nothing (did (ap is_away e)) (few_now (ap is_turned_back e)) (told_met (ap is_turned_back e)) q e o run many draft

      does_read : (l : ReadTicket) (q : Phase) → b ≡ Begun.Read l q → of' ≡ record { waiting = None; innermost = of.innermost } → row'.run ≡ row.run → row'.waiting ≡ count (waits_at t.cell) (given_on t.cell g (without_wait p m.waits)) → row'.draft ≡ row.draft → IsTook held place m v p t (Taken.Read l q) g v'
      does_read l q e o run many draft = took_read (did (ap is_away e)) (few_now (ap is_turned_back e)) (told_met (ap is_turned_back e)) l q e o run many draft

      does_write : (l : WriteTicket) (q : Phase) → b ≡ Begun.Write l q → of' ≡ record { waiting = None; innermost = of.innermost } → row'.run ≡ row.run → row'.waiting ≡ count (waits_at t.cell) (given_on t.cell g (without_wait p m.waits)) → row'.draft ≡ record { phase = q; value = row.value } → IsTook held place m v p t (Taken.Write l q) g v'
      does_write l q e o run many draft = took_write (did (ap is_away e)) (few_now (ap is_turned_back e)) (told_met (ap is_turned_back e)) l q e o run many draft

      does_wait : (way : How) → b ≡ Begun.Wait way → of' ≡ record { waiting = Some (record { cell = t.cell; want = t.want }); innermost = of.innermost } → row'.run ≡ row.run → row'.waiting ≡ count (waits_at t.cell) (given_on t.cell g (without_wait p m.waits)) + 1 → row'.draft ≡ row.draft → IsTook held place m v p t (Taken.Wait way) g v'
      does_wait way e o run many draft = took_wait (did (ap is_away e)) (few_now (ap is_turned_back e)) (told_met (ap is_turned_back e)) way e o run many draft

      -- what is turned away
      turned : is_away b ≡ true → Turned
      turned e = grind (arith, all, is_away)

      does_cyclic : b ≡ Begun.Cyclic → of' ≡ of → row'.run ≡ row.run → row'.waiting ≡ row.waiting → row'.draft ≡ row.draft → IsTook held place m v p t Taken.Cyclic g v'
      does_cyclic e o run many draft = grind (arith, turned, is_away, stays_away, cyclic_as, met, met_turned)

      does_missed : b ≡ Begun.Missed → of' ≡ of → row'.run ≡ row.run → row'.waiting ≡ row.waiting → row'.draft ≡ row.draft → IsTook held place m v p t Taken.Missed g v'
      does_missed e o run many draft = record { stands = stays_away Begun.Missed e refl refl (turned (ap is_away e)) o run many draft; told = tt; cyclic = cyclic_as Begun.Missed e; met = told_met (ap is_turned_back e) Taken.Missed (ap taken_of e) }

      -- no section ran where one is opened
      none_ran : (d : Begun_) → wrote (declines ask reg (held row.seq.locker).phase) b ≡ true → row.run ≡ None
      none_ran d e = let z = was_none d e in cell_here.runs ∙ ap (open_run x t.cell y.phase) (none_runs t.cell m.sections (omega (arith, z)))

      run_began : (s : SeqSection) → b ≡ Begun.Run s → Begun_
      run_began s e = did (ap is_away e)

      final_began : (s : SeqSection) → b ≡ Begun.Final s → Begun_
      final_began s e = did (ap is_away e)

      none_before_run : (s : SeqSection) → b ≡ Begun.Run s → row.run ≡ None
      none_before_run s e = none_ran (run_began s e) (ap (wrote _) e)

      none_before_final : (s : SeqSection) → b ≡ Begun.Final s → row.run ≡ None
      none_before_final s e = none_ran (final_began s e) (ap (wrote _) e)

      does_run : (s : SeqSection) → b ≡ Begun.Run s → of' ≡ record { waiting = None; innermost = Some t.cell } → row'.run ≡ Some (record { run = record { party = p; want = t.want; outer = of.innermost }; section = s }) → row'.waiting ≡ count (waits_at t.cell) (given_on t.cell g (without_wait p m.waits)) → row'.draft ≡ row.draft → IsTook held place m v p t Taken.Runs g v'
      does_run s e o run many draft =
          let d = run_began s e in let tells = told_as d (Begun.Run s) e in
          let call : is_turn t.want ≡ false = run_calls x t.want ask asked_here (held row.seq.locker).phase tells.1 in let here = cell_here in
          took_run d (few_now (ap is_turned_back e)) (told_met (ap is_turned_back e)) s (ap reads_begun e) (ap writes_begun e) (phase_as d (Begun.Run s) e) (rows_as d (Begun.Run s) e) (exit_run e call)
          (running ∙ ap (λ x. running_after x row.seq.running) e ∙ ap (λ (z : SeqSection). Some z.who.party) tells.0 ∙ (rw call refl))
          (tells.0 ∙ (λ i. section_by who ask.want (stays_asked (registry_for (here.planned i).kind (is.rests.stands.exit.registry_is i)) (here.locked.phase_is i)) write_ticket) ∙ ap (λ q. section_by who ask.want q write_ticket) (stays_same x t.want m.registry y.phase call) ∙ ap (λ w. section_by who w (stays_in x t.want m.registry.is_open y.phase) write_ticket) (asked_as x t.want ask asked_here _ tells.1)) (cyclic_as (Begun.Run s) e) (told_met (ap is_turned_back e) Taken.Runs (ap taken_of e)) o run many draft where
            exit_run : b ≡ Begun.Run s → is_turn t.want ≡ false → IsExit (length v.cells.items) (record m { registry = registry_asked t.cell t.want m }) v'.exit
            exit_run e call = grind (arith, cell_here, exit_with, registry_run, cells_stay)

      does_final : (s : SeqSection) → b ≡ Begun.Final s → of' ≡ record { waiting = None; innermost = Some t.cell } → row'.run ≡ Some (record { run = record { party = p; want = t.want; outer = of.innermost }; section = s }) → row'.waiting ≡ count (waits_at t.cell) (given_on t.cell g (without_wait p m.waits)) → row'.draft ≡ row.draft → IsTook held place m v p t Taken.Runs g v'
      does_final s e o run many draft =
          let d = final_began s e in let tells = told_as d (Begun.Final s) e in let turn : t.want ≡ Turns = final_turns x t.want ask asked_here tells.1 in let here = cell_here in
          took_run d (few_now (ap is_turned_back e)) (told_met (ap is_turned_back e)) s (ap reads_begun e) (ap writes_begun e) (phase_as d (Begun.Final s) e) (rows_as d (Begun.Final s) e)
          (subst (λ w. IsExit (length v.cells.items) (record m { registry = registry_asked t.cell w m }) v'.exit) (sym turn) (exit_still (ap is_run e)))
          (running ∙ ap (λ x. running_after x row.seq.running) e ∙ here.runner ∙ ap runner_of (none_runs t.cell m.sections (let z = was_none d (ap (wrote _) e) in omega (arith, z))) ∙ sym (ap (λ w. if is_turn w then None else Some p) turn))
          (tells.0 ∙ (λ i. section_by who ask.want (here.locked.phase_is i) write_ticket) ∙ ap (λ w. section_by who w (phase_of y.phase) write_ticket) (final_as turn) ∙ ap (λ w. section_by who (run_as x.kind w) (stays_in x w m.registry.is_open y.phase) write_ticket) (sym turn)) (cyclic_as (Begun.Final s) e) (told_met (ap is_turned_back e) Taken.Runs (ap taken_of e)) o run many draft where
            final_as : t.want ≡ Turns → ask.want ≡ Sought.Finalize
            final_as turn = let sought : Some Sought.Finalize ≡ Some ask.want = ap (seeks x.kind) (sym turn) ∙ asked_here.sought in cc

      -- no section ran where one is opened
      pub none_before : opens_section b ≡ true → row.run ≡ None
      none_before e = grind (arith, none_before_run, none_before_final)

      -- all of it
      pub does : of' ≡ party_after t b of → row'.run ≡ run_after p t of b row.run → row'.waiting ≡ waiting_after b (is_some of.waiting) row.waiting → row'.draft ≡ draft_after b row.value row.draft → IsTook held place m v p t (taken_of b) g v'
      does o run many draft = by b refl o run many draft where
        by : (z : Begun) → b ≡ z → of' ≡ party_after t z of → row'.run ≡ run_after p t of z row.run → row'.waiting ≡ waiting_after z (is_some of.waiting) row.waiting → row'.draft ≡ draft_after z row.value row.draft → IsTook held place m v p t (taken_of z) g v'
        by (Begun.Wait way) e o run many draft = does_wait way e o run (many_more many) draft
        by Begun.Missed e o run many draft = does_missed e o run many draft
        by Begun.Cyclic e o run many draft = does_cyclic e o run many draft
        by (Begun.Nothing q) e o run many draft = does_nothing q e o run (many_less many) draft
        by (Begun.Read l q) e o run many draft = does_read l q e o run (many_less many) draft
        by (Begun.Write l q) e o run many draft = does_write l q e o run (many_less many) draft
        by (Begun.Run s) e o run many draft = does_run s e o run (many_less many) draft
        by (Begun.Final s) e o run many draft = does_final s e o run (many_less many) draft
