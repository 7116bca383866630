-- The rows stand for what is open after an attempt.
use Rattle.phase_moves.proofs.Words.{◌≡◌, ◌≢◌, ◌==◌, ◌<◌, ◌≤◌, ◌+◌, ◌∙◌, ℕ, List, ◌∷◌, length, set, get_or, ap, sym, subst, refl, arith, Bool, true, false, None, Some}
use Rattle.phase_moves.proofs.Words.{if◌then◌else◌, ◌&&◌, Option, Phase, Holders, phase_of, IsKnown, most_readers, Registry, cells_of, Given, How, Who, LockerKind, ReadTicket}
use Rattle.phase_moves.proofs.Words.{WriteTicket, write_ticket, Parking, freed, rows_handed, rows_waiting, Left, Opens, Ask, SeqSection, Begun, is_cyclic, runs as seq_runs}
use Rattle.phase_moves.proofs.Words.{section_by, running_after, is_turned_back, is_run, flags_refused, BegunStands, begins_write, reads_begun, CellPlan, initializes, cell_at}
use Rattle.phase_moves.proofs.Words.{Content, Change, effect, count, Section, innermost, runs_in, reader, writes_cell, wait_of, waits_at, without_wait, cell_of_section}
use Rattle.phase_moves.proofs.Words.{wait_removed, wait_kept, given_on, none_on, CellRow, PartyRow, Target, Rows, registry_for, registry_begun, Standing, Run, run_in}
use Rattle.phase_moves.proofs.Words.{runner_of, reads_in, writes_in, changes_at, called, answered, waiting, guarded, opened, section_asked, writer_asked, registry_asked}
use Rattle.phase_moves.proofs.Words.{KeepsDraft, Seen, seen_at, IsCell, IsExit, IsLocked, AreShown, party_row, open_run, run_as, stays_in, target_of, IsAttempting, IsTook}
use Rattle.phase_moves.proofs.Words.{ask_of, phase_asked, taken_of, Taken, IsMet}
use Rattle.phase_moves.proofs.Asked.{IsAsked, declined, declines_same, asked_left, is_asked, own_same, told_same, registry_still}
use Rattle.phase_moves.proofs.Attempts.{IsBegun, Tells, declines, phase_left, phase_told, rows_begun, writes_begun, wrote}
use Rattle.phase_moves.proofs.Opening.{guard_opened, seen_reader, seen_writer, no_more, opens, section_opened, wrote_all}
use Rattle.phase_moves.proofs.{Calling.answered_moved, Drafts.keeps_first, Drafts.keeps_reader, Drafts.keeps_still, Drafts.shown_still, Guards.target_given}
use Rattle.phase_moves.proofs.{Known.effect_known, Lockers.handed_writers, Moved.IsMoved, Moved.HasParties, Moved.parties_set, Moved.moved, Parking.shown_called}
use Rattle.phase_moves.proofs.{Parking.shown_waiting, Parking.freed_writers, Parking.waiting_writers, Places.itself_eq, Places.read_at, Guards.none_runs, Waiting.count_beside}
use Rattle.phase_moves.proofs.Waiting.{count_elsewhere, count_one_more, waited_here}

module _ {L : Type 0} (held : L → Holders) (place : L → LockerKind) where
  module _ (m : Standing) (v v' : Rows L) (p : ℕ) (t : Target) (waits : Bool) (is : IsAttempting held place m v p t waits) (row row' : CellRow L) (row_is : row ≡ get_or v.cells.items t.cell row) (of of' : PartyRow) (of_is : of ≡ get_or v.parties.items p of)
      (cells : v'.cells.items ≡ set v.cells.items t.cell row') (guards : v'.guards ≡ v.guards) (parties : v'.parties.items ≡ set v.parties.items p of') (plan : row'.plan ≡ row.plan) (value : row'.value ≡ row.value) (owner : v'.exit.owner ≡ v.exit.owner) (turns : v'.exit.turns ≡ v.exit.turns)
      (b : Begun) (g : Given) (registry : v'.exit.registry ≡ registry_begun row.plan.kind t.cell (held row.seq.locker).phase b v.exit.registry) (running : row'.seq.running ≡ running_after b row.seq.running) (stands : BegunStands (record { cell = t.cell; party = p }) b row'.seq.running (held row'.seq.locker) v'.parks)
      (op : Opens t.cell (reads_begun b) (begins_write b) (held row.seq.locker) v.parks (held row'.seq.locker) v'.parks) (k : Left held place t.cell row.seq.locker row'.seq.locker v.parks v'.parks) (ask : Ask) (ask_is : ask_of row.plan t.want ≡ Some ask) (cyc : is_turned_back b ≡ is_cyclic ask.want p row.seq.running) where
    abbrev pub who : Who
    who = record { cell = t.cell; party = p }

    abbrev pub n : ℕ
    n = length v.guards.items

    abbrev pub x : CellPlan
    x = cell_at m.plans t.cell

    abbrev pub y : Content
    y = m.content t.cell

    abbrev pub chs : List Change
    chs = changes_at t.cell t.want m

    abbrev pub reg : Option Registry
    reg = registry_for row.plan.kind v.exit.registry

    pub cell_here : IsCell held place (seen_at t.cell m) v.parks t.cell row
    cell_here = is.rests.stands.cell t.cell row (read_at v.cells.items t.cell row is.cell row_is)

    -- what is asked
    pub asked_here : IsAsked x t.want ask
    asked_here = is_asked x t.want ask (ap (λ (z : CellPlan). ask_of z t.want) (sym cell_here.planned) ∙ ask_is)

    pub cyclic_as : (b₁ : Begun) → b ≡ b₁ → is_turned_back b₁ ≡ (initializes x.kind t.want && seq_runs p (runner_of (run_in t.cell m.sections)))
    cyclic_as b₁ e = ap is_turned_back (sym e) ∙ cyc ∙ ap (is_cyclic ask.want p) cell_here.runner ∙ own_same x t.want ask asked_here (seq_runs p (runner_of (run_in t.cell m.sections)))

    pub of_here : of ≡ party_row m p
    of_here = let e : Some of ≡ Some (party_row m p) = sym (read_at v.parties.items p of is.party of_is) ∙ is.rests.stands.party p is.party in cc

    pub in_parks : t.cell < length v.parks.readers
    in_parks = let a = is.cell in let d = is.rests.stands.sizes.readers in omega (arith, a, d)

    pub party_in : p < length v.parks.rows
    party_in = let a = is.party in let d = is.rests.stands.sizes.rows in omega (arith, a, d)

    pub sizes_in : length v.parks.writers ≡ length v.parks.readers
    sizes_in = is.rests.stands.sizes.writers ∙ sym is.rests.stands.sizes.readers

    -- it is declined where the rules say so
    d_is : declines ask reg (held row.seq.locker).phase ≡ declined x t.want m.registry.is_open y.phase
    d_is =
        (λ i. declines ask (registry_for (cell_here.planned i).kind (is.rests.stands.exit.registry_is i)) (cell_here.locked.phase_is i))
        ∙ declines_same x t.want ask asked_here m.registry y.phase

    left_is : effect x chs y ≡ record { phase = if declined x t.want m.registry.is_open y.phase then flags_refused else y.phase; value = y.value }
    left_is = asked_left x t.want m.registry.is_open y

    told_phase : phase_told (declines ask reg (held row.seq.locker).phase) (held row.seq.locker).phase ≡ phase_asked t.cell t.want m
    told_phase = (λ i. phase_told (d_is i) (cell_here.locked.phase_is i)) ∙ told_same (declined x t.want m.registry.is_open y.phase) y.phase ∙ ap (λ (z : Content). phase_of z.phase) (sym left_is)

    -- ---- the registry

    pub exit_with : (r : Registry) → v'.exit.registry ≡ r → cells_of r ≡ cells_of m.registry → IsExit (length v.cells.items) (record m { registry = r }) v'.exit
    exit_with r e n_is = grind arith

    pub exit_still : is_run b ≡ false → IsExit (length v.cells.items) m v'.exit
    exit_still e = exit_with m.registry (registry ∙ registry_still row.plan.kind t.cell (held row.seq.locker).phase b v.exit.registry e ∙ is.rests.stands.exit.registry_is) refl

    module _ (d : IsBegun who ask reg (held row.seq.locker) v.parks b g (held row'.seq.locker) v'.parks) where
      -- where it had the lock to write there was no write hold
      pub was_none : wrote (declines ask reg (held row.seq.locker).phase) b ≡ true → writes_in t.cell m ≡ 0
      was_none e = no_more (writes_in t.cell m) (λ lt. d.alone e (cell_here.locked.write_is lt))

      abbrev d_of : Bool
      d_of = declines ask reg (held row.seq.locker).phase

      pub rows_as : (b₁ : Begun) → b ≡ b₁ → v'.parks ≡ rows_begun b₁ who (rows_handed t.cell g (freed p v.parks))
      rows_as b₁ e = d.rows ∙ ap (λ x. rows_begun x who (rows_handed t.cell g (freed p v.parks))) e

      pub told_as : (b₁ : Begun) → b ≡ b₁ → Tells who ask reg (held row.seq.locker).phase b₁
      told_as b₁ e = subst (λ x. Tells who ask reg (held row.seq.locker).phase x) e d.told

      pub phase_as : (b₁ : Begun) → b ≡ b₁ → (held row'.seq.locker).phase ≡ phase_left d_of b₁ (held row.seq.locker).phase
      phase_as b₁ e = d.phase ∙ ap (λ x. phase_left d_of x (held row.seq.locker).phase) e

      -- what holds of the number of readers, and what it met
      module _ (few : (held row'.seq.locker).readers ≤ most_readers) (tell : (z : Taken) → taken_of b ≡ z → IsMet p t z g m) where
        locked_called : (q : ℕ) → (held row'.seq.locker).phase ≡ phase_of q → IsLocked (place row'.seq.locker) (held row'.seq.locker) v'.parks t.cell (reads_in t.cell m + reads_begun b) (writes_in t.cell m + writes_begun b) q
        locked_called q phase = grind (arith, writes_begun, cell_here, was_none, wrote_all, opens)

        -- the row of the cell
        cell_as : (m' : Standing) (z : Content) (o : Option Run) → seen_at t.cell m' ≡ record { plan = x; content = z; reads = reads_in t.cell m + reads_begun b; writes = writes_in t.cell m + writes_begun b; run = o }
            → (held row'.seq.locker).phase ≡ phase_of z.phase → z.value ≡ y.value → IsKnown (phase_of z.phase) → row'.seq.running ≡ runner_of o → row'.run ≡ open_run x t.cell z.phase o → IsCell held place (seen_at t.cell m') v'.parks t.cell row'
        cell_as m' z o e phase same known runner run =
            let k0 = cell_here in
            subst (λ (w : Seen). IsCell held place w v'.parks t.cell row') (sym e)
            (record { planned = plan ∙ k0.planned; valued = value ∙ k0.valued ∙ sym same; known = known; locked = locked_called z.phase phase; placed = k.place ∙ k0.placed; runner = runner; runs = run })

        -- ---- who waits

        lists_called : length (rows_handed t.cell g (freed p v.parks)).writers ≡ length v.parks.writers
        lists_called = handed_writers g t.cell (freed p v.parks) ∙ freed_writers p v.parks

        -- at other cells as many wait as before
        called_counts : (c : ℕ) → c ≢ t.cell → count (waits_at c) (given_on t.cell g (without_wait p m.waits)) ≡ count (waits_at c) m.waits
        called_counts = count_beside p t.cell m.waits is.rests.stands.waits.single g (waited_here waits t.cell (wait_of p m.waits) is.waited)

        called_moved : (r : Registry) → IsExit (length v.cells.items) (record m { registry = r }) v'.exit → v'.parks ≡ rows_handed t.cell g (freed p v.parks) → IsMoved held place t.cell n n m (record (called p t.cell g m) { registry = r }) v v'
        called_moved r exit rows =
            let st = is.rests.stands in answered_moved held place t.cell n m v v' _ m.content r st k.others k.same (ap (λ (s : Parking). length s.writers) rows ∙ lists_called) guards exit
            (subst (λ (s : Parking). AreShown (length v.cells.items) (given_on t.cell g (without_wait p m.waits)) s) (sym rows) (shown_called (length v.cells.items) who m.waits v.parks g st.waits sizes_in st.sizes.few in_parks party_in d.listed))
            (λ d ne. refl) called_counts

        waiting_moved : (way : How) → IsExit (length v.cells.items) m v'.exit → v'.parks ≡ rows_waiting way who (rows_handed t.cell g (freed p v.parks)) → IsMoved held place t.cell n n m (waiting p t.cell t.want way (called p t.cell g m)) v v'
        waiting_moved way exit rows =
            let st = is.rests.stands in answered_moved held place t.cell n m v v' _ m.content m.registry st k.others k.same (ap (λ (s : Parking). length s.writers) rows ∙ waiting_writers way who (rows_handed t.cell g (freed p v.parks)) ∙ lists_called) guards exit
            (subst (λ (s : Parking). AreShown (length v.cells.items) (record { party = p; cell = t.cell; want = t.want; way = way; woken = false } ∷ given_on t.cell g (without_wait p m.waits)) s) (sym rows) (shown_waiting (length v.cells.items) who m.waits v.parks g st.waits sizes_in st.sizes.few in_parks party_in d.listed is.cell way t.want))
            (λ d ne. refl) (λ c ne. count_elsewhere c (record { party = p; cell = t.cell; want = t.want; way = way; woken = false }) (called p t.cell g m).waits ne ∙ called_counts c ne)

        -- what is published changes where it is declined
        abbrev now : ℕ → Content
        now = (answered p t.cell g chs m).content

        now_here : now t.cell ≡ effect x chs y
        now_here = let e = itself_eq t.cell in rw e refl

        now_beside : (c : ℕ) → c ≢ t.cell → now c ≡ m.content c
        now_beside c ne = let e : (t.cell == c) ≡ false = grind (arith, ne) in rw e refl

        now_calm : declined x t.want m.registry.is_open y.phase ≡ false → now t.cell ≡ y
        now_calm e = now_here ∙ left_is ∙ ap (λ b. record { phase = if b then flags_refused else y.phase; value = y.value }) e

        publishes : IsExit (length v.cells.items) m v'.exit → v'.parks ≡ rows_handed t.cell g (freed p v.parks) → IsMoved held place t.cell n n m (answered p t.cell g chs m) v v'
        publishes exit rows =
            let st = is.rests.stands in answered_moved held place t.cell n m v v' _ now m.registry st k.others k.same (ap (λ (s : Parking). length s.writers) rows ∙ lists_called) guards exit
            (subst (λ (s : Parking). AreShown (length v.cells.items) (given_on t.cell g (without_wait p m.waits)) s) (sym rows) (shown_called (length v.cells.items) who m.waits v.parks g st.waits sizes_in st.sizes.few in_parks party_in d.listed))
            now_beside called_counts

        -- the row keeps what it kept
        kept_called : row'.draft ≡ row.draft → KeepsDraft t.cell (called p t.cell g m) row'
        kept_called same = keeps_still t.cell m row (called p t.cell g m) row' (is.rests.stands.draft t.cell row (read_at v.cells.items t.cell row is.cell row_is)) same refl (λ j z e w. e) (λ j z e w. refl)

        kept_answered : wrote true b ≡ true → row'.draft ≡ row.draft → KeepsDraft t.cell (answered p t.cell g chs m) row'
        kept_answered had same = keeps_still t.cell m row (answered p t.cell g chs m) row' (is.rests.stands.draft t.cell row (read_at v.cells.items t.cell row is.cell row_is)) same refl (λ j z e w. e) (shown_still t.cell m now now_beside (λ some. by some (declined x t.want m.registry.is_open y.phase) refl)) where
          by : count (writes_cell t.cell) m.guards ≢ 0 → (o : Bool) → declined x t.want m.registry.is_open y.phase ≡ o → now t.cell ≡ y
          by some o f = grind (arith, now_calm, was_none, wrote, d_is)

        -- ---- the rows of parties

        gone : wait_of p (given_on t.cell g (without_wait p m.waits)) ≡ None
        gone = none_on p t.cell g (without_wait p m.waits) (wait_removed p m.waits)

        others_wait : (q : ℕ) → q ≢ p → target_of (wait_of q (given_on t.cell g (without_wait p m.waits))) ≡ target_of (wait_of q m.waits)
        others_wait q ne = target_given t.cell g (without_wait p m.waits) q ∙ ap target_of (wait_kept p q m.waits ne)

        called_parties : (m' : Standing) → m'.waits ≡ given_on t.cell g (without_wait p m.waits) → m'.sections ≡ m.sections → of' ≡ record { waiting = None; innermost = of.innermost } → HasParties held place m' v v'
        called_parties m' w s e =
            parties_set held place n m m' v v' p of' is.rests.stands parties
            (e ∙ (λ i. record { waiting = target_of (sym gone i); innermost = (of_here i).innermost }) ∙ (λ i. record { waiting = target_of (wait_of p (sym w i)); innermost = cell_of_section (innermost p (sym s i)) }))
            (λ q ne. (λ i. record { waiting = target_of (wait_of q (w i)); innermost = cell_of_section (innermost q (s i)) }) ∙ (λ i. record { waiting = others_wait q ne i; innermost = cell_of_section (innermost q m.sections) }))

        kept_phase : (held row'.seq.locker).phase ≡ (held row.seq.locker).phase → (held row'.seq.locker).phase ≡ phase_of y.phase
        kept_phase e = e ∙ cell_here.locked.phase_is

        kept_runner : running_after b row.seq.running ≡ row.seq.running → row'.seq.running ≡ runner_of (run_in t.cell m.sections)
        kept_runner e = running ∙ e ∙ cell_here.runner

        known_now : IsKnown (phase_of (effect x chs y).phase)
        known_now = effect_known x chs y cell_here.known

        value_now : (effect x chs y).value ≡ y.value
        value_now = ap (λ (z : Content). z.value) left_is

        -- the section that runs was asked at the phase that is published: where that changes none runs
        runs_now : wrote true b ≡ true → row'.run ≡ row.run → row'.run ≡ open_run x t.cell (effect x chs y).phase (run_in t.cell m.sections)
        runs_now had e = grind (arith, cell_here, declined, left_is, was_none, wrote, d_is, none_runs)

        abbrev seen_as : Content → ℕ → ℕ → Option Run → Seen
        seen_as z r w o = record { plan = x; content = z; reads = reads_in t.cell m + r; writes = writes_in t.cell m + w; run = o }

        with_holds : (z : Content) (r w : ℕ) (o : Option Run) → reads_begun b ≡ r → writes_begun b ≡ w → seen_as z r w o ≡ seen_as z (reads_begun b) (writes_begun b) o
        with_holds z r w o e f = λ i. seen_as z (sym e i) (sym f i) o

        seen_still : (z : Content) → record { plan = x; content = z; reads = reads_in t.cell m; writes = writes_in t.cell m; run = run_in t.cell m.sections } ≡ seen_as z 0 0 (run_in t.cell m.sections)
        seen_still z = let r : reads_in t.cell m ≡ reads_in t.cell m + 0 = omega arith in let w : writes_in t.cell m ≡ writes_in t.cell m + 0 = omega arith in λ i. record { plan = x; content = z; reads = r i; writes = w i; run = run_in t.cell m.sections }

        seen_now : seen_at t.cell (answered p t.cell g chs m) ≡ seen_as (effect x chs y) 0 0 (run_in t.cell m.sections)
        seen_now = ap (λ z. record { plan = x; content = z; reads = reads_in t.cell m; writes = writes_in t.cell m; run = run_in t.cell m.sections }) now_here ∙ seen_still (effect x chs y)

        -- ---- the arms

        pub took_nothing : (q : Phase) → b ≡ Begun.Nothing q → of' ≡ record { waiting = None; innermost = of.innermost } → row'.run ≡ row.run → row'.waiting ≡ count (waits_at t.cell) (given_on t.cell g (without_wait p m.waits)) → row'.draft ≡ row.draft → IsTook held place m v p t (Taken.Nothing q) g v'
        took_nothing q e o run many draft =
            let had : wrote true b ≡ true = ap (wrote true) e in record {
              stands = moved held place t.cell n n m (answered p t.cell g chs m) v v' row' is.rests.stands is.cell cells
                  (cell_as (answered p t.cell g chs m) (effect x chs y) (run_in t.cell m.sections) (seen_now ∙ with_holds (effect x chs y) 0 0 (run_in t.cell m.sections) (ap reads_begun e) (ap writes_begun e)) (phase_as (Begun.Nothing q) e ∙ told_phase) value_now known_now (kept_runner (ap (λ x. running_after x row.seq.running) e)) (runs_now had run)) many (kept_answered had draft)
                  (publishes (exit_still (ap is_run e)) (rows_as (Begun.Nothing q) e)) (called_parties (answered p t.cell g chs m) refl refl o);
              told = told_as (Begun.Nothing q) e ∙ told_phase;
              cyclic = cyclic_as (Begun.Nothing q) e;
              met = tell (Taken.Nothing q) (ap taken_of e);
            }

        pub took_read : (l : ReadTicket) (q : Phase) → b ≡ Begun.Read l q → of' ≡ record { waiting = None; innermost = of.innermost } → row'.run ≡ row.run → row'.waiting ≡ count (waits_at t.cell) (given_on t.cell g (without_wait p m.waits)) → row'.draft ≡ row.draft → IsTook held place m v p t (Taken.Read l q) g v'
        took_read l q e o run many draft =
            let had : wrote true b ≡ true = ap (wrote true) e in record {
              stands = moved held place t.cell n n m (guarded (reader n p t.cell) (answered p t.cell g chs m)) v v' row' is.rests.stands is.cell cells
                  (cell_as (guarded (reader n p t.cell) (answered p t.cell g chs m)) (effect x chs y) (run_in t.cell m.sections) (seen ∙ with_holds (effect x chs y) 1 0 (run_in t.cell m.sections) (ap reads_begun e) (ap writes_begun e)) (phase_as (Begun.Read l q) e ∙ told_phase) value_now known_now (kept_runner (ap (λ x. running_after x row.seq.running) e)) (runs_now had run)) many (keeps_reader t.cell (answered p t.cell g chs m) row' n p (kept_answered had draft))
                  (guard_opened held place t.cell n n n m (answered p t.cell g chs m) v v' (reader n p t.cell) (publishes (exit_still (ap is_run e)) (rows_as (Begun.Read l q) e)) refl refl (omega arith) is.rests.empty is.rests.empty is.cell)
                  (called_parties (guarded (reader n p t.cell) (answered p t.cell g chs m)) refl refl o);
              told = told_as (Begun.Read l q) e ∙ told_phase;
              cyclic = cyclic_as (Begun.Read l q) e;
              met = tell (Taken.Read l q) (ap taken_of e);
            } where
              seen : seen_at t.cell (guarded (reader n p t.cell) (answered p t.cell g chs m)) ≡ seen_as (effect x chs y) 1 0 (run_in t.cell m.sections)
              seen =
                  seen_reader n p t.cell (answered p t.cell g chs m)
                  ∙ (let w : writes_in t.cell m ≡ writes_in t.cell m + 0 = omega arith in λ i. record { plan = x; content = now_here i; reads = reads_in t.cell m + 1; writes = w i; run = run_in t.cell m.sections })

        pub took_write : (l : WriteTicket) (q : Phase) → b ≡ Begun.Write l q → of' ≡ record { waiting = None; innermost = of.innermost } → row'.run ≡ row.run → row'.waiting ≡ count (waits_at t.cell) (given_on t.cell g (without_wait p m.waits)) → row'.draft ≡ record { phase = q; value = row.value } → IsTook held place m v p t (Taken.Write l q) g v'
        took_write l q e o run many draft =
            record {
              stands = moved held place t.cell n n m (guarded (writer_asked n p t.cell chs) (called p t.cell g m)) v v' row' is.rests.stands is.cell cells
                  (cell_as (guarded (writer_asked n p t.cell chs) (called p t.cell g m)) y (run_in t.cell m.sections) (seen ∙ with_holds y 0 1 (run_in t.cell m.sections) (ap reads_begun e) (ap writes_begun e)) (kept_phase (phase_as (Begun.Write l q) e)) refl cell_here.known (kept_runner (ap (λ x. running_after x row.seq.running) e)) (run ∙ cell_here.runs)) many (keeps_first t.cell (called p t.cell g m) row' (writer_asked n p t.cell chs) unwritten (draft ∙ (λ i. record { phase = (told_as (Begun.Write l q) e ∙ told_phase) i; value = (cell_here.valued ∙ sym value_now) i })))
                  (guard_opened held place t.cell n n n m (called p t.cell g m) v v' (writer_asked n p t.cell chs) (called_moved m.registry (exit_still (ap is_run e)) (rows_as (Begun.Write l q) e)) refl refl (omega arith) is.rests.empty is.rests.empty is.cell)
                  (called_parties (guarded (writer_asked n p t.cell chs) (called p t.cell g m)) refl refl o);
              told = told_as (Begun.Write l q) e ∙ told_phase;
              cyclic = cyclic_as (Begun.Write l q) e;
              met = tell (Taken.Write l q) (ap taken_of e);
            } where
              unwritten : count (writes_cell t.cell) m.guards ≡ 0
              unwritten = let none = was_none (ap (wrote _) e) in omega (arith, none)

              seen : seen_at t.cell (guarded (writer_asked n p t.cell chs) (called p t.cell g m)) ≡ seen_as y 0 1 (run_in t.cell m.sections)
              seen =
                  seen_writer n p t.cell chs (called p t.cell g m)
                  ∙ (let r : reads_in t.cell m ≡ reads_in t.cell m + 0 = omega arith in λ i. record { plan = x; content = y; reads = r i; writes = writes_in t.cell m + 1; run = run_in t.cell m.sections })

        abbrev waiting_m : How → Standing
        waiting_m way = waiting p t.cell t.want way (called p t.cell g m)

        pub took_wait : (way : How) → b ≡ Begun.Wait way → of' ≡ record { waiting = Some (record { cell = t.cell; want = t.want }); innermost = of.innermost } → row'.run ≡ row.run → row'.waiting ≡ count (waits_at t.cell) (given_on t.cell g (without_wait p m.waits)) + 1 → row'.draft ≡ row.draft → IsTook held place m v p t (Taken.Wait way) g v'
        took_wait way e o run many draft =
            record {
              stands = moved held place t.cell n n m (waiting_m way) v v' row' is.rests.stands is.cell cells
                  (cell_as (waiting_m way) y (run_in t.cell m.sections) (seen_still y ∙ with_holds y 0 0 (run_in t.cell m.sections) (ap reads_begun e) (ap writes_begun e)) (kept_phase (phase_as (Begun.Wait way) e)) refl cell_here.known (kept_runner (ap (λ x. running_after x row.seq.running) e)) (run ∙ cell_here.runs)) (many ∙ sym (count_one_more (record { party = p; cell = t.cell; want = t.want; way = way; woken = false }) (called p t.cell g m).waits)) (kept_called draft)
                  (waiting_moved way (exit_still (ap is_run e)) (rows_as (Begun.Wait way) e))
                  (parties_set held place n m (waiting_m way) v v' p of' is.rests.stands parties (o ∙ (λ i. record { waiting = Some (record { cell = t.cell; want = t.want }); innermost = (of_here i).innermost }) ∙ ap (λ w. record { waiting = target_of w; innermost = (party_row m p).innermost }) (sym itself))
                  (λ q ne. (λ i. record { waiting = target_of (beside q ne i); innermost = (party_row m q).innermost }) ∙ (λ i. record { waiting = others_wait q ne i; innermost = (party_row m q).innermost })));
              told = tt;
              cyclic = cyclic_as (Begun.Wait way) e;
              met = tell (Taken.Wait way) (ap taken_of e);
            } where
              itself : wait_of p (waiting_m way).waits ≡ Some (record { party = p; cell = t.cell; want = t.want; way = way; woken = false })
              itself = let q = itself_eq p in rw q refl

              beside : (q : ℕ) → q ≢ p → wait_of q (waiting_m way).waits ≡ wait_of q (called p t.cell g m).waits
              beside q ne = let f : (p == q) ≡ false = grind (arith, ne) in rw f refl

        -- a section that runs
        abbrev sec : Section
        sec = section_asked n p t.cell t.want m

        abbrev run_r : Run
        run_r = record { section = section_asked n p t.cell t.want m; outer = cell_of_section (innermost p m.sections) }

        pub took_run : (s : SeqSection) → reads_begun b ≡ 0 → writes_begun b ≡ 1 → (held row'.seq.locker).phase ≡ (held row.seq.locker).phase → v'.parks ≡ rows_handed t.cell g (freed p v.parks) → IsExit (length v.cells.items) (record m { registry = registry_asked t.cell t.want m }) v'.exit → row'.seq.running ≡ runner_of (Some run_r)
            → s ≡ section_by who (run_as x.kind t.want) (stays_in x t.want m.registry.is_open y.phase) write_ticket → false ≡ (initializes x.kind t.want && seq_runs p (runner_of (run_in t.cell m.sections))) → IsMet p t Taken.Runs g m → of' ≡ record { waiting = None; innermost = Some t.cell } → row'.run ≡ Some (record { run = record { party = p; want = t.want; outer = of.innermost }; section = s }) → row'.waiting ≡ count (waits_at t.cell) (given_on t.cell g (without_wait p m.waits)) → row'.draft ≡ row.draft → IsTook held place m v p t Taken.Runs g v'
        took_run s none one phase rows exit runner section turned told o run many draft =
            record {
              stands = moved held place t.cell n n m run_m v v' row' is.rests.stands is.cell cells
                  (cell_as run_m y (Some run_r) (seen ∙ with_holds y 0 1 (Some run_r) none one) (kept_phase phase) refl cell_here.known runner (run ∙ (λ i. Some (record { run = record { party = p; want = t.want; outer = (of_here i).innermost }; section = section i })))) many (kept_called draft)
                  (section_opened held place t.cell n n m (record (called p t.cell g m) { registry = registry_asked t.cell t.want m }) v v' sec (called_moved (registry_asked t.cell t.want m) exit rows) refl is.cell)
                  (parties_set held place n m run_m v v' p of' is.rests.stands parties (o ∙ (λ i. record { waiting = target_of (sym gone i); innermost = Some t.cell }) ∙ ap (λ w. record { waiting = target_of (wait_of p (called p t.cell g m).waits); innermost = cell_of_section w }) (sym itself))
                  (λ q ne. (λ i. record { waiting = target_of (wait_of q (called p t.cell g m).waits); innermost = cell_of_section (beside q ne i) }) ∙ (λ i. record { waiting = others_wait q ne i; innermost = (party_row m q).innermost })));
              told = tt;
              cyclic = turned;
              met = told;
            } where
              run_m : Standing
              run_m = opened (section_asked n p t.cell t.want m) (registry_asked t.cell t.want m) (called p t.cell g m)

              seen : seen_at t.cell (opened (section_asked n p t.cell t.want m) (registry_asked t.cell t.want m) (called p t.cell g m)) ≡ seen_as y 0 1 (Some run_r)
              seen =
                  let q = itself_eq t.cell in let r : reads_in t.cell m ≡ reads_in t.cell m + 0 = omega arith in
                  let w : count (writes_cell t.cell) m.guards + (count (runs_in t.cell) m.sections + 1) ≡ writes_in t.cell m + 1 = omega arith in
                  rw q (λ i. record { plan = x; content = y; reads = r i; writes = w i; run = Some run_r })

              itself : innermost p (sec ∷ m.sections) ≡ Some sec
              itself = let q = itself_eq p in rw q refl

              beside : (q : ℕ) → q ≢ p → innermost q (sec ∷ m.sections) ≡ innermost q m.sections
              beside q ne = let f : (p == q) ≡ false = grind (arith, ne) in rw f refl
