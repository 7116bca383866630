-- The value of a cell is lent.
use Rattle.phase_moves.proofs.Words.{◌≡◌, ◌≢◌, ◌==◌, ◌<◌, ◌≤◌, ◌+◌, ◌∙◌, ℕ, List, [], ◌∷◌, length, set, get_or, ap, sym, subst, refl, arith, Bool, true, false, Some, inl, inr}
use Rattle.phase_moves.proofs.Words.{cases_eq, cases_lt, slice_get, ◌⊎◌, not, if◌then◌else◌, Holders, IsKnown, phase_of, admit_write, bars_write, leave_write, most_readers}
use Rattle.phase_moves.proofs.Words.{Given, LockerKind, Fits, IsWriteOpen, KeepsFit, NobodyParked, open_reads, Hands, MayHand, rows_handed, Left, Parking, claims, readers_of}
use Rattle.phase_moves.proofs.Words.{others_refl, lends_value, CellPlan, Content, Change, effect, Guard, numbered, count, cell_at, Wait, drains_on, shares_read, shares_write}
use Rattle.phase_moves.proofs.Words.{waits_at, claims_shown, shares_shown, Lent, Loan, Published, CellRow, Rows, Finds, IsFound, IsLending, IsLent, changed, changes_lent}
use Rattle.phase_moves.proofs.Words.{content_of, in_use, lent_in, Standing, reads_in, writes_in, run_in, seen_at, IsCell, IsLocked, Stands, open_run}
use Rattle.phase_moves.proofs.{Calling.answered_moved, Drafts.keeps_still, Drafts.none_writes, Leaving.parked_few, Lockers.locked_write, Moved.exit_kept, Moved.moved}
use Rattle.phase_moves.proofs.{Moved.parties_same, Places.itself_eq, Places.read_at, Opening.no_more, Guards.none_runs}

-- ---- what waits at a cell has its shares and claims

fewer : (t u : Wait → Bool) → ((w : Wait) → t w ≡ true → u w ≡ true) → (ws : List Wait) → count t ws ≤ count u ws
fewer t u all [] = omega arith
fewer t u all (w ∷ ws) = by (t w) (u w) (all w) (fewer t u all ws) where
  by : (a b : Bool) → (a ≡ true → b ≡ true) → count t ws ≤ count u ws → (if a then count t ws + 1 else count t ws) ≤ (if b then count u ws + 1 else count u ws)
  by a b f e = grind arith

share_waits : (c : ℕ) (ws : List Wait) → count (shares_read c) ws ≤ count (waits_at c) ws
share_waits c = fewer (shares_read c) (waits_at c) (λ w e. grind (arith, e))

claim_waits : (c : ℕ) (ws : List Wait) → count (shares_write c) ws ≤ count (waits_at c) ws
claim_waits c = fewer (shares_write c) (waits_at c) (λ w e. grind (arith, e))

drain_waits : (c : ℕ) (ws : List Wait) → count (drains_on c) ws ≤ count (waits_at c) ws
drain_waits c = fewer (drains_on c) (waits_at c) (λ w e. grind (arith, e))

-- ---- whether the cell is in use

-- as many as there are
used_by : (n : ℕ) → 0 < n → true ≡ not (n == 0)
used_by n lt = grind (arith, lt)

unused_by : (n : ℕ) → n ≡ 0 → false ≡ not (n == 0)
unused_by n e = grind (arith, e)

-- what bars a writer
barred_as : (h : Holders) → bars_write h ≡ true → h.readers ≡ 0 → h.locked ≡ true
barred_as h e none = grind (arith, e, none)

free_as : (h : Holders) → bars_write h ≡ false → (h.readers ≡ 0) × (h.locked ≡ false)
free_as h e = (grind (arith, e), grind (arith, e))

-- nothing is given where nobody is parked
gives_none : (c : ℕ) (h : Holders) (s : Parking) (g : Given) → NobodyParked s c → MayHand c h s g → g ≡ Given.Nobody
gives_none c h s g none may = grind arith

module _ {L : Type 0} (held : L → Holders) (place : L → LockerKind) (hand : ℕ) (m : Standing) (v : Rows L) (c : ℕ) (is : IsLending held place hand m v c) (row : CellRow L) (row_is : row ≡ get_or v.cells.items c row) where
  row_at : slice_get v.cells.items c ≡ Some row
  row_at = read_at v.cells.items c row is.inside row_is

  here : IsCell held place (seen_at c m) v.parks c row
  here = is.stands.cell c row row_at

  many : row.waiting ≡ count (waits_at c) m.waits
  many = is.stands.counted c row row_at

  -- what the code requires
  pub lend_kind : lends_value row.plan.kind ≡ true
  lend_kind = ap (λ (x : _). lends_value x.kind) here.planned ∙ is.lends

  -- what was read before
  pub none_waits : (first : CellRow L) → first ≡ get_or v.cells.items c first → (0 < first.waiting → ⊥) → row.waiting ≡ 0
  none_waits first first_is calm = grind (arith, read_at, row_at, no_more)

  -- somebody holds it
  pub held_on : row.waiting ≡ 0 → bars_write (held row.seq.locker) ≡ true → true ≡ in_use c m
  held_on none barred = used_by (reads_in c m + writes_in c m + count (waits_at c) m.waits) (by (cases_eq (held row.seq.locker).readers 0)) where
    by : ((held row.seq.locker).readers ≡ 0) ⊎ ((held row.seq.locker).readers ≢ 0) → 0 < reads_in c m + writes_in c m + count (waits_at c) m.waits
    by (inl e) =
        let waits = many in let writes = claim_waits c m.waits in let drains = drain_waits c m.waits in
        let shown = claims_shown c m.waits v.parks is.stands.waits.single is.stands.waits.shows in
        let some : 0 < writes_in c m = here.locked.write_was (record { locked = barred_as (held row.seq.locker) barred e; unclaimed = omega (arith, waits, none, writes, drains, shown) }) in
        omega (arith, some)
    by (inr ne) =
        let waits = many in let reads = share_waits c m.waits in let shown = shares_shown c m.waits v.parks is.stands.waits.single is.stands.waits.shows in
        let are = here.locked.reads_are in omega (arith, waits, none, reads, shown, are, ne)

  -- nobody holds it
  module _ (none : row.waiting ≡ 0) (free : bars_write (held row.seq.locker) ≡ false) where
    no_reads : reads_in c m ≡ 0
    no_reads = let r = (free_as (held row.seq.locker) free).0 in let are = here.locked.reads_are in omega (arith, r, are)

    no_writes : writes_in c m ≡ 0
    no_writes = elim (cases_lt 0 (writes_in c m)) [
      | inl lt ↦ absurd (let o = (here.locked.write_is lt).locked in let f = (free_as (held row.seq.locker) free).1 in let q : true ≡ false = sym o ∙ f in cc)
      | inr le ↦ omega (arith, le)
    ]

    pub unused : false ≡ in_use c m
    unused = let a = no_reads in let b = no_writes in let e = many in unused_by (reads_in c m + writes_in c m + count (waits_at c) m.waits) (omega (arith, a, b, e, none))

    pub unlocked : claims v.parks c ≡ 0
    unlocked = here.locked.fits.locked (free_as (held row.seq.locker) free).1

    parked : NobodyParked v.parks c
    parked = here.locked.fits.idle (free_as (held row.seq.locker) free).1 (free_as (held row.seq.locker) free).0

  -- ---- the rows then

  module _ (v' : Rows L) (row' : CellRow L) (cells : v'.cells.items ≡ set v.cells.items c row') (guards : v'.guards ≡ v.guards) (parties : v'.parties ≡ v.parties) (exit : v'.exit ≡ v.exit) (plan : row'.plan ≡ row.plan) (calm : row'.waiting ≡ row.waiting) (draft : row'.draft ≡ row.draft) (run : row'.run ≡ row.run) (running : row'.seq.running ≡ row.seq.running) (stays : place row'.seq.locker ≡ place row.seq.locker) (parks : v'.parks ≡ v.parks) where
    -- it holds something else, which no write guard shows
    held_now : (f : ℕ → Content) → ((d : ℕ) → d ≢ c → f d ≡ m.content d) → ((g : ℕ) (x : Guard) → numbered g m.guards ≡ Some x → x.writes ≡ true → f x.cell ≡ m.content x.cell) → row'.value ≡ (f c).value → IsKnown (phase_of (f c).phase)
        → IsLocked (place row'.seq.locker) (held row'.seq.locker) v'.parks c (reads_in c m) (writes_in c m) (f c).phase → row'.run ≡ open_run (cell_at m.plans c) c (f c).phase (run_in c m.sections) → Stands held place hand (record m { content = f }) v'
    held_now f beside drafts value known locked runs =
        moved held place c hand hand m (record m { content = f }) v v' row' is.stands is.inside cells
        (record { planned = plan ∙ here.planned; valued = value; known = known; locked = locked; placed = stays ∙ here.placed; runner = running ∙ here.runner; runs = runs })
        (calm ∙ many)
        (keeps_still c m row (record m { content = f }) row' (is.stands.draft c row row_at) draft refl (λ g x e w. e) drafts)
        (grind (arith, answered_moved, others_refl, exit_kept))
        (parties_same held place hand m (record m { content = f }) v v' is.stands parties (λ p. refl))

    -- it is held
    pub stays_held : row.waiting ≡ 0 → row'.value ≡ row.value → (bars_write (held row.seq.locker) ≡ true) × (held row'.seq.locker ≡ held row.seq.locker) → (l : Loan) → IsLent held place hand m c l Lent.InUse v'
    stays_held none value barred l =
        record {
          used = held_on none barred.0;
          due = λ e. absurd (cc);
          stands = held_now m.content (λ d ne. refl) (λ g x e w. refl) (value ∙ here.valued) here.known
              (subst (λ (s : Parking). IsLocked (place row'.seq.locker) (held row'.seq.locker) s c (reads_in c m) (writes_in c m) (m.content c).phase) (sym parks) (subst (λ (h : Holders). IsLocked (place row'.seq.locker) h v.parks c (reads_in c m) (writes_in c m) (m.content c).phase) (sym barred.1) (subst (λ k. IsLocked k (held row.seq.locker) v.parks c (reads_in c m) (writes_in c m) (m.content c).phase) (sym stays) here.locked)))
              (run ∙ here.runs);
        }

  -- ---- the lock is got, and given back with what is left

  module _ (none : row.waiting ≡ 0) (l₁ : L) (s₁ : Parking) (tried : (bars_write (held row.seq.locker) ≡ false) × (held l₁ ≡ admit_write (held row.seq.locker))) (keeps : KeepsFit (place row.seq.locker) (held row.seq.locker) (held l₁)) (stays : place l₁ ≡ place row.seq.locker) (parks₁ : s₁ ≡ v.parks) where
    pub got_fits : Fits (place l₁) (held l₁) s₁ c
    got_fits = subst (λ (s : Parking). Fits (place l₁) (held l₁) s c) (sym parks₁) (subst (λ k. Fits k (held l₁) v.parks c) (sym stays) (keeps v.parks c here.locked.fits))

    pub got_open : IsWriteOpen (held l₁) s₁ c
    got_open = record { locked = ap (λ (h : Holders). h.locked) tried.1; unclaimed = ap (λ (s : Parking). claims s c) parks₁ ∙ unlocked none tried.0 }

    -- what was published
    was_is : (was : Published) → was.phase ≡ (held l₁).phase → was.value ≡ row.value → content_of was ≡ m.content c
    was_is was e f = grind (arith, here)

    module _ (v' : Rows L) (row' : CellRow L) (cells : v'.cells.items ≡ set v.cells.items c row') (guards : v'.guards ≡ v.guards) (parties : v'.parties ≡ v.parties) (exit : v'.exit ≡ v.exit) (plan : row'.plan ≡ row.plan) (calm : row'.waiting ≡ row.waiting) (draft : row'.draft ≡ row.draft) (run : row'.run ≡ row.run) (running : row'.seq.running ≡ row.seq.running)
        (p : Published) (value : row'.value ≡ p.value) (known : IsKnown p.phase) (g : Given) (hands : Hands c (leave_write p.phase (held l₁)) s₁ g (held row'.seq.locker) v'.parks) (reads : open_reads (held row'.seq.locker) v'.parks c ≡ 0) (closed : IsWriteOpen (held row'.seq.locker) v'.parks c → ⊥) (k : Left held place c l₁ row'.seq.locker s₁ v'.parks) where
      nobody : g ≡ Given.Nobody
      nobody = gives_none c (leave_write p.phase (held l₁)) s₁ g (subst (λ (s : Parking). NobodyParked s c) (sym parks₁) (parked none tried.0)) hands.may

      parks : v'.parks ≡ v.parks
      parks = hands.rows ∙ ap (λ x. rows_handed c x s₁) nobody ∙ parks₁

      -- it holds that
      left_now : (f : ℕ → Content) → ((d : ℕ) → d ≢ c → f d ≡ m.content d) → f c ≡ content_of p → Stands held place hand (record m { content = f }) v'
      left_now f beside at =
          held_now v' row' cells guards parties exit plan calm draft run running (k.place ∙ stays) parks f beside drafts (value ∙ ap (λ (y : Content). y.value) (sym at)) (subst (λ (y : Content). IsKnown (phase_of y.phase)) (sym at) known)
          locked runs where
            drafts : (j : ℕ) (x : Guard) → numbered j m.guards ≡ Some x → x.writes ≡ true → f x.cell ≡ m.content x.cell
            drafts j x e w = beside x.cell (λ q. (let zero = no_writes none tried.0 in absurd (none_writes c j m.guards x (omega (arith, zero)) e w q)))

            locked : IsLocked (place row'.seq.locker) (held row'.seq.locker) v'.parks c (reads_in c m) (writes_in c m) (f c).phase
            locked =
                let r = no_reads none tried.0 in let w = no_writes none tried.0 in
                let few : (held l₁).readers ≤ _ = subst (λ n. n ≤ most_readers) (sym (ap (λ (h : Holders). h.readers) tried.1)) here.locked.limit in
                subst (λ n. IsLocked (place row'.seq.locker) (held row'.seq.locker) v'.parks c n (writes_in c m) (f c).phase) (sym r)
                (subst (λ n. IsLocked (place row'.seq.locker) (held row'.seq.locker) v'.parks c 0 n (f c).phase) (sym w)
                (locked_write (place l₁) (place row'.seq.locker) (held l₁) (held row'.seq.locker) s₁ v'.parks c (f c).phase p.phase g hands reads closed k.fits (ap (λ (y : Content). phase_of y.phase) (sym at)) few
                (subst (λ (s : Parking). length (readers_of s c) ≤ most_readers) (sym parks₁) (parked_few held place hand m v is.stands c is.inside))))

            runs : row'.run ≡ open_run (cell_at m.plans c) c (f c).phase (run_in c m.sections)
            runs =
                let no_run = none_runs c m.sections (let zero = no_writes none tried.0 in omega (arith, zero)) in
                run ∙ here.runs ∙ ap (open_run (cell_at m.plans c) c (m.content c).phase) no_run ∙ sym (ap (open_run (cell_at m.plans c) c (f c).phase) no_run)

      changed_now : (chs : List Change) → content_of p ≡ effect (cell_at m.plans c) chs (m.content c) → Stands held place hand (changed c chs m) v'
      changed_now chs e = left_now (changed c chs m).content beside (there ∙ sym e) where
        there : (changed c chs m).content c ≡ effect (cell_at m.plans c) chs (m.content c)
        there = let q = itself_eq c in rw q refl

        beside : (d : ℕ) → d ≢ c → (changed c chs m).content d ≡ m.content d
        beside d ne = let q : (c == d) ≡ false = grind (arith, ne) in rw q refl

      -- the answer is due, and the rows stand for what is left
      pub lends : (was : Published) → was.phase ≡ (held l₁).phase → was.value ≡ row.value → (l : Loan) (r : Lent) → Finds row.plan l was (r, p) → IsLent held place hand m c l r v'
      lends was phase_is value_is l r finds = record { used = found.free ∙ unused none tried.0; due = λ e. found.due; stands = by r found } where
        found : IsFound (cell_at m.plans c) l m.registry.is_open (m.content c) r (content_of p)
        found = subst (λ (y : Content). IsFound (cell_at m.plans c) l m.registry.is_open y r (content_of p)) (was_is was phase_is value_is) (subst (λ (x : CellPlan). IsFound x l m.registry.is_open (content_of was) r (content_of p)) here.planned (finds m.registry.is_open))

        by : (z : Lent) → IsFound (cell_at m.plans c) l m.registry.is_open (m.content c) z (content_of p) → Stands held place hand (lent_in c l z m) v'
        by Lent.InUse z = absurd (let e = z.free in cc)
        by (Lent.Denied q) z = left_now m.content (λ d ne. refl) (sym z.content)
        by Lent.Failed z = changed_now (changes_lent l m.registry.is_open Lent.Failed) z.content
        by (Lent.Found u) z = changed_now (changes_lent l m.registry.is_open (Lent.Found u)) z.content
