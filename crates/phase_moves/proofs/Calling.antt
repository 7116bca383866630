-- A call at one cell, which changes who waits alone.
use Rattle.phase_moves.proofs.Words.{◌≡◌, ◌≢◌, ◌==◌, ◌<◌, ◌+◌, ◌∙◌, ℕ, List, length, set, get_or, ap, sym, subst, refl, arith, true, Some, IsNone, OnSome, ◌↔◌, Option}
use Rattle.phase_moves.proofs.Words.{Holders, Registry, admit_read, most_readers, LockerKind, ReadTicket, Parking, SameSize, claims, Fits, KeepsFit, open_reads, OthersStay}
use Rattle.phase_moves.proofs.Words.{Content, Guard, numbered, reader, reads_cell, count, Wait, waits_at, found_counts, shares_shown, CellRow, Rows, Standing, cloned}
use Rattle.phase_moves.proofs.Words.{reads_in, writes_in, CountsWaits, KeepsDraft, seen_at, IsCell, IsExit, IsLocked, AreShown, Stands, IsOpenReader, IsFull, ClonesAs}
use Rattle.phase_moves.proofs.{Drafts.beside_reader, Drafts.keeps_still, Guards.found_itself, Guards.reads_here, Lockers.reading_alone, Opening.guard_opened}
use Rattle.phase_moves.proofs.{Opening.seen_reader, Moved.IsMoved, Moved.parties_same, Moved.moved, Places.read_at}

module _ {L : Type 0} (held : L → Holders) (place : L → LockerKind) where
  -- other calls wait, the registry is this, and the cell holds something else
  pub answered_moved : (c hand : ℕ) (m : Standing) (v v' : Rows L) (ws : List Wait) (f : ℕ → Content) (r : Registry) → Stands held place hand m v → OthersStay c v.parks v'.parks → SameSize v.parks v'.parks → length v'.parks.writers ≡ length v.parks.writers → v'.guards ≡ v.guards
      → IsExit (length v.cells.items) (record m { registry = r }) v'.exit → AreShown (length v.cells.items) ws v'.parks → ((d : ℕ) → d ≢ c → f d ≡ m.content d)
      → ((d : ℕ) → d ≢ c → count (waits_at d) ws ≡ count (waits_at d) m.waits) → IsMoved held place c hand hand m (record m { waits = ws; content = f; registry = r }) v v'
  answered_moved c hand m v v' ws f r t others same lists guards exit shown beside counts = grind arith

  -- nothing is touched beside the row of a cell
  pub nothing_moved : (c hand : ℕ) (m : Standing) (v v' : Rows L) → Stands held place hand m v → v'.guards ≡ v.guards → v'.exit ≡ v.exit → v'.parks ≡ v.parks → IsMoved held place c hand hand m m v v'
  nothing_moved c hand m v v' t guards exit parks = grind arith

  -- ---- a clone

  module _ (m : Standing) (v v' : Rows L) (g c : ℕ) (x : Guard) (is : IsOpenReader held place m v g x) (at : x.cell ≡ c) (row row' : CellRow L) (row_is : row ≡ get_or v.cells.items c row) where
    clone_in : c < length v.cells.items
    clone_in = subst (λ d. d < length v.cells.items) at (is.rests.stands.guards.in_cells g x is.found)

    clone_row : IsCell held place (seen_at c m) v.parks c row
    clone_row = is.rests.stands.cell c row (read_at v.cells.items c row clone_in row_is)

    clone_calm : row'.waiting ≡ row.waiting → CountsWaits c m.waits row'
    clone_calm many = many ∙ is.rests.stands.counted c row (read_at v.cells.items c row clone_in row_is)

    -- and the row keeps what it kept
    clone_draft : (m' : Standing) → m'.plans ≡ m.plans → m'.content ≡ m.content → ((g : ℕ) (x : Guard) → numbered g m'.guards ≡ Some x → x.writes ≡ true → numbered g m.guards ≡ Some x) → row'.draft ≡ row.draft → KeepsDraft c m' row'
    clone_draft m' plans content there draft = keeps_still c m row m' row' (is.rests.stands.draft c row (read_at v.cells.items c row clone_in row_is)) draft plans there (λ g x e w. ap (λ f. f x.cell) content)

    clone_some : 0 < reads_in c m
    clone_some = subst (λ d. 0 < reads_in d m) at (found_counts (λ (z : Guard). z.number == x.number) (reads_cell x.cell) m.guards x (found_itself g m.guards x is.found) (reads_here x is.reads))

    -- it has readers
    pub clone_readers : 0 < (held row.seq.locker).readers
    clone_readers = let some = clone_some in let are = clone_row.locked.reads_are in omega (arith, some, are)

    -- its readers are at their limit
    pub clone_full : (held row.seq.locker).readers ≡ most_readers → IsFull x.cell m
    clone_full e =
        subst (λ d. IsFull d m) (sym at)
        (grind (arith, clone_row, shares_shown))

    -- one more reads
    pub clone_more : v'.cells.items ≡ set v.cells.items c row' → v'.guards ≡ v.guards → v'.parties ≡ v.parties → v'.parks ≡ v.parks → v'.exit ≡ v.exit → row'.plan ≡ row.plan → row'.waiting ≡ row.waiting → row'.value ≡ row.value → row'.draft ≡ row.draft → row'.run ≡ row.run → row'.seq.running ≡ row.seq.running → place row'.seq.locker ≡ place row.seq.locker
        → held row'.seq.locker ≡ admit_read (held row.seq.locker) → (held row.seq.locker).readers ≢ most_readers → KeepsFit (place row.seq.locker) (held row.seq.locker) (held row'.seq.locker) → Stands held place (length v.guards.items) (cloned (length v.guards.items) x m) v'
    clone_more cells guards parties parks exit plan many value draft run running stays more fewer keeps =
        moved held place c n n m (cloned n x m) v v' row' is.rests.stands clone_in cells here (clone_calm many)
        (clone_draft (cloned n x m) refl refl (λ j y e w. beside_reader n x.party x.cell j m.guards y e w) draft)
        (guard_opened held place c n n n m m v v' (reader n x.party x.cell)
        (nothing_moved c n m v v' is.rests.stands guards exit parks)
        refl at (omega arith) is.rests.empty is.rests.empty clone_in)
        (parties_same held place n m (cloned n x m) v v' is.rests.stands parties (λ p. refl)) where
          n : ℕ
          n = length v.guards.items

          now : IsLocked (place row'.seq.locker) (held row'.seq.locker) v'.parks c (reads_in c m + 1) (writes_in c m) (m.content c).phase
          now =
              let l = clone_row.locked in let some = clone_some in let none = reading_alone (place row.seq.locker) (held row.seq.locker) v.parks c _ _ _ l some in
              let readers : (held row'.seq.locker).readers ≡ (held row.seq.locker).readers + 1 = ap (λ (h : Holders). h.readers) more in
              let same : open_reads (held row'.seq.locker) v'.parks c ≡ open_reads (held row'.seq.locker) v.parks c = ap (λ (s : Parking). open_reads (held row'.seq.locker) s c) parks in
              record {
                fits = subst (λ (s : Parking). Fits (place row'.seq.locker) (held row'.seq.locker) s c) (sym parks) (subst (λ k. Fits k (held row'.seq.locker) v.parks c) (sym stays) (keeps v.parks c l.fits));
                phase_is = ap (λ (h : Holders). h.phase) more ∙ l.phase_is;
                reads_are = same ∙ (let are = l.reads_are in let most = l.fits.shared in omega (arith, are, most, readers));
                write_is = λ lt. absurd (omega (arith, none, lt));
                write_was = λ o. l.write_was (record { locked = sym (ap (λ (h : Holders). h.locked) more) ∙ o.locked; unclaimed = ap (λ (s : Parking). claims s c) (sym parks) ∙ o.unclaimed });
                one = l.one;
                limit = let le = l.limit in omega (arith, readers, le, fewer);
              }

          here : IsCell held place (seen_at c (cloned n x m)) v'.parks c row'
          here =
              let k0 = clone_row in
              subst (λ d. IsCell held place (seen_at c (cloned n (record x { cell = d }) m)) v'.parks c row') (sym at)
              (grind (arith, seen_reader, n, now))

    -- as many do
    clone_none : v'.cells.items ≡ set v.cells.items c row' → v'.guards ≡ v.guards → v'.parties ≡ v.parties → v'.parks ≡ v.parks → v'.exit ≡ v.exit → row'.plan ≡ row.plan → row'.waiting ≡ row.waiting → row'.value ≡ row.value → row'.draft ≡ row.draft → row'.run ≡ row.run → row'.seq.running ≡ row.seq.running → place row'.seq.locker ≡ place row.seq.locker
        → held row'.seq.locker ≡ held row.seq.locker → Stands held place (length v.guards.items) m v'
    clone_none cells guards parties parks exit plan many value draft run running stays more =
        moved held place c (length v.guards.items) (length v.guards.items) m m v v' row' is.rests.stands clone_in cells here (clone_calm many)
        (clone_draft m refl refl (λ j y e w. e) draft)
        (nothing_moved c (length v.guards.items) m v v' is.rests.stands guards exit parks)
        (parties_same held place (length v.guards.items) m m v v' is.rests.stands parties (λ p. refl)) where
          here : IsCell held place (seen_at c m) v'.parks c row'
          here =
              let k0 = clone_row in
              record {
                planned = plan ∙ k0.planned;
                valued = value ∙ k0.valued;
                known = k0.known;
                locked = subst (λ (s : Parking). IsLocked (place row'.seq.locker) (held row'.seq.locker) s c (reads_in c m) (writes_in c m) (m.content c).phase) (sym parks) (subst (λ (h : Holders). IsLocked (place row'.seq.locker) h v.parks c (reads_in c m) (writes_in c m) (m.content c).phase) (sym more) (subst (λ k. IsLocked k (held row.seq.locker) v.parks c (reads_in c m) (writes_in c m) (m.content c).phase) (sym stays) k0.locked));
                placed = stays ∙ k0.placed;
                runner = running ∙ k0.runner;
                runs = run ∙ k0.runs;
              }

    -- what the locker answers
    pub clones : (o : Option ReadTicket) → v'.cells.items ≡ set v.cells.items c row' → v'.guards ≡ v.guards → v'.parties ≡ v.parties → v'.parks ≡ v.parks → v'.exit ≡ v.exit → row'.plan ≡ row.plan → row'.waiting ≡ row.waiting → row'.value ≡ row.value → row'.draft ≡ row.draft → row'.run ≡ row.run → row'.seq.running ≡ row.seq.running → place row'.seq.locker ≡ place row.seq.locker
        → (IsNone o ↔ ((held row.seq.locker).readers ≡ most_readers)) → OnSome o (held row'.seq.locker ≡ admit_read (held row.seq.locker)) → (IsNone o → held row'.seq.locker ≡ held row.seq.locker) → KeepsFit (place row.seq.locker) (held row.seq.locker) (held row'.seq.locker) → ClonesAs held place v m x o v'
    clones o cells guards parties parks exit plan many value draft run running stays most some none keeps = grind (arith, clone_none, clone_full, clone_more)
