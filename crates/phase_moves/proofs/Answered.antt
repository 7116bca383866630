-- What a call does to the record of its cell and to the rows, once it is settled whether its cell is registered.
use Rattle.phase_moves.proofs.Words.{◌≡◌, ◌<◌, ◌∙◌, ℕ, length, ap, sym, subst, refl, Bool, true, false, None, Some, inl, inr, ◌⊎◌, MatchBool, ◌&&◌, Option, Holders}
use Rattle.phase_moves.proofs.Words.{leave_write, Given, Who, LockerKind, Parking, row_of, free_row, Fits, Hands, Downgrades, rows_handed, Ask, Sought as Want, Begun}
use Rattle.phase_moves.proofs.Words.{SeqSection, Finished, is_run, GoesOn, Generates, HasSectionAtOnce, Settles, Stays, begun_at_once, is_refused, unregistered, refused}
use Rattle.phase_moves.proofs.Words.{staying, Registry, section_by, IsListed, listed_hand, listed_share, CallOf as Calls}
use Rattle.phase_moves.proofs.Attempts.{declines, stays_asked, is_away, IsBegun, IsTurned, IsEntered, calm, entered}
use Rattle.phase_moves.proofs.Lockers.{hands_phase, downgrades_phase}

-- ---- whether the cell is registered

module _ (k : LockerKind) (who : Who) (ask : Ask) (h : Holders) (s : Parking) where
  -- an answer that begins no run is as it was entered
  plain : (o : Option Registry) (b : Begun) (g : Given) (h' : Holders) (s' : Parking) → is_run b ≡ false → IsEntered who ask h s b g h' s' → IsBegun who ask o h s b g h' s'
  plain o (Begun.Wait way) g h' s' e d = record { phase = d.phase; listed = d.listed; rows = d.rows; alone = λ z. absurd (cc); told = tt }
  plain o Begun.Missed g h' s' e d = absurd d.told
  plain o Begun.Cyclic g h' s' e d = absurd d.told
  plain o (Begun.Write t q) g h' s' e d =
      let z = calm ask o h.phase d.told.1 in record { phase = d.phase; listed = d.listed; rows = d.rows; alone = λ f. d.alone refl; told = rw z d.told.0 }
  plain o (Begun.Run x) g h' s' e d = absurd (cc)
  plain o (Begun.Final x) g h' s' e d = record { phase = d.phase; listed = d.listed; rows = d.rows; alone = λ f. d.alone refl; told = d.told }
  plain o _ g h' s' e d =
      let z = calm ask o h.phase d.told.1 in record { phase = rw z d.phase; listed = d.listed; rows = d.rows; alone = rw z (λ f. absurd (cc)); told = rw z d.told.0 }

  -- a run that was entered: the generator runs, beside these flags
  runs : (o : Option Registry) (x : SeqSection) (g : Given) (h' : Holders) (s' : Parking) → IsEntered who ask h s (Begun.Run x) g h' s' → IsBegun who ask o h s (Begun.Run (section_by x.who x.want (stays_asked o h.phase) x.ticket)) g h' s'
  runs o x g h' s' d =
      record {
        phase = d.phase;
        listed = d.listed;
        rows = d.rows;
        alone = λ f. d.alone refl;
        told = ((λ i. section_by (d.told.0 i).who (d.told.0 i).want (stays_asked o h.phase) (d.told.0 i).ticket), d.told.1);
      }

  -- or it has a section at once
  at_once : (m : Registry) (x : SeqSection) (h1 : Holders) (s1 : Parking) (r : Begun × Given) (h' : Holders) (s' : Parking) → IsEntered who ask h s (Begun.Run x) Given.Nobody h1 s1 → is_refused ask.tol.leak (Some m) h.phase ≡ true → HasSectionAtOnce x h1 s1 r h' s' → IsBegun who ask (Some m) h s r.0 r.1 h' s'
  at_once m x h1 s1 r h' s' d refuses so = subst (λ b. IsBegun who ask (Some m) h s b r.1 h' s') (sym so.answer) (by x.want so.finished so.goes_on) where
    declined : declines ask (Some m) h.phase ≡ true
    declined = ap (λ b. b && is_refused ask.tol.leak (Some m) h.phase) d.told.1 ∙ refuses

    at : x.who.cell ≡ who.cell
    at = ap (λ (y : SeqSection). y.who.cell) d.told.0

    by : (w : Want) (f : Finished) → GoesOn w x.who.cell refused h1 s1 (f, r.1) h' s' → IsBegun who ask (Some m) h s (begun_at_once f) r.1 h' s'
    by Want.Init f k =
        let hands = subst (λ c. Hands c (leave_write refused h1) s1 r.1 h' s') at k.hands in
        subst (λ y. IsBegun who ask (Some m) h s (begun_at_once y) r.1 h' s') (sym k.finished)
        (record {
          phase = rw declined (hands_phase who.cell (leave_write refused h1) s1 r.1 h' s' hands);
          listed = subst (λ y. IsListed who.cell y r.1) d.rows (listed_hand who.cell (leave_write refused h1) s1 r.1 hands.may);
          rows = hands.rows ∙ ap (λ y. rows_handed who.cell r.1 y) d.rows;
          alone = λ f. d.alone refl;
          told = rw declined refl;
        })
    by Want.Read f k =
        let down = subst (λ c. Downgrades c refused h1 s1 r.1 h' s') at k.downgrades in
        subst (λ y. IsBegun who ask (Some m) h s (begun_at_once y) r.1 h' s') (sym k.finished)
        (record {
          phase = rw declined (downgrades_phase who.cell refused h1 s1 r.1 h' s' down);
          listed = subst (λ y. IsListed who.cell y r.1) d.rows (listed_share who.cell s1 r.1 down.may);
          rows = down.rows ∙ ap (λ y. rows_handed who.cell r.1 y) d.rows;
          alone = λ f. d.alone refl;
          told = rw declined refl;
        })
    by Want.Write f k =
        subst (λ (y : Finished × Given). IsBegun who ask (Some m) h s (begun_at_once y.0) y.1 h' s') (sym k.finished)
        (record { phase = ap (λ (y : Holders). y.phase) k.held ∙ d.phase; listed = tt; rows = k.rows ∙ d.rows; alone = λ f. d.alone refl; told = rw declined refl })
    by _ f k = absurd k

  -- what was entered, settled
  stays : (o : Option Registry) (b : Begun) (g : Given) (h1 : Holders) (s1 : Parking) (r : Begun × Given) (h' : Holders) (s' : Parking) → is_run b ≡ false → IsEntered who ask h s b g h1 s1 → Stays (b, g) h1 s1 r h' s' → IsBegun who ask o h s r.0 r.1 h' s'
  stays o b g h1 s1 r h' s' e d st =
      subst (λ (q : Begun × Given). IsBegun who ask o h s q.0 q.1 h' s') (sym st.same) (subst (λ z. IsBegun who ask o h s b g z s') (sym st.held) (subst (λ z. IsBegun who ask o h s b g h1 z) (sym st.rows) (plain o b g h1 s1 e d)))

  settled : (m : Registry) (b : Begun) (g : Given) (h1 : Holders) (s1 : Parking) (r : Begun × Given) (h' : Holders) (s' : Parking) → IsEntered who ask h s b g h1 s1 → Settles ask.tol.leak m h.phase (b, g) h1 s1 r h' s' → IsBegun who ask (Some m) h s r.0 r.1 h' s'
  settled m (Begun.Run x) g h1 s1 r h' s' d st = by (is_refused ask.tol.leak (Some m) h.phase) refl st.1 where
    quiet : IsEntered who ask h s (Begun.Run x) Given.Nobody h1 s1
    quiet = subst (λ y. IsEntered who ask h s (Begun.Run x) y h1 s1) st.0 d

    by : (b : Bool) → is_refused ask.tol.leak (Some m) h.phase ≡ b → MatchBool b (HasSectionAtOnce x h1 s1 r h' s') (Generates x (staying m.is_open h.phase) h1 s1 r h' s') → IsBegun who ask (Some m) h s r.0 r.1 h' s'
    by true e k = at_once m x h1 s1 r h' s' quiet e k
    by false e k =
        subst (λ (q : Begun × Given). IsBegun who ask (Some m) h s q.0 q.1 h' s') (sym k.answer) (subst (λ z. IsBegun who ask (Some m) h s (Begun.Run (section_by x.who x.want (staying m.is_open h.phase) x.ticket)) Given.Nobody z s') (sym k.held) (subst (λ z. IsBegun who ask (Some m) h s (Begun.Run (section_by x.who x.want (staying m.is_open h.phase) x.ticket)) Given.Nobody h1 z) (sym k.rows) (runs (Some m) x Given.Nobody h1 s1 quiet)))
  settled m Begun.Missed g h1 s1 r h' s' d st = absurd d.told
  settled m Begun.Cyclic g h1 s1 r h' s' d st = absurd d.told
  settled m b g h1 s1 r h' s' d st = stays (Some m) b g h1 s1 r h' s' refl d st

  -- on a cell without a registry
  unsettled : (b : Begun) (g : Given) (h' : Holders) (s' : Parking) → IsEntered who ask h s b g h' s' → IsBegun who ask None h s b g h' s'
  unsettled (Begun.Run x) g h' s' d = subst (λ y. IsBegun who ask None h s (Begun.Run y) g h' s') ((λ i. section_by (d.told.0 i).who (d.told.0 i).want unregistered (d.told.0 i).ticket) ∙ sym d.told.0) (runs None x g h' s' d)
  unsettled Begun.Missed g h' s' d = absurd d.told
  unsettled Begun.Cyclic g h' s' d = absurd d.told
  unsettled b g h' s' d = plain None b g h' s' refl d

  -- what is turned away stays so
  still : (m : Registry) (b : Begun) (g : Given) (h1 : Holders) (s1 : Parking) (r : Begun × Given) (h' : Holders) (s' : Parking) → is_away b ≡ true → Settles ask.tol.leak m h.phase (b, g) h1 s1 r h' s' → Stays (b, g) h1 s1 r h' s'
  still m Begun.Missed g h1 s1 r h' s' e st = st
  still m Begun.Cyclic g h1 s1 r h' s' e st = st
  still m _ g h1 s1 r h' s' e st = absurd (cc)

  -- a call of a party that waits at the cell, or does not wait
  module _ (running : Option ℕ) (r : Begun × Given) (h' : Holders) (s' : Parking) where
    pub answered : (o : Option Registry) (waits : Bool) → MatchBool waits ((row_of s who.party).cell ≡ who.cell) (row_of s who.party ≡ free_row) → who.party < length s.rows → Fits k h s who.cell → Calls waits o k who ask running h s r h' s' → IsTurned h s r.0 r.1 h' s' ⊎ IsBegun who ask o h s r.0 r.1 h' s'
    answered None waits row inside fits d = elim (entered k who ask running h s r h' s' waits row inside fits d) [ inl t ↦ inl t | inr e ↦ inr (unsettled r.0 r.1 h' s' e) ]
    answered (Some m) waits row inside fits d =
        elim (entered k who ask running h s d.entered d.held d.rows waits row inside fits d.enters) [
          | inl t ↦ inl (back d t)
          | inr e ↦ inr (settled m d.entered.0 d.entered.1 d.held d.rows r h' s' e d.settles)
        ] where
          back : (d : Calls waits (Some m) k who ask running h s r h' s') → IsTurned h s d.entered.0 d.entered.1 d.held d.rows → IsTurned h s r.0 r.1 h' s'
          back d t =
              let st = still m d.entered.0 d.entered.1 d.held d.rows r h' s' t.away d.settles in
              record { away = ap (λ (q : Begun × Given). is_away q.0) st.same ∙ t.away; given = ap (λ (q : Begun × Given). q.1) st.same ∙ t.given; held = st.held ∙ t.held; rows = st.rows ∙ t.rows }
