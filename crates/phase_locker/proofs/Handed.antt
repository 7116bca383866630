-- The parked readers of a cell are given read shares.
use Rattle.std.proofs.Common.{zero, suc, inl, inr, ◌≡◌, ℕ, ◌<◌, List, [], ◌∷◌, refl, arith, sym}
use Rattle.std.proofs.lemmas.List.{get_or-set_same}
use Rattle.std.proofs.Math.ListN.{get_or, set}
use Rattle.std.proofs.lemmas.Bool.{cases_eq}
use Rattle.std.specs.Prelude.{replicate}
use Rattle.phase_locker.specs.declared.ways.Row.{Row}
use Rattle.phase_locker.specs.declared.ways.Waiting.TheVariants as way
use Rattle.phase_locker.specs.Rows.{shared, occurs, free_row}
use Rattle.phase_locker.proofs.Filters.{ne_zero}
use Rattle.phase_locker.proofs.Counts.{AllRead, AllRead-head, AllRead-tail}
use Rattle.phase_locker.proofs.Shares.{row-shared_other}

-- a reader's row after the shares
pub row-shared_same : (c : ℕ) (ps : List ℕ) (rows : List Row) (q : ℕ) → AllRead c ps rows → 0 < occurs q ps → get_or (shared c ps rows) q free_row ≡ record { waiting = way.ShareRead; cell = c }
unfolding shared
row-shared_same c [] rows q all h = absurd (omega (arith, h))
row-shared_same c (p ∷ ps) rows q all h =
    let head = AllRead-head c p ps rows all in
    let tail = AllRead-tail c p ps rows (record { waiting = way.ShareRead; cell = c }) all in
    elim (cases_eq q p) [
      | inl s ↦ rw (s, row-shared_other c ps (set rows p (record { waiting = way.ShareRead; cell = c })) p head.1) (get_or-set_same rows p _ free_row head.2)
      | inr m ↦ row-shared_same c ps (set rows p (record { waiting = way.ShareRead; cell = c })) q tail (omega (arith, h, ne_zero p q (λ t. m (sym t))))
    ]

pub at_free : (n p : ℕ) → get_or (replicate n free_row) p free_row ≡ free_row
at_free zero p = refl
at_free (suc n) zero = refl
at_free (suc n) (suc p) = at_free n p
