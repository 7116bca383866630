-- A new locker fits rows of which nobody waits.
use Rattle.std.proofs.Common.{zero, suc, ◌≡◌, ℕ, Bool, false, List, [], refl, arith, ◌∙◌, cond}
use Rattle.std.proofs.lemmas.List.Folds.{sum_by-replicate}
use Rattle.std.specs.Prelude.{slice_index_or, count_by, replicate}
use Rattle.phase_bits.specs.declared.phase.Phase.{Phase}
use Rattle.phase_bits.specs.Records.{unheld}
use Rattle.phase_locker.specs.declared.ways.Row.{Row}
use Rattle.phase_locker.specs.declared.ways.LockerKind.{LockerKind}
use Rattle.phase_locker.specs.Rows.{free_row, no_rows, shares_at, claims_at}
use Rattle.phase_locker.specs.Fits.{Fits}

abbrev no_parties : List ℕ
no_parties = []

no_list : (n c : ℕ) → slice_index_or (replicate n no_parties) c no_parties ≡ no_parties
no_list zero c = refl
no_list (suc n) zero = refl
no_list (suc n) (suc c) = no_list n c

none_so : (f : Row → Bool) (n : ℕ) → f free_row ≡ false → count_by f (replicate n free_row) ≡ 0
none_so f n e = sum_by-replicate (λ (r : Row). cond {A = ℕ} (f r) 1 0) n free_row ∙ rw e (omega arith)

pub new_fits : (k : LockerKind) (p : Phase) (cells parties c : ℕ) → Fits k (unheld p) (no_rows cells parties) c
new_fits k p cells parties c =
    let none = no_list cells c in
    let shares : count_by (shares_at c) (replicate parties free_row) ≡ 0 = none_so (shares_at c) parties refl in
    let claims : count_by (claims_at c) (replicate parties free_row) ≡ 0 = none_so (claims_at c) parties refl in
    record {
      read_flag = rw none refl;
      write_flag = rw none refl;
      shared = omega (arith, shares);
      one = omega (arith, claims);
      locked = λ e. claims;
      drained = λ e f. absurd (cc);
      idle = λ e f. (rw none refl, rw none refl);
      still = λ e. ((rw none refl, rw none refl), shares, claims);
    }
